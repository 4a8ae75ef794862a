-- What std writes of a number that is put to the right, and the lists that boards and their numbers make.
-- Assumes nothing.
use Rattle.std.proofs.Common.{◌≡◌, append_assoc, codes, ℕ, List, [], ◌∷◌, ◌++◌, ◌-◌, ◌^◌, refl, ap, ◌∙◌, arith, map}
use Rattle.std.specs.Prelude.{decimal}
use Rattle.std.specs.List.{zip}
use Rattle.std.specs.Fmt.{format_spec, styled_decimal}
use Rattle.std.proofs.Padding.{padded_integral_right, styled_decimal_is}
use Rattle.table.specs.declared.Station.{Station}
use Rattle.slots.specs.declared.untested.Untested.{Untested}
use Rattle.slots.specs.Slots.{tested, untested, ahead}
use Rattle.sheet.specs.Printed.{dead_text}
use Rattle.sheet.specs.Layout.{right, tests_of, untested_of, tests_head, tests_line, untested_line}
use Rattle.sheet.specs.Layout.{live_lines, list_width, known_text, sheet_text}

pub right_written : (columns x : ℕ) → styled_decimal (format_spec 32 3 0 columns (2 ^ 64 - 1)) x ≡ right columns x
right_written columns x =
    let s = format_spec 32 3 0 columns (2 ^ 64 - 1) in
    styled_decimal_is s x
    ∙ padded_integral_right s (decimal x) refl refl (λ h. omega (arith, h)) (λ h. omega (arith, h)) (omega arith)

stations_back : (l : List Station) → map (λ x. record { 0 = x }) (map (λ x. x.0) l) ≡ l
stations_back [] = refl
stations_back (x ∷ l) = ap (λ (rest : List Station). x ∷ rest) (stations_back l)

untested_back : (l : List Untested)
    → map (λ p. record { board = record { 0 = p.0 }; ahead = record { 0 = p.1 } }) (zip (map (λ u. u.board.0) l) (map (λ u. u.ahead.0) l)) ≡ l
untested_back [] = refl
untested_back (u ∷ l) = ap (λ (rest : List Untested). u ∷ rest) (untested_back l)

pub tests_listed : (n : ℕ) (row : List ℕ) (i : ℕ) (l : List Station) → map (λ x. x.0) l ≡ tested n row i → tests_of n row i ≡ l
tests_listed n row i l e = rw (← e) (stations_back l)

pub untested_listed : (n : ℕ) (row : List ℕ) (i : ℕ) (l : List Untested)
    → map (λ u. u.board.0) l ≡ untested n row i → map (λ u. u.ahead.0) l ≡ ahead n row i → untested_of n row i ≡ l
untested_listed n row i l e h = rw (← e, ← h) (untested_back l)

parts : (a b c d e g h t s u : List ℕ)
    → (a ++ (b ++ (c ++ (d ++ (e ++ g))))) ++ (h ++ (t ++ (s ++ u))) ≡ a ++ b ++ c ++ d ++ e ++ g ++ h ++ t ++ s ++ u
parts a b c d e g h t s u = simp append_assoc

pub sheet_parts : (n : ℕ) (row : List ℕ) (columns : ℕ) → columns ≡ list_width n row
    → (decimal n ++ (codes " boards, dead:" ++ (dead_text row ++ (codes "\n" ++ (known_text n row ++ codes "\n"))))) ++ (tests_head columns
    ++ (live_lines (tests_line n row columns) row n ++ (codes "\nboard  whom it does not test (who stands ahead)\n"
    ++ live_lines (untested_line n row) row n))) ≡ sheet_text n row
sheet_parts n row columns e =
    let w = list_width n row in
    rw e (parts (decimal n) (codes " boards, dead:") (dead_text row) (codes "\n") (known_text n row) (codes "\n") (tests_head w)
    (live_lines (tests_line n row w) row n)
    (codes "\nboard  whom it does not test (who stands ahead)\n") (live_lines (untested_line n row) row n))
