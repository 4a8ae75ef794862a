-- What is written of one board or one row more.
-- Assumes nothing.
use Rattle.std.proofs.Common.{◌≡◌, ◌≢◌, ℕ, List, [], ◌∷◌, ◌++◌, ◌+◌, ◌<◌, zero, suc, true, false, refl}
use Rattle.std.proofs.Common.{sym, ap, ◌∙◌, arith, take, length, get_or, append_assoc, append-nil, codes}
use Rattle.std.specs.Prelude.{count_by, nat_eq, ◌==◌}
use Rattle.std.proofs.lemmas.Bool.Decides.{nat_tests}
use Rattle.sheet.specs.Printed.{dead_one, dead_from, dead_text}
use Rattle.sheet.specs.SizeLines.{each_below, size_cells, size_line}

dead_more : (k : ℕ) (row : List ℕ) (i : ℕ) → i < length row
    → dead_from k (take i row) ++ dead_one (k + i) (get_or row i 0) ≡ dead_from k (take (i + 1) row)
unfolding dead_from
dead_more k [] i h = absurd (omega arith)
dead_more k (d ∷ row) zero h = let e : k + 0 ≡ k = omega arith in rw e (sym (append-nil (dead_one k d)))
dead_more k (d ∷ row) (suc i) h =
    let e : k + 1 + i ≡ k + suc i = omega arith in
    let one : i + 1 ≡ suc i = omega arith in
    let two : suc i + 1 ≡ suc (suc i) = omega arith in
    let more = rw (e, one) at (dead_more (k + 1) row i (omega (arith, h))) in
    rw two (append_assoc (dead_one k d) (dead_from (k + 1) (take i row)) (dead_one (k + suc i) (get_or row i 0))
    ∙ ap (λ rest. dead_one k d ++ rest) more)

pub dead_next : (row : List ℕ) (i : ℕ) → i < length row
    → dead_from 0 (take i row) ++ dead_one i (get_or row i 0) ≡ dead_from 0 (take (i + 1) row)
dead_next row i h = let e : 0 + i ≡ i = omega arith in rw e at (dead_more 0 row i h)

pub none_dead : (row : List ℕ) → count_by (λ dead. dead == 0) row ≡ length row → codes " none" ≡ dead_text row
none_dead row e = let all : nat_eq (count_by (λ dead. dead == 0) row) (length row) ≡ true = grind (arith, nat_tests) in rw all refl

pub some_dead : (row : List ℕ) → count_by (λ dead. dead == 0) row ≢ length row → dead_from 0 row ≡ dead_text row
some_dead row e = let some : nat_eq (count_by (λ dead. dead == 0) row) (length row) ≡ false = grind (arith, nat_tests) in rw some refl

pub sizes_more : (k : ℕ) → each_below size_line k ++ (size_cells (k + 2) ++ (size_cells (k + 23) ++ (size_cells (k + 44) ++ codes "|\n")))
    ≡ each_below size_line (k + 1)
unfolding each_below
sizes_more k = let e : k + 1 ≡ suc k = omega arith in rw e refl
