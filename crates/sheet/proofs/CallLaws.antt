-- What clap makes of the words of a call, and what that asks for.
-- Assumes nothing.
use Rattle.std.proofs.Common.{◌≡◌, ◌≢◌, ◌<◌, ◌≤◌, ◌⊎◌, inl, inr, ℕ, List, [], ◌∷◌, false, refl, sym, ap, ap₂, ◌∙◌}
use Rattle.std.proofs.Common.{codes, arith, Bor, map, length}
use Rattle.std.specs.Prelude.{◌&&◌, Option, None, Some, IsSomeAnd, Result, Ok, Err, unwrap_or, option_map, nat_eq}
use Rattle.std.proofs.lemmas.Bool.{and_left, and_right}
use Rattle.std.proofs.lemmas.Bool.Decides.{nat_tests}
use Rattle.clap.specs.Lexer.{usize_max}
use Rattle.clap.specs.Matches.{matched_of, raw_values}
use Rattle.clap.specs.Walk.{Rule, count_of, rows_of, rule_of}
use Rattle.clap.specs.declared.parser.matches.Found.{Found}
use Rattle.clap.proofs.WalkLemmas.{raw_values-rows}
use Rattle.clap.specs.Simple.{new_rule}
use Rattle.clap.specs.declared.builder.arg.Arg.{Arg}
use Rattle.clap.specs.declared.builder.range.ValueRange.{ValueRange}
use Rattle.sheet.specs.Named.{plant_size, plant_of}
use Rattle.sheet.specs.Call.{numbers_rule, sheet_of, sizes, asked_by, understood}
use Rattle.sheet.specs.declared.call.WrongCall.{WrongCall}
use Rattle.sheet.specs.declared.call.WrongCall.TheVariants.{NoSize, MoreThanSizes}

-- an argument of one number or more
pub numbers_ruled : (a : Arg) (o : Option ValueRange) (b : Arg) → rule_of a ≡ new_rule (codes "numbers") → b ≡ record a { num_vals = o }
    → IsSomeAnd o (λ r. r ≡ record { start_inclusive = 1; end_inclusive = usize_max }) → rule_of b ≡ numbers_rule
numbers_ruled a None b e is h = absurd h
numbers_ruled a (Some r) b e is h =
    rw (is, h) (ap (λ (rule : Rule). record rule { range = Some (record { start_inclusive = 1; end_inclusive = usize_max }) }) e)

-- the numbers that were found, none where there are none
numbers_found : (o : Option (Bor (List (Bor (List ℕ))))) (none numbers : Bor (List (Bor (List ℕ)))) (p : Option (List (List ℕ)))
    → option_map (λ s. map (λ v. v.now) s.now) o ≡ p → none.now ≡ [] → unwrap_or o none ≡ numbers → unwrap_or p [] ≡ map (λ v. v.now) numbers.now
numbers_found None none numbers p e empty is = rw (← e, ← is, empty) refl
numbers_found (Some s) none numbers p e empty is = rw (← e, ← is) refl

-- what is asked for by what the getters of the matches answer
pub found_in : (f : Found) (flags : ℕ) (o : Option (Bor (List (Bor (List ℕ))))) (none numbers : Bor (List (Bor (List ℕ))))
    → flags ≡ count_of (codes "sizes") (rows_of f)
    → option_map (λ s. map (λ v. v.now) s.now) o ≡ option_map raw_values (matched_of f (codes "numbers"))
    → none.now ≡ [] → numbers ≡ unwrap_or o none → asked_by flags (map (λ v. v.now) numbers.now) ≡ understood (rows_of f)
found_in f flags o none numbers value raw empty is =
    ap₂ asked_by value (sym (numbers_found o none numbers _ (raw ∙ raw_values-rows f (codes "numbers")) empty (sym is)))

pub asks_nothing : (flags : ℕ) (numbers : List (List ℕ)) → flags ≡ 0 → length numbers ≡ 0 → Err NoSize ≡ asked_by flags numbers
asks_nothing flags [] f e = rw f refl
asks_nothing flags (x ∷ xs) f e = absurd (omega arith)

pub asks_sheet : (flags : ℕ) (size : List ℕ) (boards : List (List ℕ)) (r : Result (ℕ × List ℕ) WrongCall) → flags ≡ 0
    → r ≡ plant_of (plant_size size) boards → sheet_of r ≡ asked_by flags (size ∷ boards)
asks_sheet flags size boards r f e = rw (f, e) refl

pub asks_sizes : (flags : ℕ) (numbers : List (List ℕ)) → flags ≢ 0 → flags ≤ 1 → length numbers ≡ 0 → Ok sizes ≡ asked_by flags numbers
asks_sizes flags [] f one e = let is : flags ≡ 1 = omega (arith, f, one) in rw is refl
asks_sizes flags (x ∷ xs) f one e = absurd (omega arith)

pub asks_more : (flags : ℕ) (numbers : List (List ℕ)) → flags ≢ 0 → (1 < flags) ⊎ (0 < length numbers) → Err MoreThanSizes ≡ asked_by flags numbers
asks_more flags numbers f h =
    let some : nat_eq flags 0 ≡ false = grind (arith, nat_tests) in
    let more : (nat_eq flags 1 && nat_eq (length numbers) 0) ≡ false = elim h [
      | inl many ↦ let e : nat_eq flags 1 ≡ false = grind (arith, nat_tests) in and_left (nat_eq flags 1) (nat_eq (length numbers) 0) e
      | inr more ↦ let e : nat_eq (length numbers) 0 ≡ false = grind (arith, nat_tests) in and_right (nat_eq flags 1) (nat_eq (length numbers) 0) e
    ] in
    rw (some, more) refl
