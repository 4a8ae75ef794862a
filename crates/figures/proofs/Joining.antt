-- Totals of two lists one behind the other are the join of their totals, also where one is empty.
-- Assumes nothing.
use mathlib.Core.Path.{◌≡◌, refl, sym, ◌∙◌, ap}
use mathlib.Core.List.{List, [], ◌∷◌, ◌++◌}
use Prim.Native.Nat.{ℕ, ◌*◌, min, max}
use native.Mathlib.Omega.{arith}
use lib.Dec.{eqb-suc-zero}
use lib.ListN.{length, get_or, length-append}
use Rattle.std.specs.Prelude.{unwrap_or}
use Rattle.std.specs.List.{fold, reduce}
use Rattle.std.proofs.Common.{append-nil}
use Rattle.std.proofs.lemmas.List.Sums.{fold-append, sum_by-append}
use Rattle.figures.specs.Batch.{least_of_results, greatest_of_results}
use Rattle.figures.specs.Totals.{totals_of, of_both, joined}

module _ (op : ℕ → ℕ → ℕ) (assoc : (a b c : ℕ) → op a (op b c) ≡ op (op a b) c) where
  -- one more in front
  fold-more : (a b : ℕ) (xs : List ℕ) → fold op (op a b) xs ≡ op a (fold op b xs)
  fold-more a b [] = refl
  fold-more a b (x ∷ xs) = ap (λ y. fold op y xs) (sym (assoc a b x)) ∙ fold-more a (op b x) xs

  -- what an operation puts together from a list, 0 for none
  abbrev all : List ℕ → ℕ
  all xs = unwrap_or (reduce op xs) 0

  -- and from two lists
  reduce-append : (xs ys : List ℕ) → all (xs ++ ys) ≡ of_both (length xs) (all xs) (length ys) (all ys) (op (all xs) (all ys))
  unfolding of_both
  reduce-append [] ys = refl
  reduce-append (x ∷ xs) [] = rw eqb-suc-zero (ap (fold op x) (append-nil xs))
  reduce-append (x ∷ xs) (y ∷ ys) = rw (eqb-suc-zero, eqb-suc-zero) (fold-append op x xs (y ∷ ys) ∙ fold-more (fold op x xs) y ys)

-- the totals of two lists one behind the other
pub totals-append : (xs ys : List ℕ) → totals_of (xs ++ ys) ≡ joined (totals_of xs) (totals_of ys)
unfolding totals_of joined
totals-append xs ys =
    rw (
      length-append,
      sum_by-append (λ x. x) xs ys,
      sum_by-append (λ x. x * x) xs ys,
      reduce-append min (λ a b c. omega arith) xs ys,
      reduce-append max (λ a b c. omega arith) xs ys,
    )

-- the least and the greatest, as a loop over the results finds them
pub least_from_first : (xs : List ℕ) → fold min (get_or xs 0 0) xs ≡ least_of_results xs
least_from_first [] = refl
least_from_first (x ∷ xs) = ap (λ y. fold min y xs) (omega arith)

pub greatest_from_zero : (xs : List ℕ) → fold max 0 xs ≡ greatest_of_results xs
greatest_from_zero [] = refl
greatest_from_zero (x ∷ xs) = ap (λ y. fold max y xs) (omega arith)

pub ruleset extremes = (least_from_first, greatest_from_zero)
