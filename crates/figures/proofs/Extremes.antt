-- The least result is one of the results and no result is less; the greatest is one of them and no result is greater. Ends in themselves.
-- Assumes nothing.
use mathlib.Core.Path.{◌≡◌, refl, sym, ◌∙◌}
use mathlib.Core.List.{List, [], ◌∷◌}
use mathlib.Core.Logic.{◌⊎◌, inl, inr, ⊎_elim, by_cases}
use Prim.Native.Nat.{ℕ, zero, suc, ◌<◌, ◌≤◌, min, max}
use native.Mathlib.Decide.{dec_le}
use native.Mathlib.Omega.{arith}
use lib.ListN.{length, get_or}
use Rattle.std.specs.List.{Contains, fold}
use Rattle.std.proofs.lemmas.List.Elements.{All-nil, All-cons, All-head, All-tail}
use Rattle.figures.specs.Batch.{least_of_results, greatest_of_results}
use Rattle.figures.specs.Claims.{Extreme}

-- what an operation finds that gives one of two numbers, the one that has R to both
module _ (op : ℕ → ℕ → ℕ) (R : ℕ → ℕ → Type 0) (self : (a : ℕ) → R a a) (both : (m a b : ℕ) → R m (op a b) → R m a × R m b)
    (one : (a b : ℕ) → (op a b ≡ a) ⊎ (op a b ≡ b)) where
  -- of two at the front only the one that the operation gives need be looked at
  more : (x y m : ℕ) (ys : List ℕ) → Extreme R (op x y ∷ ys) m → Extreme R (x ∷ y ∷ ys) m
  more x y m ys rest =
      record {
        among = at rest.among.0 rest.among.1 rest.among.2;
        all = All-cons (R m) x (y ∷ ys) of_two.0 (All-cons (R m) y ys of_two.1 (All-tail (R m) (op x y) ys rest.all));
      }
    where
      of_two : R m x × R m y
      of_two = both m x y (All-head (R m) (op x y) ys rest.all)

      at : (k : ℕ) → k < length (op x y ∷ ys) → get_or (op x y ∷ ys) k m ≡ m → Contains (x ∷ y ∷ ys) m
      at zero l e = ⊎_elim (λ f. (0, omega arith, sym f ∙ e)) (λ f. (1, omega arith, sym f ∙ e)) (one x y)
      at (suc k) l e = (suc (suc k), omega arith, e)

  fold-extreme : (x : ℕ) (xs : List ℕ) → Extreme R (x ∷ xs) (fold op x xs)
  fold-extreme x [] = record { among = (0, omega arith, refl); all = All-cons (R x) x [] (self x) (All-nil (R x)) }
  fold-extreme x (y ∷ ys) = more x y (fold op (op x y) ys) ys (fold-extreme (op x y) ys)

min-one : (a b : ℕ) → (min a b ≡ a) ⊎ (min a b ≡ b)
min-one a b = by_cases (dec_le a b) (λ h. inl (omega arith)) (λ h. inr (omega arith))

max-one : (a b : ℕ) → (max a b ≡ a) ⊎ (max a b ≡ b)
max-one a b = by_cases (dec_le a b) (λ h. inr (omega arith)) (λ h. inl (omega arith))

pub least_extreme : (x : ℕ) (xs : List ℕ) → Extreme (λ m y. m ≤ y) (x ∷ xs) (least_of_results (x ∷ xs))
least_extreme = fold-extreme min (λ m y. m ≤ y) (λ a. omega arith) (λ m a b h. (omega arith, omega arith)) min-one

pub greatest_extreme : (x : ℕ) (xs : List ℕ) → Extreme (λ m y. y ≤ m) (x ∷ xs) (greatest_of_results (x ∷ xs))
greatest_extreme = fold-extreme max (λ m y. y ≤ m) (λ a. omega arith) (λ m a b h. (omega arith, omega arith)) max-one
