-- The variance by totals is that of the definition: with c results, their sum s and the sum q of their squares, s·s ≤ c·q, and c·(c·q − s·s)
-- is the sum of the squares of c·x − s.
-- Assumes nothing.
use mathlib.Core.Path.{◌≡◌, refl, sym, ◌∙◌, ap₂}
use mathlib.Core.List.{List, [], ◌∷◌}
use mathlib.Core.Logic.{by_cases}
use Prim.Native.Nat.{ℕ, ◌+◌, ◌*◌, ◌-◌, ◌<◌, ◌≤◌}
use native.Mathlib.Nat.{mul-sub, mul_assoc, le_of_mul-le-mul_left, le_dest, zero-lt-suc}
use native.Mathlib.Decide.{dec_le}
use native.Mathlib.Omega.{arith}
use lib.ListN.{length}
use Rattle.std.specs.List.{sum_by}
use Rattle.std.proofs.lemmas.List.Sums.{sum_by-cons}
use Rattle.figures.specs.Fractions.{lowest}
use Rattle.figures.specs.Batch.{sum_of_results, squared_difference, variance}
use Rattle.figures.specs.Totals.{totals_of, variance_of}
use Rattle.figures.proofs.LowestTerms.{lowest-scaled}

-- (a − b)² and 2·a·b together are a² and b²
difference-over : (a k : ℕ) → squared_difference a (a + k) + 2 * (a * (a + k)) ≡ a * a + (a + k) * (a + k)
unfolding squared_difference
difference-over a k = let e : a - (a + k) + (a + k - a) ≡ k = omega arith in rw e (omega arith)

difference-le : (a b : ℕ) → a ≤ b → squared_difference a b + 2 * (a * b) ≡ a * a + b * b
difference-le a b h = let d = le_dest h in rw d.1 at (difference-over a d.0)

difference-swapped : (a b : ℕ) → squared_difference a b ≡ squared_difference b a
unfolding squared_difference
difference-swapped a b = let e : a - b + (b - a) ≡ b - a + (a - b) = omega arith in rw e

difference-squared : (a b : ℕ) → squared_difference a b + 2 * (a * b) ≡ a * a + b * b
difference-squared a b =
    by_cases (dec_le a b) (difference-le a b) (λ h. omega (arith, difference-swapped a b, difference-le b a (omega arith)))

-- the squares of c·x − s over a list, for any c and s
deviations : (c s : ℕ) (xs : List ℕ) →
    sum_by (λ x. squared_difference (c * x) s) xs + 2 * (c * s * sum_of_results xs) ≡ c * c * sum_by (λ x. x * x) xs + length xs * (s * s)
deviations c s [] = omega arith
deviations c s (x ∷ xs) =
    rw (sum_by-cons (λ x. squared_difference (c * x) s) x xs, sum_by-cons (λ x. x) x xs, sum_by-cons (λ x. x * x) x xs)
    (omega (arith, deviations c s xs, difference-squared (c * x) s))

module _ (xs : List ℕ) where
  -- with s and q for the sums of the results and of their squares: c·(s·s) and the squared deviations are c·(c·q)
  deviations-sum : sum_by (λ x. squared_difference (length xs * x) (sum_of_results xs)) xs + length xs * (sum_of_results xs * sum_of_results xs)
      ≡ length xs * (length xs * sum_by (λ x. x * x) xs)
  deviations-sum = omega (arith, deviations (length xs) (sum_of_results xs) xs)

  -- c·Q − S·S is not negative
  pub not_negative : 0 < length xs → sum_of_results xs * sum_of_results xs ≤ length xs * sum_by (λ x. x * x) xs
  not_negative pos = le_of_mul-le-mul_left {k = length xs} (omega (arith, deviations-sum)) pos

  -- c·(c·Q − S·S) is the sum of the squares of c·x − S
  pub deviations-upper : length xs * (length xs * sum_by (λ x. x * x) xs - sum_of_results xs * sum_of_results xs)
      ≡ sum_by (λ x. squared_difference (length xs * x) (sum_of_results xs)) xs
  deviations-upper = mul-sub (length xs) _ _ ∙ omega (arith, deviations-sum)

-- the variance of the definition is that by totals
pub variance-by-totals : (xs : List ℕ) → variance xs ≡ variance_of (totals_of xs)
unfolding variance variance_of totals_of
variance-by-totals [] = refl
variance-by-totals (x ∷ xs) =
    let c = length (x ∷ xs) in
    ap₂ lowest (sym (deviations-upper (x ∷ xs))) (mul_assoc c c c) ∙ lowest-scaled c _ _ (zero-lt-suc (length xs))
