-- What is answered of a list that is taken: mean and variance are in lowest terms, and zero is 0/1. Ends in themselves.
-- Assumes nothing.
use mathlib.Core.Path.{◌≡◌}
use mathlib.Core.List.{List}
use Prim.Native.Nat.{ℕ, ◌*◌, ◌<◌}
use native.Mathlib.Nat.{mul-pos, le_of_dvd, pos_of_dvd_of_pos}
use native.Mathlib.Omega.{arith}
use lib.ListN.{length}
use Rattle.std.specs.List.{sum_by}
use Rattle.figures.specs.Fractions.{lowest, LowestTerms}
use Rattle.figures.specs.Batch.{sum_of_results, squared_difference, mean, variance}
use Rattle.figures.proofs.LowestTerms.{lowest_terms, lowest_unique}

-- the mean of at least one result
pub mean_lowest : (xs : List ℕ) → 0 < length xs → LowestTerms (sum_of_results xs) (length xs) (mean xs)
unfolding mean
mean_lowest xs pos = lowest_terms (sum_of_results xs) (length xs) pos

-- the variance of at least one result
pub variance_lowest : (xs : List ℕ) → 0 < length xs →
    LowestTerms (sum_by (λ x. squared_difference (length xs * x) (sum_of_results xs)) xs) (length xs * length xs * length xs) (variance xs)
unfolding variance
variance_lowest xs pos = lowest_terms _ _ (mul-pos (mul-pos pos pos) pos)

-- nothing is 0/1
pub zero_lowest : (lower : ℕ) → 0 < lower → lowest 0 lower ≡ record { upper = 0; lower = 1 }
zero_lowest lower pos =
    lowest_unique 0 lower (lowest 0 lower) (record { upper = 0; lower = 1 }) pos (lowest_terms 0 lower pos)
    (record {
      same-value = omega arith;
      no-common-divisor = λ k a b.
          omega (arith, le_of_dvd {m = k} {n = 1} (omega arith) b, pos_of_dvd_of_pos {m = k} {n = 1} b (omega arith));
      positive = omega arith;
    })
