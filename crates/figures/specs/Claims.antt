-- What is claimed of the figures of a list with at least one result: mean and variance are in lowest terms, least and greatest
-- are what they are called; and of the figures of kept totals.
-- Assumes nothing.
use Rattle.std.specs.Prelude.{◌≡◌, ℕ, ◌*◌, ◌≤◌, ◌<◌, List, ◌∷◌, length, slice_index, All, Contains}
use Rattle.std.specs.List.{sum_by}
use Rattle.figures.specs.Fractions.{LowestTerms}
use Rattle.figures.specs.Batch.{sum_of_results, least_of_results, greatest_of_results, squared_difference, mean, variance, figures}
use Rattle.figures.specs.Totals.{totals_of, figures_of_totals}

-- Rule Figures exact: the mean is in lowest terms, and stands for the sum by the count
abbrev pub MeanLowest : Type 0
MeanLowest = (xs : List ℕ) → 0 < length xs → LowestTerms (sum_of_results xs) (length xs) (mean xs)

-- Rule Figures exact: the variance is in lowest terms, and stands for the mean of the squared deviations from the mean
abbrev pub VarianceLowest : Type 0
VarianceLowest =
    (xs : List ℕ) → 0 < length xs
    → LowestTerms (sum_by (λ x. squared_difference (length xs * x) (sum_of_results xs)) xs) (length xs * length xs * length xs) (variance xs)

-- m is one of the list, and has R to each of its elements
pub record Extreme (R : ℕ → ℕ → Type 0) (xs : List ℕ) (m : ℕ) : Type 0 where
  pub among : Contains xs m
  pub all : All (R m) xs

-- the least result is one of the results, and none is less
abbrev pub LeastExtreme : Type 0
LeastExtreme = (x : ℕ) (xs : List ℕ) → Extreme (λ m y. m ≤ y) (x ∷ xs) (least_of_results (x ∷ xs))

-- the greatest result is one of the results, and none is greater
abbrev pub GreatestExtreme : Type 0
GreatestExtreme = (x : ℕ) (xs : List ℕ) → Extreme (λ m y. y ≤ m) (x ∷ xs) (greatest_of_results (x ∷ xs))

-- the numbers of a list have 16 bits
abbrev pub Small : List ℕ → Type 0
Small xs = (k : ℕ) → slice_index xs k < 65536

-- Rule Figures exact: the figures of kept totals are those of the list that they were taken of
abbrev pub KeptFigures : Type 0
KeptFigures = (xs : List ℕ) → Small xs → figures_of_totals (totals_of xs) ≡ figures xs

-- with c results, their sum s and the sum q of their squares, c·q − s·s is not negative
abbrev pub NotNegative : Type 0
NotNegative = (xs : List ℕ) → 0 < length xs → sum_of_results xs * sum_of_results xs ≤ length xs * sum_by (λ x. x * x) xs
