-- The figures of a list of results.
-- Assumes nothing.
use Rattle.std.specs.Prelude.{ℕ, ◌+◌, ◌*◌, ◌-◌, min, max, Bool, not, List, length, Result, Ok, unwrap_or, ◌==◌, nat_lt}
use Rattle.std.specs.List.{sum, sum_by, reduce}
use Rattle.lists.specs.declared.refusal.Refusal.{Refusal}
use Rattle.lists.specs.declared.refusal.Refusal.TheVariants.{NoResult, TooManyResults}
use Rattle.lists.specs.Refusal.{Check, ensure, ◌and◌}
use Rattle.figures.specs.declared.Fraction.{Fraction}
use Rattle.figures.specs.declared.Figures.{Figures}
use Rattle.figures.specs.Fractions.{lowest}

-- the sum of the results
abbrev pub sum_of_results : List ℕ → ℕ
sum_of_results xs = sum xs

-- the least result, 0 for none
abbrev pub least_of_results : List ℕ → ℕ
least_of_results xs = unwrap_or (reduce min xs) 0

-- the greatest result, 0 for none
abbrev pub greatest_of_results : List ℕ → ℕ
greatest_of_results xs = unwrap_or (reduce max xs) 0

-- Rule Mean: the sum by the count
unfoldable pub mean : List ℕ → Fraction
mean xs = lowest (sum_of_results xs) (length xs)

-- the square of the difference of two numbers; one of a − b and b − a is 0
unfoldable pub squared_difference : ℕ → ℕ → ℕ
squared_difference a b = (a - b + (b - a)) * (a - b + (b - a))

-- Rule Variance: the mean of the squared deviations from the mean. With c results that sum up to s, x deviates from the mean s / c by
-- (c·x − s) / c, so that its squared deviation is (c·x − s)² / (c·c); the sum of these is divided by c.
unfoldable pub variance : List ℕ → Fraction
variance xs =
    lowest (sum_by (λ x. squared_difference (length xs * x) (sum_of_results xs)) xs) (length xs * length xs * length xs)

-- Rule Results: how many are taken at most
abbrev pub most_results : ℕ
most_results = 4096

-- the refusals of a batch: 14 if there is no result, then 15 if there are more than 4,096
unfoldable pub batch_check : Bool → Bool → Check
batch_check none too_many = ensure (not none) NoResult and ensure (not too_many) TooManyResults

-- the refusals of a list of results
abbrev pub list_check : List ℕ → Check
list_check xs = batch_check (length xs == 0) (nat_lt most_results (length xs))

-- Rule List figures: the figures of a list, for all lists. Those of two lists are the figures of the one list that holds both.
unfoldable pub figures : List ℕ → Result Figures Refusal
figures xs =
    list_check xs
    and Ok
    (record {
      count = length xs;
      least = least_of_results xs;
      greatest = greatest_of_results xs;
      mean = mean xs;
      variance = variance xs;
    })
