-- Totals of results, their join, and the figures that follow from totals.
-- Assumes nothing.
use Rattle.std.specs.Prelude.{ℕ, ◌+◌, ◌*◌, ◌-◌, min, max, Bool, not, ◌||◌, List, length, Result, Ok, if◌then◌else◌, ◌==◌, nat_lt}
use Rattle.std.specs.List.{sum_by}
use Rattle.lists.specs.declared.refusal.Refusal.{Refusal}
use Rattle.lists.specs.declared.refusal.Refusal.TheVariants.{TooManyResults}
use Rattle.lists.specs.Refusal.{Check, ensure, ◌and◌}
use Rattle.figures.specs.declared.Fraction.{Fraction}
use Rattle.figures.specs.declared.Totals.{Totals}
use Rattle.figures.specs.declared.Figures.{Figures}
use Rattle.figures.specs.Fractions.{lowest}
use Rattle.figures.specs.Batch as batch

-- Rule Totals: those of a list, count, sum, sum of squares, least, greatest
unfoldable pub totals_of : List ℕ → Totals
totals_of xs =
    record {
      count = length xs;
      sum = batch.sum_of_results xs;
      squares = sum_by (λ x. x * x) xs;
      least = batch.least_of_results xs;
      greatest = batch.greatest_of_results xs;
    }

-- the least or the greatest of two batches, of which one has m results and the value a, the other n and b: `both` is what a and b give
-- together; a batch with no result does not count
unfoldable pub of_both : ℕ → ℕ → ℕ → ℕ → ℕ → ℕ
of_both m a n b both = if m == 0 then b else (if n == 0 then a else both)

-- Rule Joined totals: counts, sums and squares are added; least and greatest are those of both
unfoldable pub joined : Totals → Totals → Totals
joined a b =
    record {
      count = a.count + b.count;
      sum = a.sum + b.sum;
      squares = a.squares + b.squares;
      least = of_both a.count a.least b.count b.least (min a.least b.least);
      greatest = of_both a.count a.greatest b.count b.greatest (max a.greatest b.greatest);
    }

-- the greatest result of 16 bits
abbrev pub greatest_result : ℕ
greatest_result = 65535

-- Rule Any totals: whether totals are more than 4,096 results can have: by their count, their sum or the sum of their squares
unfoldable pub overfull : Totals → Bool
overfull t =
    nat_lt batch.most_results t.count
    || nat_lt (batch.most_results * greatest_result) t.sum
    || nat_lt (batch.most_results * (greatest_result * greatest_result)) t.squares

-- Rule List totals: the totals of a list, for all lists: 15 for more than 4,096 results. A list with no result is accepted.
unfoldable pub totals : List ℕ → Result Totals Refusal
totals xs = ensure (not (nat_lt batch.most_results (length xs))) TooManyResults and Ok (totals_of xs)

-- Rule Join: the join of any two totals: 15 where the joined totals are overfull
unfoldable pub join : Totals → Totals → Result Totals Refusal
join a b = ensure (not (overfull (joined a b))) TooManyResults and Ok (joined a b)

-- Rule Any totals: the variance by totals, with c results, their sum s and the sum q of their squares, (c·q − s·s) / (c·c),
-- zero where s·s is greater, which is so of no list
unfoldable pub variance_of : Totals → Fraction
variance_of t = lowest (t.count * t.squares - t.sum * t.sum) (t.count * t.count)

-- refusals 14 and 15 of any totals
abbrev pub totals_check : Totals → Check
totals_check t = batch.batch_check (t.count == 0) (overfull t)

-- Rule Totals figures: the figures of any totals
unfoldable pub figures_of_totals : Totals → Result Figures Refusal
figures_of_totals t =
    totals_check t
    and Ok
    (record {
      count = t.count;
      least = t.least;
      greatest = t.greatest;
      mean = lowest t.sum t.count;
      variance = variance_of t;
    })
