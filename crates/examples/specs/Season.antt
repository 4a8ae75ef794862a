-- Examples of figures in one table: what the definitions compute, and what is expected. One statement covers it.
-- Assumes nothing.
use Rattle.std.specs.Prelude.{refl, List, [], ◌∷◌, ℕ, Result, Ok, Err}
use Rattle.lists.specs.declared.refusal.Refusal.{Refusal}
use Rattle.lists.specs.Refusal.{number_of}
use Rattle.figures.specs.declared.Figures.{Figures}
use Rattle.figures.specs.declared.Totals.{Totals}
use Rattle.figures.specs.Fractions.{euclid, gcd, lowest}
use Rattle.figures.specs.Batch.{mean, squared_difference, variance, batch_check, figures}
use Rattle.figures.specs.Totals.{totals_of, of_both, joined, overfull, variance_of, join, figures_of_totals}
use Rattle.examples.specs.Example.{Example, expect, AllHold}

-- the number and the seven figures, all 0 where refused
abbrev pub line : Result Figures Refusal → List ℕ
line (Ok f) =
    0 ∷ f.count ∷ f.least ∷ f.greatest ∷ f.mean.upper ∷ f.mean.lower ∷ f.variance.upper ∷ f.variance.lower ∷ []
line (Err r) = number_of r ∷ 0 ∷ 0 ∷ 0 ∷ 0 ∷ 0 ∷ 0 ∷ 0 ∷ []

-- the figures of the totals that a join answers
abbrev pub figures_of_join : Result Totals Refusal → Result Figures Refusal
figures_of_join (Ok t) = figures_of_totals t
figures_of_join (Err r) = Err r

abbrev pub eight : List ℕ
eight = 2 ∷ 4 ∷ 4 ∷ 4 ∷ 5 ∷ 5 ∷ 7 ∷ 9 ∷ []

-- what the definitions compute, and what is expected
unfoldable pub examples : List Example
examples =
    -- mean 5/1, variance 4/1; mean 3/2, variance 1/4; mean 4/3, variance 2/9
    expect (line (figures eight)) (0 ∷ 8 ∷ 2 ∷ 9 ∷ 5 ∷ 1 ∷ 4 ∷ 1 ∷ [])
    ∷ expect (line (figures (1 ∷ 2 ∷ []))) (0 ∷ 2 ∷ 1 ∷ 2 ∷ 3 ∷ 2 ∷ 1 ∷ 4 ∷ [])
    ∷ expect (line (figures (1 ∷ 1 ∷ 2 ∷ []))) (0 ∷ 3 ∷ 1 ∷ 2 ∷ 4 ∷ 3 ∷ 2 ∷ 9 ∷ [])
    -- nothing is 0/1
    ∷ expect (line (figures (0 ∷ []))) (0 ∷ 1 ∷ 0 ∷ 0 ∷ 0 ∷ 1 ∷ 0 ∷ 1 ∷ [])
    -- refusal 14 for no result
    ∷ expect (line (figures [])) (14 ∷ 0 ∷ 0 ∷ 0 ∷ 0 ∷ 0 ∷ 0 ∷ 0 ∷ [])
    -- the join of the totals of 2, 4, 4 and of 4, 5, 5, 7, 9
    ∷ expect (line (figures_of_join (join (totals_of (2 ∷ 4 ∷ 4 ∷ [])) (totals_of (4 ∷ 5 ∷ 5 ∷ 7 ∷ 9 ∷ []))))) (line (figures eight))
    -- refusal 15 for more than 4,096
    ∷ expect (line (figures_of_totals (record { count = 4097; sum = 0; squares = 0; least = 0; greatest = 0 }))) (15 ∷ 0 ∷ 0 ∷ 0 ∷ 0 ∷ 0 ∷ 0 ∷ 0 ∷ [])
    ∷ []

-- each example holds
pub hold : AllHold examples
unfolding examples euclid gcd lowest mean squared_difference variance batch_check figures totals_of of_both joined overfull variance_of join
    figures_of_totals
hold = refl
