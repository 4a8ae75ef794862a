-- The greatest of a figure, as a loop or an iterator finds it, and the row that is marked and given back.
-- Assumes nothing.
use mathlib.Core.Path.{◌≡◌, refl, ap, ◌∙◌}
use mathlib.Core.Logic.{◌≢◌}
use mathlib.Core.List.{List}
use Prim.Native.Nat.{ℕ, max, ◌+◌, ◌≤◌}
use lib.ListN.{length, get_or, set}
use lib.Seq.{set_out, set-set, set-get_or}
use Rattle.std.specs.List.{reduce}
use Rattle.std.specs.Prelude.{unwrap_or}
use Rattle.lists.specs.Search.{list_of, greatest}
use Rattle.lists.proofs.Loops.{greatest-start, greatest-next}
use Rattle.station.specs.Rows.{mark}
use Rattle.slots.specs.Slots.{tests_due, tests_with}
use Rattle.slots.proofs.MoreTests.{with-other}

-- past the row's end there is nothing to mark
pub with-beyond : (n : ℕ) (r : List ℕ) (i j : ℕ) → j ≢ i → length r ≤ j → tests_with n r i j ≡ tests_due n r i
unfolding mark
with-beyond n r i j apart h = with-other n r i j apart ∙ ap (λ (l : List ℕ). tests_due n l i) (set_out r j 1 h)

-- the mark is taken back
pub mark-back : (r : List ℕ) (j : ℕ) → set (mark r j) j (get_or r j 0) ≡ r
unfolding mark
mark-back r j = set-set r j 1 (get_or r j 0) ∙ set-get_or r j 0

-- the greatest as std's `max` of an iterator finds it, 0 where there is none
pub greatest-is : (f : ℕ → ℕ) (n : ℕ) → unwrap_or (reduce max (list_of f n)) 0 ≡ greatest f n
unfolding greatest
greatest-is f n = refl

-- a loop has taken figure f of each number below k on a row that was given: it has the greatest, and the row is as before
pub record GreatestSoFar (f : List ℕ → ℕ → ℕ) (given : List ℕ) (k most : ℕ) (row : List ℕ) : Type 0 where
  pub greatest_is : most ≡ greatest (f given) k
  pub same : row ≡ given

pub greatest-none : (f : List ℕ → ℕ → ℕ) (given : List ℕ) → GreatestSoFar f given 0 0 given
greatest-none f given = record { greatest_is = greatest-start (f given); same = refl }

pub greatest-one : {f : List ℕ → ℕ → ℕ} {given row : List ℕ} {k most : ℕ} (figure most' : ℕ) (row' : List ℕ) → GreatestSoFar f given k most row
    → figure ≡ f row k → row' ≡ row → most' ≡ max most figure → GreatestSoFar f given (k + 1) most' row'
greatest-one {f} {given} {row} {k} {most} figure most' row' g e same m =
    record { greatest_is = m ∙ greatest-next (f given) k most figure g.greatest_is (e ∙ ap (λ r. f r k) g.same); same = same ∙ g.same }

pub greatest-all : {f : List ℕ → ℕ → ℕ} {given row : List ℕ} {k most : ℕ} (n : ℕ) → GreatestSoFar f given k most row → k ≡ n
    → GreatestSoFar f given n most row
greatest-all n g e = record { greatest_is = rw e at g.greatest_is; same = g.same }
