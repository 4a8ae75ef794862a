-- How many turns a station has left at the most before its pass is finished, whoever suspects whom: n, and one less with each turn.
-- Assumes nothing.
use mathlib.Core.Path.{◌≡◌}
use mathlib.Core.Logic.{◌≢◌, by_cases}
use mathlib.Core.Bool.{true, cond}
use mathlib.Core.List.{List}
use Prim.Native.Nat.{ℕ, zero, suc, ◌*◌, ◌-◌, ◌≤◌, ◌<◌}
use native.Mathlib.Decide.{dec_lt}
use native.Mathlib.Nat.{suc-mul}
use native.Mathlib.Omega.{arith}
use borrow.Author.Tests.{ne_eqb}
use lib.Dec.{eqb}
use Rattle.lists.specs.Sums.{sum_below}
use Rattle.table.specs.Sizes.{is_size}
use Rattle.table.specs.Wiring.{end_distance}
use Rattle.table.specs.Table.{next_column, finished_column, next_distance, finished}
use Rattle.lists.proofs.BoolLaws.{by_bool, choice}
use Rattle.lists.proofs.SumLaws.{sum_below-suc, sum_by}
use Rattle.table.specs.declared.wiring.Wiring.{Wiring}
use Rattle.station.proofs.Presence.{standing, standing-all, standing-more, standing-grows, standing-own}
use Rattle.plant.specs.Turn.{next_test, makes_test, outcome_at, turn}
use Rattle.station.specs.Wired.{next_after}
use Rattle.plant.proofs.NextTest.{next_test-low, test_below, test-station}
use Rattle.station.proofs.WiredLaws.{next_after-between}
use Rattle.plant.proofs.StepLines.{Lines}
use Rattle.plant.proofs.TurnHeads.{Heads, turn-heads}

-- a test at each present distance from the next one on, and the turn that finishes: the station itself stands at distance 0
unfoldable pub turns_left : Wiring → ℕ → List ℕ → ℕ → ℕ
turns_left w n t i = cond (eqb (finished n t i) 1) 0 (suc n - standing w n i (next_distance n t i))

-- those of all stations
unfoldable pub all_left : Wiring → ℕ → List ℕ → ℕ
all_left w n t = sum_below (turns_left w n t) n

-- a sum of terms none of which is above c
sum-most : (f : ℕ → ℕ) (n c : ℕ) → ((i : ℕ) → i < n → f i ≤ c) → sum_below f n ≤ n * c
unfolding sum_below
sum-most f zero c most = omega arith
sum-most f (suc n) c most = omega (arith, sum_below-suc f n, sum-most f n c (λ i h. most i (omega arith)), most n (omega arith), suc-mul n c)

-- one term is less and the others are the same
sum_less : (f g : ℕ → ℕ) (n p : ℕ) → p < n → ((i : ℕ) → i < n → i ≢ p → g i ≡ f i) → g p < f p → sum_below g n < sum_below f n
sum_less f g zero p h same less = omega arith
sum_less f g (suc n) p h same less =
    by_cases (dec_lt p n)
    (λ l. omega (
      arith,
      sum_below-suc f n,
      sum_below-suc g n,
      sum_less f g n p l (λ i b. same i (omega arith)) less,
      same n (omega arith) (omega arith),
    ))
    (λ l.
    let e : p ≡ n = omega arith in
    omega (arith, sum_below-suc f n, sum_below-suc g n, sum_by {f = g} {g = f} n (λ i b. same i (omega arith) (omega arith)), rw e at less))

module _ (w : Wiring) (n : ℕ) (t : List ℕ) (size : is_size n ≡ true) (lines : Lines w n t) where
  -- from 1 to n stations stand below the next distance
  stand-some : (i : ℕ) → i < n → 1 ≤ standing w n i (next_distance n t i)
  stand-some i h =
      omega (arith, standing-own w n i h, standing-grows w n i 1 (next_distance n t i) (lines.1 i h).pass.next_low)

  stand-most : (i m : ℕ) → i < n → m ≤ end_distance w n → standing w n i m ≤ n
  stand-most i m h le = omega (arith, standing-grows w n i m (end_distance w n) le, standing-all w n i size h)

  left-most : (i : ℕ) → i < n → turns_left w n t i ≤ n
  unfolding turns_left
  left-most i h = choice (λ x. x ≤ n) (eqb (finished n t i) 1) (omega arith) (omega (arith, stand-some i h))

  pub all-left-most : all_left w n t ≤ n * n
  unfolding all_left
  all-left-most = sum-most (turns_left w n t) n n left-most

  -- a turn of a station that has not finished
  module _ (kind i : ℕ) (h : i < n) (going : finished n t i ≡ 1 → ⊥) where
    abbrev t' : List ℕ
    t' = turn w n t kind i

    abbrev m : ℕ
    m = next_test w n t i

    abbrev o : ℕ
    o = outcome_at w n t kind i m

    heads : Heads w n t t' i o (makes_test w n t i)
    heads = turn-heads w n t kind i lines h

    left-own : turns_left w n t' i < turns_left w n t i
    unfolding turns_left
    left-own =
        let most = stand-most i (next_distance n t i) h (lines.1 i h).pass.next_high in
        by_bool (makes_test w n t i)
        (λ e.
        let more = standing-more w n i m (test-station w n t i e lines.0 h) in
        let up = standing-grows w n i (next_distance n t i) m (next_test-low w n t i) in
        let past = standing-grows w n i (suc m) (next_after w n m o) (next_after-between w n m o (test_below w n t i e)).0 in
        rw (heads.finish, heads.next, e, ne_eqb (finished n t i) 1 going) (omega arith))
        (λ e. rw (heads.finish, e, ne_eqb (finished n t i) 1 going) (omega arith))

    left_other : (k : ℕ) → k < n → k ≢ i → turns_left w n t' k ≡ turns_left w n t k
    unfolding turns_left
    left_other k b other =
        rw (heads.others k finished_column other (omega arith), heads.others k next_column other (omega arith))

    pub turn-left : all_left w n t' < all_left w n t
    unfolding all_left
    turn-left = sum_less (turns_left w n t) (turns_left w n t') n i h left_other left-own
