-- The figures of the sheet cover what is claimed of turns.
-- Assumes nothing.
use mathlib.Core.Path.{◌≡◌, ap, ◌∙◌}
use mathlib.Core.Bool.{Bool, not, and-false}
use mathlib.Core.List.{List}
use Prim.Native.Nat.{ℕ, suc, ◌+◌, ◌-◌, ◌*◌, ◌^◌, ◌≤◌, ◌<◌}
use native.Mathlib.Nat.{suc-mul}
use native.Mathlib.Omega.{arith}
use lib.Dec.{eqb}
use lib.ListN.{length, get_or}
use Rattle.lists.specs.Sums.{bit}
use Rattle.lists.proofs.BoolLaws.{by_bool}
use Rattle.lists.proofs.SearchLaws.{list_of-length, list_of-at, greatest-le}
use Rattle.lists.proofs.SumLaws.{sum_by, sum-add, sum-zero}
use Rattle.table.specs.Sizes.{dimension, distances}
use Rattle.table.specs.Table.{live}
use Rattle.table.specs.Properties.{live_count, exact_row}
use Rattle.table.proofs.Levels.{level-le}
use Rattle.table.proofs.SizeLaws.{size-distances}
use Rattle.table.specs.declared.wiring.Wiring.TheVariants.{Cube}
use Rattle.station.specs.Tests.{unsuspected}
use Rattle.station.specs.Rows.{mark}
use Rattle.station.proofs.DueLaws.{unsuspected-at}
use Rattle.slots.specs.Slots.{tested}
use Rattle.slots.proofs.MoreTests.{tests-sum}
use Rattle.slots.proofs.UntestedLaws.{lists-counted}
use Rattle.detection.specs.Claim.{worst_latency}
use Rattle.detection.proofs.Knowledge.{row-due}
use Rattle.detection.proofs.LedCount.{leads_below, leads-none, led-count}
use Rattle.latency.specs.Bound.{turns_per_round}
use Rattle.latency.specs.Turns.{turns_of, turns_by_row, known_with, most_until_known, FiguresCover}

-- a number of one byte
pub dimension-most : (n : ℕ) → n < 2 ^ 8 → dimension n ≤ 8
unfolding dimension
dimension-most n h = level-le (n - 1) 8 (omega arith)

-- the row that suspects just the dead boards of T
module _ (n : ℕ) (T : List ℕ) (low : n ≤ distances n) where
  abbrev L : ℕ → Bool
  L = live n T

  abbrev r : List ℕ
  r = exact_row n T

  long : length r ≡ n
  unfolding exact_row
  long = list_of-length (λ j. bit (not (live n T j))) n

  bytes : (x : ℕ) → x < n → get_or r x 0 ≡ bit (not (L x))
  unfolding exact_row
  bytes x h = list_of-at (λ j. bit (not (live n T j))) n x h

  alive : (x : ℕ) → x < n → unsuspected r x ≡ L x
  alive x h =
      unsuspected-at r x (omega (arith, long)) ∙ ap (λ (v : ℕ). eqb v 0) (bytes x h)
      ∙ by_bool (L x) (λ e. rw e) (λ e. rw e)

  -- a board tests whose groups it leads
  tests-of : (i : ℕ) → length (tested n r i) ≡ leads_below n L i (distances n)
  tests-of i =
      (lists-counted n r i).0 ∙ (tests-sum n r i ∙ sum_by (distances n) (λ m b. ap bit (row-due n L r long bytes i m)))

  turns-of : (i : ℕ) → i < n → turns_of n r i ≡ leads_below n L i (distances n) + bit (L i)
  unfolding turns_of
  turns-of i h =
      by_bool (L i) (λ l. rw (alive i h ∙ l, l) (omega (arith, tests-of i)))
      (λ l.
      let none : leads_below n L i (distances n) ≡ 0 = sum-zero (distances n) (λ m b. leads-none n L i m (rw (l, and-false))) in
      rw (alive i h ∙ l, l) (omega (arith, none)))

  pub turns-by-row : turns_per_round Cube n T ≡ turns_by_row n r
  unfolding turns_by_row live_count
  turns-by-row =
      omega (arith, sum_by n turns-of, sum-add (λ i. leads_below n L i (distances n)) (λ i. bit (L i)) n, led-count n T low)

-- an end in itself
pub figures-cover : FiguresCover
unfolding most_until_known known_with
figures-cover n t r j size h free same =
    let turns : turns_per_round Cube n t ≡ turns_by_row n (mark r j) =
    turns-by-row n t (size-distances n size).0 ∙ ap (turns_by_row n) same in
    let one : known_with n r j ≡ suc (worst_latency (dimension n)) * turns_by_row n (mark r j) = rw free in
    rw turns (omega (arith, greatest-le (known_with n r) n j h, one, suc-mul (worst_latency (dimension n)) (turns_by_row n (mark r j))))
