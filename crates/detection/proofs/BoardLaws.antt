-- Each board's tests in a round that begins with exact rows: the claims of specs/Boards hold.
-- Assumes nothing.
use mathlib.Core.Path.{◌≡◌, sym, ap, ◌∙◌}
use mathlib.Core.Logic.{◌⊎◌, inl, inr}
use mathlib.Core.Bool.{Bool, not}
use mathlib.Core.List.{List, [], map}
use Prim.Native.Nat.{ℕ, ◌<◌}
use native.Mathlib.Omega.{arith}
use lib.ListN.{length, get_or}
use Rattle.std.specs.List.{range_with_len}
use Rattle.lists.specs.Sums.{bit}
use Rattle.station.specs.Groups.{station_at}
use Rattle.table.specs.Sizes.{distances}
use Rattle.table.specs.Table.{live}
use Rattle.table.specs.Rules.{not_live}
use Rattle.station.specs.Tests.{due, due_distances}
use Rattle.lists.proofs.SearchLaws.{list_of-length, list_of-at}
use Rattle.lists.proofs.FilterLaws.{filter_same}
use Rattle.table.proofs.Accepting.{Accepted}
use Rattle.table.proofs.CellLaws.{row_at}
use Rattle.plant.specs.Entry.{State}
use Rattle.detection.specs.Runs.{Call, taken_all, after_runs}
use Rattle.detection.specs.Rounds.{cut}
use Rattle.detection.specs.Claim.{rounds_of, DetectionPremises}
use Rattle.table.specs.Properties.{exact_row, ExactRows}
use Rattle.table.specs.declared.wiring.Wiring.TheVariants.{Cube}
use Rattle.detection.specs.Boards.{TestsAreTheDue, ExactRoundTests, ExactRoundTestsAfterLatency}
use Rattle.detection.proofs.Chain.{on-wiring, chain-all, chain_first}
use Rattle.detection.proofs.TurnEffect.{Plain, Exact}
use Rattle.detection.proofs.Knowledge.{leads_at, row-due}
use Rattle.detection.proofs.Listing.{led_below}
use Rattle.detection.proofs.Cube.{exact-at}
use Rattle.detection.proofs.DetectionClaim.{history}

-- the distances due by the exact row are those at which a station leads
exact-list : (n : ℕ) (T : List ℕ) (i : ℕ) → due_distances (exact_row n T) i n ≡ led_below n (live n T) i (distances n)
unfolding due_distances exact_row
exact-list n T i =
    filter_same (due (exact_row n T) i) (leads_at n (live n T) i)
    (row-due n (live n T) (exact_row n T) (list_of-length (λ j. bit (not_live n T j)) n) (list_of-at (λ j. bit (not_live n T j)) n) i)
    (range_with_len 0 (distances n))

-- exact rows, byte by byte
exact_bytes : (n : ℕ) (L : ℕ → Bool) (t : List ℕ) → Plain Cube n L t → ExactRows n t → Exact n L t
unfolding exact_row
exact_bytes n L t p rows i j hi hj li lj =
    sym (row_at n t i j hj) ∙ ap (λ (r : List ℕ). get_or r j 0) (rows i hi (p.lives i hi ∙ li)) ∙ list_of-at (λ j. bit (not_live n t j)) n j hj
    ∙ ap (λ b. bit (not b)) (p.lives j hj ∙ lj)

module _ (n : ℕ) (s : State) (calls : List Call) (given : DetectionPremises Cube n s calls) (k : ℕ)
    (closed : k < length (rounds_of s calls).closed) where
  abbrev L : ℕ → Bool
  L = live n s.table

  -- some round has closed, so that an entry was taken
  accepted : Accepted Cube n s.table
  unfolding cut
  accepted = go (chain_first (on-wiring (chain-all n s calls given.long) given.one_wiring))
    where
      go : ((taken_all s calls ≡ []) × (after_runs s calls ≡ s)) ⊎ Accepted Cube n s.table → Accepted Cube n s.table
      go (inl e) = let none : length (rounds_of s calls).closed ≡ 0 = rw e.0 in absurd (omega (arith, none))
      go (inr ok) = ok

  tests-are-the-due : Exact n L ((history n s calls given accepted).0.start k) → TestsAreTheDue n s calls k
  tests-are-the-due e i h l =
      ((history n s calls given accepted).0.gave k closed).listed e i h l ∙ ap (map (station_at i)) (sym (exact-list n s.table i))

pub exact-round-tests : ExactRoundTests
exact-round-tests n s calls given k closed rows =
    let begun = (history n s calls given (accepted n s calls given k closed)).0.opened k closed in
    tests-are-the-due n s calls given k closed (exact_bytes n (live n s.table) _ begun.1 (rw begun.0 at rows))

pub exact-round-tests-after-latency : ExactRoundTestsAfterLatency
exact-round-tests-after-latency n s calls given k far closed =
    let course = (history n s calls given (accepted n s calls given k closed)).0 in
    tests-are-the-due n s calls given k closed (exact-at n s.table given.size course.start _ _ course.gave k (omega arith) (omega arith))
