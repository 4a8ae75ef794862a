-- That the worst-case latency is reached: no fewer rounds are enough.
-- Assumes nothing.
use Rattle.std.specs.Prelude.{◌≡◌, true, List, ℕ, ◌≤◌, length}
use Rattle.table.specs.Sizes.{is_size}
use Rattle.table.specs.declared.wiring.Wiring.{Wiring}
use Rattle.plant.specs.Entry.{State}
use Rattle.detection.specs.Runs.{Call, after_runs}
use Rattle.detection.specs.Claim.{rounds_of, AllKnow, DetectionPremises, worst_rounds}

-- on a wiring at size n, for all tables, tallies and lists of runs under the detection conditions: once so many rounds have closed, each live board
-- suspects exactly the boards that are not live
abbrev pub RowsExactWithin : Wiring → ℕ → ℕ → Type 0
RowsExactWithin w n enough =
    (s : State) (calls : List Call) → DetectionPremises w n s calls → enough ≤ length (rounds_of s calls).closed
    → AllKnow n s.table (after_runs s calls).table

-- whatever the number of rounds that are enough, the worst-case latency is at most that
abbrev pub WorstCaseAt : Wiring → ℕ → Type 0
WorstCaseAt w n = (enough : ℕ) → RowsExactWithin w n enough → worst_rounds w n ≤ enough

-- Rule Worst case is reached: on each wiring at every size from 3 on. With 2 boards, both live, there is nobody to find
abbrev pub WorstCaseIsReached : Type 0
WorstCaseIsReached = (w : Wiring) (n : ℕ) → is_size n ≡ true → 3 ≤ n → WorstCaseAt w n
