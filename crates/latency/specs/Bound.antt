-- How many turns a round has at most, and after how many all live boards know all that are dead: how long a dead board may go unseen, in grants.
-- Assumes nothing.
use Rattle.std.specs.Prelude.{List, [], ◌∷◌, ℕ, ◌+◌, ◌*◌, ◌≤◌, length}
use Rattle.table.specs.Properties.{live_count}
use Rattle.table.specs.declared.wiring.Wiring.{Wiring}
use Rattle.plant.specs.Entry.{State}
use Rattle.granter.specs.Drive.{drive}
use Rattle.detection.specs.Runs.{Call, Taken, after_runs, taken_all}
use Rattle.detection.specs.Rounds.{tests_in}
use Rattle.detection.specs.Claim.{rounds_of, round_at, count_of, AllKnow, DetectionPremises, worst_rounds}
use Rattle.detection.specs.Driven.{RunOrDrive, after_mixed, runs_of_mixed, after_drives}

-- Rule Turns of a round: as many tests as the count says, and one turn for each live board, which finishes its pass
abbrev pub turns_per_round : Wiring → ℕ → List ℕ → ℕ
turns_per_round w n t = count_of w n t + live_count n t

-- Rule Turns until known: as many rounds as the worst case has, each with so many turns
abbrev pub turns_until_known : Wiring → ℕ → List ℕ → ℕ
turns_until_known w n t = worst_rounds w n * turns_per_round w n t

-- a round with at most that many tests, and at most that many turns
pub record RoundWithin (w : Wiring) (n : ℕ) (t : List ℕ) (round : List Taken) : Type 0 where
  pub tests : tests_in round ≤ count_of w n t
  pub turns : length round ≤ turns_per_round w n t

-- Rule Turns of a round: under the detection conditions so it is of every round of a list of runs, the open one included, from the first on
abbrev pub RoundsWithin : Type 0
RoundsWithin =
    (w : Wiring) (n : ℕ) (s : State) (calls : List Call) → DetectionPremises w n s calls → (k : ℕ) → k ≤ length (rounds_of s calls).closed
    → RoundWithin w n s.table (round_at s calls k)

-- Rule Turns until known: under the detection conditions so it is after so many turns of a list of runs, however they fall into rounds
abbrev pub KnownWithin : Type 0
KnownWithin =
    (w : Wiring) (n : ℕ) (s : State) (calls : List Call) → DetectionPremises w n s calls → turns_until_known w n s.table ≤ length (taken_all s calls)
    → AllKnow n s.table (after_runs s calls).table

-- and of a list that mixes runs and drives, where each grant of a drive is a turn
abbrev pub MixedKnownWithin : Type 0
MixedKnownWithin =
    (w : Wiring) (n : ℕ) (s : State) (xs : List RunOrDrive) → DetectionPremises w n s (runs_of_mixed s xs)
    → turns_until_known w n s.table ≤ length (taken_all s (runs_of_mixed s xs)) → AllKnow n s.table (after_mixed s xs).table

-- Rule Turns of a round: a drive that finds such a table makes at most that many grants
abbrev pub DriveWithin : Type 0
DriveWithin =
    (w : Wiring) (n : ℕ) (s : State) (last : ℕ) → DetectionPremises w n s [] → (drive w n s last).grants ≤ turns_per_round w n s.table

-- the grants that drives of one size make, each with any last number
unfoldable pub grants_of : Wiring → ℕ → State → List ℕ → ℕ
grants_of w n s [] = 0
grants_of w n s (last ∷ lasts) = (drive w n s last).grants + grants_of w n (drive w n s last).state lasts

-- Rule Turns until known: after so many grants of drives all is known
abbrev pub DrivesKnownWithin : Type 0
DrivesKnownWithin =
    (w : Wiring) (n : ℕ) (s : State) (lasts : List ℕ) → DetectionPremises w n s [] → turns_until_known w n s.table ≤ grants_of w n s lasts
    → AllKnow n s.table (after_drives w n s lasts).table
