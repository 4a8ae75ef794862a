-- The doubt lamp and the detection claim: a lamp that is out at the start of a round begins that claim's wait, and stays out.
-- Assumes nothing.
use Rattle.std.specs.Prelude.{ℕ, ◌≤◌, ◌≡◌, true, not, List, None, Ok}
use Rattle.lists.specs.Refusal.{◌and◌}
use Rattle.table.specs.Rules.{table_check}
use Rattle.table.specs.Properties.{at_start, live_count}
use Rattle.table.specs.declared.wiring.Wiring.{Wiring}
use Rattle.plant.specs.Entry.{State}
use Rattle.detection.specs.Runs.{Call, after_runs, taken_all, crashes, is_late, is_on}
use Rattle.detection.specs.Rounds.{all_taken}
use Rattle.detection.specs.Claim.{DetectionPremises, DetectionConclusion}
use Rattle.detection.specs.Driven.{RunOrDrive, runs_of_mixed, after_mixed}
use Rattle.lamp.specs.Doubt.{IsOut, doubt_lamp}

-- the lamp is out at the start of a round, with two live stations at least; in the list that follows no run on another wiring takes an entry, no
-- station crashes and no reply of a live one is late. Tally and list are any
pub record OutAtStart (w : Wiring) (n : ℕ) (s : State) (calls : List Call) : Type 0 where
  pub out : IsOut w n s.table
  pub start : at_start n s.table ≡ true
  pub two_live : 2 ≤ live_count n s.table
  pub one_wiring : all_taken (is_on w) (taken_all s calls) ≡ true
  pub no_crash : all_taken (λ x. not (crashes x)) (taken_all s calls) ≡ true
  pub no_late : all_taken (λ x. not (is_late x)) (taken_all s calls) ≡ true

-- Rule Lamp begins the wait: these are the detection conditions
abbrev pub OutMeetsPremises : Type 0
OutMeetsPremises = (w : Wiring) (n : ℕ) (s : State) (calls : List Call) → OutAtStart w n s calls → DetectionPremises w n s calls

-- Rule Lamp begins the wait: so detection holds from there on, within so many rounds by wiring and size
abbrev pub OutBeginsWait : (Wiring → ℕ → ℕ) → Type 0
OutBeginsWait rounds =
    (w : Wiring) (n : ℕ) (s : State) (calls : List Call) → OutAtStart w n s calls
    → DetectionConclusion (rounds w n) w n s calls (after_runs s calls)

-- Rule Lamp stays out: under the detection conditions its call answers after the list that there is no pair. Where it is refused on the first
-- table, since a line breaks a line rule, it is refused so afterwards
abbrev pub StaysOut : Type 0
StaysOut =
    (w : Wiring) (n : ℕ) (s : State) (calls : List Call) → DetectionPremises w n s calls
    → doubt_lamp w n (after_runs s calls).table ≡ (table_check w n s.table and Ok None)

-- Rule Lamp stays out: and after a list that mixes runs and drives
abbrev pub MixedStaysOut : Type 0
MixedStaysOut =
    (w : Wiring) (n : ℕ) (s : State) (xs : List RunOrDrive) → DetectionPremises w n s (runs_of_mixed s xs)
    → doubt_lamp w n (after_mixed s xs).table ≡ (table_check w n s.table and Ok None)
