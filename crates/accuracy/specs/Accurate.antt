-- That detection is accurate: whom a live station suspects, and who leaves, in any list of runs and drives, with any crashes and late replies, on
-- either wiring. n is the size, s table and tally before the list, calls the runs, and end table and tally after them.
-- Assumes nothing.
use Rattle.std.specs.Prelude.{◌≡◌, ◌≢◌, ◌⊎◌, ℕ, ◌+◌, ◌≤◌, ◌<◌, true, false, not, ◌&&◌, List, [], ◌∷◌, ◌++◌, length, ◌==◌}
use Rattle.lists.specs.Sums.{sum_below, bit}
use Rattle.table.specs.Table.{table_length, status, status_crashed, status_told, status_alone, told_by, live}
use Rattle.table.specs.Properties.{live_count, none_suspected}
use Rattle.table.specs.declared.wiring.Wiring.{Wiring}
use Rattle.station.specs.Outcome.{outcome_told, outcome_tested_told}
use Rattle.plant.specs.Entry.{State, outcome_of}
use Rattle.detection.specs.Runs.{Call, Taken, after_runs, taken_all, table_after, is_late, crashes}
use Rattle.detection.specs.Rounds.{all_taken, count_taken}
use Rattle.detection.specs.Boards.{station_tested}
use Rattle.detection.specs.Driven.{RunOrDrive, runs_of_mixed, after_mixed, runs_of_drives, after_drives}
use Rattle.detection.specs.Ceased.{LeftTold}
use Rattle.accuracy.specs.Cause.{Suspicion, HasCause, was_late, has_crashed}

-- the outcome of a taken entry
abbrev pub outcome_taken : Taken → ℕ
outcome_taken x = outcome_of x.wiring x.size x.before.table x.entry

-- Rule Only the late are suspected: a live station that a live one suspects after the list has a cause in it
abbrev pub OnlyLateSuspected : ℕ → State → List Call → State → Type 0
OnlyLateSuspected n s calls end =
    (i j : ℕ) → i < n → j < n → Suspicion n end.table i j → HasCause n s.table (taken_all s calls) j

-- a taken entry x with those before it, of which the first finds table t
pub record ExitCause (n : ℕ) (t : List ℕ) (before : List Taken) (x : Taken) : Type 0 where
  -- outcome 2: the station of the entry has a cause in those before
  pub tester : outcome_taken x ≡ outcome_told → HasCause n t before x.entry.station
  -- outcome 5: the tested one has
  pub tested : outcome_taken x ≡ outcome_tested_told → HasCause n t before (station_tested x)
  -- status 3 of the station of the entry: every other one that was still live has a cause in those before or in x
  pub alone : status n (table_after x) x.entry.station ≡ status_alone
      → (k : ℕ) → k < n → k ≢ x.entry.station → live n x.before.table k ≡ true → HasCause n t (before ++ (x ∷ [])) k

-- Rule Every exit has its cause: so it is at each taken entry of the list
abbrev pub ExitsHaveCauses : ℕ → State → List Call → Type 0
ExitsHaveCauses n s calls =
    (before : List Taken) (x : Taken) (rest : List Taken) → taken_all s calls ≡ before ++ (x ∷ rest) → ExitCause n s.table before x

-- station i left because told: x is the entry at which it left
pub record ToldWhy (n : ℕ) (s : State) (calls : List Call) (end : State) (i : ℕ) : Type 0 where
  pub before : List Taken
  pub x : Taken
  pub rest : List Taken
  pub parts : taken_all s calls ≡ before ++ (x ∷ rest)
  -- byte 4 names a station that was live and suspected i when it left
  pub teller : LeftTold n x.before.table (table_after x) i (told_by n end.table i)
  -- and i has a cause in the entries before
  pub cause : HasCause n s.table before i
  -- so its own reply was late, where first no live station suspected a live one
  pub late : none_suspected n s.table ≡ true → was_late i before ≡ true

-- Rule Told by one that suspected it: of each station that left because told in the list
abbrev pub ToldHaveCauses : ℕ → State → List Call → State → Type 0
ToldHaveCauses n s calls end = (i : ℕ) → i < n → live n s.table i ≡ true → status n end.table i ≡ status_told → ToldWhy n s calls end i

-- how many of the n stations are live in t and have status 2 in t'
unfoldable pub told_since : ℕ → List ℕ → List ℕ → ℕ
told_since n t t' = sum_below (λ i. bit (live n t i && status n t' i == status_told)) n

-- Rule One told for each late reply: where first no live station suspects a live one
abbrev pub OneToldForEachLate : ℕ → State → List Call → State → Type 0
OneToldForEachLate n s calls end = none_suspected n s.table ≡ true → told_since n s.table end.table ≤ count_taken is_late (taken_all s calls)

-- nobody leaves because told, and one leaves because alone only where no other was live
pub record NobodyTold (n : ℕ) (s : State) (calls : List Call) (end : State) : Type 0 where
  pub told : (i : ℕ) → i < n → live n s.table i ≡ true → status n end.table i ≢ status_told
  pub alone : (before : List Taken) (x : Taken) (rest : List Taken) → taken_all s calls ≡ before ++ (x ∷ rest)
      → status n (table_after x) x.entry.station ≡ status_alone → (k : ℕ) → k < n → k ≢ x.entry.station → live n x.before.table k ≡ false

-- Rule None late, nobody told: where first no live station suspects a live one, and no reply of a live one is late
abbrev pub NoneLate : ℕ → State → List Call → State → Type 0
NoneLate n s calls end =
    none_suspected n s.table ≡ true → all_taken (λ x. not (is_late x)) (taken_all s calls) ≡ true → NobodyTold n s calls end

-- who is no longer live, and how many
pub record LateCost (n : ℕ) (s : State) (calls : List Call) (end : State) : Type 0 where
  -- a station that is no longer live was told, and its reply was late; or it crashed. So none left because alone
  pub who : (i : ℕ) → i < n → live n s.table i ≡ true → live n end.table i ≡ false
      → ((status n end.table i ≡ status_told) × (was_late i (taken_all s calls) ≡ true))
      ⊎ ((status n end.table i ≡ status_crashed) × (has_crashed i (taken_all s calls) ≡ true))
  -- each late reply and each crash costs one station at most
  pub cost : live_count n s.table ≤ live_count n end.table + count_taken is_late (taken_all s calls) + count_taken crashes (taken_all s calls)

-- Rule What a late reply costs: where first no live station suspects a live one, and at least two more are live than there are late replies and
-- crashes in the list
abbrev pub OneForEachLate : ℕ → State → List Call → State → Type 0
OneForEachLate n s calls end =
    none_suspected n s.table ≡ true
    → count_taken is_late (taken_all s calls) + count_taken crashes (taken_all s calls) + 2 ≤ live_count n s.table → LateCost n s calls end

-- all of it
pub record Accurate (n : ℕ) (s : State) (calls : List Call) (end : State) : Type 0 where
  pub only_late : OnlyLateSuspected n s calls end
  pub exits : ExitsHaveCauses n s calls
  pub told : ToldHaveCauses n s calls end
  pub one_told : OneToldForEachLate n s calls end
  pub none_late : NoneLate n s calls end
  pub costs : OneForEachLate n s calls end

-- Rule Accurate detection: of every list of runs, whatever table of this length they are given
abbrev pub RunsAccurate : Type 0
RunsAccurate = (n : ℕ) (s : State) (calls : List Call) → length s.table ≡ table_length n → Accurate n s calls (after_runs s calls)

-- Rule Accurate detection, of every list that mixes runs and drives: the same, of the runs that it is
abbrev pub MixedAccurate : Type 0
MixedAccurate =
    (n : ℕ) (s : State) (xs : List RunOrDrive) → length s.table ≡ table_length n → Accurate n s (runs_of_mixed s xs) (after_mixed s xs)

-- Rule Drives tell nobody: a drive has no late reply
abbrev pub DrivesTellNobody : Type 0
DrivesTellNobody =
    (w : Wiring) (n : ℕ) (s : State) (lasts : List ℕ) → length s.table ≡ table_length n → none_suspected n s.table ≡ true
    → NobodyTold n s (runs_of_drives w n s lasts) (after_drives w n s lasts)

-- the same of one run or drive, y, from `before` to `after`: wherever it stands behind others, what is claimed of the whole list with it holds
-- of the state that it leaves
abbrev pub AccurateAfter : RunOrDrive → State → State → Type 0
AccurateAfter y before after =
    (n : ℕ) (s : State) (xs : List RunOrDrive) → after_mixed s xs ≡ before → length s.table ≡ table_length n
    → Accurate n s (runs_of_mixed s (xs ++ (y ∷ []))) after
