-- Who told a station to leave, and how long ago: bytes 4 and 5 after a taken entry, after a list of runs, and after one that mixes runs and
-- drives.
-- Assumes nothing.
use Rattle.std.specs.Prelude.{Ok, ◌≡◌, ◌≢◌, Bool, true, false, List, [], ◌∷◌, ℕ, ◌+◌, min, ◌≤◌, ◌<◌, length, if◌then◌else◌}
use Rattle.table.specs.Table.{table_length, status, status_told, told_by, not_recorded, rounds_ago, rounds_ago_top, suspects, live}
use Rattle.table.specs.Rules.{table_check, round_over}
use Rattle.table.specs.declared.wiring.Wiring.{Wiring}
use Rattle.station.specs.Outcome.{outcome_told, outcome_tested_told}
use Rattle.plant.specs.Entry.{Entry, State, entry_check, acted, after, tested_of, outcome_of}
use Rattle.detection.specs.Runs.{Call, Taken, after_runs, taken_all, table_after}
use Rattle.detection.specs.Rounds.{count_taken}
use Rattle.detection.specs.Driven.{RunOrDrive, after_mixed, runs_of_mixed}

-- station a left because told by b; t and t' are the tables before and after the entry
pub record LeftTold (n : ℕ) (t t' : List ℕ) (a b : ℕ) : Type 0 where
  pub was_live : live n t a ≡ true
  pub left : status n t' a ≡ status_told
  -- byte 4 of a names b
  pub named : told_by n t' a ≡ b
  -- b is live and suspects a
  pub teller_live : live n t b ≡ true
  pub suspected : suspects n t b a ≡ 1

-- a taken entry: by its outcome, who left and who told it, and whose byte 4 stays
pub record WhoTold (w : Wiring) (n : ℕ) (s : State) (e : Entry) : Type 0 where
  -- outcome 2: the station of the entry, told by the tested one
  pub tester : outcome_of w n s.table e ≡ outcome_told → LeftTold n s.table (after w n s e).table e.station (tested_of w n s.table e)
  -- outcome 5: the tested one, told by the station of the entry
  pub tested : outcome_of w n s.table e ≡ outcome_tested_told → LeftTold n s.table (after w n s e).table (tested_of w n s.table e) e.station
  -- byte 4 of every other line stays
  pub others : (k : ℕ) → k < n → (outcome_of w n s.table e ≡ outcome_told → k ≢ e.station)
      → (outcome_of w n s.table e ≡ outcome_tested_told → k ≢ tested_of w n s.table e) → told_by n (after w n s e).table k ≡ told_by n s.table k

-- Rule Teller named: at every entry that a run reaches, refusals 1 to 4 let its table through (`accepted-kept` of plant's
-- proofs/RulesKept.antt)
abbrev pub TellerIsNamed : Type 0
TellerIsNamed = (w : Wiring) (n : ℕ) (s : State) (e : Entry) → table_check w n s.table ≡ Ok tt → entry_check n s e ≡ Ok tt → WhoTold w n s e

-- a round closes with the taken entry
abbrev pub closes_round : Taken → Bool
closes_round x = round_over x.size (acted x.wiring x.size x.before.table x.entry)

-- how many rounds close with these entries
abbrev pub rounds_closed : List Taken → ℕ
rounds_closed xs = count_taken closes_round xs

-- of a station that is live at first: the entries from the one at which it ceased to be live on
unfoldable pub since_ceased : ℕ → List Taken → List Taken
since_ceased i [] = []
since_ceased i (x ∷ xs) = if live x.size (table_after x) i then since_ceased i xs else x ∷ xs

-- station i left because told by b with the first of these entries
abbrev pub FirstTold : ℕ → List Taken → ℕ → ℕ → Type 0
FirstTold n [] i b = ⊥
FirstTold n (x ∷ xs) i b = LeftTold n x.before.table (table_after x) i b

-- table and tally after a list of runs, beside those before it
pub record ExitRecord (n : ℕ) (s : State) (calls : List Call) (end : State) : Type 0 where
  -- no byte 4 becomes 254: a line that has it had it before
  pub unrecorded : (i : ℕ) → i < n → told_by n end.table i ≡ not_recorded → told_by n s.table i ≡ not_recorded
  -- status and byte 4 of a line that was not live at first are as they were
  pub kept : (i : ℕ) → i < n → live n s.table i ≡ false
      → (status n end.table i ≡ status n s.table i) × (told_by n end.table i ≡ told_by n s.table i)
  -- of one that left because told, byte 4 names the one that told it, at the entry at which it left
  pub told : (i : ℕ) → i < n → live n s.table i ≡ true → status n end.table i ≡ status_told
      → FirstTold n (since_ceased i (taken_all s calls)) i (told_by n end.table i)
  -- byte 5 of a line that was not live at first is what it was and the rounds closed in the list, 255 at most
  pub gone : (i : ℕ) → i < n → live n s.table i ≡ false → rounds_ago n s.table i ≤ rounds_ago_top
      → rounds_ago n end.table i ≡ min (rounds_ago n s.table i + rounds_closed (taken_all s calls)) rounds_ago_top
  -- byte 5 of one that ceased in the list is the rounds closed from the entry at which it ceased on, 255 at most
  pub ceased : (i : ℕ) → i < n → live n s.table i ≡ true → live n end.table i ≡ false
      → rounds_ago n end.table i ≡ min (rounds_closed (since_ceased i (taken_all s calls))) rounds_ago_top
  -- these are the rounds of the tally
  pub tallied : end.rounds ≡ s.rounds + rounds_closed (taken_all s calls)

-- Rule Exits recorded: of every list of runs, whatever table of this length they are given
abbrev pub ExitsRecorded : Type 0
ExitsRecorded = (n : ℕ) (s : State) (calls : List Call) → length s.table ≡ table_length n → ExitRecord n s calls (after_runs s calls)

-- Rule Exits recorded, of every list that mixes runs and drives: the same, of the runs that it is
abbrev pub MixedExitsRecorded : Type 0
MixedExitsRecorded =
    (n : ℕ) (s : State) (xs : List RunOrDrive) → length s.table ≡ table_length n → ExitRecord n s (runs_of_mixed s xs) (after_mixed s xs)
