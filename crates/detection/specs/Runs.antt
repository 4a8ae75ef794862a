-- The list of runs and its taken entries.
-- Assumes nothing.
use Rattle.std.specs.Prelude.{◌≡◌, ℕ, Bool, not, ◌&&◌, List, [], ◌∷◌, ◌++◌, length, ◌==◌, Some, Result, Ok, Err}
use Rattle.table.specs.Table.{live}
use Rattle.table.specs.Wiring.{same_wiring}
use Rattle.table.specs.declared.wiring.Wiring.{Wiring}
use Rattle.plant.specs.Turn.{kind_turn, kind_late}
use Rattle.plant.specs.Entry.{Entry, State, is_crash, is_test, entry_check, after, tested_of}
use Rattle.plant.specs.Run.{RunResult, entries, start_check, run}
use Rattle.lists.specs.declared.refusal.Refusal.{Refusal}
use Rattle.lists.specs.Refusal.{unless_refused}

-- what one run of the list is given anew: its wiring, or refusal 24 where its number is none's, its size, schedule and run sheet, which may be any
pub record Call : Type 0 where
  pub wiring : Result Wiring Refusal
  pub size : ℕ
  pub schedule : List ℕ
  pub sheet : List ℕ

-- a run's own inputs by their parts
abbrev pub call_of : Result Wiring Refusal → ℕ → List ℕ → List ℕ → Call
call_of v n schedule sheet = record { wiring = v; size = n; schedule = schedule; sheet = sheet }

-- a run of one entry, (1, i): a turn of station i. What its sheet of four bytes held does not matter
abbrev pub turn_run : Wiring → ℕ → ℕ → Call
turn_run w n i = call_of (Ok w) n (kind_turn ∷ i ∷ []) (0 ∷ 0 ∷ 0 ∷ 0 ∷ [])

-- Rule Wiring number: a run whose wiring may be refused by 24. That comes first, and changes nothing
abbrev pub run_by : Result Wiring Refusal → ℕ → State → List ℕ → List ℕ → RunResult
run_by (Ok w) n s schedule sheet = run w n s schedule sheet
run_by (Err r) n s schedule sheet = record { stopped = Some r; taken = 0; state = s; sheet = sheet }

-- table and tally as a run leaves them
abbrev pub after_run : State → Call → State
after_run s c = (run_by c.wiring c.size s c.schedule c.sheet).state

-- table and tally after the list: each run finds them as the one before left them
unfoldable pub after_runs : State → List Call → State
after_runs s [] = s
after_runs s (c ∷ cs) = after_runs (after_run s c) cs

-- a taken entry: the wiring and the size of its run, and table and tally as it found them
pub record Taken : Type 0 where
  pub wiring : Wiring
  pub size : ℕ
  pub before : State
  pub entry : Entry

-- the taken entries of a run that is not refused at its start: it takes an entry if it comes to it and none of refusals 7 to 11 applies
unfoldable pub taken_from : Wiring → ℕ → State → List Entry → List Taken
taken_from w n s [] = []
taken_from w n s (e ∷ es) =
    unless_refused (entry_check n s e) [] (record { wiring = w; size = n; before = s; entry = e } ∷ taken_from w n (after w n s e) es)

-- the taken entries of one run: none where 24 or one of 1 to 6 refuses it
unfoldable pub taken_by : Result Wiring Refusal → ℕ → State → List ℕ → List ℕ → List Taken
taken_by (Ok w) n s schedule sheet =
    unless_refused (start_check w n s.table (length schedule) (length sheet)) [] (taken_from w n s (entries schedule))
taken_by (Err r) n s schedule sheet = []

abbrev pub taken_in : State → Call → List Taken
taken_in s c = taken_by c.wiring c.size s c.schedule c.sheet

-- a run that finds this table and tally answers how many entries it takes
abbrev pub CountsTaken : Call → State → ℕ → Type 0
CountsTaken c before taken = taken ≡ length (taken_in before c)

-- Rule List of runs: the taken entries of all runs, one behind the other
unfoldable pub taken_all : State → List Call → List Taken
taken_all s [] = []
taken_all s (c ∷ cs) = taken_in s c ++ taken_all (after_run s c) cs

-- the table after the taken entry
abbrev pub table_after : Taken → List ℕ
table_after x = (after x.wiring x.size x.before x.entry).table

-- a turn of station i: a taken entry of kind 1 or 2
abbrev pub is_turn_of : ℕ → Taken → Bool
is_turn_of i x = not (is_crash x.entry) && x.entry.station == i

-- a turn that makes a test
abbrev pub taken_test : Taken → Bool
taken_test x = is_test x.wiring x.size x.before.table x.entry

-- Rule Pass: a turn that makes no test finishes its pass
abbrev pub finishes : Taken → Bool
finishes x = not (is_crash x.entry) && not (taken_test x)

-- a taken entry of kind 3
abbrev pub crashes : Taken → Bool
crashes x = is_crash x.entry

-- a taken entry of kind 2 that tests a live station
abbrev pub is_late : Taken → Bool
is_late x = x.entry.kind == kind_late && taken_test x && live x.size x.before.table (tested_of x.wiring x.size x.before.table x.entry)

-- a taken entry of a run on the wiring w
abbrev pub is_on : Wiring → Taken → Bool
is_on w x = same_wiring x.wiring w
