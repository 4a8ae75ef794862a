-- The run: refusals 1 to 6, then the entries in order; and two claims of it. w is the wiring.
-- Assumes nothing.
use Rattle.std.specs.Result.{result_err}
use Rattle.std.specs.Prelude.{Ok, ◌≡◌, ℕ, suc, ◌*◌, ◌%◌, not, List, [], ◌∷◌, length, Option, Some, None, ◌==◌}
use Rattle.std.proofs.lemmas.List.Edits.{sets}
use Rattle.lists.specs.declared.refusal.Refusal.TheVariants.{ScheduleLength, SheetLength}
use Rattle.lists.specs.declared.refusal.Refusal.{Refusal}
use Rattle.lists.specs.Refusal.{number_of, Check, ensure, ◌and◌, unless_refused}
use Rattle.table.specs.Rules.{table_check}
use Rattle.table.specs.declared.wiring.Wiring.{Wiring}
use Rattle.plant.specs.declared.Ran.{Ran}
use Rattle.plant.specs.Entry.{Entry, State, state_with, entry_of, entry_check, after, sheet_line}

-- Rule Schedule: entries one behind the other, two bytes each
unfoldable pub entries : List ℕ → List Entry
entries [] = []
entries (k ∷ []) = []
entries (k ∷ i ∷ rest) = entry_of k i ∷ entries rest

-- what a run answers and leaves: the refusal that stopped it, if one did, how many entries were taken, table and tally, and the sheet
pub record RunResult : Type 0 where
  pub stopped : Option Refusal
  pub taken : ℕ
  pub state : State
  pub sheet : List ℕ

-- the number of the refusal that stopped a run: 0 where none did
abbrev pub stop_refusal : Option Refusal → ℕ
stop_refusal None = 0
stop_refusal (Some r) = number_of r

-- the outcome of a call: what it answers, and table and sheet as it left them
abbrev pub run_result : Ran → List ℕ → List ℕ → RunResult
run_result r t sheet = record { stopped = r.stopped; taken = r.taken; state = state_with t r.tally; sheet = sheet }

-- the sheet with a line written as the kth, from 0, of four bytes each
abbrev pub write_line : List ℕ → ℕ → List ℕ → List ℕ
write_line sheet k line = sets sheet (4 * k) line

-- Rule Run: a run that has taken k entries goes on with the rest. At the first that is refused it stops: table, tally and run sheet are as the
-- earlier entries left them
unfoldable pub go_on : Wiring → ℕ → ℕ → State → List ℕ → List Entry → RunResult
go_on w n k s sheet [] = record { stopped = None; taken = k; state = s; sheet = sheet }
go_on w n k s sheet (e ∷ es) =
    unless_refused (entry_check n s e) (record { stopped = result_err (entry_check n s e); taken = k; state = s; sheet = sheet })
    (go_on w n (suc k) (after w n s e) (write_line sheet k (sheet_line w n s e)) es)

-- refusals 1 to 6: then the schedule has an odd number of bytes; the run sheet is not twice as long as the schedule
unfoldable pub start_check : Wiring → ℕ → List ℕ → ℕ → ℕ → Check
start_check w n t schedule_length sheet_length =
    table_check w n t
    and ensure (not (schedule_length % 2 == 1)) ScheduleLength
    and ensure (sheet_length == 2 * schedule_length) SheetLength

-- Rule Run call: the run of a schedule on a table and a tally with a lent run sheet, for all inputs. A run refused by 1 to 6 gives back the
-- tally handed in
unfoldable pub run : Wiring → ℕ → State → List ℕ → List ℕ → RunResult
run w n s schedule sheet =
    let check = start_check w n s.table (length schedule) (length sheet) in
    unless_refused check (record { stopped = result_err check; taken = 0; state = s; sheet = sheet })
    (go_on w n 0 s sheet (entries schedule))

-- Rule Empty schedule: on a table that refusals 1 to 4 let through, with an empty run sheet, it is accepted and changes nothing
abbrev pub EmptyRun : Type 0
EmptyRun =
    (w : Wiring) (n : ℕ) (s : State)
    → table_check w n s.table ≡ Ok tt → run w n s [] [] ≡ record { stopped = None; taken = 0; state = s; sheet = [] }

-- Rule Rules kept: a table that refusals 1 to 4 let through is let through after every run on that wiring too, whatever the run answers
abbrev pub RunKeepsRules : Type 0
RunKeepsRules =
    (w : Wiring) (n : ℕ) (s : State) (schedule sheet : List ℕ)
    → table_check w n s.table ≡ Ok tt → table_check w n (run w n s schedule sheet).state.table ≡ Ok tt
