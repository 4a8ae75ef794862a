-- That boards which put the master's entries in force, each when it hears of it, hold the lines of the master's table.
-- Assumes nothing.
use Rattle.std.specs.Prelude.{Ok, ◌≡◌, ℕ, suc, ◌*◌, ◌≤◌, ◌<◌, List, [], ◌∷◌, length, take, Some, None, slice_get}
use Rattle.table.specs.Line.{line}
use Rattle.table.specs.Rules.{table_check}
use Rattle.table.specs.declared.wiring.Wiring.{Wiring}
use Rattle.plant.specs.Entry.{Entry, State, entry_check, outcome_of}
use Rattle.plant.specs.Run.{run}
use Rattle.in_step.specs.System.{End, System, start, after_all, table_at}
use Rattle.in_step.specs.Happenings.{entry_by, Happening, after_happenings}

-- a schedule of the entries
abbrev pub schedule_of : List Entry → List ℕ
schedule_of [] = []
schedule_of (e ∷ es) = e.kind ∷ e.station ∷ schedule_of es

-- a run of the entries, with a run sheet of the length that it asks for, takes each of them, and leaves the table and the tally of the master
pub record IsRun (w : Wiring) (n : ℕ) (s : State) (es : List Entry) (sheet : List ℕ) : Type 0 where
  pub stopped : (run w n s (schedule_of es) sheet).stopped ≡ None
  pub taken : (run w n s (schedule_of es) sheet).taken ≡ length es
  pub state : (run w n s (schedule_of es) sheet).state ≡ after_all w n s es

pub record InStep (w : Wiring) (n : ℕ) (s : State) (y : System) : Type 0 where
  -- the line of each board is that of the master's table after the entries that are in force at the board, which the master has made
  pub made : (k : ℕ) → k < n → (y.boards k).in_force ≤ length y.entries
  pub lines : (k : ℕ) → k < n → (y.boards k).line ≡ line n (table_at w n s y.entries (y.boards k).in_force) k
  -- these are tables of a run: so what is proved of the tables of runs holds of the boards' lines
  pub runs : (m : ℕ) (sheet : List ℕ) → m ≤ length y.entries → length sheet ≡ 4 * m → IsRun w n s (take m y.entries) sheet
  -- an end that the master makes an entry of says the outcome that the entry has in its table
  pub outcomes : (x : ℕ) (d : End) → slice_get y.ends x ≡ Some d → d.turn ≡ suc (length y.entries)
      → (let now = after_all w n s y.entries in
      entry_check n now (entry_by w n now.table d) ≡ Ok tt → outcome_of w n now.table (entry_by w n now.table d) ≡ d.outcome)

-- Rule Boards in step: so it is, whatever happens, from a table that refusals 1 to 4 let through
abbrev pub BoardsInStep : Type 0
BoardsInStep =
    (w : Wiring) (n : ℕ) (s : State) (hs : List Happening) → table_check w n s.table ≡ Ok tt
    → InStep w n s (after_happenings w n s (start n s) hs)
