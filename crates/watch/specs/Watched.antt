-- The run program: what comes of its standard input, for all inputs.
-- Assumes nothing.
use Rattle.std.specs.Prelude.{ℕ, ◌*◌, List, length, take, Result, Ok, Err, if◌then◌else◌, ◌==◌}
use Rattle.std.proofs.lemmas.List.Edits.{sets}
use Rattle.table.specs.declared.wiring.Wiring.{Wiring}
use Rattle.table.specs.Fresh.{fresh_table}
use Rattle.plant.specs.declared.Ran.{Ran}
use Rattle.plant.specs.Entry.{state_of}
use Rattle.plant.specs.Run.{RunResult, run}
use Rattle.input.specs.declared.reading.Unread.{Unread}
use Rattle.input.specs.Input.{Reading, read_input}

-- what is printed: the number of an unreadable line, counted from 1, or what the run answers
pub data Said : Type 0 where
  says_unread : ℕ → Said
  says_run : Ran → Said

-- what an answer says
abbrev pub said : Result Ran Unread → Said
said (Err u) = says_unread u.line
said (Ok r) = says_run r

-- what comes of an input: what is printed, and the sheet, of which the lines of the entries taken are printed
pub record Watched : Type 0 where
  pub report : Said
  pub sheet : List ℕ

abbrev pub said_with : Said → List ℕ → Watched
said_with r sheet = record { report = r; sheet = sheet }

-- an answer, and the sheet as it is left
abbrev pub watched_with : Result Ran Unread → List ℕ → Watched
watched_with r sheet = said_with (said r) sheet

-- what a run with this outcome answers
abbrev pub run_answer : RunResult → Ran
run_answer o = record { stopped = o.stopped; taken = o.taken; tally = record { rounds = o.state.rounds; tests = o.state.tests } }

-- an outcome, with the sheet of the run as the first part of the lent one
abbrev ran_on : List ℕ → RunResult → Watched
ran_on lent o = said_with (says_run (run_answer o)) (sets lent 0 o.sheet)

-- the run of the entries on a wiring, on a fresh table with a tally of 0 and 0. It takes a part of the lent run sheet, of twice the schedule's
-- length
abbrev pub carried_out : Wiring → ℕ → List ℕ → List ℕ → Watched
carried_out wiring n schedule lent =
    ran_on lent (run wiring n (state_of (fresh_table n) 0 0) schedule (take (2 * length schedule) lent))

-- what comes of a reading: the number of the first unreadable line and nothing else, or the run
abbrev watched_of : Wiring → List ℕ → Reading → Watched
watched_of wiring lent r = if r.unread == 0 then carried_out wiring r.size r.schedule lent else said_with (says_unread r.unread) lent

-- Rule Output: the whole input on a wiring, with a lent run sheet: the program lends 16,384 zeros
unfoldable pub watched : Wiring → List ℕ → List ℕ → Watched
watched wiring lent input = watched_of wiring lent (read_input input)

-- how many bytes at the front of an input decide what comes of it
abbrev pub deciding : ℕ
deciding = 20490
