-- Boards that put the bus master's numbered entries in force: what each of them keeps, what was sent, and what a board makes of its line by an entry.
-- w is the wiring, n the size of the plant, s the master's table and tally before its first entry.
-- Assumes nothing.
use Rattle.std.specs.Prelude.{ℕ, suc, Bool, ◌&&◌, List, [], ◌∷◌, set, take, Option, None, Some, option_map, if◌then◌else◌, ◌==◌}
use Rattle.table.specs.Table.{status_column, status_crashed}
use Rattle.table.specs.Line.{line}
use Rattle.table.specs.Rules.{round_over}
use Rattle.table.specs.declared.wiring.Wiring.{Wiring}
use Rattle.station.specs.Outcome.{outcome_exchanged, outcome_tested_told}
use Rattle.plant.specs.Entry.{Entry, State, is_crash, acted, after, tested_of, outcome_of}
use Rattle.board.specs.Calls.{told_after, exchanged_after}

-- what a board keeps: how many entries are in force at it; its line; and, once it has made its turn with just these in force, the line that it
-- computed aside
pub record Board : Type 0 where
  pub in_force : ℕ
  pub line : List ℕ
  pub aside : Option (List ℕ)

-- a board's reply to a test: the number of the turn, the board that replies, and its row, packed
pub record Reply : Type 0 where
  pub turn : ℕ
  pub from : ℕ
  pub packed : List ℕ

-- what a tester sends at the end of its turn: the number of the turn, the tester, the outcome, and its row as it was at the test, packed, which is
-- the exchange if the outcome is 1
pub record End : Type 0 where
  pub turn : ℕ
  pub from : ℕ
  pub outcome : ℕ
  pub packed : List ℕ

-- everything: the entries that the master made, in their order; all replies and all ends that were ever sent; and the boards, by their numbers
pub record System : Type 0 where
  pub entries : List Entry
  pub replies : List Reply
  pub ends : List End
  pub boards : ℕ → Board

-- at first there is no entry, nothing was sent, and each board has its line of the master's table
unfoldable pub start : ℕ → State → System
start n s = record { entries = []; replies = []; ends = []; boards = λ k. record { in_force = 0; line = line n s.table k; aside = None } }

-- the master's table and tally after a list of entries
unfoldable pub after_all : Wiring → ℕ → State → List Entry → State
after_all w n s [] = s
after_all w n s (e ∷ es) = after_all w n (after w n s e) es

-- the master's table after the first m entries of a list
abbrev pub table_at : Wiring → ℕ → State → List Entry → ℕ → List ℕ
table_at w n s es m = (after_all w n s (take m es)).table

-- what the master's note of an entry says: the entry, the board tested, the outcome, and whether the entry closed the round
pub record Note : Type 0 where
  pub entry : Entry
  pub tested : ℕ
  pub outcome : ℕ
  pub closed : Bool

-- as its table t has it, in which the entry is made
abbrev pub note_of : Wiring → ℕ → List ℕ → Entry → Note
note_of w n t e = record { entry = e; tested = tested_of w n t e; outcome = outcome_of w n t e; closed = round_over n (acted w n t e) }

-- the row that tester i sent in the turn that follows the entries in force at the board, if that is the end that the board heard
unfoldable pub row_heard : Board → ℕ → Option End → Option (List ℕ)
row_heard b i None = None
row_heard b i (Some x) = if x.turn == suc b.in_force && x.from == i then Some x.packed else None

-- Rule In force, of a board's own entry: its status becomes 1, if it crashed; or the line computed aside becomes its line
unfoldable pub own_line : Board → Note → Option (List ℕ)
own_line b note = if is_crash note.entry then Some (set b.line status_column status_crashed) else b.aside

-- Rule In force, of board k that was tested, by its calls: board told; or board exchanged, with the row that the tester sent, which it must have
-- heard; else its line stays
unfoldable pub tested_line : Wiring → ℕ → ℕ → Board → Note → Option End → Option (List ℕ)
tested_line w n k b note heard =
    let i = note.entry.station in
    if note.outcome == outcome_tested_told then Some (told_after w n k b.line i)
    else (if note.outcome == outcome_exchanged then option_map (exchanged_after w n k b.line i) (row_heard b i heard)
    else Some b.line)

-- Rule In force, of any board k: the line that it makes by the note of its next entry, before a closing; nothing if it cannot
unfoldable pub line_by : Wiring → ℕ → ℕ → Board → Note → Option End → Option (List ℕ)
line_by w n k b note heard =
    if k == note.entry.station then own_line b note
    else (if k == note.tested then tested_line w n k b note heard
    else Some b.line)
