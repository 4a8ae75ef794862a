-- Why a board's own line suspects a live board, and why a board left because it was told: an entry without a reply.
-- Assumes nothing.
use Rattle.std.specs.Prelude.{Ok, ◌≡◌, ℕ, ◌<◌, true, List, take, Some, slice_get, slice_index}
use Rattle.table.specs.Table.{status_column, status_told, live}
use Rattle.table.specs.Line.{is_live}
use Rattle.table.specs.Properties.{none_suspected}
use Rattle.table.specs.Rules.{table_check}
use Rattle.table.specs.declared.wiring.Wiring.{Wiring}
use Rattle.plant.specs.Turn.{kind_late}
use Rattle.plant.specs.Entry.{Entry, State, tested_of}
use Rattle.board.specs.Board.{suspicion_of}
use Rattle.in_step.specs.System.{System, start, after_all, table_at}
use Rattle.in_step.specs.Happenings.{Happening, after_happenings}

-- the entries in force at board k
abbrev pub entries_at : System → ℕ → List Entry
entries_at y k = take (y.boards k).in_force y.entries

-- one of the entries is a turn that tested board j, which was live then, and got no reply of it
pub record NoReplyOf (w : Wiring) (n : ℕ) (s : State) (es : List Entry) (j : ℕ) : Type 0 where
  pub number : ℕ
  pub entry : Entry
  pub stands : slice_get es number ≡ Some entry
  pub kind : entry.kind ≡ kind_late
  pub tested : tested_of w n (table_at w n s es number) entry ≡ j
  pub was_live : live n (table_at w n s es number) j ≡ true

pub record HaveCauses (w : Wiring) (n : ℕ) (s : State) (y : System) : Type 0 where
  -- a live board's own line suspects board j, which is live after the entries in force at that board: one of these got no reply of j
  pub suspected : (i j : ℕ) → i < n → j < n → is_live (y.boards i).line ≡ true → live n (after_all w n s (entries_at y i)).table j ≡ true
      → suspicion_of (y.boards i).line j ≡ 1 → NoReplyOf w n s (entries_at y i) j
  -- a board's own line says that it left because it was told: one of the entries in force at it got no reply of it
  pub told : (i : ℕ) → i < n → live n s.table i ≡ true → slice_index (y.boards i).line status_column ≡ status_told
      → NoReplyOf w n s (entries_at y i) i

-- Rule Causes in step: so it is, whatever happens, from a table in which no live board suspects a live one
abbrev pub CausesInStep : Type 0
CausesInStep =
    (w : Wiring) (n : ℕ) (s : State) (hs : List Happening) → table_check w n s.table ≡ Ok tt → none_suspected n s.table ≡ true
    → HaveCauses w n s (after_happenings w n s (start n s) hs)
