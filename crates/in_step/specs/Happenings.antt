-- What may happen on a cable that loses, doubles and delays frames. A frame that is lost never comes, one that is doubled comes twice, and one that
-- is late comes after others: so each frame that was sent may come at any time after that, to any board, as often as may be.
-- Assumes nothing.
use Rattle.std.specs.Prelude.{ℕ, suc, ◌&&◌, List, [], ◌∷◌, ◌++◌, length, Option, None, Some, Result, Ok, Err, is_none, slice_get}
use Rattle.std.specs.Prelude.{if◌then◌else◌, ◌==◌, nat_lt}
use Rattle.table.specs.Table.{live}
use Rattle.table.specs.Line.{is_live}
use Rattle.station.specs.Outcome.{outcome_no_reply}
use Rattle.plant.specs.Turn.{kind_turn, kind_late, kind_crash, turn_tested}
use Rattle.plant.specs.Entry.{Entry, State, entry_of, entry_check}
use Rattle.board.specs.Calls.{next_answer, closed_after}
use Rattle.cable.specs.Boards.{row_from, named, tester_after, tester_answer}
use Rattle.lists.specs.declared.refusal.Refusal.{Refusal}
use Rattle.table.specs.declared.wiring.Wiring.{Wiring}
use Rattle.in_step.specs.System.{Board, Reply, End, System, after_all, table_at, Note, note_of, line_by}
use Rattle.lists.specs.Refusal.{unless_refused}

-- the system with board k become b
abbrev pub with_board : System → ℕ → Board → System
with_board y k b = record y { boards = λ i. if i == k then b else y.boards i }

-- Rules Answers in step and Silent: board j replies to a test of the turn that follows the entries in force at it, if it is live: with its row, by
-- call board row. Nothing else changes
unfoldable pub reply_sent : Wiring → ℕ → System → ℕ → ℕ → System
reply_sent w n y j turn =
    let b = y.boards j in
    if nat_lt j n && is_live b.line && turn == suc b.in_force
    then record y { replies = (record { turn = turn; from = j; packed = row_from w n j b.line }) ∷ y.replies } else y

-- by what its call answered: board i keeps aside the line that the call left, and sends how its turn ended. A call that is refused does nothing
unfoldable pub turn_ended : Wiring → ℕ → System → ℕ → List ℕ → Result ℕ Refusal → System
turn_ended w n y i mine (Err r) = y
turn_ended w n y i mine (Ok outcome) =
    let b = y.boards i in
    let x : End = record { turn = suc b.in_force; from = i; outcome = outcome; packed = row_from w n i b.line } in
    with_board (record y { ends = x ∷ y.ends }) i (record b { aside = Some mine })

-- Rule Aside: on a copy of its line board i makes call Board, replied, or Board, not replied. It does so once: not again until the next entry is in
-- force at it. That it was granted the turn is not asked: the master takes one end of a turn only
unfoldable pub turn_made : Wiring → ℕ → System → ℕ → Option (List ℕ) → System
turn_made w n y i reply =
    let l = (y.boards i).line in
    if is_none (y.boards i).aside then turn_ended w n y i (tester_after w n i l reply) (tester_answer w n i l reply) else y

-- Rule Aside: a reply is taken if it is one to the test of this turn, from the board that call Board, next names. Any other is thrown away
unfoldable pub reply_heard : Wiring → ℕ → System → ℕ → Option Reply → System
reply_heard w n y i None = y
reply_heard w n y i (Some r) =
    let b = y.boards i in
    if r.turn == suc b.in_force && r.from == named (next_answer w n i b.line) then turn_made w n y i (Some r.packed) else y

-- Rule Entered: the master makes an entry, if a run would take it
unfoldable pub entry_made : Wiring → ℕ → State → System → Entry → System
entry_made w n s y e =
    unless_refused (entry_check n (after_all w n s y.entries) e) y (record y { entries = y.entries ++ (e ∷ []) })

-- Rules Entered and Kinds: it makes a turn one whose reply came late, if the tester got none though the board tested is live in the master's table t
abbrev pub entry_by : Wiring → ℕ → List ℕ → End → Entry
entry_by w n t x = entry_of (if x.outcome == outcome_no_reply && live n t (turn_tested w n t x.from) then kind_late else kind_turn) x.from

-- Rule Entered: it takes an end of the turn that follows its entries, and no other
unfoldable pub end_heard : Wiring → ℕ → State → System → Option End → System
end_heard w n s y None = y
end_heard w n s y (Some x) =
    if x.turn == suc (length y.entries) then entry_made w n s y (entry_by w n (after_all w n s y.entries).table x) else y

-- the entry of the note is in force at board k, with the line that it made of it, closed by call Board, round closed if the entry closed the round;
-- and the turn that the board made, if any, is over. If it could make no line, nothing is done
unfoldable pub put_in_force : Wiring → ℕ → System → ℕ → Note → Option (List ℕ) → System
put_in_force w n y k note None = y
put_in_force w n y k note (Some l) =
    let b = y.boards k in
    with_board y k (record { in_force = suc b.in_force; line = if note.closed then closed_after w n k l else l; aside = None })

-- the note of the entry at place m of the list, where m entries stand before it, is taken if m are in force at the board. Any other does nothing
unfoldable pub note_heard : Wiring → ℕ → State → System → ℕ → ℕ → Option Entry → Option End → System
note_heard w n s y k m None heard = y
note_heard w n s y k m (Some e) heard =
    let b = y.boards k in
    let note : Note = note_of w n (table_at w n s y.entries m) e in
    if m == b.in_force then put_in_force w n y k note (line_by w n k b note heard) else y

-- what may happen
pub data Happening : Type 0 where
  -- a test of a turn comes to board j: the board, and the number of the turn
  test_comes : ℕ → ℕ → Happening
  -- a reply comes to board i: the board, and which of the replies that were sent
  reply_comes : ℕ → ℕ → Happening
  -- board i has waited for its reply, and none came; or it has no test to make
  none_comes : ℕ → Happening
  -- an end comes to the master: which of those that were sent
  end_comes : ℕ → Happening
  -- the master holds board i for crashed
  crash_found : ℕ → Happening
  -- the note of an entry comes to board k: the board, how many entries stand before it, and which of the ends that were sent k has heard
  note_comes : ℕ → ℕ → ℕ → Happening

abbrev pub after_happening : Wiring → ℕ → State → System → Happening → System
after_happening w n s y (test_comes j turn) = reply_sent w n y j turn
after_happening w n s y (reply_comes i x) = reply_heard w n y i (slice_get y.replies x)
after_happening w n s y (none_comes i) = turn_made w n y i None
after_happening w n s y (end_comes x) = end_heard w n s y (slice_get y.ends x)
after_happening w n s y (crash_found i) = entry_made w n s y (entry_of kind_crash i)
after_happening w n s y (note_comes k m x) = note_heard w n s y k m (slice_get y.entries m) (slice_get y.ends x)

-- and all of a list, one after the other
unfoldable pub after_happenings : Wiring → ℕ → State → System → List Happening → System
after_happenings w n s y [] = y
after_happenings w n s y (h ∷ hs) = after_happenings w n s (after_happening w n s y h) hs
