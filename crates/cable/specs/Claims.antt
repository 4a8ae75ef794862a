-- What boards, each with its own line, do together, by their lines: a turn, a closing, and the rows that they send.
-- Assumes nothing.
use Rattle.std.specs.Prelude.{◌≡◌, ◌≢◌, ℕ, ◌<◌, List, length, Option, None, Some, Ok, if◌then◌else◌}
use Rattle.table.specs.Table.{stride, table_length, row}
use Rattle.table.specs.Line.{line, row_of, set_line}
use Rattle.table.specs.Rules.{table_check}
use Rattle.table.specs.Fresh.{fresh_table}
use Rattle.table.specs.declared.wiring.Wiring.{Wiring}
use Rattle.station.specs.Rows.{union}
use Rattle.plant.specs.Turn.{replies, turn, turn_tested, turn_outcome}
use Rattle.plant.specs.Round.{reset_lines}
use Rattle.board.specs.Board.{tests, tested, turn_of, outcome, sent, received, round_closed}
use Rattle.board.specs.Board.Message.{exchange}
use Rattle.board.specs.Packed.{pack, heard}
use Rattle.board.specs.Calls.{place_check, line_check, fresh_after}

-- what station j answers to a test: its row, if it is live and the reply comes in time
unfoldable pub answered : ℕ → List ℕ → ℕ → ℕ → Option (List ℕ)
answered n t kind j = if replies n t kind j then Some (row n t j) else None

-- what is answered in the turn of station i
abbrev pub reply_to : Wiring → ℕ → List ℕ → ℕ → ℕ → Option (List ℕ)
reply_to w n t kind i = answered n t kind (tested w n i (line n t i))

-- Rule Board's turn: the turn of station i tests the station that board i finds by its line, and has the outcome that it finds by its line and the
-- reply; line i becomes what board i makes of it; the line of the station tested becomes what that board makes of it and of what i sends; no other
-- line changes
pub record SameTurn (w : Wiring) (n : ℕ) (t : List ℕ) (kind i : ℕ) : Type 0 where
  pub tested_station : turn_tested w n t i ≡ tested w n i (line n t i)
  pub outcome_number : turn_outcome w n t kind i ≡ outcome w n i (line n t i) (reply_to w n t kind i)
  pub tester : line n (turn w n t kind i) i ≡ turn_of w n i (line n t i) (reply_to w n t kind i)
  pub tested_line : (j : ℕ) → j < n → j ≡ turn_tested w n t i
      → line n (turn w n t kind i) j ≡ received n j i (line n t j) (sent w n i (line n t i) (reply_to w n t kind i))
  pub others : (k : ℕ) → k < n → k ≢ i → k ≢ turn_tested w n t i → line n (turn w n t kind i) k ≡ line n t k

-- on every table that refusals 1 to 4 let through, for every station and every kind
abbrev pub BoardsDoTheTurn : Type 0
BoardsDoTheTurn = (w : Wiring) (n : ℕ) (t : List ℕ) (kind i : ℕ) → table_check w n t ≡ Ok tt → i < n → SameTurn w n t kind i

-- the same as one equation: the lines of the tester and of the station tested are written, each as its board makes it
unfoldable pub turn_by_lines : Wiring → ℕ → List ℕ → ℕ → ℕ → List ℕ
turn_by_lines w n t kind i =
    let l = line n t i in
    let j = tested w n i l in
    let reply = reply_to w n t kind i in
    let mine = set_line n t i (turn_of w n i l reply) in
    if tests w n i l then set_line n mine j (received n j i (line n t j) (sent w n i l reply)) else mine

abbrev pub TurnIsByLines : Type 0
TurnIsByLines =
    (w : Wiring) (n : ℕ) (t : List ℕ) (kind i : ℕ) → table_check w n t ≡ Ok tt → i < n → turn w n t kind i ≡ turn_by_lines w n t kind i

-- Rule Board's closing: each line of the closed table is what its board makes of it
abbrev pub BoardsCloseTheRound : Type 0
BoardsCloseTheRound =
    (n : ℕ) (t : List ℕ) → length t ≡ table_length n → (k : ℕ) → k < n → line n (reset_lines n t) k ≡ round_closed (line n t k)

-- Rule Either row serves: the board tested makes the same of its line l of the tester's row after joining as of that before
abbrev pub EitherRowServes : Type 0
EitherRowServes =
    (n i j : ℕ) (l mine : List ℕ) → length l ≡ stride n → length mine ≡ n
    → received n j i l (exchange (union mine (row_of n l) i)) ≡ received n j i l (exchange mine)

-- Rule Rows travel: the row of a station, packed and heard, is that row
abbrev pub RowsTravel : Type 0
RowsTravel = (w : Wiring) (n : ℕ) (t : List ℕ) (i : ℕ) → table_check w n t ≡ Ok tt → i < n → heard n i (pack n (row n t i)) ≡ row n t i

-- Rule Lines of tables: the calls of its board let each line through
abbrev pub LinesOfTables : Type 0
LinesOfTables = (w : Wiring) (n : ℕ) (t : List ℕ) (i : ℕ) → table_check w n t ≡ Ok tt → i < n → line_check w n i (line n t i) ≡ Ok tt

-- Rule Fresh boards: the line that call Board, fresh leaves, where it is not refused, is that line of the fresh table
abbrev pub FreshBoards : Type 0
FreshBoards = (n i : ℕ) (l : List ℕ) → place_check n i (length l) ≡ Ok tt → fresh_after n i l ≡ line n (fresh_table n) i
