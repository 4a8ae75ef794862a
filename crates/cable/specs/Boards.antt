-- n boards on one cable, each with its own line and nothing else: what an entry, and a list of entries, makes of their lines by the boards' calls
-- alone, and what these calls answer. w is the wiring, b k the line that board k holds, i the entry's board, kind its kind.
-- Assumes nothing.
use Rattle.std.specs.Prelude.{◌≡◌, ℕ, suc, ◌/◌, ◌%◌, ◌<◌, Bool, false, not, ◌&&◌, ◌||◌, List, [], ◌∷◌, set, replicate, take, Option, None, Some}
use Rattle.std.specs.Prelude.{true, Result, Ok, Err, if◌then◌else◌, ◌==◌, slice_index}
use Rattle.std.specs.Result.{result_unwrap_or}
use Rattle.lists.specs.declared.refusal.Refusal.{Refusal}
use Rattle.lists.specs.Search.{every, list_of}
use Rattle.table.specs.Table.{stride, table_length, status_column, finished_column, status_crashed, status, live}
use Rattle.table.specs.Line.{line, is_live}
use Rattle.table.specs.Rules.{table_check}
use Rattle.table.specs.declared.wiring.Wiring.{Wiring}
use Rattle.station.specs.Outcome.{no_station, outcome_exchanged, outcome_crash, outcome_tested_told}
use Rattle.plant.specs.Turn.{kind_turn}
use Rattle.plant.specs.Entry.{Entry, State, is_crash}
use Rattle.plant.specs.Run.{RunResult, entries, write_line, run}
use Rattle.board.specs.Packed.{packed_length}
use Rattle.board.specs.Calls.{line_check, next_answer, row_sent, replied_answer, replied_after, not_replied_answer, not_replied_after, told_after}
use Rattle.board.specs.Calls.{exchanged_after, closed_after}

-- the lines that the boards hold
abbrev pub Lines : Type 0
Lines = ℕ → List ℕ

-- the row that board k sends, packed, as its call writes it into a buffer of just its length
abbrev pub row_from : Wiring → ℕ → ℕ → List ℕ → List ℕ
row_from w n k l = row_sent w n k l (replicate (packed_length n) 0)

-- Rule Board's turn: whom the board tests, as its call Board, next answers; 255 for nobody
abbrev pub named : Result (Option ℕ) Refusal → ℕ
named (Ok (Some j)) = j
named (Ok None) = no_station
named (Err r) = no_station

-- Rules Board's turn and Silent: what comes back in time: the row of the board named, if there is one, it is live, and the kind is 1
unfoldable pub reply_from : Wiring → ℕ → Lines → ℕ → Result (Option ℕ) Refusal → Option (List ℕ)
reply_from w n b kind (Ok (Some j)) = if is_live (b j) && kind == kind_turn then Some (row_from w n j (b j)) else None
reply_from w n b kind (Ok None) = None
reply_from w n b kind (Err r) = None

abbrev pub tested_by : Wiring → ℕ → Lines → ℕ → ℕ
tested_by w n b i = named (next_answer w n i (b i))

abbrev pub reply_to_test : Wiring → ℕ → Lines → ℕ → ℕ → Option (List ℕ)
reply_to_test w n b kind i = reply_from w n b kind (next_answer w n i (b i))

-- the tester's call, board replied or board not replied: what it leaves and what it answers
abbrev pub tester_after : Wiring → ℕ → ℕ → List ℕ → Option (List ℕ) → List ℕ
tester_after w n i l None = not_replied_after w n i l
tester_after w n i l (Some packed) = replied_after w n i l packed

abbrev pub tester_answer : Wiring → ℕ → ℕ → List ℕ → Option (List ℕ) → Result ℕ Refusal
tester_answer w n i l None = not_replied_answer w n i l
tester_answer w n i l (Some packed) = replied_answer w n i l packed

-- what board k, tested by board i, makes of its line l by what i's call answers: it is told, or it gets the row of `mine`, the line that i's call
-- left, or nothing
unfoldable pub after_sending : Wiring → ℕ → ℕ → ℕ → List ℕ → List ℕ → Result ℕ Refusal → List ℕ
after_sending w n i k l mine (Ok outcome) =
    if outcome == outcome_tested_told then told_after w n k l i
    else (if outcome == outcome_exchanged then exchanged_after w n k l i (row_from w n i mine) else l)
after_sending w n i k l mine (Err r) = l

-- Rule Board's turn: the lines after a turn of board i
unfoldable pub after_turn : Wiring → ℕ → Lines → ℕ → ℕ → Lines
after_turn w n b kind i k =
    let reply = reply_to_test w n b kind i in
    let mine = tester_after w n i (b i) reply in
    if k == i then mine
    else (if k == tested_by w n b i then after_sending w n i k (b k) mine (tester_answer w n i (b i) reply) else b k)

-- Rule Own crash: a board that crashes is silent from then on
unfoldable pub after_crash : Lines → ℕ → Lines
after_crash b i k = if k == i then set (b k) status_column status_crashed else b k

unfoldable pub after_act : Wiring → ℕ → Lines → Entry → Lines
after_act w n b e = if is_crash e then after_crash b e.station else after_turn w n b e.kind e.station

-- Rule Board's closing: what the bus master knows: some board is live, and every live one has finished its pass
unfoldable pub all_finished : ℕ → Lines → Bool
all_finished n b =
    not (every (λ k. not (is_live (b k))) n) && every (λ k. not (is_live (b k)) || slice_index (b k) finished_column == 1) n

-- and the closing, of which all boards are told
unfoldable pub after_closing : Wiring → ℕ → Lines → Lines
after_closing w n b = if all_finished n b then (λ k. closed_after w n k (b k)) else b

-- the lines after an entry, and after each of a list
unfoldable pub after_entry : Wiring → ℕ → Lines → Entry → Lines
after_entry w n b e = after_closing w n (after_act w n b e)

unfoldable pub after_entries : Wiring → ℕ → Lines → List Entry → Lines
after_entries w n b [] = b
after_entries w n b (e ∷ es) = after_entries w n (after_entry w n b e) es

-- the line of the run sheet, by what the calls answered: the entry's board, whom it tested, its outcome (255 if its call was refused, which no
-- outcome is), and its status afterwards
unfoldable pub entry_line : Wiring → ℕ → Lines → Entry → List ℕ
entry_line w n b e =
    let i = e.station in
    i
    ∷ (if is_crash e then no_station else tested_by w n b i)
    ∷ (if is_crash e then outcome_crash else result_unwrap_or (tester_answer w n i (b i) (reply_to_test w n b e.kind i)) 255)
    ∷ slice_index (after_entry w n b e i) status_column ∷ []

-- the sheet with the lines of the entries, from the kth on
unfoldable pub sheet_after : Wiring → ℕ → ℕ → Lines → List ℕ → List Entry → List ℕ
sheet_after w n k b sheet [] = sheet
sheet_after w n k b sheet (e ∷ es) = sheet_after w n (suc k) (after_entry w n b e) (write_line sheet k (entry_line w n b e)) es

-- the boards hold what the table has: each live board its line, and every board its status
pub record Hold (n : ℕ) (t : List ℕ) (b : Lines) : Type 0 where
  pub statuses : (k : ℕ) → k < n → slice_index (b k) status_column ≡ status n t k
  pub live_lines : (k : ℕ) → k < n → live n t k ≡ true → b k ≡ line n t k

-- boards that hold the lines of a table do
abbrev pub LinesAreHeld : Type 0
LinesAreHeld = (n : ℕ) (t : List ℕ) → Hold n t (line n t)

-- Rule Boards do the run: boards that hold what the table has do so after as many entries as the run took, and its sheet shows what they answered
pub record SameRun (w : Wiring) (n : ℕ) (b : Lines) (schedule sheet : List ℕ) (o : RunResult) : Type 0 where
  pub held : Hold n o.state.table (after_entries w n b (take o.taken (entries schedule)))
  pub sheet_lines : o.sheet ≡ sheet_after w n 0 b sheet (take o.taken (entries schedule))

-- so it is on both wirings, of every run, whatever it answers
abbrev pub BoardsDoTheRun : Type 0
BoardsDoTheRun =
    (w : Wiring) (n : ℕ) (s : State) (b : Lines) (schedule sheet : List ℕ) → Hold n s.table b
    → SameRun w n b schedule sheet (run w n s schedule sheet)

-- the table of n boards: their lines, one behind the other
unfoldable pub table_of : ℕ → Lines → List ℕ
table_of n b = list_of (λ p. slice_index (b (p / stride n)) (p % stride n)) (table_length n)

-- Rule Boards make a table: where the calls of each board let its line through, and the round is not over, refusals 1 to 4 let this table
-- through, and the boards hold what it has
abbrev pub BoardsMakeATable : Type 0
BoardsMakeATable =
    (w : Wiring) (n : ℕ) (b : Lines) → 0 < n → ((k : ℕ) → k < n → line_check w n k (b k) ≡ Ok tt) → all_finished n b ≡ false
    → (table_check w n (table_of n b) ≡ Ok tt) × Hold n (table_of n b) b
