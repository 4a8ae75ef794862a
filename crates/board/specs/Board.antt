-- What one board makes of its own line, and of what other boards send. w is the wiring, n the size of the plant, i the board's own number,
-- l its line. The rules are those of a line of the table (station's Step and Rows).
-- Assumes nothing.
use Rattle.std.specs.Prelude.{ℕ, ◌+◌, Bool, ◌&&◌, List, [], set, Option, None, Some, if◌then◌else◌, ◌==◌, nat_lt, slice_index}
use Rattle.table.specs.Wiring.{end_distance}
use Rattle.table.specs.Table.{head, status_column, next_column, tests_column, rounds_ago_column, status_alone}
use Rattle.table.specs.Line.{row_of, with_row, write_bytes, is_live}
use Rattle.table.specs.declared.wiring.Wiring.{Wiring}
use Rattle.station.specs.Wired.{wired_station, next_due}
use Rattle.station.specs.Outcome.{no_station, outcome_finished, outcome_exchanged, outcome_no_reply, outcome_tested_told}
use Rattle.station.specs.Rows.{union, mark, suspects_all}
use Rattle.station.specs.Step.{told_writes, finish_writes, count_writes, outcome_by, by_outcome, aged, reset_writes}

-- byte k of the line's row
abbrev pub suspicion_of : List ℕ → ℕ → ℕ
suspicion_of l k = slice_index l (head + k)

-- Rules Next test of the cube and Next test of the ring: the distance of the next test; the end distance where there is none
unfoldable pub next_of : Wiring → ℕ → ℕ → List ℕ → ℕ
next_of w n i l = next_due w n (row_of n l) i (slice_index l next_column)

-- whether there is one
unfoldable pub tests : Wiring → ℕ → ℕ → List ℕ → Bool
tests w n i l = nat_lt (next_of w n i l) (end_distance w n)

-- the board that the next test is of, or 255
unfoldable pub tested : Wiring → ℕ → ℕ → List ℕ → ℕ
tested w n i l = if tests w n i l then wired_station w n i (next_of w n i l) else no_station

-- the same as an option
unfoldable pub next_station : Wiring → ℕ → ℕ → List ℕ → Option ℕ
next_station w n i l = if tests w n i l then Some (wired_station w n i (next_of w n i l)) else None

-- Rule End of a pass
unfoldable pub pass_finished : Wiring → ℕ → List ℕ → List ℕ
pass_finished w n l = write_bytes l (finish_writes w n)

-- Rule Count the test, at distance m and by its outcome
unfoldable pub counted : Wiring → ℕ → List ℕ → ℕ → ℕ → List ℕ
counted w n l m outcome = write_bytes l (count_writes w n m outcome (slice_index l tests_column))

-- Rules Tester told and Tested told: the board leaves because b told it
unfoldable pub left_told : List ℕ → ℕ → List ℕ
left_told l b = write_bytes l (told_writes b)

-- Rule Exchange: the row becomes its union with the other row
unfoldable pub joined : ℕ → ℕ → List ℕ → List ℕ → List ℕ
joined n i l r = with_row n l (union (row_of n l) r i)

-- Rule No reply: the board suspects j
unfoldable pub suspecting : ℕ → List ℕ → ℕ → List ℕ
suspecting n l j = with_row n l (mark (row_of n l) j)

-- Rule Alone, when: the board is live and suspects all others
unfoldable pub alone : ℕ → ℕ → List ℕ → Bool
alone n i l = is_live l && suspects_all (suspicion_of l) i n

-- Rule Alone
unfoldable pub after_alone : ℕ → ℕ → List ℕ → List ℕ
after_alone n i l = if alone n i l then set l status_column status_alone else l

-- Rule Outcomes, of a test of j: by the row that it answered, or by none in time
unfoldable pub outcome_of : ℕ → ℕ → List ℕ → Option (List ℕ) → ℕ
outcome_of i j l None = outcome_no_reply
outcome_of i j l (Some r) = outcome_by (slice_index r i == 1) (suspicion_of l j == 1)

-- the row that was answered
abbrev pub row_given : Option (List ℕ) → List ℕ
row_given None = []
row_given (Some r) = r

-- what the test of j does to the tester's line, by its outcome and the row answered
unfoldable pub after_outcome : ℕ → ℕ → ℕ → List ℕ → List ℕ → ℕ → List ℕ
after_outcome n i j l r outcome = by_outcome outcome (left_told l j) l (joined n i l r) (suspecting n l j)

-- the line after a test of the board at distance m: Count the test, what the outcome does, then Alone
unfoldable pub tested_at : Wiring → ℕ → ℕ → List ℕ → List ℕ → ℕ → ℕ → ℕ → List ℕ
tested_at w n i l r m j outcome = after_alone n i (after_outcome n i j (counted w n l m outcome) r outcome)

-- the board's turn, with what was answered to its test: the line that it leaves
unfoldable pub turn_of : Wiring → ℕ → ℕ → List ℕ → Option (List ℕ) → List ℕ
turn_of w n i l reply =
    if tests w n i l
    then (let m = next_of w n i l in
    let j = wired_station w n i m in
    tested_at w n i l (row_given reply) m j (outcome_of i j l reply))
    else pass_finished w n l

-- and its outcome
unfoldable pub outcome : Wiring → ℕ → ℕ → List ℕ → Option (List ℕ) → ℕ
outcome w n i l reply = if tests w n i l then outcome_of i (wired_station w n i (next_of w n i l)) l reply else outcome_finished

-- what a tester sends to the board that it tested, after the reply
pub data Message : Type 0 where
  nothing : Message
  told : Message
  exchange : List ℕ → Message

-- by the outcome; an exchange brings the tester's row r
unfoldable pub message : List ℕ → ℕ → Message
message r outcome =
    if outcome == outcome_tested_told then told else (if outcome == outcome_exchanged then exchange r else nothing)

abbrev pub sent : Wiring → ℕ → ℕ → List ℕ → Option (List ℕ) → Message
sent w n i l reply = message (row_of n l) (outcome w n i l reply)

-- what board j makes of its line when that comes from board i
unfoldable pub received : ℕ → ℕ → ℕ → List ℕ → Message → List ℕ
received n j i l nothing = l
received n j i l told = left_told l i
received n j i l (exchange r) = joined n j l r

-- Rules Count the rounds ago and Reset, of the board's line
unfoldable pub round_closed : List ℕ → List ℕ
round_closed l = write_bytes l (reset_writes (aged (is_live l) (slice_index l rounds_ago_column)))
