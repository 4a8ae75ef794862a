-- A turn of one station and a crash, as functions of the table. w is the wiring, station i the entry's, kind its kind, j the tested
-- station.
-- Assumes nothing.
use Rattle.std.specs.Prelude.{ℕ, Bool, ◌&&◌, List, if◌then◌else◌, ◌==◌, nat_lt}
use Rattle.lists.specs.Search.{every}
use Rattle.table.specs.Wiring.{end_distance}
use Rattle.table.specs.Table.{write_cells, set_cell, status_column, next_distance, tests_made, suspects, live, row, set_row, status_alone}
use Rattle.table.specs.Table.{status_crashed}
use Rattle.table.specs.declared.wiring.Wiring.{Wiring}
use Rattle.station.specs.Wired.{wired_station, next_due}
use Rattle.station.specs.Outcome.{outcome_finished, outcome_no_reply, no_station}
use Rattle.station.specs.Step.{told_writes, finish_writes, count_writes, outcome_by, by_outcome}
use Rattle.station.specs.Rows.{union, mark, self_or_suspected_by}

-- Rule Kinds: 1 turn, 2 turn whose reply comes late, 3 crash
abbrev pub kind_turn : ℕ
kind_turn = 1

abbrev pub kind_late : ℕ
kind_late = 2

abbrev pub kind_crash : ℕ
kind_crash = 3

-- the station leaves with status s
abbrev pub set_status : ℕ → List ℕ → ℕ → ℕ → List ℕ
set_status n t i s = set_cell n t i status_column s

-- Rules Tester told and Tested told: station a leaves because told by b. Its status becomes 2, and its byte 4 names b
unfoldable pub leave_told : ℕ → List ℕ → ℕ → ℕ → List ℕ
leave_told n t a b = write_cells n a t (told_writes b)

-- Rules Next test of the cube and Next test of the ring: the least distance that is not below i's next distance and at which i is to test. On the
-- ring that is the next distance itself. Where there is none: the end distance
unfoldable pub next_test : Wiring → ℕ → List ℕ → ℕ → ℕ
next_test w n t i = next_due w n (row n t i) i (next_distance n t i)

-- whether there is one
unfoldable pub makes_test : Wiring → ℕ → List ℕ → ℕ → Bool
makes_test w n t i = nat_lt (next_test w n t i) (end_distance w n)

-- Rule End of a pass: next distance becomes the end distance, and the pass is finished. No test is made
unfoldable pub finish_pass : Wiring → ℕ → List ℕ → ℕ → List ℕ
finish_pass w n t i = write_cells n i t (finish_writes w n)

-- Rule Count the test, by its outcome: next distance becomes what the wiring says, and i's tests made go up by one. The tally's tests grow in
-- `after`
unfoldable pub count_test : Wiring → ℕ → List ℕ → ℕ → ℕ → ℕ → List ℕ
count_test w n t i m outcome = write_cells n i t (count_writes w n m outcome (tests_made n t i))

-- Rule Reply in time: j is live, and the kind is 1
unfoldable pub replies : ℕ → List ℕ → ℕ → ℕ → Bool
replies n t kind j = live n t j && kind == kind_turn

-- station a is told by b: b suspects a
unfoldable pub is_told : ℕ → List ℕ → ℕ → ℕ → Bool
is_told n t a b = suspects n t b a == 1

-- Rule Exchange: both rows become the union of the two, but no row changes in the byte about its own station
unfoldable pub exchange_rows : ℕ → List ℕ → ℕ → ℕ → List ℕ
exchange_rows n t i j = set_row n (set_row n t i (union (row n t i) (row n t j) i)) j (union (row n t j) (row n t i) j)

-- Rule No reply: i suspects j
unfoldable pub suspect : ℕ → List ℕ → ℕ → ℕ → List ℕ
suspect n t i j = set_row n t i (mark (row n t i) j)

-- Rule Outcomes, where j replies: Tester told if j suspects i; else Tested told if i suspects j; else Exchange
unfoldable pub reply_outcome : ℕ → List ℕ → ℕ → ℕ → ℕ
reply_outcome n t i j = outcome_by (is_told n t i j) (is_told n t j i)

-- Rule Outcomes, of the test of j: as above if j replies in time, else No reply
unfoldable pub test_outcome : ℕ → List ℕ → ℕ → ℕ → ℕ → ℕ
test_outcome n t kind i j = if replies n t kind j then reply_outcome n t i j else outcome_no_reply

-- what the test of j does to the table, by its outcome: i leaves; or j leaves; or both rows become the union; or, without a reply, i suspects j
unfoldable pub after_outcome : ℕ → List ℕ → ℕ → ℕ → ℕ → List ℕ
after_outcome n t i j outcome =
    by_outcome outcome (leave_told n t i j) (leave_told n t j i) (exchange_rows n t i j) (suspect n t i j)

-- Rule Alone, of one station k: i suspects it, or it is i itself
unfoldable pub self_or_suspected : ℕ → List ℕ → ℕ → ℕ → Bool
self_or_suspected n t i k = self_or_suspected_by (suspects n t i) i k

-- Rule Alone, when: i is still live and suspects all others, live or not
unfoldable pub is_alone : ℕ → List ℕ → ℕ → Bool
is_alone n t i = live n t i && every (self_or_suspected n t i) n

-- Rule Alone: then i leaves, with status 3. Byte 4 stays 255, which a live line has by the line rules
unfoldable pub after_alone : ℕ → List ℕ → ℕ → List ℕ
after_alone n t i = if is_alone n t i then set_status n t i status_alone else t

-- the table after a test of j at distance m, by its outcome: Count the test, what the outcome does, then Alone
unfoldable pub after_test : Wiring → ℕ → List ℕ → ℕ → ℕ → ℕ → ℕ → List ℕ
after_test w n t i m j outcome = after_alone n (after_outcome n (count_test w n t i m outcome) i j outcome) i

-- the outcome of the test of the station at distance m
abbrev pub outcome_at : Wiring → ℕ → List ℕ → ℕ → ℕ → ℕ → ℕ
outcome_at w n t kind i m = test_outcome n t kind i (wired_station w n i m)

-- a turn that tests the station at distance m
unfoldable pub testing : Wiring → ℕ → List ℕ → ℕ → ℕ → ℕ → List ℕ
testing w n t kind i m = after_test w n t i m (wired_station w n i m) (outcome_at w n t kind i m)

-- a turn of station i: the next test, or the end of its pass
unfoldable pub turn : Wiring → ℕ → List ℕ → ℕ → ℕ → List ℕ
turn w n t kind i = if makes_test w n t i then testing w n t kind i (next_test w n t i) else finish_pass w n t i

-- the tested station or 255
unfoldable pub turn_tested : Wiring → ℕ → List ℕ → ℕ → ℕ
turn_tested w n t i = if makes_test w n t i then wired_station w n i (next_test w n t i) else no_station

-- the outcome of the turn
unfoldable pub turn_outcome : Wiring → ℕ → List ℕ → ℕ → ℕ → ℕ
turn_outcome w n t kind i = if makes_test w n t i then outcome_at w n t kind i (next_test w n t i) else outcome_finished

-- Rule Crash: the status becomes 1, and nothing else on the line changes. Byte 4 stays 255, which a live line has by the line rules
unfoldable pub crash : ℕ → List ℕ → ℕ → List ℕ
crash n t i = set_status n t i status_crashed
