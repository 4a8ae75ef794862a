-- The calls for a group list, an assignment and a row: the refusals, the figures and the bytes that each gives, for all inputs.
-- Assumes nothing.
use Rattle.std.specs.Prelude.{ℕ, ◌*◌, ◌-◌, Bool, not, ◌&&◌, ◌||◌, List, [], ◌∷◌, length, Result, Ok, ◌==◌, nat_lt}
use Rattle.std.specs.Result.{result_unwrap_or}
use Rattle.lists.specs.Search.{select}
use Rattle.table.specs.Sizes.{is_size, dimension, distances}
use Rattle.station.specs.Groups.{station_at, is_present, group}
use Rattle.table.specs.Table.{row_start, row, live}
use Rattle.lists.specs.declared.refusal.Refusal.{Refusal}
use Rattle.lists.specs.declared.refusal.Refusal.TheVariants.{SizeOutOfRange, NotLive, NoSuchLevel}
use Rattle.lists.specs.Refusal.{Check, ensure, ◌and◌, unless_refused}
use Rattle.table.specs.Rules.{table_check, length_check, station_check}
use Rattle.table.specs.declared.wiring.Wiring.{Wiring}
use Rattle.table.specs.declared.wiring.Wiring.TheVariants.{Cube}
use Rattle.station.specs.Tests.{DueAnswer, answer_due, answer_ahead, answer, due_distances}
use Rattle.station.specs.declared.DueOrAhead.{DueOrAhead}
use Rattle.station.specs.declared.DueOrAhead.TheVariants.{Due, Ahead}

-- what the code's DueOrAhead stands for
abbrev pub answer_value : DueOrAhead → DueAnswer
answer_value Due = answer_due
answer_value (Ahead x) = answer_ahead x.0

-- refusals 9 and 12: the station's number is n or more; the level is 0 or above d
unfoldable pub range_check : ℕ → ℕ → ℕ → Check
range_check n i s = station_check n i and ensure (not (s == 0 || nat_lt (dimension n) s)) NoSuchLevel

-- Group list: refusals 1, 9, 12, 13. The answer's length is that of the group, without the absent numbers
unfoldable pub group_check : ℕ → ℕ → ℕ → ℕ → Check
group_check n i s len = ensure (is_size n) SizeOutOfRange and range_check n i s and length_check (length (group n i s)) len

-- Rules Group list and Group length: the group's members in order, a byte for each. There may be none
unfoldable pub group_after : ℕ → ℕ → ℕ → List ℕ → List ℕ
group_after n i s list = unless_refused (group_check n i s (length list)) list (group n i s)

-- Row: refusals 1 to 4, 9
unfoldable pub row_check : Wiring → ℕ → List ℕ → ℕ → Check
row_check w n t i = table_check w n t and station_check n i

-- Rule Row part: the station's row, as that very part of the lent table. A refused call gives the empty part
unfoldable pub row_part : Wiring → ℕ → List ℕ → ℕ → List ℕ
row_part w n t i = unless_refused (row_check w n t i) [] (row n t i)

-- where that part begins, counted from the table's first byte; the empty part of a refusal begins where the table does
unfoldable pub row_offset : Wiring → ℕ → List ℕ → ℕ → ℕ
row_offset w n t i = unless_refused (row_check w n t i) 0 (row_start n i)

-- Assignment: refusals 1 to 4, 9, 10, 13. 10: the station is not live. 13: the list has not two bytes for each other station
unfoldable pub assignment_check : ℕ → List ℕ → ℕ → ℕ → Check
assignment_check n t i len = table_check Cube n t and station_check n i and ensure (live n t i) NotLive and length_check (2 * (n - 1)) len

-- whether another of n stations stands at distance m from i
abbrev pub is_other : ℕ → ℕ → ℕ → Bool
is_other n i m = nat_lt 0 m && is_present n (station_at i m)

-- the distances of the other stations, ascending
unfoldable pub other_distances : ℕ → ℕ → List ℕ
other_distances n i = select (is_other n i) (distances n)

-- the second byte of an entry: 255 if the distance is due, else who is ahead
abbrev pub answer_byte : DueAnswer → ℕ
answer_byte answer_due = 255
answer_byte (answer_ahead x) = x

-- Rule Assignment entries: two bytes for each of these distances, the distance, and 255 if it is due or else who is ahead
unfoldable pub assignment_entries : List ℕ → ℕ → List ℕ → List ℕ
assignment_entries r i [] = []
assignment_entries r i (m ∷ ms) = m ∷ answer_byte (answer r i m) ∷ assignment_entries r i ms

-- Rule Assignment: the n − 1 entries of the other stations, by ascending distance. They fill the list (`NothingLeftOver`)
unfoldable pub assignment_after : ℕ → List ℕ → ℕ → List ℕ → List ℕ
assignment_after n t i list =
    unless_refused (assignment_check n t i (length list)) list (assignment_entries (row n t i) i (other_distances n i))

-- Rule Assignment entries: the call answers how many distances are due
unfoldable pub assignment_answer : ℕ → List ℕ → ℕ → ℕ → Result ℕ Refusal
assignment_answer n t i len = assignment_check n t i len and Ok (length (due_distances (row n t i) i n))

-- that count, 0 for a refused call
abbrev pub assignment_count : ℕ → List ℕ → ℕ → ℕ → ℕ
assignment_count n t i len = result_unwrap_or (assignment_answer n t i len) 0
