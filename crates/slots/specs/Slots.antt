-- What the commissioning sheet says of a board, by its row: which tests it makes in a round, who stands ahead at the others, how many tests these
-- are, and the most that one more dead board can make of them. By this last number its slot on the cable is timed.
-- Assumes nothing.
use Rattle.std.specs.Prelude.{ℕ, Bool, not, ◌&&◌, List, map, length, if◌then◌else◌, ◌==◌}
use Rattle.lists.specs.Search.{select, greatest}
use Rattle.station.specs.Groups.{station_at}
use Rattle.table.specs.Sizes.{distances}
use Rattle.station.specs.Tests.{answer, due, due_distances}
use Rattle.station.specs.Rows.{mark}
use Rattle.station.specs.Calls.{is_other, answer_byte}

-- Rule Tested: the stations at the distances that are due for i of n stations, by its row r of n bytes, in ascending order of distance
unfoldable pub tested : ℕ → List ℕ → ℕ → List ℕ
tested n r i = map (station_at i) (due_distances r i n)

-- whether another station stands at distance m and the distance is not due
abbrev pub is_untested : List ℕ → ℕ → ℕ → Bool
is_untested r i m = is_other (length r) i m && not (due r i m)

unfoldable pub untested_distances : ℕ → List ℕ → ℕ → List ℕ
untested_distances n r i = select (is_untested r i) (distances n)

-- Rule Untested: all stations but i that i does not test, by its row r of n bytes, in ascending order of distance
unfoldable pub untested : ℕ → List ℕ → ℕ → List ℕ
untested n r i = map (station_at i) (untested_distances n r i)

-- Rule Untested: who is ahead, for each of those. Only a row that suspects its own station i, which refusal 3 turns away, can have i itself here
unfoldable pub ahead : ℕ → List ℕ → ℕ → List ℕ
ahead n r i = map (λ m. answer_byte (answer r i m)) (untested_distances n r i)

-- Rule Tests a round: how many distances are due by the row
unfoldable pub tests_due : ℕ → List ℕ → ℕ → ℕ
tests_due n r i = length (due_distances r i n)

-- the tests of i where its row suspects j too; i itself is not one that can be dead
unfoldable pub tests_with : ℕ → List ℕ → ℕ → ℕ → ℕ
tests_with n r i j = if j == i then 0 else tests_due n (mark r j) i

-- Rule Slot length: the most tests a round with any one station more suspected. One that r suspects already changes nothing
unfoldable pub most_tests : ℕ → List ℕ → ℕ → ℕ
most_tests n r i = greatest (tests_with n r i) n

-- Rule Most of all: the greatest number of tests a round of any of n stations that all have row r, and, if `more` is true, also suspect any one
-- other station. For the table of all sizes r suspects nobody. A station that r suspects has no tests
unfoldable pub most_of_boards : ℕ → List ℕ → Bool → ℕ
most_of_boards n r more = greatest (if more then most_tests n r else tests_due n r) n
