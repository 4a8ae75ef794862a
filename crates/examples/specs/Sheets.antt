-- Examples of which tests a board makes, and how many: what the definitions compute, and what is expected, in one table, and one that takes longer
-- to compute.
-- Assumes nothing.
use Rattle.std.specs.Prelude.{◌≡◌, ℕ, true, false, List, [], ◌∷◌, refl}
use Rattle.lists.specs.Search.{least, list_of, greatest}
use Rattle.table.specs.Sizes.{level, dimension, distances}
use Rattle.station.specs.Groups.{width, member}
use Rattle.station.specs.Tests.{unsuspected, first_place, first, answer, due, due_distances}
use Rattle.station.specs.Rows.{mark}
use Rattle.slots.specs.Slots.{tested, untested_distances, untested, ahead, tests_due, tests_with, most_tests, most_of_boards}
use Rattle.examples.specs.Example.{Example, expect, AllHold}

-- the row of n boards in which nobody is suspected
unfoldable pub empty_row : ℕ → List ℕ
empty_row n = list_of (λ k. 0) n

-- how many tests each of n boards makes with nobody suspected
abbrev pub tests_of_each : ℕ → List ℕ
tests_of_each n = list_of (tests_due n (empty_row n)) n

-- the most tests of any of n boards, with nobody and with any one dead
abbrev pub most_at : ℕ → List ℕ
most_at n = most_of_boards n (empty_row n) false ∷ most_of_boards n (empty_row n) true ∷ []

unfoldable pub examples : List Example
examples =
    -- eight boards, board 4 dead: board 5 makes five tests
    expect (tested 8 (mark (empty_row 8) 4) 5) (4 ∷ 7 ∷ 6 ∷ 1 ∷ 0 ∷ [])
    ∷ expect (tested 8 (empty_row 8) 5) (4 ∷ 7 ∷ 1 ∷ [])
    -- those that board 5 does not test, and who stands ahead: 7 at board 3, and 6 at board 2
    ∷ expect (untested 8 (mark (empty_row 8) 4) 5) (3 ∷ 2 ∷ [])
    ∷ expect (ahead 8 (mark (empty_row 8) 4) 5) (7 ∷ 6 ∷ [])
    -- of 2^d boards that suspect nobody each has d tests; with one suspected 2d − 1 at most
    ∷ expect (tests_of_each 8) (3 ∷ 3 ∷ 3 ∷ 3 ∷ 3 ∷ 3 ∷ 3 ∷ 3 ∷ [])
    ∷ expect (most_tests 8 (empty_row 8) 5 ∷ most_tests 4 (empty_row 4) 0 ∷ most_tests 2 (empty_row 2) 0 ∷ []) (5 ∷ 3 ∷ 1 ∷ [])
    -- the most tests of a board with nobody dead, and with any one dead, at sizes 4, 5 and 6
    ∷ expect (most_at 4) (2 ∷ 3 ∷ [])
    ∷ expect (most_at 5) (4 ∷ 4 ∷ [])
    ∷ expect (most_at 6) (3 ∷ 5 ∷ [])
    -- 11 boards: 6 at most
    ∷ expect (tests_of_each 11) (4 ∷ 4 ∷ 4 ∷ 3 ∷ 3 ∷ 3 ∷ 3 ∷ 3 ∷ 4 ∷ 3 ∷ 6 ∷ [])
    ∷ []

-- each example holds
pub hold : AllHold examples
unfolding examples empty_row tested untested_distances untested ahead tests_due greatest tests_with most_tests most_of_boards due_distances due
    answer first first_place unsuspected mark member width level dimension distances least list_of
hold = refl

-- of 19 boards that suspect nobody board 18 has 10 tests
pub nineteen : tests_due 19 (empty_row 19) 18 ≡ 10
unfolding empty_row tests_due due_distances due answer first first_place unsuspected member width level dimension distances least list_of
nineteen = refl
