-- Rule Conditions are met, of boards: four boards on the cube, board 3 dead, and four on the ring, board 1 dead. Both meet what rule Boards detect
-- supposes, and three rounds close. Computed.
-- Assumes nothing.
use Rattle.std.specs.Prelude.{◌≡◌, ℕ, List, [], ◌∷◌, map}
use Rattle.lists.specs.Search.{list_of}
use Rattle.table.specs.Table.{stride}
use Rattle.table.specs.Fresh.{fresh_byte}
use Rattle.table.specs.declared.wiring.Wiring.{Wiring}
use Rattle.table.specs.declared.wiring.Wiring.TheVariants.{Cube, Ring}
use Rattle.plant.specs.Turn.{kind_turn}
use Rattle.plant.specs.Entry.{Entry, entry_of}
use Rattle.cable.specs.Boards.{Lines, after_crash}
use Rattle.board_detection.specs.Detect.{BoardsBegin, TurnsInTime, tests_by_round, count_of_tests}

-- n boards with fresh lines, of which board x has crashed
unfoldable pub all_but : ℕ → ℕ → Lines
all_but n x = after_crash (λ k. list_of (fresh_byte n) (stride n)) x

-- turns of the boards listed, each with its reply in time
unfoldable pub turns_of : List ℕ → List Entry
turns_of is = map (entry_of kind_turn) is

-- the tests of each round, the open one last, and the count of the claim
pub record BoardsComputed (w : Wiring) (n : ℕ) (b : Lines) (es : List Entry) (tests : List ℕ) (count : ℕ) : Type 0 where
  pub begin : BoardsBegin w n b
  pub in_time : TurnsInTime w n b es
  pub tests_are : tests_by_round w n b es ≡ tests
  pub counted : count_of_tests w n b ≡ count

-- the turns of one round: two tests each of 0 and 1, three of 2, and one turn of each that finishes
abbrev pub cube_pass : List ℕ → List ℕ
cube_pass rest = 0 ∷ 1 ∷ 2 ∷ 0 ∷ 1 ∷ 2 ∷ 2 ∷ 0 ∷ 1 ∷ 2 ∷ rest

-- on the ring: 0 tests 1 and 2, 2 tests 3, and 3 tests 0, with one turn of each that finishes
abbrev pub ring_pass : List ℕ → List ℕ
ring_pass rest = 0 ∷ 0 ∷ 0 ∷ 2 ∷ 2 ∷ 3 ∷ 3 ∷ rest

-- three rounds, and one turn more
abbrev pub cube_turns : List ℕ
cube_turns = cube_pass (cube_pass (cube_pass (2 ∷ [])))

abbrev pub ring_turns : List ℕ
ring_turns = ring_pass (ring_pass (ring_pass (2 ∷ [])))

-- Rule Conditions are met: on the cube three rounds of seven tests, and one test in the open round
abbrev pub FourBoards : Type 0
FourBoards = BoardsComputed Cube 4 (all_but 4 3) (turns_of cube_turns) (7 ∷ 7 ∷ 7 ∷ 1 ∷ []) 7

-- on the ring three rounds of four tests, and one test in the open round
abbrev pub FourOnRing : Type 0
FourOnRing = BoardsComputed Ring 4 (all_but 4 1) (turns_of ring_turns) (4 ∷ 4 ∷ 4 ∷ 1 ∷ []) 4
