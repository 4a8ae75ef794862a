-- Rule Conditions are met. Four boards, board 3 dead, four runs, of which one is refused at its start and one at an entry: the detection
-- conditions hold, d·d rounds close and one more, and each has the seven tests of rule Count of tests from the fifth on. And three boards, a size
-- that is no power of two. And four boards on the ring, board 1 dead, with a test for each board in every round.
-- Assumes nothing.
use Rattle.std.specs.Prelude.{◌≡◌, ℕ, ◌*◌, List, [], ◌∷◌, length, map, replicate, Result, Ok}
use Rattle.lists.specs.declared.refusal.Refusal.{Refusal}
use Rattle.table.specs.Table.{set_cell, status_column}
use Rattle.table.specs.Fresh.{fresh_table}
use Rattle.table.specs.Wiring.{wiring_of}
use Rattle.table.specs.declared.wiring.Wiring.{Wiring}
use Rattle.table.specs.declared.wiring.Wiring.TheVariants.{Cube, Ring}
use Rattle.plant.specs.Entry.{State, state_of}
use Rattle.detection.specs.Runs.{Call}
use Rattle.detection.specs.Rounds.{tests_in}
use Rattle.detection.specs.Claim.{count_of, rounds_of, DetectionPremises}

-- a schedule of turns of the stations listed
unfoldable pub turns_of : List ℕ → List ℕ
turns_of [] = []
turns_of (i ∷ is) = 1 ∷ i ∷ turns_of is

-- a run with a sheet of zeros
abbrev pub call_with : Result Wiring Refusal → ℕ → List ℕ → Call
call_with v n schedule = record { wiring = v; size = n; schedule = schedule; sheet = replicate (2 * length schedule) 0 }

-- four boards, board 3 dead, nothing suspected
unfoldable pub boards : State
boards = record { table = set_cell 4 (fresh_table 4) 3 status_column 1; rounds = 0; tests = 0 }

-- the turns of one round: two tests each of 0 and 1, three of 2, and one turn of each that finishes
abbrev pub one_pass : List ℕ → List ℕ
one_pass rest = 0 ∷ 1 ∷ 2 ∷ 0 ∷ 1 ∷ 2 ∷ 2 ∷ 0 ∷ 1 ∷ 2 ∷ rest

-- the second run has another size, and the third a kind that is none, so its last entries are not reached
unfoldable pub calls : List Call
calls =
    call_with (Ok Cube) 4 (turns_of (one_pass (0 ∷ 1 ∷ [])))
    ∷ call_with (Ok Cube) 8 (turns_of (0 ∷ 1 ∷ []))
    ∷ call_with (Ok Cube) 4 (1 ∷ 2 ∷ 9 ∷ 0 ∷ 1 ∷ 0 ∷ [])
    ∷ call_with (Ok Cube) 4 (turns_of (0 ∷ 1 ∷ 2 ∷ 2 ∷ 0 ∷ 1 ∷ 2 ∷ one_pass (one_pass (one_pass (2 ∷ [])))))
    ∷ []

-- the premises, the tests of the closed rounds, those of the open one, and the count of the claim
pub record Computed (w : Wiring) (n : ℕ) (s : State) (runs : List Call) (closed : List ℕ) (open-tests count : ℕ) : Type 0 where
  pub premises : DetectionPremises w n s runs
  pub closed_tests : map tests_in (rounds_of s runs).closed ≡ closed
  pub open_tests : tests_in (rounds_of s runs).open_round ≡ open-tests
  pub counted : count_of w n s.table ≡ count

-- Rule Conditions are met, the four boards: five rounds close, of seven tests each, and the open one has one
abbrev pub FourBoards : Type 0
FourBoards = Computed Cube 4 boards calls (7 ∷ 7 ∷ 7 ∷ 7 ∷ 7 ∷ []) 1 7

-- Rule Conditions are met, three boards, none dead: one round of five tests
abbrev pub ThreeBoards : Type 0
ThreeBoards =
    Computed Cube 3 (state_of (fresh_table 3) 0 0)
    (call_with (Ok Cube) 3 (turns_of (0 ∷ 0 ∷ 0 ∷ 1 ∷ 1 ∷ 2 ∷ 2 ∷ 2 ∷ [])) ∷ []) (5 ∷ []) 0 5

-- four boards on the ring, board 1 dead, nothing suspected
unfoldable pub ring_boards : State
ring_boards = state_of (set_cell 4 (fresh_table 4) 1 status_column 1) 0 0

-- the turns of one round on the ring: 0 tests 1 and 2, 2 tests 3, and 3 tests 0, with one turn of each that finishes
abbrev pub ring_pass : List ℕ → List ℕ
ring_pass rest = 0 ∷ 0 ∷ 0 ∷ 2 ∷ 2 ∷ 3 ∷ 3 ∷ rest

-- the second run has another size, and the third a wiring that is none
unfoldable pub ring_calls : List Call
ring_calls =
    call_with (Ok Ring) 4 (turns_of (ring_pass (3 ∷ [])))
    ∷ call_with (Ok Ring) 8 (turns_of (0 ∷ 1 ∷ []))
    ∷ call_with (wiring_of 3) 4 (turns_of (2 ∷ 2 ∷ []))
    ∷ call_with (Ok Ring) 4 (turns_of (3 ∷ 2 ∷ 0 ∷ 0 ∷ 0 ∷ 2 ∷ ring_pass (2 ∷ [])))
    ∷ []

-- Rule Conditions are met, the four boards on the ring: three rounds close, of four tests each, and the open one has one
abbrev pub FourOnRing : Type 0
FourOnRing = Computed Ring 4 ring_boards ring_calls (4 ∷ 4 ∷ 4 ∷ []) 1 4
