-- One late reply, followed by hand: of eight stations the late one leaves, told by another than the one that tested it; of two both leave.
-- Assumes nothing.
use Rattle.std.specs.Prelude.{◌≡◌, ℕ, true, false, List, [], ◌∷◌, None, Ok}
use Rattle.table.specs.Table.{status, status_told, told_by}
use Rattle.table.specs.Fresh.{fresh_table}
use Rattle.table.specs.declared.wiring.Wiring.TheVariants.{Cube, Ring}
use Rattle.plant.specs.Entry.{State, state_of}
use Rattle.plant.specs.Run.{RunResult, run}
use Rattle.detection.specs.Runs.{call_of, taken_in, is_late}
use Rattle.detection.specs.Rounds.{count_taken}
use Rattle.accuracy.specs.Cause.{was_late}

-- 4 tests 5, whose reply is late; then 4 tests 6, 7 tests 6, and 7 tests 5
abbrev pub followed_schedule : List ℕ
followed_schedule = 2 ∷ 4 ∷ 1 ∷ 4 ∷ 1 ∷ 7 ∷ 1 ∷ 7 ∷ []

-- 4 suspects 5, 6 hears of it from 4, and 7 from 6; 7 tells 5, and 5 leaves
abbrev pub followed_sheet : List ℕ
followed_sheet =
    4 ∷ 5 ∷ 3 ∷ 0
    ∷ 4 ∷ 6 ∷ 1 ∷ 0
    ∷ 7 ∷ 6 ∷ 1 ∷ 0
    ∷ 7 ∷ 5 ∷ 5 ∷ 0
    ∷ []

abbrev pub blank_of_four : List ℕ
blank_of_four = 0 ∷ 0 ∷ 0 ∷ 0 ∷ 0 ∷ 0 ∷ 0 ∷ 0 ∷ 0 ∷ 0 ∷ 0 ∷ 0 ∷ 0 ∷ 0 ∷ 0 ∷ 0 ∷ []

-- it is run on a fresh table
abbrev pub eight_stations : State
eight_stations = state_of (fresh_table 8) 0 0

abbrev pub followed : RunResult
followed = run Cube 8 eight_stations followed_schedule blank_of_four

-- Rule One of eight: 5 has left because told, by 7, and its own reply was late; that of 7 was not
pub record OneOfEight : Type 0 where
  pub sheet : followed.sheet ≡ followed_sheet
  pub left : status 8 followed.state.table 5 ≡ status_told
  pub teller : told_by 8 followed.state.table 5 ≡ 7
  pub late : was_late 5 (taken_in eight_stations (call_of (Ok Cube) 8 followed_schedule blank_of_four)) ≡ true
  pub others : was_late 7 (taken_in eight_stations (call_of (Ok Cube) 8 followed_schedule blank_of_four)) ≡ false

-- 0 tests 1, whose reply is late; then 1 tests 0
abbrev pub late_schedule : List ℕ
late_schedule = 2 ∷ 0 ∷ 1 ∷ 1 ∷ []

abbrev pub blank : List ℕ
blank = 0 ∷ 0 ∷ 0 ∷ 0 ∷ 0 ∷ 0 ∷ 0 ∷ 0 ∷ []

-- no reply comes, so that 0 suspects all others and leaves because alone; and then 1, which nobody told
abbrev pub late_sheet : List ℕ
late_sheet = 0 ∷ 1 ∷ 3 ∷ 3 ∷ 1 ∷ 0 ∷ 3 ∷ 3 ∷ []

abbrev pub late_table : List ℕ
late_table =
    3 ∷ 2 ∷ 0 ∷ 1 ∷ 255 ∷ 0 ∷ 0 ∷ 1
    ∷ 3 ∷ 2 ∷ 0 ∷ 1 ∷ 255 ∷ 0 ∷ 1 ∷ 0
    ∷ []

-- it is run on a fresh table, the same on both wirings
abbrev pub two_stations : State
two_stations = state_of (fresh_table 2) 0 0

abbrev pub two_left : RunResult
two_left = record { stopped = None; taken = 2; state = state_of late_table 0 2; sheet = late_sheet }

-- Rule Two of two: one reply was late, that of 1, and nobody is live any more. So rule What a late reply costs asks for two more live stations
pub record TwoOfTwo : Type 0 where
  pub on_cube : run Cube 2 two_stations late_schedule blank ≡ two_left
  pub on_ring : run Ring 2 two_stations late_schedule blank ≡ two_left
  pub late : count_taken is_late (taken_in two_stations (call_of (Ok Cube) 2 late_schedule blank)) ≡ 1
  pub whose : was_late 1 (taken_in two_stations (call_of (Ok Cube) 2 late_schedule blank)) ≡ true
