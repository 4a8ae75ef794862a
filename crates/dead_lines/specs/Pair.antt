-- Two alike tables of four stations on the cube, computed; and what a run does where one of the conditions fails.
-- Assumes nothing.
use Rattle.std.specs.Prelude.{ℕ, ◌≡◌, List, [], ◌∷◌, None, Some}
use Rattle.lists.specs.declared.refusal.Refusal.TheVariants.{LineRule}
use Rattle.plant.specs.Entry.{state_of}
use Rattle.plant.specs.Run.{run}
use Rattle.dead_lines.specs.Alike.{Alike, Answer, of_run, run_answer}
use Rattle.table.specs.declared.wiring.Wiring.TheVariants.{Cube}

-- the table of the worked run in RULES: station 1 left because told by 0
abbrev pub worked : List ℕ
worked =
    0 ∷ 4 ∷ 0 ∷ 3 ∷ 255 ∷ 0 ∷ 0 ∷ 1 ∷ 0 ∷ 0
    ∷ 2 ∷ 2 ∷ 0 ∷ 1 ∷ 0 ∷ 0 ∷ 0 ∷ 0 ∷ 0 ∷ 0
    ∷ 0 ∷ 1 ∷ 0 ∷ 0 ∷ 255 ∷ 0 ∷ 0 ∷ 1 ∷ 0 ∷ 0
    ∷ 0 ∷ 1 ∷ 0 ∷ 0 ∷ 255 ∷ 0 ∷ 0 ∷ 1 ∷ 0 ∷ 0
    ∷ []

-- the same but for line 1, of which each byte differs but the status and the own byte
abbrev pub other : List ℕ
other =
    0 ∷ 4 ∷ 0 ∷ 3 ∷ 255 ∷ 0 ∷ 0 ∷ 1 ∷ 0 ∷ 0
    ∷ 2 ∷ 4 ∷ 1 ∷ 3 ∷ 254 ∷ 7 ∷ 1 ∷ 0 ∷ 1 ∷ 1
    ∷ 0 ∷ 1 ∷ 0 ∷ 0 ∷ 255 ∷ 0 ∷ 0 ∷ 1 ∷ 0 ∷ 0
    ∷ 0 ∷ 1 ∷ 0 ∷ 0 ∷ 255 ∷ 0 ∷ 0 ∷ 1 ∷ 0 ∷ 0
    ∷ []

-- the last seven entries of that run, which close the round, and their sheet
abbrev pub schedule : List ℕ
schedule = 1 ∷ 0 ∷ 1 ∷ 2 ∷ 1 ∷ 2 ∷ 1 ∷ 2 ∷ 1 ∷ 3 ∷ 1 ∷ 3 ∷ 1 ∷ 3 ∷ []

abbrev pub sheet : List ℕ
sheet =
    0 ∷ 255 ∷ 0 ∷ 0
    ∷ 2 ∷ 3 ∷ 1 ∷ 0
    ∷ 2 ∷ 0 ∷ 1 ∷ 0
    ∷ 2 ∷ 255 ∷ 0 ∷ 0
    ∷ 3 ∷ 2 ∷ 1 ∷ 0
    ∷ 3 ∷ 1 ∷ 3 ∷ 0
    ∷ 3 ∷ 255 ∷ 0 ∷ 0
    ∷ []

abbrev pub blank : List ℕ
blank =
    0 ∷ 0 ∷ 0 ∷ 0 ∷ 0 ∷ 0 ∷ 0 ∷ 0 ∷ 0 ∷ 0 ∷ 0 ∷ 0 ∷ 0 ∷ 0
    ∷ 0 ∷ 0 ∷ 0 ∷ 0 ∷ 0 ∷ 0 ∷ 0 ∷ 0 ∷ 0 ∷ 0 ∷ 0 ∷ 0 ∷ 0 ∷ 0
    ∷ []

-- the tables as it leaves them: line 1 with its own byte 4 and row, and one more in byte 5
abbrev pub worked_after : List ℕ
worked_after =
    0 ∷ 1 ∷ 0 ∷ 0 ∷ 255 ∷ 0 ∷ 0 ∷ 1 ∷ 0 ∷ 0
    ∷ 2 ∷ 1 ∷ 0 ∷ 0 ∷ 0 ∷ 1 ∷ 0 ∷ 0 ∷ 0 ∷ 0
    ∷ 0 ∷ 1 ∷ 0 ∷ 0 ∷ 255 ∷ 0 ∷ 0 ∷ 1 ∷ 0 ∷ 0
    ∷ 0 ∷ 1 ∷ 0 ∷ 0 ∷ 255 ∷ 0 ∷ 0 ∷ 1 ∷ 0 ∷ 0
    ∷ []

abbrev pub other_after : List ℕ
other_after =
    0 ∷ 1 ∷ 0 ∷ 0 ∷ 255 ∷ 0 ∷ 0 ∷ 1 ∷ 0 ∷ 0
    ∷ 2 ∷ 1 ∷ 0 ∷ 0 ∷ 254 ∷ 8 ∷ 1 ∷ 0 ∷ 1 ∷ 1
    ∷ 0 ∷ 1 ∷ 0 ∷ 0 ∷ 255 ∷ 0 ∷ 0 ∷ 1 ∷ 0 ∷ 0
    ∷ 0 ∷ 1 ∷ 0 ∷ 0 ∷ 255 ∷ 0 ∷ 0 ∷ 1 ∷ 0 ∷ 0
    ∷ []

-- Rule Each condition is needed: all are met by tables that differ, and the run writes the same sheet
pub record WorkedPair : Type 0 where
  pub alike : Alike Cube 4 (state_of worked 0 4) (state_of other 0 4)
  pub first : run Cube 4 (state_of worked 0 4) schedule blank
      ≡ record { stopped = None; taken = 7; state = state_of worked_after 1 8; sheet = sheet }
  pub second : run Cube 4 (state_of other 0 4) schedule blank
      ≡ record { stopped = None; taken = 7; state = state_of other_after 1 8; sheet = sheet }

-- what the turn of station 0 answers and writes, of two stations
abbrev pub turn_of_0 : List ℕ → Answer
turn_of_0 t = run_answer (run Cube 2 (state_of t 0 0) (1 ∷ 0 ∷ []) (0 ∷ 0 ∷ 0 ∷ 0 ∷ []))

-- two stations, fresh; the same where 0 suspects 1; where 1 has crashed; and where its line breaks a line rule too, by a next distance of 0
abbrev pub both_live : List ℕ
both_live = 0 ∷ 1 ∷ 0 ∷ 0 ∷ 255 ∷ 0 ∷ 0 ∷ 0 ∷ 0 ∷ 1 ∷ 0 ∷ 0 ∷ 255 ∷ 0 ∷ 0 ∷ 0 ∷ []

abbrev pub suspecting : List ℕ
suspecting = 0 ∷ 1 ∷ 0 ∷ 0 ∷ 255 ∷ 0 ∷ 0 ∷ 1 ∷ 0 ∷ 1 ∷ 0 ∷ 0 ∷ 255 ∷ 0 ∷ 0 ∷ 0 ∷ []

abbrev pub one_crashed : List ℕ
one_crashed = 0 ∷ 1 ∷ 0 ∷ 0 ∷ 255 ∷ 0 ∷ 0 ∷ 0 ∷ 1 ∷ 1 ∷ 0 ∷ 0 ∷ 255 ∷ 0 ∷ 0 ∷ 0 ∷ []

abbrev pub broken_line : List ℕ
broken_line = 0 ∷ 1 ∷ 0 ∷ 0 ∷ 255 ∷ 0 ∷ 0 ∷ 0 ∷ 1 ∷ 0 ∷ 0 ∷ 0 ∷ 255 ∷ 0 ∷ 0 ∷ 0 ∷ []

-- Rule Each condition is needed: each table differs from one of the others in what one condition asks, and the answers are others
pub record EachIsNeeded : Type 0 where
  pub fresh : turn_of_0 both_live ≡ of_run None 1 0 1 (0 ∷ 1 ∷ 1 ∷ 0 ∷ [])
  -- a live line: 1 is told and leaves, and 0, who suspects all others, leaves too
  pub live_line : turn_of_0 suspecting ≡ of_run None 1 0 1 (0 ∷ 1 ∷ 5 ∷ 3 ∷ [])
  -- a status: no reply comes, and 0 leaves
  pub status : turn_of_0 one_crashed ≡ of_run None 1 0 1 (0 ∷ 1 ∷ 3 ∷ 3 ∷ [])
  -- a line rule: refusal 3, and nothing is written
  pub valid : turn_of_0 broken_line ≡ of_run (Some LineRule) 0 0 0 (0 ∷ 0 ∷ 0 ∷ 0 ∷ [])
