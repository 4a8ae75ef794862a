-- What the rules of a turn and of a closing make of one line, by values: so that a line of the table and the line that a board holds are written
-- by the same rule.
-- Assumes nothing.
use Rattle.std.specs.Prelude.{ℕ, ◌+◌, min, Bool, List, [], ◌∷◌, if◌then◌else◌, ◌==◌}
use Rattle.table.specs.Wiring.{end_distance}
use Rattle.table.specs.Table.{Write, ◌becomes◌, status_column, next_column, finished_column, tests_column, told_by_column, rounds_ago_column}
use Rattle.table.specs.Table.{rounds_ago_top, status_told}
use Rattle.table.specs.declared.wiring.Wiring.{Wiring}
use Rattle.station.specs.Outcome.{outcome_exchanged, outcome_told, outcome_tested_told}
use Rattle.station.specs.Wired.{next_after}

-- Rules Tester told and Tested told: told by b the station leaves. Its status becomes 2, and its byte 4 names b
abbrev pub told_writes : ℕ → List Write
told_writes b = (status_column becomes status_told) ∷ (told_by_column becomes b) ∷ []

-- Rule End of a pass: next distance becomes the end distance, and the pass is finished
abbrev pub finish_writes : Wiring → ℕ → List Write
finish_writes w n = (next_column becomes end_distance w n) ∷ (finished_column becomes 1) ∷ []

-- Rule Count the test, at distance m and by its outcome: next distance becomes what the wiring says, and the tests made go up by one
abbrev pub count_writes : Wiring → ℕ → ℕ → ℕ → ℕ → List Write
count_writes w n m outcome tests = (next_column becomes next_after w n m outcome) ∷ (tests_column becomes tests + 1) ∷ []

-- Rule Outcomes, where the tested station replies: Tester told if that one suspects the tester; else Tested told if the tester suspects it; else
-- Exchange
abbrev pub outcome_by : Bool → Bool → ℕ
outcome_by suspected suspects = if suspected then outcome_told else (if suspects then outcome_tested_told else outcome_exchanged)

-- one of four, by the outcome of a test: the tester is told, the tested is told, they exchange, no reply comes
abbrev pub by_outcome : {A : Type 0} → ℕ → A → A → A → A → A
by_outcome outcome told tested_told exchanged no_reply =
    if outcome == outcome_told then told
    else (if outcome == outcome_tested_told then tested_told else (if outcome == outcome_exchanged then exchanged else no_reply))

-- Rule Count the rounds ago: byte 5 after a closing, by whether the station is live: one more if it is not, 255 at most. Of a live line it stays, 0
-- by the line rules
abbrev pub aged : Bool → ℕ → ℕ
aged live ago = if live then ago else min (ago + 1) rounds_ago_top

-- Rule Reset: bytes 1, 2 and 3 of a line, live or not, become 1, 0 and 0; and byte 5 becomes what is given
abbrev pub reset_writes : ℕ → List Write
reset_writes ago =
    (next_column becomes 1) ∷ (finished_column becomes 0) ∷ (tests_column becomes 0) ∷ (rounds_ago_column becomes ago) ∷ []
