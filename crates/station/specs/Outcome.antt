-- What an entry did as a value, and the two bytes of a line of the sheet that show it.
-- Assumes nothing.
use Rattle.std.specs.Prelude.{ℕ, List, codes, Option, None, Some, if◌then◌else◌, ◌==◌}
use Rattle.table.specs.declared.Station.{Station}
use Rattle.station.specs.declared.outcome.Outcome.{Outcome}
use Rattle.station.specs.declared.outcome.Outcome.TheVariants.{PassFinished, Exchanged, Told, NoReply, Crashed, TestedTold}

-- Rule Outcomes: on the run sheet 0 is pass finished, 1 exchanged, 2 tester told, 3 no reply, 4 crash, 5 tested told
abbrev pub outcome_finished : ℕ
outcome_finished = 0

abbrev pub outcome_exchanged : ℕ
outcome_exchanged = 1

abbrev pub outcome_told : ℕ
outcome_told = 2

abbrev pub outcome_no_reply : ℕ
outcome_no_reply = 3

abbrev pub outcome_crash : ℕ
outcome_crash = 4

abbrev pub outcome_tested_told : ℕ
outcome_tested_told = 5

-- what stands for a station where there is none
abbrev pub no_station : ℕ
no_station = 255

-- byte 2 of a line of the run sheet: the outcome's number, 0 to 5
abbrev pub outcome_byte : Outcome → ℕ
outcome_byte PassFinished = outcome_finished
outcome_byte (Exchanged j) = outcome_exchanged
outcome_byte (Told j) = outcome_told
outcome_byte (NoReply j) = outcome_no_reply
outcome_byte Crashed = outcome_crash
outcome_byte (TestedTold j) = outcome_tested_told

-- byte 1 of a line of the run sheet: the tested station, or 255 if no test was made
abbrev pub tested_byte : Outcome → ℕ
tested_byte PassFinished = no_station
tested_byte (Exchanged j) = j.0
tested_byte (Told j) = j.0
tested_byte (NoReply j) = j.0
tested_byte Crashed = no_station
tested_byte (TestedTold j) = j.0

-- what it says to people
abbrev pub outcome_words : Outcome → List ℕ
outcome_words PassFinished = codes "pass finished"
outcome_words (Exchanged j) = codes "exchanged"
outcome_words (Told j) = codes "told, and left"
outcome_words (NoReply j) = codes "no reply"
outcome_words Crashed = codes "crash"
outcome_words (TestedTold j) = codes "the tested board was told, and left"

-- the outcome with a number, with this tested station where it made a test
unfoldable pub outcome_with : ℕ → Station → Option Outcome
outcome_with number tested =
    if number == outcome_finished then Some PassFinished
    else (if number == outcome_exchanged then Some (Exchanged tested)
    else (if number == outcome_told then Some (Told tested)
    else (if number == outcome_no_reply then Some (NoReply tested)
    else (if number == outcome_crash then Some Crashed
    else (if number == outcome_tested_told then Some (TestedTold tested)
    else None)))))
