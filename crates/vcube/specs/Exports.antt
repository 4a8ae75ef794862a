-- The calls as C has them (include/vcube.h), where they differ from those of the crates below, for all inputs:
-- the outcome of a run or a drive is given by the number and what the call leaves in the variables and buffers lent to it, what a load reads by what
-- it leaves in the variables, a tally is handed in by its parts, and figures and totals are the members of a struct in their order.
-- A station, level or last number may be any; the definitions of `station` and `granter` refuse it as they refuse any that is too high.
-- Assumes nothing.
use Rattle.std.specs.Prelude.{ℕ, ◌+◌, ◌*◌, ◌==◌, if◌then◌else◌, List, [], ◌∷◌, length, replicate, Option, Some, None, option_map, unwrap_or}
use Rattle.std.specs.Prelude.{Result, Ok, Err, slice_index}
use Rattle.std.specs.Result.{result_unwrap_or, result_ok}
use Rattle.std.proofs.lemmas.List.Edits.{sets}
use Rattle.lists.specs.declared.refusal.Refusal.{Refusal}
use Rattle.lists.specs.Refusal.{Check, ◌and◌, number_of, number_of_result, unless_refused, refusal_words, refusal_with}
use Rattle.table.specs.Rules.{length_check}
use Rattle.table.specs.Status.{status_of, status_words}
use Rattle.table.specs.Wiring.{wiring_of}
use Rattle.table.specs.declared.wiring.Wiring.{Wiring}
use Rattle.lists.specs.declared.refusal.Refusal.TheVariants.{NoSuchWiring}
use Rattle.station.specs.Outcome.{no_station, outcome_with, outcome_words}
use Rattle.slots.specs.Board.{slot_answer}
use Rattle.slots.specs.declared.board.Slot.{Slot}
use Rattle.latency.specs.Wait.{wait_answer}
use Rattle.latency.specs.declared.wait.Wait.{Wait}
use Rattle.single_crash.specs.Bounds.{one_dead_answer}
use Rattle.single_crash.specs.declared.bounds.OneDead.{OneDead}
use Rattle.input.specs.Input.{Reading, lines, read_input}
use Rattle.input.specs.Fault.{fault_in}
use Rattle.input.specs.Words.{fault_words}
use Rattle.plant.specs.declared.Tally.{Tally}
use Rattle.plant.specs.Run.{RunResult, stop_refusal}
use Rattle.granter.specs.Drive.{DriveResult}
use Rattle.lamp.specs.declared.Doubt.{Doubt}
use Rattle.saved.specs.declared.Loaded.{Loaded}
use Rattle.figures.specs.declared.Figures.{Figures}
use Rattle.figures.specs.declared.Totals.{Totals}

-- Version: major, minor and patch as one number
abbrev pub version_number : ℕ → ℕ → ℕ → ℕ
version_number major minor patch = 10000 * major + 100 * minor + patch

-- Rule Wiring number: what a call answers or leaves that is given a wiring by its number: what stands first where refusal 24 applies, else what the
-- call on that wiring answers or leaves
abbrev pub by_wiring {ℓ} : {A : Type ℓ} → Result Wiring Refusal → A → (Wiring → A) → A
by_wiring (Ok w) refused call = call w
by_wiring (Err r) refused call = refused

unfoldable pub on_wiring {ℓ} : {A : Type ℓ} → ℕ → A → (Wiring → A) → A
on_wiring number refused call = by_wiring (wiring_of number) refused call

-- the number of refusal 24: there is no such wiring
abbrev pub no_such_wiring : ℕ
no_such_wiring = number_of NoSuchWiring

-- Rule Exact calls, for C. Run: what it answers and leaves: the number, the entries taken, table, rounds and tests, and the sheet
pub record RunOut : Type 0 where
  pub number : ℕ
  pub taken : ℕ
  pub table : List ℕ
  pub rounds : ℕ
  pub tests : ℕ
  pub sheet : List ℕ

abbrev pub outcome_out : ℕ → ℕ → List ℕ → ℕ → ℕ → List ℕ → RunOut
outcome_out number taken t rounds tests sheet =
    record { number = number; taken = taken; table = t; rounds = rounds; tests = tests; sheet = sheet }

-- so of the run: 0 where no refusal stopped it
abbrev pub run_out : RunResult → RunOut
run_out o = outcome_out (stop_refusal o.stopped) o.taken o.state.table o.state.rounds o.state.tests o.sheet

-- Drive: what it answers and leaves: the number, table, rounds and tests, the last granted number and the grants made
pub record DriveOut : Type 0 where
  pub number : ℕ
  pub table : List ℕ
  pub rounds : ℕ
  pub tests : ℕ
  pub last : ℕ
  pub grants : ℕ

abbrev pub drive_out : ℕ → List ℕ → ℕ → ℕ → ℕ → ℕ → DriveOut
drive_out number t rounds tests last grants =
    record { number = number; table = t; rounds = rounds; tests = tests; last = last; grants = grants }

abbrev pub driven_out : DriveResult → DriveOut
driven_out d = drive_out (stop_refusal d.stopped) d.state.table d.state.rounds d.state.tests d.last d.grants

-- Doubt lamp: the number, and the two stations of the pair
pub record PairResult : Type 0 where
  pub number : ℕ
  pub by : ℕ
  pub of : ℕ

abbrev pub pair_out : ℕ → ℕ → ℕ → PairResult
pair_out number by of = record { number = number; by = by; of = of }

-- Rule Lamp call: the number and the stations of each answer, 255 for both where there is no pair
abbrev pub pair_of : Result (Option Doubt) Refusal → PairResult
pair_of (Ok (Some pair)) = pair_out 0 pair.by.0 pair.of.0
pair_of (Ok None) = pair_out 0 no_station no_station
pair_of (Err refusal) = pair_out (number_of refusal) 0 0

-- Board, next: the station that the next turn tests, 255 where there is none; 0 where the call is refused
abbrev pub station_number : Result (Option ℕ) Refusal → ℕ
station_number (Ok (Some j)) = j
station_number (Ok None) = no_station
station_number (Err refusal) = 0

-- Save: the tally by its parts
abbrev pub tally_of : ℕ → ℕ → Tally
tally_of rounds tests = record { rounds = rounds; tests = tests }

-- Load: what is read by its parts: the size, rounds and tests
abbrev pub loaded_out : ℕ → ℕ → ℕ → Loaded
loaded_out n rounds tests = record { size = n; tally = tally_of rounds tests }

-- what a call for figures or totals answers: its number, and the members of the struct that it fills, in their order
pub record Filled : Type 0 where
  pub number : ℕ
  pub members : List ℕ

abbrev pub filled : ℕ → List ℕ → Filled
filled number members = record { number = number; members = members }

-- the seven members of figures
abbrev pub figures_members : Figures → List ℕ
figures_members f =
    f.count ∷ f.least ∷ f.greatest ∷ f.mean.upper ∷ f.mean.lower ∷ f.variance.upper ∷ f.variance.lower ∷ []

-- the five members of totals
abbrev pub totals_members : Totals → List ℕ
totals_members t = t.count ∷ t.sum ∷ t.squares ∷ t.least ∷ t.greatest ∷ []

-- the totals with these five members
abbrev pub totals_with : List ℕ → Totals
totals_with m =
    record { count = slice_index m 0; sum = slice_index m 1; squares = slice_index m 2; least = slice_index m 3; greatest = slice_index m 4 }

-- rule Refused means untouched: the figures and the totals of a refused call are all 0
abbrev pub no_figures : Figures
no_figures =
    record {
      count = 0;
      least = 0;
      greatest = 0;
      mean = record { upper = 0; lower = 0 };
      variance = record { upper = 0; lower = 0 };
    }

abbrev pub no_totals : Totals
no_totals = record { count = 0; sum = 0; squares = 0; least = 0; greatest = 0 }

abbrev pub figures_out : Result Figures Refusal → Filled
figures_out answer = filled (number_of_result answer) (figures_members (result_unwrap_or answer no_figures))

abbrev pub totals_out : Result Totals Refusal → Filled
totals_out answer = filled (number_of_result answer) (totals_members (result_unwrap_or answer no_totals))

-- Slot: the tests a round and the most with one more dead, by the row of a live station; 0 and 0 where the call is refused
abbrev pub slot_out : ℕ → ℕ → Slot
slot_out tests most = record { tests = tests; most = most }

abbrev pub slot_figures : ℕ → List ℕ → ℕ → Slot
slot_figures n t i = result_unwrap_or (slot_answer n t i) (slot_out 0 0)

-- Wait: the four bounds, all 0 where the call is refused
abbrev pub wait_out : ℕ → ℕ → ℕ → ℕ → Wait
wait_out rounds turns until from =
    record { rounds = rounds; turns_per_round = turns; turns_until_known = until; turns_from_crash = from }

abbrev pub wait_figures : Wiring → ℕ → List ℕ → Wait
wait_figures w n t = result_unwrap_or (wait_answer w n t) (wait_out 0 0 0 0)

-- One dead board: the two bounds, both 0 where the call is refused, and where nothing is claimed
abbrev pub one_dead_out : ℕ → ℕ → OneDead
one_dead_out rounds grants = record { rounds = rounds; grants = grants }

abbrev pub one_dead_figures : Wiring → ℕ → OneDead
one_dead_figures w n = unwrap_or (result_unwrap_or (one_dead_answer w n) None) (one_dead_out 0 0)

-- a buffer for words has just so many bytes, of which the last is 0 in every answer
abbrev pub words_length : ℕ
words_length = 128

-- Words: refusal 13, for a buffer of another length
abbrev pub words_check : ℕ → Check
words_check len = length_check words_length len

-- the words from the front of a buffer, and zeros behind them
abbrev pub worded : List ℕ → List ℕ
worded words = sets (replicate words_length 0) 0 words

-- Rules Words call and Buffer of words: the words in a lent buffer, which a refused call leaves as it was
abbrev pub words_after : List ℕ → List ℕ → List ℕ
words_after words buffer = unless_refused (words_check (length buffer)) buffer (worded words)

-- the words of a refusal, a status and an outcome by its number; none for a number that none of them has
abbrev pub words_of_refusal : ℕ → List ℕ
words_of_refusal number = unwrap_or (option_map refusal_words (refusal_with number)) []

abbrev pub words_of_status : ℕ → List ℕ
words_of_status number = unwrap_or (option_map status_words (result_ok (status_of number))) []

abbrev pub words_of_outcome : ℕ → List ℕ
words_of_outcome number = unwrap_or (option_map outcome_words (outcome_with number (record { 0 = 0 }))) []

-- a schedule that is lent for reading has room for all 4,096 entries
abbrev pub schedule_length : ℕ
schedule_length = 8192

-- Input: refusal 13, for a schedule or a buffer for words of another length
abbrev pub input_check : ℕ → ℕ → Check
input_check schedule words = length_check schedule_length schedule and words_check words

-- Rule Input call: the size and the number of entries that are read, and the number of the first unreadable line, 0 where all can be read
pub record InputRead : Type 0 where
  pub size : ℕ
  pub entries : ℕ
  pub line : ℕ

abbrev pub input_out : ℕ → ℕ → ℕ → InputRead
input_out n entries line = record { size = n; entries = entries; line = line }

abbrev pub input_figures : ℕ → ℕ → Reading → InputRead
input_figures schedule words r = unless_refused (input_check schedule words) (input_out 0 0 0) (input_out r.size r.entries r.unread)

-- the entries stand at the front of the schedule, whose rest is as it was
abbrev pub schedule_after : ℕ → List ℕ → Reading → List ℕ
schedule_after words schedule r = unless_refused (input_check (length schedule) words) schedule (sets schedule 0 r.schedule)

-- what is wrong in the first unreadable line; nothing where all can be read
abbrev pub words_of_input : List ℕ → Reading → List ℕ
words_of_input input r = if r.unread == 0 then [] else fault_words (fault_in r.unread (lines input))

abbrev pub input_words_after : ℕ → List ℕ → List ℕ → List ℕ
input_words_after schedule words input =
    unless_refused (input_check schedule (length words)) words (worded (words_of_input input (read_input input)))
