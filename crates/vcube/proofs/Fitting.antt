-- The lengths of all words, computed.
-- Assumes nothing.
use mathlib.Core.Path.{◌≡◌, refl}
use mathlib.Core.Bool.{true}
use Rattle.std.specs.Prelude.{Option, Some, None, Result, Ok, Err, option_map, unwrap_or}
use Rattle.std.specs.Result.{result_ok}
use mathlib.Core.List.{[]}
use Prim.Native.Nat.{◌<◌}
use borrow.Author.Tests.{ltb-true}
use lib.Dec.{ltb}
use lib.ListN.{length}
use Rattle.lists.specs.declared.refusal.Refusal.{Refusal}
use Rattle.lists.specs.Refusal.{refusal_words}
use Rattle.table.specs.declared.status.Status.{Status}
use Rattle.table.specs.Status.{status_words}
use Rattle.station.specs.declared.outcome.Outcome.{Outcome}
use Rattle.station.specs.Outcome.{outcome_words}
use Rattle.vcube.specs.Exports.{words_length}

-- whether the words of a refusal fit
refusal-fits : (r : Refusal) → ltb (length (refusal_words r)) words_length ≡ true
refusal-fits Refusal.SizeOutOfRange = refl
refusal-fits Refusal.TableLength = refl
refusal-fits Refusal.LineRule = refl
refusal-fits Refusal.RoundNotClosed = refl
refusal-fits Refusal.ScheduleLength = refl
refusal-fits Refusal.SheetLength = refl
refusal-fits Refusal.TallyFull = refl
refusal-fits Refusal.UnknownKind = refl
refusal-fits Refusal.NoSuchStation = refl
refusal-fits Refusal.NotLive = refl
refusal-fits Refusal.PassFinished = refl
refusal-fits Refusal.NoSuchLevel = refl
refusal-fits Refusal.ListLength = refl
refusal-fits Refusal.NoResult = refl
refusal-fits Refusal.TooManyResults = refl
refusal-fits Refusal.LastGranted = refl
refusal-fits Refusal.NoneLive = refl
refusal-fits Refusal.FieldPastEnd = refl
refusal-fits Refusal.SizeOrTallyField = refl
refusal-fits Refusal.LineField = refl
refusal-fits Refusal.NoOpening = refl
refusal-fits Refusal.FieldOrder = refl
refusal-fits Refusal.ReportTooShort = refl
refusal-fits Refusal.NoSuchWiring = refl
refusal-fits Refusal.LineLength = refl

-- of a status
status-fits : (s : Status) → ltb (length (status_words s)) words_length ≡ true
status-fits Status.Live = refl
status-fits Status.Crashed = refl
status-fits Status.LeftTold = refl
status-fits Status.LeftAlone = refl

-- of an outcome
outcome-fits : (o : Outcome) → ltb (length (outcome_words o)) words_length ≡ true
outcome-fits Outcome.PassFinished = refl
outcome-fits (Outcome.Exchanged j) = refl
outcome-fits (Outcome.Told j) = refl
outcome-fits (Outcome.NoReply j) = refl
outcome-fits Outcome.Crashed = refl
outcome-fits (Outcome.TestedTold j) = refl

-- of what may be one
pub some-refusal-fits : (o : Option Refusal) → length (unwrap_or (option_map refusal_words o) []) < words_length
some-refusal-fits None = ltb-true 0 words_length refl
some-refusal-fits (Some r) = ltb-true _ _ (refusal-fits r)

pub some-status-fits : (r : Result Status Refusal) → length (unwrap_or (option_map status_words (result_ok r)) []) < words_length
some-status-fits (Err e) = ltb-true 0 words_length refl
some-status-fits (Ok s) = ltb-true _ _ (status-fits s)

pub some-outcome-fits : (o : Option Outcome) → length (unwrap_or (option_map outcome_words o) []) < words_length
some-outcome-fits None = ltb-true 0 words_length refl
some-outcome-fits (Some o) = ltb-true _ _ (outcome-fits o)
