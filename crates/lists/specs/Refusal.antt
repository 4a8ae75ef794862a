-- Refusals in checking order, as values and as numbers, 0 for none: the first that applies, and what a refused call leaves or answers instead.
-- Assumes nothing.
use Rattle.std.specs.Prelude.{ℕ, Bool, List, codes, Option, None, Some, Result, Ok, Err, ◌==◌, if◌then◌else◌}
use Rattle.std.specs.Result.{result_and}
use Rattle.lists.specs.declared.refusal.Refusal.{Refusal}
use Rattle.lists.specs.declared.refusal.Refusal.TheVariants.{SizeOutOfRange, TableLength, LineRule, RoundNotClosed, ScheduleLength, SheetLength}
use Rattle.lists.specs.declared.refusal.Refusal.TheVariants.{TallyFull, UnknownKind, NoSuchStation, NotLive, PassFinished, NoSuchLevel, ListLength}
use Rattle.lists.specs.declared.refusal.Refusal.TheVariants.{NoResult, TooManyResults, LastGranted, NoneLive, FieldPastEnd, SizeOrTallyField}
use Rattle.lists.specs.declared.refusal.Refusal.TheVariants.{LineField}
use Rattle.lists.specs.declared.refusal.Refusal.TheVariants.{NoOpening, FieldOrder, ReportTooShort, NoSuchWiring, LineLength}

-- its number in the refusal list
abbrev pub number_of : Refusal → ℕ
number_of SizeOutOfRange = 1
number_of TableLength = 2
number_of LineRule = 3
number_of RoundNotClosed = 4
number_of ScheduleLength = 5
number_of SheetLength = 6
number_of TallyFull = 7
number_of UnknownKind = 8
number_of NoSuchStation = 9
number_of NotLive = 10
number_of PassFinished = 11
number_of NoSuchLevel = 12
number_of ListLength = 13
number_of NoResult = 14
number_of TooManyResults = 15
number_of LastGranted = 16
number_of NoneLive = 17
number_of FieldPastEnd = 18
number_of SizeOrTallyField = 19
number_of LineField = 20
number_of NoOpening = 21
number_of FieldOrder = 22
number_of ReportTooShort = 23
number_of NoSuchWiring = 24
number_of LineLength = 25

-- what it says to people
abbrev pub refusal_words : Refusal → List ℕ
refusal_words SizeOutOfRange = codes "a plant has 2 to 64 boards"
refusal_words TableLength = codes "the table's length is not n(n + 6)"
refusal_words LineRule = codes "a line breaks a line rule"
refusal_words RoundNotClosed = codes "every live board has finished its pass, but the round is not closed"
refusal_words ScheduleLength = codes "the schedule has an odd number of bytes"
refusal_words SheetLength = codes "the run sheet is not twice as long as the schedule"
refusal_words TallyFull = codes "the count of rounds or of tests is at its limit, 4,294,967,295"
refusal_words UnknownKind = codes "the kind of the entry is not 1, 2 or 3"
refusal_words NoSuchStation = codes "no board has this number: boards are numbered from 0 to n - 1"
refusal_words NotLive = codes "this board is not live"
refusal_words PassFinished = codes "this board has already finished its pass in this round"
refusal_words NoSuchLevel = codes "there is no such level: levels go from 1 to d"
refusal_words ListLength = codes "the list or buffer for the answer has the wrong length"
refusal_words NoResult = codes "there are no results to compute figures from"
refusal_words TooManyResults = codes "there are more than 4,096 results, or the totals are higher than 4,096 results can give"
refusal_words LastGranted = codes "the last granted number is neither a board's number nor 255"
refusal_words NoneLive = codes "no board is live"
refusal_words FieldPastEnd = codes "the file is cut off: a field or its head goes past the end"
refusal_words SizeOrTallyField = codes "the field with the size or the tally is missing, appears twice or has the wrong length"
refusal_words LineField = codes "a board's line in the file is missing, appears twice, has the wrong length or names no board"
refusal_words NoOpening = codes "the file does not begin as edition 2 does; if it is of edition 1, convert it first"
refusal_words FieldOrder = codes "a field is out of order or has an unknown tag"
refusal_words ReportTooShort = codes "the buffer for the report has fewer than 4n(n + 6) bytes"
refusal_words NoSuchWiring = codes "the wiring is neither 1, the cube, nor 2, the ring"
refusal_words LineLength = codes "the length of the board's line is not n + 6"

-- the refusal with a number of the refusal list
unfoldable pub refusal_with : ℕ → Option Refusal
refusal_with number =
    if number == 1 then Some SizeOutOfRange else (if number == 2 then Some TableLength else (if number == 3 then Some LineRule else (
    if number == 4 then Some RoundNotClosed else (if number == 5 then Some ScheduleLength else (if number == 6 then Some SheetLength else (
    if number == 7 then Some TallyFull else (if number == 8 then Some UnknownKind else (if number == 9 then Some NoSuchStation else (
    if number == 10 then Some NotLive else (if number == 11 then Some PassFinished else (if number == 12 then Some NoSuchLevel else (
    if number == 13 then Some ListLength else (if number == 14 then Some NoResult else (if number == 15 then Some TooManyResults else (
    if number == 16 then Some LastGranted else (if number == 17 then Some NoneLive else (if number == 18 then Some FieldPastEnd else (
    if number == 19 then Some SizeOrTallyField else (if number == 20 then Some LineField else (if number == 21 then Some NoOpening else (
    if number == 22 then Some FieldOrder else (if number == 23 then Some ReportTooShort else (
    if number == 24 then Some NoSuchWiring else (if number == 25 then Some LineLength else None))))))))))))))))))))))))

-- the number of an answer: 0 where the call is not refused
abbrev pub number_of_result : {A : Type 0} → Result A Refusal → ℕ
number_of_result (Ok x) = 0
number_of_result (Err r) = number_of r

-- what a test answers that brings no value
abbrev pub Check : Type 0
Check = Result (Unit {0}) Refusal

-- Rule First fault: refused unless the test holds
abbrev pub ensure : Bool → Refusal → Check
ensure b r = if b then Ok tt else Err r

-- Rule First fault: the first check that refuses, else what the last one answers
infixr 20 ◌and◌
abbrev pub ◌and◌ : {A : Type 0} → Check → Result A Refusal → Result A Refusal
a and b = result_and a b

-- Rule Refused means untouched: what a call leaves, what was there where it is refused, else what is made of its value
abbrev pub unless_refused {ℓ} : {A : Type 0} → {B : Type ℓ} → Result A Refusal → B → B → B
unless_refused (Ok x) was after = after
unless_refused (Err r) was after = was
