-- What the run program prints, and says to people.
-- Assumes nothing.
use Rattle.std.specs.Prelude.{ℕ, ◌/◌, ◌==◌, if◌then◌else◌, List, ◌++◌, codes}
use Rattle.std.specs.Prelude.{decimal, string_bytes, take, length, flat_map, slice_index}
use Rattle.std.specs.Simd.{first_chunks}
use Rattle.plant.specs.Run.{stop_refusal}
use Rattle.plant.specs.declared.Ran.{Ran}
use Rattle.watch.specs.declared.call.WrongCall.{WrongCall}
use Rattle.watch.specs.declared.call.WrongCall.TheVariants.{NotText, TooMany, UnknownOption, NoSuchFile, Folder, CannotBeRead}

-- of an argument more than one
abbrev pub too_many_words : List ℕ
too_many_words = codes "watch: more than one argument"

-- of a word that begins with a hyphen and is no option
abbrev pub unknown_option_words : List ℕ → List ℕ
unknown_option_words word = codes "watch: unknown option: " ++ (word ++ codes " (see ./watch --help)")

-- what is wrong with the arguments
abbrev pub wrong_call_words : WrongCall → List ℕ
wrong_call_words NotText = codes "watch: an argument is not text in UTF-8"
wrong_call_words TooMany = too_many_words
wrong_call_words (UnknownOption word) = unknown_option_words (string_bytes word)
wrong_call_words (NoSuchFile path) = codes "watch: no such file: " ++ string_bytes path
wrong_call_words (Folder path) = codes "watch: a folder, not a file: " ++ string_bytes path
wrong_call_words (CannotBeRead path) = codes "watch: cannot be read: " ++ string_bytes path

-- which station was tested; - for none
abbrev pub tested_text : ℕ → List ℕ
tested_text j = if j == 255 then codes "-" else decimal j

-- a line of the run sheet, of four bytes
abbrev pub line_text : List ℕ → List ℕ
line_text line =
    decimal (slice_index line 0) ++ (codes " " ++ (tested_text (slice_index line 1) ++ (codes " "
    ++ (decimal (slice_index line 2) ++ (codes " " ++ (decimal (slice_index line 3) ++ codes "\n"))))))

abbrev pub lines_text : List (List ℕ) → List ℕ
lines_text = flat_map line_text

-- the tally, and how the run ended
abbrev pub last_line : Ran → List ℕ
last_line ran =
    codes "rounds " ++ (decimal ran.tally.rounds ++ (codes " tests " ++ (decimal ran.tally.tests ++ (codes " refused "
    ++ (decimal (stop_refusal ran.stopped) ++ (codes " at " ++ decimal ran.taken))))))

-- what is printed of a run: a header, the lines of the entries taken, and the last line
abbrev pub run_text : Ran → List ℕ → List ℕ
run_text ran sheet =
    codes "station tested outcome status\n"
    ++ (lines_text (take ran.taken (first_chunks 4 (length sheet / 4) sheet)) ++ last_line ran)
