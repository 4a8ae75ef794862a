-- What the sheet program prints: lists of boards, and what is wrong with the arguments.
-- Assumes nothing.
use Rattle.std.specs.Prelude.{ℕ, ◌+◌, List, [], ◌∷◌, ◌++◌, codes, decimal, flat_map, length, count_by, ◌==◌, if◌then◌else◌, Option, None, Some}
use Rattle.table.specs.declared.Station.{Station}
use Rattle.slots.specs.declared.untested.Untested.{Untested}
use Rattle.sheet.specs.declared.call.WrongCall.{WrongCall}
use Rattle.sheet.specs.declared.call.WrongCall.TheVariants.{NotText, Words, NoSize, NotASize, MoreThanSizes, NotABoard, NamedAgain, TooFewLive}

-- what is wrong with the arguments; nothing is claimed of clap's own words
abbrev pub wrong_call_words : WrongCall → Option (List ℕ)
wrong_call_words NotText = Some (codes "sheet: an argument is not text in UTF-8")
wrong_call_words (Words error) = None
wrong_call_words NoSize = Some (codes "sheet: a size is needed, from 2 to 64")
wrong_call_words NotASize = Some (codes "sheet: argument 1 is not a size from 2 to 64")
wrong_call_words MoreThanSizes = Some (codes "sheet: --sizes takes no other argument")
wrong_call_words (NotABoard argument last) =
    Some (codes "sheet: argument " ++ (decimal argument ++ (codes " is not a board from 0 to " ++ decimal last)))
wrong_call_words (NamedAgain argument) = Some (codes "sheet: argument " ++ decimal argument ++ codes " repeats a board")
wrong_call_words TooFewLive = Some (codes "sheet: at least two boards must be live")

-- boards, each behind a space
abbrev pub further_boards : List Station → List ℕ
further_boards = flat_map (λ x. codes " " ++ decimal x.0)

-- boards with a space between
abbrev pub boards_text : List Station → List ℕ
boards_text [] = []
boards_text (b ∷ rest) = decimal b.0 ++ further_boards rest

-- a board that is not tested, with the one ahead in brackets
abbrev pub untested_text : Untested → List ℕ
untested_text u = decimal u.board.0 ++ codes " (" ++ decimal u.ahead.0 ++ codes ")"

-- such boards, each behind a comma
abbrev pub further_untested : List Untested → List ℕ
further_untested = flat_map (λ u. codes ", " ++ untested_text u)

-- such boards with commas between; - for none
abbrev pub ahead_text : List Untested → List ℕ
ahead_text [] = codes "-"
ahead_text (u ∷ rest) = untested_text u ++ further_untested rest

-- board k, if it is dead, behind a space
abbrev pub dead_one : ℕ → ℕ → List ℕ
dead_one k dead = if dead == 0 then [] else codes " " ++ decimal k

-- the dead boards by a row that begins with board k
unfoldable pub dead_from : ℕ → List ℕ → List ℕ
dead_from k [] = []
dead_from k (dead ∷ rest) = dead_one k dead ++ dead_from (k + 1) rest

-- the dead boards by a row, or that there is none
abbrev pub dead_text : List ℕ → List ℕ
dead_text row = if count_by (λ dead. dead == 0) row == length row then codes " none" else dead_from 0 row
