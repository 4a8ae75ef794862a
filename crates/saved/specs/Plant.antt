-- What the fields of a file say of a plant, in either edition. Tags 1, 2 and 3.
-- Assumes nothing.
use Rattle.std.specs.Prelude.{ℕ, ◌+◌, Bool, true, ◌&&◌, List, [], ◌∷◌, length, take, drop, if◌then◌else◌, ◌==◌, nat_lt, slice_index}
use Rattle.lists.specs.declared.refusal.Refusal.TheVariants.{SizeOutOfRange, SizeOrTallyField}
use Rattle.lists.specs.Refusal.{Check, ensure, ◌and◌}
use Rattle.lists.specs.Search.{every}
use Rattle.table.specs.Sizes.{is_size}
use Rattle.table.specs.Table.{stride}
use Rattle.plant.specs.declared.Tally.{Tally}
use Rattle.saved.specs.Bytes.{bytes_value, concat_of}
use Rattle.saved.specs.Fields.{Field, tagged, only_one, only_contents}

-- Rule Size field: tag 1, one byte
abbrev pub size_tag : ℕ
size_tag = 1

abbrev pub size_length : ℕ
size_length = 1

unfoldable pub size_in : List Field → ℕ
size_in fs = bytes_value (only_contents (tagged size_tag fs))

-- Rule Tally field: tag 2, eight bytes, rounds in four and tests in four
abbrev pub tally_tag : ℕ
tally_tag = 2

abbrev pub tally_length : ℕ
tally_length = 8

unfoldable pub tally_rounds : List Field → ℕ
tally_rounds fs = bytes_value (take 4 (only_contents (tagged tally_tag fs)))

unfoldable pub tally_tests : List Field → ℕ
tally_tests fs = bytes_value (drop 4 (only_contents (tagged tally_tag fs)))

abbrev pub tally_in : List Field → Tally
tally_in fs = record { rounds = tally_rounds fs; tests = tally_tests fs }

-- whether size field and tally field stand there once, with the right length; if not, refusal 19
unfoldable pub size_and_tally : List Field → Bool
size_and_tally fs = only_one size_length (tagged size_tag fs) && only_one tally_length (tagged tally_tag fs)

-- 19, then 1
unfoldable pub plant_check : List Field → Check
plant_check fs = ensure (size_and_tally fs) SizeOrTallyField and ensure (is_size (size_in fs)) SizeOutOfRange

-- Rule Line field: tag 3, a station's number, then its line of n + 6 bytes
abbrev pub line_tag : ℕ
line_tag = 3

abbrev pub line_field_length : ℕ → ℕ
line_field_length n = 1 + stride n

-- contents with tag 3: the station, and its line
abbrev pub station_in : List ℕ → ℕ
station_in c = slice_index c 0

abbrev pub line_in : List ℕ → List ℕ
line_in c = drop 1 c

-- those of station i
unfoldable pub of_station : ℕ → List (List ℕ) → List (List ℕ)
of_station i [] = []
of_station i (c ∷ cs) = if station_in c == i then c ∷ of_station i cs else of_station i cs

-- contents of a line field fit where they have that length, which the edition says, and their station is below n
abbrev pub fits : ℕ → ℕ → List ℕ → Bool
fits len n c = length c == len && nat_lt (station_in c) n

unfoldable pub all_fit : ℕ → ℕ → List (List ℕ) → Bool
all_fit len n [] = true
all_fit len n (c ∷ cs) = fits len n c && all_fit len n cs

-- of the contents with tag 3: all fit, and there is one for each station; if not, refusal 20
unfoldable pub lines_right : ℕ → ℕ → List (List ℕ) → Bool
lines_right len n cs = all_fit len n cs && every (λ i. only_one len (of_station i cs)) n

-- the table: each station's line, ascending
unfoldable pub table_in : ℕ → List (List ℕ) → List ℕ
table_in n cs = concat_of (λ i. line_in (only_contents (of_station i cs))) n
