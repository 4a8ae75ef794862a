-- What an input of the run program means, for all inputs.
-- Assumes nothing.
use Rattle.std.specs.Prelude.{ℕ, suc, ◌+◌, ◌*◌, ◌-◌, ◌/◌, min, Bool, ◌&&◌, List, [], ◌∷◌, ◌++◌, length, nat_lt, nat_le}
use Rattle.std.specs.Prelude.{Option, None, Some, option_and_then, option_map, if◌then◌else◌, ◌==◌}
use Rattle.plant.specs.Kind.{kind_byte}
use Rattle.plant.specs.declared.entry.Entry.{Entry}

-- `read` of the value, or `other` where there is none
abbrev pub given : {A B : Type 0} → Option A → (A → B) → B → B
given None read other = other
given (Some a) read other = read a

-- the byte that ends a line
abbrev pub is_line_feed : ℕ → Bool
is_line_feed b = b == 10

-- a byte put in front of the first line
unfoldable pub on_first : ℕ → List (List ℕ) → List (List ℕ)
on_first b [] = (b ∷ []) ∷ []
on_first b (l ∷ ls) = (b ∷ l) ∷ ls

-- the lines of the input, without their line feeds. The last line may lack its line feed
unfoldable pub lines : List ℕ → List (List ℕ)
lines [] = []
lines (b ∷ rest) = if is_line_feed b then [] ∷ lines rest else on_first b (lines rest)

-- how many bytes stand before the first line feed, or in all
unfoldable pub line_length : List ℕ → ℕ
line_length [] = 0
line_length (b ∷ rest) = if is_line_feed b then 0 else suc (line_length rest)

-- the digits 0 to 9
abbrev pub is_digit : ℕ → Bool
is_digit b = nat_le 48 b && nat_le b 57

-- the value of digits that follow a value; leading zeros are read
unfoldable pub digits_from : ℕ → List ℕ → Option ℕ
digits_from v [] = Some v
digits_from v (b ∷ rest) = if is_digit b then digits_from (10 * v + (b - 48)) rest else None

-- one to `most` digits and nothing else
unfoldable pub digits_value : ℕ → List ℕ → Option ℕ
digits_value most l = if nat_le 1 (length l) && nat_le (length l) most then digits_from 0 l else None

-- the size of a first line, of one to three digits
abbrev pub size_of : List ℕ → Option ℕ
size_of l = digits_value 3 l

-- a station, of one or two digits
abbrev pub station_of : List ℕ → Option ℕ
station_of l = digits_value 2 l

-- the kind of a letter: T, L and C are 1, 2 and 3
unfoldable pub kind_of : ℕ → Option ℕ
kind_of b = if b == 84 then Some 1 else (if b == 76 then Some 2 else (if b == 67 then Some 3 else None))

-- the kind and the station of an entry's line: a letter, a space and one or two digits
unfoldable pub entry_in_line : List ℕ → Option (ℕ × ℕ)
entry_in_line [] = None
entry_in_line (letter ∷ []) = None
entry_in_line (letter ∷ space ∷ digits) =
    if space == 32 then option_and_then (λ kind. option_map (λ station. (kind, station)) (station_of digits)) (kind_of letter) else None

-- the same of an entry as a value
abbrev pub pair_of : Entry → ℕ × ℕ
pair_of e = (kind_byte e.kind, e.station.0)

-- what is read: the number of the first unreadable line, from 1, or 0 where there is none; the size; and the entries before that line, how
-- many there are and their bytes, which are a schedule
pub record Reading : Type 0 where
  pub unread : ℕ
  pub size : ℕ
  pub entries : ℕ
  pub schedule : List ℕ

abbrev pub reading_of : ℕ → ℕ → ℕ → List ℕ → Reading
reading_of u n k s = record { unread = u; size = n; entries = k; schedule = s }

-- reading goes on after the size n and k entries, whose bytes are s: the next line has the number k + 2. Where there is no room for one more
-- entry, its line counts as unreadable
unfoldable pub read_entries : ℕ → ℕ → ℕ → List ℕ → List (List ℕ) → Reading
read_entries room n k s [] = reading_of 0 n k s
read_entries room n k s (l ∷ ls) =
    given (if nat_lt k room then entry_in_line l else None)
    (λ e. read_entries room n (suc k) (s ++ (e.0 ∷ e.1 ∷ [])) ls)
    (reading_of (k + 2) n k s)

-- Rule Unreadable: what the lines mean, or the number of the first that cannot be read. An empty input is unreadable at line 1
unfoldable pub read_lines : ℕ → List (List ℕ) → Reading
read_lines room [] = reading_of 1 0 0 []
read_lines room (l ∷ ls) = given (size_of l) (λ n. read_entries room n 0 [] ls) (reading_of 1 0 0 [])

-- how many entries are read: 4,096 at most, and no more than a lent schedule of `len` bytes holds, at two bytes each
abbrev pub room_for : ℕ → ℕ
room_for len = min 4096 (len / 2)

-- the whole input, with room for so many entries
unfoldable pub read_up_to : ℕ → List ℕ → Reading
read_up_to room input = read_lines room (lines input)

-- Rule Input: what the whole input means
abbrev pub read_input : List ℕ → Reading
read_input input = read_up_to 4096 input

-- the whole input, read into a lent schedule. One of 8,192 bytes or more has room for all entries: this is then read_input
abbrev pub read_into : List ℕ → List ℕ → Reading
read_into lent input = read_up_to (room_for (length lent)) input
