-- What is answered of an input: what was read, or what is wrong in the first line that cannot be read.
-- Assumes nothing.
use Rattle.std.specs.Prelude.{ℕ, ◌-◌, Bool, ◌||◌, ◌&&◌, List, [], ◌∷◌, drop, nat_eq, nat_le, is_some, if◌then◌else◌, ◌==◌}
use Rattle.std.specs.Prelude.{Result, Ok, Err, slice_index_or}
use Rattle.std.specs.List.{prefix_len, starts_with}
use Rattle.input.specs.Input.{is_digit, kind_of, entry_in_line, Reading, lines}
use Rattle.input.specs.declared.fault.Found.{Found}
use Rattle.input.specs.declared.fault.Expected.{Expected}
use Rattle.input.specs.declared.fault.Fault.{Fault}
use Rattle.input.specs.declared.reading.Parsed.{Parsed}
use Rattle.input.specs.declared.reading.Unread.{Unread}

abbrev pub fault_with : Found → Expected → Fault
fault_with f e = record { found = f; expected = e }

-- Rule Words of a place: what a byte is: tab, carriage return, space, digit, lower case letter, another character that is printed, or a byte that
-- is not
unfoldable pub found_byte : ℕ → Found
found_byte b =
    if b == 9 then Found.Tab else (if b == 13 then Found.CarriageReturn else (if b == 32 then Found.Space else
    (if is_digit b then Found.Digit else (if nat_le 97 b && nat_le b 122 then Found.LowerCaseLetter else
    (if nat_le 33 b && nat_le b 126 then Found.Character b else Found.Byte b)))))

-- a byte order mark, in UTF-8 or UTF-16
abbrev pub is_marked : List ℕ → Bool
is_marked l = starts_with nat_eq l (239 ∷ 187 ∷ 191 ∷ []) || starts_with nat_eq l (255 ∷ 254 ∷ []) || starts_with nat_eq l (254 ∷ 255 ∷ [])

-- Rule Words of a place: what the rest of a line begins with
unfoldable pub found_at : List ℕ → Found
found_at [] = Found.LineEnd
found_at (b ∷ rest) = if is_marked (b ∷ rest) then Found.ByteOrderMark else found_byte b

-- what is wrong in what is not one to `most` digits: no digit, where the first one is called so; too many; or else what is behind them
unfoldable pub digits_fault : ℕ → Expected → List ℕ → Fault
digits_fault most first l =
    let digits = prefix_len is_digit l in
    if digits == 0 then fault_with (found_at l) first
    else fault_with (if nat_le digits most then found_at (drop digits l) else Found.DigitTooMany) Expected.LineEnd

-- what is wrong in a first line that is no size
unfoldable pub size_fault : List ℕ → Fault
size_fault [] = fault_with Found.NoLine Expected.Size
size_fault (b ∷ rest) = digits_fault 3 Expected.Size (b ∷ rest)

-- what is wrong behind an entry's letter
abbrev pub behind_letter : List ℕ → Fault
behind_letter l =
    if starts_with nat_eq l (32 ∷ []) then digits_fault 2 Expected.Digit (drop 1 l) else fault_with (found_at l) Expected.Space

-- what is wrong in a further line that is no entry
unfoldable pub entry_fault : List ℕ → Fault
entry_fault [] = fault_with Found.NoLine Expected.Entry
entry_fault (b ∷ rest) = if is_some (kind_of b) then behind_letter rest else fault_with (found_at (b ∷ rest)) Expected.Letter

-- the same of a line that counts as unreadable. One that is an entry is one too many
abbrev pub further_fault : List ℕ → Fault
further_fault l = if is_some (entry_in_line l) then fault_with Found.EntryTooMany Expected.InputEnd else entry_fault l

-- Rule First wrong place: what is wrong in line u, the first that cannot be read: found there, and expected there
unfoldable pub fault_in : ℕ → List (List ℕ) → Fault
fault_in u [] = fault_with Found.NoInput Expected.Size
fault_in u (l ∷ ls) = if u == 1 then size_fault l else further_fault (slice_index_or (l ∷ ls) (u - 1) [])

-- what is answered of a reading of an input: what was read, or the first unreadable line, what is wrong there and what was read before it
abbrev pub parsed_of : List ℕ → Reading → Result Parsed Unread
parsed_of input r =
    let before : Parsed = record { size = r.size; entries = r.entries } in
    if r.unread == 0 then Ok before
    else Err (record { line = r.unread; fault = fault_in r.unread (lines input); before = before })
