-- What is said to people of an input that cannot be read.
-- Assumes nothing.
use Rattle.std.specs.Prelude.{ℕ, ◌-◌, ◌^◌, false, List, [], ◌++◌, codes, decimal, encode_utf8}
use Rattle.std.specs.Fmt.{digits, format_spec, padded_integral}
use Rattle.input.specs.declared.fault.Found.{Found}
use Rattle.input.specs.declared.fault.Expected.{Expected}
use Rattle.input.specs.declared.fault.Fault.{Fault}
use Rattle.input.specs.declared.reading.Unread.{Unread}

-- a byte in two hexadecimal digits
abbrev pub two_digits : ℕ → List ℕ
two_digits byte = padded_integral (format_spec 32 0 4 2 (2 ^ 64 - 1)) false [] (digits 16 false byte)

-- what is found at the first wrong place, up to the byte that is named
abbrev pub found_front : Found → List ℕ
found_front Found.NoInput = codes "an empty input"
found_front Found.NoLine = codes "an empty line"
found_front Found.LineEnd = codes "the end of the line"
found_front Found.Tab = codes "a tab"
found_front Found.CarriageReturn = codes "a carriage return"
found_front Found.ByteOrderMark = codes "a byte order mark"
found_front Found.Space = codes "a space"
found_front Found.Digit = codes "a digit"
found_front Found.DigitTooMany = codes "a digit too many"
found_front Found.LowerCaseLetter = codes "a lower case letter"
found_front (Found.Character byte) = codes "the character "
found_front (Found.Byte byte) = codes "the byte "
found_front Found.EntryTooMany = codes "a 4,097th entry"

-- the byte that is named: of a character, and of a byte that is not printed
abbrev pub found_named : Found → List ℕ
found_named (Found.Character byte) = encode_utf8 byte
found_named (Found.Byte byte) = two_digits byte ++ codes " (hexadecimal)"
found_named _ = []

-- both
abbrev pub found_words : Found → List ℕ
found_words found = found_front found ++ found_named found

-- what is expected there
abbrev pub expected_words : Expected → List ℕ
expected_words Expected.Size = codes "the size (one to three digits)"
expected_words Expected.Entry = codes "an entry (T, L or C, a space, one or two digits)"
expected_words Expected.Letter = codes "T, L or C"
expected_words Expected.Space = codes "a space"
expected_words Expected.Digit = codes "a digit"
expected_words Expected.LineEnd = codes "the end of the line"
expected_words Expected.InputEnd = codes "the end of the input (4,096 entries at most)"

-- Rule Words of an unreadable line: both
abbrev pub fault_words : Fault → List ℕ
fault_words fault = found_words fault.found ++ (codes " where " ++ (expected_words fault.expected ++ codes " is expected"))

-- the first line that cannot be read
abbrev pub unread_words : Unread → List ℕ
unread_words unread = codes "unread " ++ (decimal unread.line ++ (codes ": " ++ fault_words unread.fault))
