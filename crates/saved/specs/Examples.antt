-- Examples of saved plants, worked out by hand from the rules: the saved form of two fresh boards (RULES, Saved plants), the reader's number for some
-- files, what is converted of a file of edition 1, and the converter's number for some.
-- Assumes nothing.
use Rattle.std.specs.Prelude.{ℕ, ◌≡◌, Bool, true, ◌&&◌, List, [], ◌∷◌, ◌++◌, ◌==◌}
use Rattle.lists.specs.Refusal.{number_of_result}
use Rattle.table.specs.Fresh.{fresh_table}
use Rattle.saved.specs.Load.{load_check}
use Rattle.saved.specs.Save.{saved}
use Rattle.saved.specs.Convert.{converted, convert_check}

-- fields: the opening, size 2, a tally of 0 and 0, the lines of two fresh boards
abbrev opening : List ℕ
opening = 4 ∷ 0 ∷ 1 ∷ 2 ∷ []

abbrev size : List ℕ
size = 1 ∷ 0 ∷ 1 ∷ 2 ∷ []

abbrev tally : List ℕ
tally = 2 ∷ 0 ∷ 8 ∷ 0 ∷ 0 ∷ 0 ∷ 0 ∷ 0 ∷ 0 ∷ 0 ∷ 0 ∷ []

abbrev line0 : List ℕ
line0 = 3 ∷ 0 ∷ 9 ∷ 0 ∷ 0 ∷ 1 ∷ 0 ∷ 0 ∷ 255 ∷ 0 ∷ 0 ∷ 0 ∷ []

abbrev line1 : List ℕ
line1 = 3 ∷ 0 ∷ 9 ∷ 1 ∷ 0 ∷ 1 ∷ 0 ∷ 0 ∷ 255 ∷ 0 ∷ 0 ∷ 0 ∷ []

-- what stands before the lines
abbrev front : List ℕ
front = opening ++ (size ++ tally)

unfoldable pub two_boards : List ℕ
two_boards = front ++ (line0 ++ line1)

-- what the writer writes of them
abbrev pub TwoBoards : Type 0
TwoBoards = saved 2 (fresh_table 2) (record { rounds = 0; tests = 0 }) ≡ two_boards

-- other fields: with no contents, of tags 0, 3 and 5, and with one byte, of tag 5
abbrev empty0 : List ℕ
empty0 = 0 ∷ 0 ∷ 0 ∷ []

abbrev empty_line : List ℕ
empty_line = 3 ∷ 0 ∷ 0 ∷ []

abbrev empty5 : List ℕ
empty5 = 5 ∷ 0 ∷ 0 ∷ []

-- a file, the length of the buffer, and the number
pub record Example : Type 0 where
  pub file : List ℕ
  pub len : ℕ
  pub number : ℕ

abbrev example : List ℕ → ℕ → ℕ → Example
example file len number = record { file = file; len = len; number = number }

-- of the reader, with a table of that length
unfoldable pub examples : List Example
examples =
    example two_boards 16 0
    -- 18: stray bytes at the end, a field one byte too short, also where 21 and 22 apply
    ∷ example (two_boards ++ (4 ∷ [])) 16 18
    ∷ example (two_boards ++ (3 ∷ 0 ∷ [])) 16 18
    ∷ example (two_boards ++ (3 ∷ 0 ∷ 1 ∷ [])) 16 18
    ∷ example (1 ∷ 0 ∷ 2 ∷ 2 ∷ []) 16 18
    ∷ example (two_boards ++ (opening ++ (0 ∷ []))) 16 18
    -- 21: an empty file, no opening, contents 1, contents of two bytes and of none, another tag, size first; also where 22 and 19 apply
    ∷ example [] 16 21
    ∷ example (size ++ (tally ++ (line0 ++ line1))) 16 21
    ∷ example ((4 ∷ 0 ∷ 1 ∷ 1 ∷ []) ++ (size ++ (tally ++ (line0 ++ line1)))) 16 21
    ∷ example ((4 ∷ 0 ∷ 2 ∷ 2 ∷ 0 ∷ []) ++ (size ++ (tally ++ (line0 ++ line1)))) 16 21
    ∷ example ((4 ∷ 0 ∷ 0 ∷ []) ++ (size ++ (tally ++ (line0 ++ line1)))) 16 21
    ∷ example ((5 ∷ 0 ∷ 1 ∷ 2 ∷ []) ++ (size ++ (tally ++ (line0 ++ line1)))) 16 21
    ∷ example (size ++ (opening ++ (tally ++ (line0 ++ line1)))) 16 21
    ∷ example (tally ++ (size ++ (empty5 ++ (line0 ++ line1)))) 16 21
    -- 22: a second opening, behind the first and at the end, an unknown tag, tally before size, a line before the tally, lines descending, an
    -- empty line field behind one of station 1; also where 19 and 20 apply
    ∷ example (opening ++ two_boards) 16 22
    ∷ example (two_boards ++ opening) 16 22
    ∷ example (opening ++ (empty0 ++ (size ++ (tally ++ (line0 ++ line1))))) 16 22
    ∷ example (two_boards ++ empty5) 16 22
    ∷ example (opening ++ (tally ++ (size ++ (line0 ++ line1)))) 16 22
    ∷ example (opening ++ (size ++ (line0 ++ (tally ++ line1)))) 16 22
    ∷ example (front ++ (line1 ++ line0)) 16 22
    ∷ example (two_boards ++ empty_line) 16 22
    ∷ example (opening ++ empty5) 16 22
    -- 19: neither, the size twice, no tally, a size of two bytes; also where 1 applies
    ∷ example opening 16 19
    ∷ example (opening ++ (size ++ (size ++ (tally ++ (line0 ++ line1))))) 16 19
    ∷ example (opening ++ (size ++ (line0 ++ line1))) 16 19
    ∷ example (opening ++ ((1 ∷ 0 ∷ 2 ∷ 0 ∷ 2 ∷ []) ++ (tally ++ (line0 ++ line1)))) 16 19
    ∷ example (opening ++ (1 ∷ 0 ∷ 1 ∷ 1 ∷ [])) 16 19
    -- 1: sizes 1 and 65, also where 20 applies
    ∷ example (opening ++ ((1 ∷ 0 ∷ 1 ∷ 1 ∷ []) ++ tally)) 16 1
    ∷ example (opening ++ ((1 ∷ 0 ∷ 1 ∷ 65 ∷ []) ++ tally)) 16 1
    -- 20: a station absent, twice, too high, a line one byte short, an empty line field, which counts as station 0, before the lines and behind one
    -- of station 0, lines with heads of four bytes; also where 2 applies
    ∷ example (front ++ line0) 16 20
    ∷ example (front ++ (line0 ++ (line0 ++ line1))) 16 20
    ∷ example (two_boards ++ (3 ∷ 0 ∷ 9 ∷ 2 ∷ 0 ∷ 1 ∷ 0 ∷ 0 ∷ 255 ∷ 0 ∷ 0 ∷ 0 ∷ [])) 16 20
    ∷ example (front ++ (line0 ++ (3 ∷ 0 ∷ 8 ∷ 1 ∷ 0 ∷ 1 ∷ 0 ∷ 0 ∷ 255 ∷ 0 ∷ 0 ∷ []))) 15 20
    ∷ example (front ++ (empty_line ++ (line0 ++ line1))) 16 20
    ∷ example (front ++ (line0 ++ (empty_line ++ line1))) 16 20
    ∷ example (front ++ ((3 ∷ 0 ∷ 7 ∷ 0 ∷ 0 ∷ 1 ∷ 0 ∷ 0 ∷ 0 ∷ 0 ∷ []) ++ (3 ∷ 0 ∷ 7 ∷ 1 ∷ 0 ∷ 1 ∷ 0 ∷ 0 ∷ 0 ∷ 0 ∷ []))) 16 20
    -- 2, also where 3 applies; 3: status 4, a live line with 0 in byte 4; 0: told and never recorded; 4: both are finished
    ∷ example two_boards 15 2
    ∷ example (front ++ (line0 ++ (3 ∷ 0 ∷ 9 ∷ 1 ∷ 4 ∷ 1 ∷ 0 ∷ 0 ∷ 255 ∷ 0 ∷ 0 ∷ 0 ∷ []))) 17 2
    ∷ example (front ++ (line0 ++ (3 ∷ 0 ∷ 9 ∷ 1 ∷ 4 ∷ 1 ∷ 0 ∷ 0 ∷ 255 ∷ 0 ∷ 0 ∷ 0 ∷ []))) 16 3
    ∷ example (front ++ (line0 ++ (3 ∷ 0 ∷ 9 ∷ 1 ∷ 0 ∷ 1 ∷ 0 ∷ 0 ∷ 0 ∷ 0 ∷ 0 ∷ 0 ∷ []))) 16 3
    ∷ example (front ++ (line0 ++ (3 ∷ 0 ∷ 9 ∷ 1 ∷ 2 ∷ 1 ∷ 0 ∷ 0 ∷ 254 ∷ 7 ∷ 0 ∷ 0 ∷ []))) 16 0
    ∷ example (front ++ ((3 ∷ 0 ∷ 9 ∷ 0 ∷ 0 ∷ 2 ∷ 1 ∷ 1 ∷ 255 ∷ 0 ∷ 0 ∷ 0 ∷ []) ++ (3 ∷ 0 ∷ 9 ∷ 1 ∷ 0 ∷ 2 ∷ 1 ∷ 1 ∷ 255 ∷ 0 ∷ 0 ∷ 0 ∷ []))) 16 4
    ∷ []

-- all have that number
unfoldable pub all_hold : List Example → Bool
all_hold [] = true
all_hold (e ∷ es) = number_of_result (load_check e.file e.len) == e.number && all_hold es

abbrev pub ExamplesHold : Type 0
ExamplesHold = all_hold examples ≡ true

-- fields of edition 1: the lines of two fresh boards; board 1 crashed, and told to leave, each time suspecting board 0
abbrev old0 : List ℕ
old0 = 3 ∷ 0 ∷ 7 ∷ 0 ∷ 0 ∷ 1 ∷ 0 ∷ 0 ∷ 0 ∷ 0 ∷ []

abbrev old1 : List ℕ
old1 = 3 ∷ 0 ∷ 7 ∷ 1 ∷ 0 ∷ 1 ∷ 0 ∷ 0 ∷ 0 ∷ 0 ∷ []

abbrev old1_crashed : List ℕ
old1_crashed = 3 ∷ 0 ∷ 7 ∷ 1 ∷ 1 ∷ 2 ∷ 0 ∷ 1 ∷ 1 ∷ 0 ∷ []

abbrev old1_told : List ℕ
old1_told = 3 ∷ 0 ∷ 7 ∷ 1 ∷ 2 ∷ 2 ∷ 0 ∷ 1 ∷ 1 ∷ 0 ∷ []

-- what the converter writes of them
abbrev pub Conversions : Type 0
Conversions =
    (converted (size ++ (tally ++ (old0 ++ old1))) ≡ two_boards)
    × (converted (old1_told ++ (tally ++ (old0 ++ size))) ≡ front ++ (line0 ++ (3 ∷ 0 ∷ 9 ∷ 1 ∷ 2 ∷ 2 ∷ 0 ∷ 1 ∷ 254 ∷ 0 ∷ 1 ∷ 0 ∷ [])))
    × (converted (old0 ++ (size ++ (old1_crashed ++ tally))) ≡ front ++ (line0 ++ (3 ∷ 0 ∷ 9 ∷ 1 ∷ 1 ∷ 2 ∷ 0 ∷ 1 ∷ 255 ∷ 0 ∷ 1 ∷ 0 ∷ [])))

-- of the converter, with a buffer of that length
unfoldable pub old_examples : List Example
old_examples =
    -- the writer's order, and others
    example (size ++ (tally ++ (old0 ++ old1))) 43 0
    ∷ example (old1_told ++ (tally ++ (old0 ++ size))) 43 0
    ∷ example (old0 ++ (size ++ (old1_crashed ++ tally))) 43 0
    -- 18: a stray byte, also where 22 applies
    ∷ example (size ++ (tally ++ (old0 ++ (old1 ++ (5 ∷ []))))) 43 18
    -- 22: edition 2, an opening at the end, tags 0 and 5; also where 19 applies
    ∷ example two_boards 43 22
    ∷ example (size ++ (tally ++ (old0 ++ (old1 ++ opening)))) 43 22
    ∷ example (empty0 ++ (size ++ (tally ++ (old0 ++ old1)))) 43 22
    ∷ example (size ++ (tally ++ (empty5 ++ (old0 ++ old1)))) 43 22
    ∷ example empty5 43 22
    -- 19: an empty file, the tally twice; also where 1 applies
    ∷ example [] 43 19
    ∷ example (size ++ (tally ++ (old0 ++ (old1 ++ tally)))) 43 19
    ∷ example (1 ∷ 0 ∷ 1 ∷ 1 ∷ []) 43 19
    -- 1, also where 20 applies
    ∷ example ((1 ∷ 0 ∷ 1 ∷ 65 ∷ []) ++ tally) 43 1
    -- 20: heads of six bytes, a station twice, an empty line field; also where 3 applies
    ∷ example (size ++ (tally ++ (line0 ++ line1))) 43 20
    ∷ example (size ++ (tally ++ (old0 ++ (old1 ++ old0)))) 43 20
    ∷ example (size ++ (tally ++ (empty_line ++ (old0 ++ old1)))) 43 20
    ∷ example (size ++ (tally ++ (3 ∷ 0 ∷ 7 ∷ 0 ∷ 4 ∷ 1 ∷ 0 ∷ 0 ∷ 0 ∷ 0 ∷ []))) 43 20
    -- 3: status 4, a board that suspects itself, two tests with next distance 2; also where 13 applies
    ∷ example (size ++ (tally ++ (old0 ++ (3 ∷ 0 ∷ 7 ∷ 1 ∷ 4 ∷ 1 ∷ 0 ∷ 0 ∷ 0 ∷ 0 ∷ [])))) 42 3
    ∷ example (size ++ (tally ++ (old0 ++ (3 ∷ 0 ∷ 7 ∷ 1 ∷ 0 ∷ 1 ∷ 0 ∷ 0 ∷ 0 ∷ 1 ∷ [])))) 43 3
    ∷ example (size ++ (tally ++ (old0 ++ (3 ∷ 0 ∷ 7 ∷ 1 ∷ 0 ∷ 2 ∷ 0 ∷ 2 ∷ 0 ∷ 0 ∷ [])))) 43 3
    -- 4: both are finished; also where 13 applies
    ∷ example (size ++ (tally ++ ((3 ∷ 0 ∷ 7 ∷ 0 ∷ 0 ∷ 2 ∷ 1 ∷ 1 ∷ 0 ∷ 0 ∷ []) ++ (3 ∷ 0 ∷ 7 ∷ 1 ∷ 0 ∷ 2 ∷ 1 ∷ 1 ∷ 0 ∷ 0 ∷ [])))) 42 4
    -- 13
    ∷ example (size ++ (tally ++ (old0 ++ old1))) 42 13
    ∷ example (size ++ (tally ++ (old0 ++ old1))) 44 13
    ∷ []

unfoldable pub all_old_hold : List Example → Bool
all_old_hold [] = true
all_old_hold (e ∷ es) = number_of_result (convert_check e.file e.len) == e.number && all_old_hold es

abbrev pub OldExamplesHold : Type 0
OldExamplesHold = all_old_hold old_examples ≡ true
