-- The lent table: n lines of n + 6 bytes, in station order. A byte is read and written by line and column.
-- Assumes nothing.
use Rattle.std.specs.Prelude.{ℕ, ◌+◌, ◌*◌, Bool, List, [], ◌∷◌, ◌++◌, set, take, drop, ◌==◌, slice_index}

-- how many bytes of a line stand before its row
abbrev pub head : ℕ
head = 6

-- a line's length
abbrev pub stride : ℕ → ℕ
stride n = n + head

-- Rule Table: n lines of n + 6 bytes
unfoldable pub table_length : ℕ → ℕ
table_length n = n * stride n

-- the length of the greatest table, that of 64 stations
abbrev pub greatest_table : ℕ
greatest_table = 64 * stride 64

-- where line i begins
unfoldable pub line_start : ℕ → ℕ → ℕ
line_start n i = i * stride n

-- byte c of line i
unfoldable pub cell : ℕ → List ℕ → ℕ → ℕ → ℕ
cell n t i c = slice_index t (line_start n i + c)

-- the table with v at byte c of line i
unfoldable pub set_cell : ℕ → List ℕ → ℕ → ℕ → ℕ → List ℕ
set_cell n t i c v = set t (line_start n i + c) v

-- the columns of bytes 0 to 5
abbrev pub status_column : ℕ
status_column = 0

abbrev pub next_column : ℕ
next_column = 1

abbrev pub finished_column : ℕ
finished_column = 2

abbrev pub tests_column : ℕ
tests_column = 3

abbrev pub told_by_column : ℕ
told_by_column = 4

abbrev pub rounds_ago_column : ℕ
rounds_ago_column = 5

-- Rule Status: byte 0, 0 live, 1 crashed, 2 left because told, 3 left because alone
abbrev pub status : ℕ → List ℕ → ℕ → ℕ
status n t i = cell n t i status_column

-- these statuses by name; 0 is asked by `live`
abbrev pub status_crashed : ℕ
status_crashed = 1

abbrev pub status_told : ℕ
status_told = 2

abbrev pub status_alone : ℕ
status_alone = 3

-- Rule Next distance: byte 1, the distance from which the station's next turn looks for a test, 1 to the end distance
abbrev pub next_distance : ℕ → List ℕ → ℕ → ℕ
next_distance n t i = cell n t i next_column

-- Rule Pass finished: byte 2, 1 if the station has no turn left in this round, else 0
abbrev pub finished : ℕ → List ℕ → ℕ → ℕ
finished n t i = cell n t i finished_column

-- Rule Tests made: byte 3, the tests that the station made in this round
abbrev pub tests_made : ℕ → List ℕ → ℕ → ℕ
tests_made n t i = cell n t i tests_column

-- Rule Told by: byte 4, the station that told this one to leave; 255 for nobody, 254 if it was never recorded
abbrev pub told_by : ℕ → List ℕ → ℕ → ℕ
told_by n t i = cell n t i told_by_column

abbrev pub told_by_none : ℕ
told_by_none = 255

abbrev pub not_recorded : ℕ
not_recorded = 254

-- Rule Rounds ago: byte 5, the rounds closed since the station stopped being live; 255 is 255 or more
abbrev pub rounds_ago : ℕ → List ℕ → ℕ → ℕ
rounds_ago n t i = cell n t i rounds_ago_column

abbrev pub rounds_ago_top : ℕ
rounds_ago_top = 255

-- Rule Suspicion: byte 6 + k of line i, 1 if station i suspects station k, else 0
abbrev pub suspects : ℕ → List ℕ → ℕ → ℕ → ℕ
suspects n t i k = cell n t i (head + k)

-- Rule Live: the status of station i is 0
abbrev pub live : ℕ → List ℕ → ℕ → Bool
live n t i = status n t i == 0

-- where the row of line i begins
abbrev pub row_start : ℕ → ℕ → ℕ
row_start n i = line_start n i + head

-- Rule Row: the bytes of line i from byte 6 on, as a list
unfoldable pub row : ℕ → List ℕ → ℕ → List ℕ
row n t i = take n (drop (row_start n i) t)

-- the table with r in place of the row of line i
unfoldable pub set_row : ℕ → List ℕ → ℕ → List ℕ → List ℕ
set_row n t i r = take (row_start n i) t ++ (r ++ drop n (drop (row_start n i) t))

-- a byte of a line that a rule writes: its column, and what it becomes
pub record Write : Type 0 where
  pub column : ℕ
  pub byte : ℕ

infix 45 ◌becomes◌
abbrev pub ◌becomes◌ : ℕ → ℕ → Write
c becomes v = record { column = c; byte = v }

-- bytes written one after the other, into line i of a table
abbrev pub write_cells : ℕ → ℕ → List ℕ → List Write → List ℕ
write_cells n i t [] = t
write_cells n i t (w ∷ ws) = write_cells n i (set_cell n t i w.column w.byte) ws
