-- A line by itself, as its board holds it: n + 6 bytes, the head and the row.
-- Assumes nothing.
use Rattle.std.specs.Prelude.{ℕ, Bool, List, [], ◌∷◌, ◌++◌, take, drop, set, ◌==◌, slice_index}
use Rattle.table.specs.Table.{Write, head, stride, line_start, status_column}

-- line i of the table
unfoldable pub line : ℕ → List ℕ → ℕ → List ℕ
line n t i = take (stride n) (drop (line_start n i) t)

-- the table with l in place of line i
unfoldable pub set_line : ℕ → List ℕ → ℕ → List ℕ → List ℕ
set_line n t i l = take (line_start n i) t ++ (l ++ drop (stride n) (drop (line_start n i) t))

-- the row of a line
unfoldable pub row_of : ℕ → List ℕ → List ℕ
row_of n l = take n (drop head l)

-- the line with r in place of its row
unfoldable pub with_row : ℕ → List ℕ → List ℕ → List ℕ
with_row n l r = take head l ++ (r ++ drop n (drop head l))

-- whether the board that holds the line is live
abbrev pub is_live : List ℕ → Bool
is_live l = slice_index l status_column == 0

-- bytes written one after the other, into a line
abbrev pub write_bytes : List ℕ → List Write → List ℕ
write_bytes l [] = l
write_bytes l (w ∷ ws) = write_bytes (set l w.column w.byte) ws
