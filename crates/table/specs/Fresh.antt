-- The fresh table.
-- Assumes nothing.
use Rattle.std.specs.Prelude.{ℕ, ◌%◌, List, length, if◌then◌else◌, ◌==◌}
use Rattle.lists.specs.Search.{list_of}
use Rattle.table.specs.Table.{stride, next_column, told_by_column, told_by_none, table_length}
use Rattle.table.specs.Rules.{shape_check}
use Rattle.lists.specs.Refusal.{unless_refused}

-- Rule Fresh: a byte of a fresh line, next distance 1, byte 4 255, and all else 0
unfoldable pub fresh_byte : ℕ → ℕ → ℕ
fresh_byte n p = if p % stride n == next_column then 1 else (if p % stride n == told_by_column then told_by_none else 0)

-- Rule Fresh: the fresh table of n stations, byte by byte
unfoldable pub fresh_table : ℕ → List ℕ
fresh_table n = list_of (fresh_byte n) (table_length n)

-- Rule Fresh table: the table after the call, given t, the same on both wirings; refusals 1, 2
unfoldable pub fresh_after : ℕ → List ℕ → List ℕ
fresh_after n t = unless_refused (shape_check n (length t)) t (fresh_table n)
