-- How wide numbers are that are printed.
-- Assumes nothing.
use Rattle.std.specs.Prelude.{ℕ, ◌+◌, ◌-◌, List, length, sum_by, nat_lt, if◌then◌else◌}
use Rattle.lists.specs.Search.{greatest}
use Rattle.station.specs.Tests.{unsuspected}
use Rattle.slots.specs.Slots.{tested}

-- how many digits a number below 1000 has
abbrev pub digits : ℕ → ℕ
digits x = if nat_lt x 10 then 1 else (if nat_lt x 100 then 2 else 3)

-- how wide boards are with a space between
abbrev pub width : List ℕ → ℕ
width boards = sum_by digits boards + (length boards - 1)

-- how wide the list of tests of live board i is, by the row of n boards; 0 for another board
unfoldable pub list_columns : ℕ → List ℕ → ℕ → ℕ
list_columns n row i = if unsuspected row i then width (tested n row i) else 0

-- how wide the widest list of tests of a live board is
unfoldable pub widest : ℕ → List ℕ → ℕ
widest n row = greatest (list_columns n row) n
