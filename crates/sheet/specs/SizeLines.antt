-- The table over all sizes, as it is printed.
-- Assumes nothing.
use Rattle.std.specs.Prelude.{ℕ, zero, suc, ◌+◌, List, [], ◌++◌, codes, decimal, replicate, true, false, Option, Some, None}
use Rattle.table.specs.Sizes.{dimension}
use Rattle.table.specs.declared.wiring.Wiring.TheVariants.{Cube}
use Rattle.slots.specs.Slots.{most_of_boards}
use Rattle.detection.specs.Claim.{worst_latency}
use Rattle.latency.specs.Turns.{most_until_known}
use Rattle.single_crash.specs.Bounds.{one_dead_on}
use Rattle.single_crash.specs.declared.bounds.OneDead.{OneDead}

-- what is printed of each number below n, one after the other
unfoldable pub each_below : (ℕ → List ℕ) → ℕ → List ℕ
each_below text zero = []
each_below text (suc k) = each_below text k ++ text k

-- a cell: the grants under a bus master after which one dead board is known everywhere, - where nothing is claimed
abbrev pub grants_cell : Option OneDead → List ℕ
grants_cell None = codes "| - "
grants_cell (Some known) = codes "| " ++ decimal known.grants ++ codes " "

-- three cells of size n: with nobody dead before, after how many rounds and after how many grants one dead board is known everywhere, and after how
-- many under a bus master
unfoldable pub known_cells : ℕ → List ℕ
known_cells n =
    codes "| " ++ decimal (suc (worst_latency (dimension n))) ++ codes " | " ++ decimal (most_until_known n (replicate n 0)) ++ codes " "
    ++ grants_cell (one_dead_on Cube n)

-- the six cells of size n: the most tests of a board with nobody dead, and with any one dead; and those three
abbrev pub size_cells : ℕ → List ℕ
size_cells n =
    codes "| " ++ decimal n ++ codes " | " ++ decimal (most_of_boards n (replicate n 0) false) ++ codes " | "
    ++ decimal (most_of_boards n (replicate n 0) true) ++ codes " " ++ known_cells n

-- row k of the table over all sizes
abbrev pub size_line : ℕ → List ℕ
size_line k = size_cells (k + 2) ++ (size_cells (k + 23) ++ (size_cells (k + 44) ++ codes "|\n"))

-- the table over all sizes
abbrev pub size_table : List ℕ
size_table =
    codes "| boards | nobody dead | one dead | rounds | grants | bus master | boards | nobody dead | one dead | rounds | grants | bus master "
    ++ codes "| boards | nobody dead | one dead | rounds | grants | bus master |\n"
    ++ codes "|--:|--:|--:|--:|--:|--:|--:|--:|--:|--:|--:|--:|--:|--:|--:|--:|--:|--:|\n" ++ each_below size_line 21
