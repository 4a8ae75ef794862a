-- The sheet of one plant, as it is printed.
-- Assumes nothing.
use Rattle.std.specs.Prelude.{ℕ, suc, ◌-◌, List, [], ◌++◌, codes, decimal, map, length, max, replicate, if◌then◌else◌}
use Rattle.std.specs.Prelude.{count_by, ◌==◌, Option, Some, None}
use Rattle.std.specs.List.{zip}
use Rattle.table.specs.declared.Station.{Station}
use Rattle.table.specs.Sizes.{dimension}
use Rattle.station.specs.Tests.{unsuspected}
use Rattle.slots.specs.Slots.{tested, untested, ahead, most_tests}
use Rattle.slots.specs.declared.untested.Untested.{Untested}
use Rattle.detection.specs.Claim.{worst_latency}
use Rattle.latency.specs.Turns.{most_until_known}
use Rattle.table.specs.declared.wiring.Wiring.TheVariants.{Cube}
use Rattle.single_crash.specs.Bounds.{one_dead_on}
use Rattle.single_crash.specs.declared.bounds.OneDead.{OneDead}
use Rattle.sheet.specs.Text.{width, widest}
use Rattle.sheet.specs.Printed.{boards_text, ahead_text, dead_text}
use Rattle.sheet.specs.SizeLines.{each_below}

-- so many spaces
abbrev pub spaces : ℕ → List ℕ
spaces count = replicate count 32

-- a number at the right of so many columns
abbrev pub right : ℕ → ℕ → List ℕ
right columns x = spaces (columns - length (decimal x)) ++ decimal x

-- board i at the head of its line
abbrev pub board_cell : ℕ → List ℕ
board_cell i = right 5 i ++ codes "  "

-- the number of tests, and the most with one more dead
abbrev pub count_cells : ℕ → ℕ → List ℕ
count_cells tests most = codes "  " ++ right 13 tests ++ codes "  " ++ right 23 most ++ codes "\n"

-- the boards that board i tests, by the row of n boards
abbrev pub tests_of : ℕ → List ℕ → ℕ → List Station
tests_of n row i = map (λ x. record { 0 = x }) (tested n row i)

-- the boards that it does not test, each with the one ahead
abbrev pub untested_of : ℕ → List ℕ → ℕ → List Untested
untested_of n row i = map (λ p. record { board = record { 0 = p.0 }; ahead = record { 0 = p.1 } }) (zip (untested n row i) (ahead n row i))

-- the line of board i: whom it tests, in so many columns, how many these are, and the most with one more dead
unfoldable pub tests_line : ℕ → List ℕ → ℕ → ℕ → List ℕ
tests_line n row columns i =
    board_cell i ++ boards_text (tests_of n row i) ++ spaces (columns - width (tested n row i))
    ++ count_cells (length (tested n row i)) (most_tests n row i)

-- the line of board i: whom it does not test, and who stands ahead
unfoldable pub untested_line : ℕ → List ℕ → ℕ → List ℕ
untested_line n row i = board_cell i ++ ahead_text (untested_of n row i) ++ codes "\n"

-- the line of board i, if it is live
unfoldable pub live_line : (ℕ → List ℕ) → List ℕ → ℕ → List ℕ
live_line line row i = if unsuspected row i then line i else []

-- the lines of the live boards of n
abbrev pub live_lines : (ℕ → List ℕ) → List ℕ → ℕ → List ℕ
live_lines line row n = each_below (live_line line row) n

-- the head of the lines of tests, whose lists have so many columns
abbrev pub tests_head : ℕ → List ℕ
tests_head columns =
    codes "board  whom it tests, in order" ++ spaces (columns - length (codes "whom it tests, in order"))
    ++ codes "  tests a round  most with one more dead\n"

-- how many columns the lists of tests have: the widest's, and the head's at least
abbrev pub list_width : ℕ → List ℕ → ℕ
list_width n row = max (widest n row) (length (codes "whom it tests, in order"))

-- under a bus master: after how many rounds and grants one dead board is known everywhere, where something is claimed
abbrev pub bounds_line : Option OneDead → List ℕ
bounds_line None = []
bounds_line (Some known) =
    codes "Under a bus master, one board at a time: after at most " ++ decimal known.rounds ++ codes " rounds, " ++ decimal known.grants
    ++ codes " grants\n"

-- that of n boards, if nobody is dead by the row
unfoldable pub master_text : ℕ → List ℕ → List ℕ
master_text n row = if count_by (λ dead. dead == 0) row == length row then bounds_line (one_dead_on Cube n) else []

-- after how many rounds, that of its death among them, and after how many grants all live boards know one more dead board, at most; and under a
-- bus master
unfoldable pub known_text : ℕ → List ℕ → List ℕ
known_text n row =
    codes "One more dead board is known everywhere after at most " ++ decimal (suc (worst_latency (dimension n))) ++ codes " rounds, "
    ++ decimal (most_until_known n row) ++ codes " grants\n" ++ master_text n row

-- the sheet of a plant of n boards, by their row
abbrev pub sheet_text : ℕ → List ℕ → List ℕ
sheet_text n row =
    decimal n ++ codes " boards, dead:" ++ dead_text row ++ codes "\n" ++ known_text n row ++ codes "\n" ++ tests_head (list_width n row)
    ++ live_lines (tests_line n row (list_width n row)) row n
    ++ codes "\nboard  whom it does not test (who stands ahead)\n" ++ live_lines (untested_line n row) row n
