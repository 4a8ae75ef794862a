-- The figures of the commissioning sheet, on the cube: after how many turns one more dead board is known everywhere, by the row of n boards that
-- suspects just the dead ones.
-- Assumes nothing.
use Rattle.std.specs.Prelude.{◌≡◌, true, List, ℕ, suc, ◌+◌, ◌*◌, ◌≤◌, ◌<◌, length, if◌then◌else◌}
use Rattle.lists.specs.Search.{greatest}
use Rattle.lists.specs.Sums.{sum_below}
use Rattle.table.specs.Sizes.{is_size, dimension}
use Rattle.table.specs.Properties.{exact_row}
use Rattle.table.specs.declared.wiring.Wiring.TheVariants.{Cube}
use Rattle.station.specs.Tests.{unsuspected}
use Rattle.station.specs.Rows.{mark}
use Rattle.slots.specs.Slots.{tested}
use Rattle.detection.specs.Claim.{worst_latency}
use Rattle.latency.specs.Crash.{turns_from_crash}

-- the turns of board i in a round, if it is live: its tests, and one that finishes its pass
unfoldable pub turns_of : ℕ → List ℕ → ℕ → ℕ
turns_of n r i = if unsuspected r i then length (tested n r i) + 1 else 0

-- those of all n boards
unfoldable pub turns_by_row : ℕ → List ℕ → ℕ
turns_by_row n r = sum_below (turns_of n r) n

-- Rule Turns of the sheet: if j dies too, the round in which it dies and as many as the worst case has; 0 if j is dead already
unfoldable pub known_with : ℕ → List ℕ → ℕ → ℕ
known_with n r j = if unsuspected r j then suc (worst_latency (dimension n)) * turns_by_row n (mark r j) else 0

-- the most that any one more dead board can make of it
unfoldable pub most_until_known : ℕ → List ℕ → ℕ
most_until_known n r = greatest (known_with n r) n

-- Rule Turns of the sheet: of a table whose dead boards are those of row r and j, the turns from the crash of j are no more
abbrev pub FiguresCover : Type 0
FiguresCover =
    (n : ℕ) (t r : List ℕ) (j : ℕ) → is_size n ≡ true → j < n → unsuspected r j ≡ true → exact_row n t ≡ mark r j
    → turns_from_crash Cube n t ≤ most_until_known n r
