-- What is claimed besides of the answer to whether a distance is due, and of the assignment: the run does not need it.
-- Assumes nothing.
use Rattle.std.specs.Prelude.{Ok, ◌≡◌, true, List, ℕ, ◌*◌, ◌-◌, ◌≤◌, ◌<◌, length, Some, ◌==◌}
use Rattle.std.specs.List.{filter}
use Rattle.std.specs.Int.Bits.{bit_or}
use Rattle.table.specs.Sizes.{is_size, level}
use Rattle.station.specs.Groups.{distance, station_at, width}
use Rattle.table.specs.Table.{row}
use Rattle.table.specs.Rules.{table_check}
use Rattle.table.specs.declared.wiring.Wiring.TheVariants.{Cube}
use Rattle.station.specs.Tests.{unsuspected, first, answer, due_distances}
use Rattle.station.specs.Calls.{other_distances, answer_byte, assignment_entries}
use Rattle.station.specs.Ahead.{Before}

-- a table that refusals 1 to 4 let through: no row suspects its own station, as the claims below ask of a row
abbrev pub OwnUnsuspected : Type 0
OwnUnsuspected = (n : ℕ) (t : List ℕ) (i : ℕ) → table_check Cube n t ≡ Ok tt → i < n → unsuspected (row n t i) i ≡ true

-- Rule Assignment exact: of a row that does not suspect its own station somebody is first at every distance but 0
abbrev pub SomebodyFirst : Type 0
SomebodyFirst =
    (r : List ℕ) (i m : ℕ) → unsuspected r i ≡ true → 0 < m → (x : ℕ) × (first (unsuspected r) (station_at i m) (level m) ≡ Some x)

-- who stands before i at distance m does so (by `BeforeByDigits`) at all distances up to m with its digits below the highest one of e all 1, where e
-- is its distance from i. This is shown, and not used by the code
unfoldable pub up_to : ℕ → ℕ → ℕ
up_to m e = bit_or m (width (level e) - 1)

abbrev pub BeforeUpTo : Type 0
BeforeUpTo = (i m x y : ℕ) → Before i m x → m ≤ y → y ≤ up_to m (distance i x) → Before i y x

-- the assignment: n − 1 entries of two bytes, so that no byte of the list is left over
abbrev pub NothingLeftOver : Type 0
NothingLeftOver =
    (n : ℕ) (r : List ℕ) (i : ℕ) → is_size n ≡ true → i < n → length (assignment_entries r i (other_distances n i)) ≡ 2 * (n - 1)

-- Rule Assignment exact: for a row that does not suspect its own station the due distances are those of the entries with 255: no station that
-- is ahead has that number
abbrev pub DueEntriesAreMarked : Type 0
DueEntriesAreMarked =
    (n : ℕ) (r : List ℕ) (i : ℕ) → is_size n ≡ true → length r ≡ n → unsuspected r i ≡ true
    → due_distances r i n ≡ filter (λ m. answer_byte (answer r i m) == 255) (other_distances n i)
