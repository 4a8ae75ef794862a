-- What is claimed of the answer to whether a distance is due: who stands before a station in a group. The scan of a turn goes by it; slots
-- claims more.
-- Assumes nothing.
use Rattle.std.specs.Prelude.{◌≡◌, ◌↔◌, true, false, List, ℕ, suc, ◌-◌, ◌/◌, ◌%◌, ◌^◌, ◌≤◌, ◌<◌}
use Rattle.std.specs.Int.Bits.{bit_or}
use Rattle.table.specs.Sizes.{level}
use Rattle.station.specs.Groups.{distance, station_at}
use Rattle.station.specs.Tests.{unsuspected, answer_ahead, answer, stands, due}

-- number x, present or absent, stands before i in the full group, at the level of m, of the station at distance m from i: its distance from that
-- station has the same level, and is less than that of i, which is m
abbrev pub Before : ℕ → ℕ → ℕ → Type 0
Before i m x = (level (distance (station_at i m) x) ≡ level m) × (distance (station_at i m) x < m)

-- somebody whom row r does not suspect stands before i at distance m
abbrev pub SomebodyBefore : List ℕ → ℕ → ℕ → Type 0
SomebodyBefore r i m = (x : ℕ) × (unsuspected r x ≡ true) × Before i m x

-- Rule Assignment exact: for a row that does not suspect its own station, whom the answer names where a station stands is not suspected and stands
-- before i
abbrev pub NamedStandsBefore : Type 0
NamedStandsBefore =
    (r : List ℕ) (i m x : ℕ) → unsuspected r i ≡ true → 0 < m → stands r i m ≡ true → answer r i m ≡ answer_ahead x
    → (unsuspected r x ≡ true) × Before i m x

-- and the answer is "due" just where a station stands and the row leaves nobody unsuspected that stands before i
abbrev pub DueIfNobodyBefore : Type 0
DueIfNobodyBefore =
    (r : List ℕ) (i m : ℕ) → unsuspected r i ≡ true → 0 < m
    → (due r i m ≡ true) ↔ ((stands r i m ≡ true) × ((x : ℕ) → Before i m x → unsuspected r x ≡ false))

-- who stands before i goes by binary digits: with m = 2^(s−1) + k, those before i are its own groups at the levels h + 1 for which digit h
-- of k is 1, whatever s is. Digit h of k is that of m, since h + 1 < s
abbrev pub BeforeByDigits : Type 0
BeforeByDigits =
    (i m x : ℕ) → Before i m x
    ↔ ((h : ℕ) × (level (distance i x) ≡ suc h) × (suc h < level m) × (m / 2 ^ h % 2 ≡ 1))

-- the block that begins with m ends with m with its digits below its lowest 1 all 1, which does not depend on who stands before i
unfoldable pub block_end : ℕ → ℕ
block_end m = bit_or m (m - 1)

-- who stands before i at distance m does so in the whole block
abbrev pub BeforeInBlock : Type 0
BeforeInBlock = (i m x y : ℕ) → Before i m x → m ≤ y → y ≤ block_end m → Before i y x

-- so where a station stands at distance m and the answer is not "due", no distance of the block is due, whatever the row
abbrev pub NoneDueInBlock : Type 0
NoneDueInBlock =
    (r : List ℕ) (i m x y : ℕ) → stands r i m ≡ true → answer r i m ≡ answer_ahead x → m ≤ y → y ≤ block_end m → due r i y ≡ false
