-- That the groups of a station part the other stations.
-- Assumes nothing.
use mathlib.Core.List.{Memᴰ}
use Rattle.std.specs.Prelude.{◌≡◌, ◌≢◌, ℕ, true, ◌<◌, ◌≤◌}
use Rattle.table.specs.Sizes.{is_size, dimension}
use Rattle.station.specs.Groups.{group}

-- Rule Partition: no station is in a group of its own
abbrev pub NotInOwnGroup : Type 0
NotInOwnGroup = (n i s : ℕ) → ¬ Memᴰ i (group n i s)

-- Rule Partition: each other one of n stations is in just one group of station i, at a level from 1 to d
abbrev pub InOneGroup : Type 0
InOneGroup =
    (n i x : ℕ) → is_size n ≡ true → i < n → x < n → i ≢ x
    → (s : ℕ) × (0 < s) × (s ≤ dimension n) × Memᴰ x (group n i s) × ((t : ℕ) → Memᴰ x (group n i t) → t ≡ s)
