-- The group of a station as the code walks it, from its least distance on.
-- Assumes nothing.
use mathlib.Core.Path.{◌≡◌, refl, ap, ◌∙◌}
use mathlib.Core.List.{map}
use Prim.Native.Nat.{ℕ, ◌+◌}
use Rattle.std.specs.List.{filter, range_with_len}
use Rattle.lists.proofs.Enumerated.{map-range}
use Rattle.station.specs.Groups.{station_at, is_present, width, member, full_group, group}

-- member k of the group of i whose least distance is w
abbrev pub placed : ℕ → ℕ → ℕ → ℕ
placed i w k = station_at i (w + k)

-- its members among n stations
pub group-walk : (n i s w : ℕ) → w ≡ width s → filter (is_present n) (map (placed i w) (range_with_len 0 w)) ≡ group n i s
unfolding group full_group member
group-walk n i s w e = ap (filter (is_present n)) (map-range (placed i w) w) ∙ rw e refl
