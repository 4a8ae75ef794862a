-- That groups are nested, of full groups and with the absent numbers left out.
-- Assumes nothing.
use Rattle.std.specs.Prelude.{◌≡◌, ℕ, zero, suc, ◌^◌, List, [], ◌∷◌, ◌++◌}
use Rattle.std.specs.List.{filter}
use Rattle.station.specs.Groups.{station_at, is_present, full_group, group}

-- the full groups of station j at levels 1 to h, one behind the other
unfoldable pub groups_to : ℕ → ℕ → List ℕ
groups_to j zero = []
groups_to j (suc h) = groups_to j h ++ full_group j (suc h)

-- the same of n stations: the groups with the absent numbers left out
unfoldable pub remaining_to : ℕ → ℕ → ℕ → List ℕ
remaining_to n j zero = []
remaining_to n j (suc h) = remaining_to n j h ++ group n j (suc h)

-- Rule Nested groups: the full group of station i at level h + 1 is its first station, the one at distance 2^h from i, and behind it the full
-- groups of that station at levels 1 to h
abbrev pub NestedGroups : Type 0
NestedGroups = (i h : ℕ) → full_group i (suc h) ≡ station_at i (2 ^ h) ∷ groups_to (station_at i (2 ^ h)) h

-- the same of n stations: the first station, if it is present, and behind it its groups with the absent numbers left out
abbrev pub NestedGroupsRemaining : Type 0
NestedGroupsRemaining =
    (n i h : ℕ)
    → group n i (suc h) ≡ filter (is_present n) (station_at i (2 ^ h) ∷ []) ++ remaining_to n (station_at i (2 ^ h)) h
