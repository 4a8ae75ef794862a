-- Groups by distance.
-- Assumes nothing.
use Rattle.std.specs.Prelude.{ℕ, zero, suc, ◌+◌, ◌^◌, Bool, List, nat_lt}
use Rattle.std.specs.List.{filter}
use Rattle.std.specs.Int.Bits.{bit_xor}
use Rattle.lists.specs.Search.{list_of}

-- Rule Distance: the distance of two stations is the exclusive or of their numbers
abbrev pub distance : ℕ → ℕ → ℕ
distance i j = bit_xor i j

-- Rule Distance: the station at distance m from i
abbrev pub station_at : ℕ → ℕ → ℕ
station_at i m = bit_xor i m

-- Rules Station and Absent number: whether a station stands at a number. Nobody stands at n or above
abbrev pub is_present : ℕ → ℕ → Bool
is_present n x = nat_lt x n

-- how many numbers a full group at level s has, 2^(s−1), which is also its least distance; level 0 has none
unfoldable pub width : ℕ → ℕ
width zero = 0
width (suc h) = 2 ^ h

-- element k, from 0, of the full group of station i at level s: the number at distance 2^(s−1) + k from i
unfoldable pub member : ℕ → ℕ → ℕ → ℕ
member i s k = station_at i (width s + k)

-- Rule Full group: that of station i at level s, listed in order
unfoldable pub full_group : ℕ → ℕ → List ℕ
full_group i s = list_of (member i s) (width s)

-- Rule Group: the full group without the absent numbers, in the same order
unfoldable pub group : ℕ → ℕ → ℕ → List ℕ
group n i s = filter (is_present n) (full_group i s)
