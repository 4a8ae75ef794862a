-- Sizes, levels, d and the number of distances.
-- Assumes nothing.
use Rattle.std.specs.Prelude.{ℕ, ◌-◌, ◌^◌, Bool, ◌&&◌, nat_lt, nat_le}
use Rattle.lists.specs.Search.{least}

-- Rule Size: a plant has 2 to 64 stations
unfoldable pub is_size : ℕ → Bool
is_size n = nat_le 2 n && nat_le n 64

-- Rule Level: that of distance m is the least s with m < 2^s, so that 2^(s−1) ≤ m < 2^s; 0 for distance 0
unfoldable pub level : ℕ → ℕ
level m = least (λ s. nat_lt m (2 ^ s)) m 0

-- Rule Dimension: the least d with n ≤ 2^d, which is the level of the greatest number, n − 1
unfoldable pub dimension : ℕ → ℕ
dimension n = level (n - 1)

-- Rule End distance of the cube: 2^d, which is also how many distances there are, 0 included
unfoldable pub distances : ℕ → ℕ
distances n = 2 ^ dimension n
