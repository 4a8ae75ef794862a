-- Sums over the numbers below a bound, by which tests are counted.
-- Assumes nothing.
use Rattle.std.specs.List.{range_with_len, sum_by}
use Rattle.std.specs.Prelude.{ℕ, Bool, true, false}

-- the sum f 0 + f 1 + .. + f (n − 1)
unfoldable pub sum_below : (ℕ → ℕ) → ℕ → ℕ
sum_below f n = sum_by f (range_with_len 0 n)

-- 1 for true, 0 for false
abbrev pub bit : Bool → ℕ
bit true = 1
bit false = 0
