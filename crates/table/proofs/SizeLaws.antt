-- A size is from 2 to 64: its dimension and its number of distances.
-- Assumes nothing.
use mathlib.Core.Path.{◌≡◌}
use mathlib.Core.Bool.{true}
use Prim.Native.Nat.{ℕ, suc, ◌-◌, ◌^◌, ◌≤◌, ◌<◌}
use native.Mathlib.Omega.{arith}
use borrow.Author.Tests.{leb-true}
use lib.Pow.{pow_mono, pow_pos}
use Rattle.table.specs.Sizes.{is_size, level, dimension, distances}
use Rattle.lists.proofs.SearchLaws.{both}
use Rattle.table.proofs.Levels.{level-le, level-split}

pub size-bounds : (n : ℕ) → is_size n ≡ true → (2 ≤ n) × (n ≤ 64)
unfolding is_size
size-bounds n e = let b = both _ _ e in (leb-true 2 n b.0, leb-true n 64 b.1)

pub size_top : (n : ℕ) → is_size n ≡ true → n ≤ 64
size_top n e = (size-bounds n e).1

-- the logarithm rounded up: 2^(d−1) < n ≤ 2^d
pub size-log : (n : ℕ) → is_size n ≡ true → (h : ℕ) × (dimension n ≡ suc h) × (2 ^ h < n) × (n ≤ 2 ^ suc h)
unfolding dimension
size-log n e =
    let b = size-bounds n e in
    let t = level-split (n - 1) (omega arith) in
    (t.0, t.1, omega (arith, t.2), omega (arith, t.3))

-- there is a distance
pub distances-pos : (n : ℕ) → 1 ≤ distances n
unfolding distances
distances-pos n = pow_pos (dimension n)

pub size-dimension : (n : ℕ) → is_size n ≡ true → dimension n ≤ 6
unfolding dimension
size-dimension n e = let b = size-bounds n e in level-le (n - 1) 6 (omega arith)

pub distances-le : (k n : ℕ) → n ≤ 2 ^ k → distances n ≤ 2 ^ k
unfolding distances dimension
distances-le k n h = pow_mono {i = level (n - 1)} {j = k} (level-le (n - 1) k (omega (arith, pow_pos k)))

pub distances_top : (n : ℕ) → n ≤ 64 → distances n ≤ 64
distances_top n h = distances-le 6 n h

-- the number of distances is from n to 64
pub size-distances : (n : ℕ) → is_size n ≡ true → (n ≤ distances n) × (distances n ≤ 64)
unfolding distances
size-distances n e =
    let d = size-log n e in
    (rw d.1 d.3, distances_top n (size-bounds n e).1)
