-- The dimension is at most 8, so that the shift loses no bit.
use Rattle.std.proofs.Common.{◌≡◌, refl, ℕ, ◌*◌, ◌-◌, ◌%◌, ◌<◌, ◌≤◌, arith}
use Prim.Native.Nat.{◌^◌}
use Rattle.table.specs.Sizes.{dimension, distances}
use Rattle.table.proofs.Levels.{level-le, shift_one}
use Rattle.table.proofs.sizes.distances.Goals as goal

at-most-eight : (n : ℕ) → n < 256 → dimension n ≤ 8
unfolding dimension
at-most-eight n h = level-le (n - 1) 8 (omega arith)

-- a 1 shifted by the dimension
shifted : (d n : ℕ) → d ≡ dimension n → n < 256 → (1 * 2 ^ d % 65536 ≡ 2 ^ d) × (2 ^ d ≤ 256)
shifted d n e h = shift_one d 8 65536 (omega (arith, e, at-most-eight n h)) (omega arith)

pub overflow_shl-result : goal.overflow_shl-result
overflow_shl-result c = omega (arith, c.dimension_of-d.ensures, at-most-eight c.args.n (omega arith))

pub returns-clause-number_of_distances : goal.returns-clause-number_of_distances
unfolding distances
returns-clause-number_of_distances c = rw c.dimension_of-d.ensures (shifted _ c.args.n refl (omega arith)).0

pub returns-clause-upper_bound : goal.returns-clause-upper_bound
returns-clause-upper_bound c =
    let s = shifted _ c.args.n c.dimension_of-d.ensures (omega arith) in
    omega (arith, s.0, s.1)
