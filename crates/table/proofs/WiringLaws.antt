-- When two wirings are the same, and the end distance of each.
-- Assumes nothing.
use Rattle.std.proofs.Common.{◌≡◌, ℕ, true, ◌≤◌, ◌<◌, arith, refl}
use Rattle.lists.proofs.BoolLaws.{choice}
use Rattle.table.specs.declared.wiring.Wiring.{Wiring}
use Rattle.table.specs.Sizes.{is_size, distances}
use Rattle.table.specs.Wiring.{is_ring, same_wiring, end_distance}
use Rattle.table.proofs.SizeLaws.{size-bounds, distances-pos, distances_top, size-distances}
use Rattle.table.specs.declared.wiring.Wiring.TheVariants.{Cube, Ring}

-- two that are the same
pub same-itself : (w : Wiring) → same_wiring w w ≡ true
same-itself Cube = refl
same-itself Ring = refl

pub same-is : (v w : Wiring) → same_wiring v w ≡ true → v ≡ w
same-is Cube Cube e = refl
same-is Ring Ring e = refl
same-is Cube Ring e = cc
same-is Ring Cube e = cc

-- the end distance of the cube
pub end-cube : (n : ℕ) → end_distance Cube n ≡ distances n
unfolding end_distance
end-cube n = refl

-- and of the ring
pub end_ring : (w : Wiring) (n : ℕ) → is_ring w ≡ true → end_distance w n ≡ n
unfolding end_distance
end_ring w n e = rw e

-- where there is a station it is 1 or more
pub end-pos : (w : Wiring) (n k : ℕ) → k < n → 1 ≤ end_distance w n
unfolding end_distance
end-pos w n k h = choice (λ (e : ℕ). 1 ≤ e) (is_ring w) (omega arith) (distances-pos n)

pub end_top : (w : Wiring) (n : ℕ) → n ≤ 64 → end_distance w n ≤ 64
unfolding end_distance
end_top w n h = choice (λ (e : ℕ). e ≤ 64) (is_ring w) h (distances_top n h)

-- it is from n to 64
pub size-end : (w : Wiring) (n : ℕ) → is_size n ≡ true → (n ≤ end_distance w n) × (end_distance w n ≤ 64)
unfolding end_distance
size-end w n e = choice (λ (x : ℕ). (n ≤ x) × (x ≤ 64)) (is_ring w) (omega arith, (size-bounds n e).1) (size-distances n e)
