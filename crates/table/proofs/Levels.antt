-- Laws of the level of a distance and of d, of specs/Sizes, and of a 1 shifted by some places.
-- Assumes nothing.
use mathlib.Core.Path.{◌≡◌, refl}
use mathlib.Core.Logic.{◌⊎◌, inl, inr}
use mathlib.Core.Bool.{Bool}
use Prim.Native.Nat.{ℕ, zero, suc, ◌+◌, ◌*◌, ◌^◌, ◌%◌, ◌≤◌, ◌<◌}
use native.Mathlib.Nat.{eq-or-lt_of_le, mod-eq_of_lt, one-mul}
use native.Mathlib.Omega.{arith}
use lib.Dec.{ltb}
use lib.Pow.{pow_mono}
use borrow.Author.Tests.{ltb-true, lt-ltb}
use Rattle.lists.specs.Search.{least}
use Rattle.table.specs.Sizes.{level}
use Rattle.lists.proofs.SearchLaws.{least-between, least-passes, least-before}

lt-pow : (m : ℕ) → m < 2 ^ m
lt-pow zero = omega arith
lt-pow (suc m) = omega (arith, lt-pow m)

pub level-zero : level 0 ≡ 0
unfolding level least
level-zero = refl

-- whether distance m is below 2^s
abbrev below : ℕ → ℕ → Bool
below m s = ltb m (2 ^ s)

-- a distance is below 2 to its level
pub level-upper : (m : ℕ) → m < 2 ^ level m
unfolding level
level-upper m = pick (eq-or-lt_of_le (omega (arith, least-between (below m) m 0)))
  where
    pick : (level m ≡ m) ⊎ (level m < m) → m < 2 ^ level m
    pick (inl e) = rw e (lt-pow m)
    pick (inr l) = ltb-true m (2 ^ level m) (least-passes (below m) m 0 (omega arith))

-- the level is the least such
pub level-le : (m k : ℕ) → m < 2 ^ k → level m ≤ k
unfolding level
level-le m k h =
    let not-later : ¬ (k < level m) =
    λ l. let z : ◌≡◌ {A = ℕ} 0 1 = cc (lt-ltb m (2 ^ k) h, least-before (below m) m 0 k (omega arith) l) in omega arith in
    omega arith

-- a distance of 2^s or more has a level above s
pub level-above : (m s : ℕ) → 2 ^ s ≤ m → s < level m
level-above m s h = let not-below : ¬ (level m ≤ s) = λ l. omega (arith, level-upper m, pow_mono l) in omega arith

pub level-is : (m h : ℕ) → 2 ^ h ≤ m → m < 2 ^ suc h → level m ≡ suc h
level-is m h lo hi = omega (arith, level-above m h lo, level-le m (suc h) hi)

-- the other way
pub level-bounds : (m h : ℕ) → level m ≡ suc h → (2 ^ h ≤ m) × (m < 2 ^ suc h)
level-bounds m h e = let not-below : ¬ (m < 2 ^ h) = λ l. omega (arith, level-le m h l) in (omega arith, rw e at (level-upper m))

-- the level of a positive distance, taken apart
pub level-split : (m : ℕ) → 0 < m → (h : ℕ) × (level m ≡ suc h) × (2 ^ h ≤ m) × (m < 2 ^ suc h)
level-split m pos = go (level m) refl
  where
    go : (s : ℕ) → level m ≡ s → (h : ℕ) × (level m ≡ suc h) × (2 ^ h ≤ m) × (m < 2 ^ suc h)
    go zero e = absurd (omega (arith, rw e at (level-upper m)))
    go (suc h) e = (h, e, (level-bounds m h e).0, (level-bounds m h e).1)

-- the distance at place k of a group at level h + 1
pub level_in : (h k : ℕ) → k < 2 ^ h → level (2 ^ h + k) ≡ suc h
level_in h k l = level-is (2 ^ h + k) h (omega arith) (omega arith)

-- a 1 shifted by k places, in a type that has room for it
pub shift_one : (k j m : ℕ) → k ≤ j → 2 ^ j < m → (1 * 2 ^ k % m ≡ 2 ^ k) × (2 ^ k ≤ 2 ^ j)
shift_one k j m h l =
    let b : 2 ^ k ≤ 2 ^ j = pow_mono {i = k} {j = j} h in
    (rw one-mul (mod-eq_of_lt (omega arith)), b)
