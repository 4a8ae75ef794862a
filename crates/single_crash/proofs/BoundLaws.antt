-- What is claimed of the bounds, by wiring.
-- Assumes nothing.
use mathlib.Core.Path.{◌≡◌, refl, subst}
use mathlib.Core.Bool.{Bool, true, false, ◌&&◌}
use Prim.Native.Nat.{ℕ, zero, suc, ◌^◌, ◌≤◌}
use native.Mathlib.Omega.{arith}
use borrow.Author.Tests.{eqb-true, leb-true}
use lib.Dec.{leb, eqb}
use Rattle.std.specs.Prelude.{Some, None, if◌then◌else◌}
use Rattle.lists.proofs.SearchLaws.{both}
use Rattle.table.specs.Sizes.{dimension, distances}
use Rattle.table.specs.declared.wiring.Wiring.{Wiring}
use Rattle.table.specs.declared.wiring.Wiring.TheVariants.{Cube, Ring}
use Rattle.single_crash.specs.declared.bounds.OneDead.{OneDead}
use Rattle.single_crash.specs.Setting.{KnownInGrants, KnownInRounds}
use Rattle.single_crash.specs.Bounds.{one_dead_on, BoundsHold}
use Rattle.single_crash.proofs.RingKnown.{ring-in-grants, ring-in-rounds}
use Rattle.single_crash.proofs.CubeKnown.{cube-in-grants, cube-in-rounds}

-- the bounds that there are
abbrev Known : Wiring → ℕ → OneDead → Type 0
Known w n b = KnownInRounds w n b.rounds × KnownInGrants w n b.grants

given-some : (w : Wiring) (n : ℕ) (test : Bool) (a b : OneDead) → (test ≡ true → Known w n a) → (if test then Some a else None) ≡ Some b
    → Known w n b
given-some w n true a b known e = let same : a ≡ b = cc in subst (Known w n) same (known refl)
given-some w n false a b known e = absurd cc

pub bounds-hold : BoundsHold
unfolding one_dead_on distances
bounds-hold Ring n b e =
    given-some Ring n (leb 4 n) _ b (λ y. let four = leb-true 4 n y in (ring-in-rounds n four, ring-in-grants n four)) e
bounds-hold Cube n b e =
    given-some Cube n (leb 4 n && eqb n (distances n)) _ b
    (λ y.
    let p = both (leb 4 n) (eqb n (distances n)) y in
    let power = eqb-true n (distances n) p.1 in
    let levels = two n (dimension n) power (leb-true 4 n p.0) in
    (cube-in-rounds n (dimension n) levels power, cube-in-grants n (dimension n) levels power))
    e
  where
    two : (n d : ℕ) → n ≡ 2 ^ d → 4 ≤ n → 2 ≤ d
    two n zero e h = absurd (omega (arith, e))
    two n (suc zero) e h = absurd (omega (arith, e))
    two n (suc (suc d)) e h = omega arith
