-- What a number in digits has.
-- Assumes nothing.
use mathlib.Core.Path.{◌≡◌, refl}
use mathlib.Core.Bool.{Bool, true, false, cond, ◌&&◌}
use mathlib.Core.List.{List}
use Rattle.std.specs.Prelude.{None, Some}
use Prim.Native.Nat.{ℕ, ◌≤◌}
use borrow.Author.Tests.{leb-true}
use lib.Dec.{leb}
use lib.ListN.{length}
use Rattle.input.specs.Input.{digits_from, digits_value}

-- what a number has
pub number-has : (most : ℕ) (l : List ℕ) (v : ℕ) → digits_value most l ≡ Some v → (length l ≤ most) × (digits_from 0 l ≡ Some v)
unfolding digits_value
number-has most l v = go (leb 1 (length l)) (leb (length l) most) refl
  where
    go : (a b : Bool) → leb (length l) most ≡ b → cond (a && b) (digits_from 0 l) None ≡ Some v
        → (length l ≤ most) × (digits_from 0 l ≡ Some v)
    go true true p e = (leb-true (length l) most p, e)
    go true false p e = cc
    go false b p e = cc
