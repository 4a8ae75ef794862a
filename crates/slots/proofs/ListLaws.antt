-- What a loop over the distances lists.
-- Assumes nothing.
use mathlib.Core.Path.{◌≡◌, ap}
use mathlib.Core.Bool.{Bool, true, false}
use mathlib.Core.List.{List, [], ◌∷◌, ◌++◌, map, map-append, append-nil}
use Prim.Native.Nat.{ℕ, ◌+◌, ◌-◌, ◌≤◌}
use native.Mathlib.Omega.{arith}
use lib.ListN.{length, length-map}
use Rattle.std.proofs.Common.{add-one}
use Rattle.lists.specs.Search.{select}
use Rattle.lists.proofs.FilterLaws.{select-suc}
use Rattle.lists.proofs.Enumerated.{filter-few}

-- xs has one of each number below m that passes q, and g of it is what f gives at the number
module _ {X : Type 0} (g : X → ℕ) (f : ℕ → ℕ) (q : ℕ → Bool) (m : ℕ) (xs : List X) (listed : map g xs ≡ map f (select q m)) where
  pub listed-next : (ys : List X) (x : X) → q m ≡ true → ys ≡ xs ++ (x ∷ []) → g x ≡ f m → map g ys ≡ map f (select q (m + 1))
  listed-next ys x passes e same = rw (e, add-one, select-suc q m, passes, map-append g xs, map-append f (select q m), listed, same)

  pub listed-none : (ys : List X) → q m ≡ false → ys ≡ xs → map g ys ≡ map f (select q (m + 1))
  listed-none ys fails e = rw (e, add-one, select-suc q m, fails, append-nil) listed

  -- they are fewer than m where 0 fails
  pub listed-few : q 0 ≡ false → length xs ≤ m - 1
  listed-few none = omega (arith, filter-few q m none, length-map xs g, length-map (select q m) f, ap length listed)
