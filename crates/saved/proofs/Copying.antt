-- Laws of a list that is written into another from a place on.
-- Assumes nothing.
use mathlib.Core.Path.{◌≡◌}
use mathlib.Core.List.{List, [], ◌∷◌, ◌++◌}
use Prim.Native.Nat.{ℕ, suc, ◌+◌, ◌/◌, ◌%◌}
use native.Mathlib.Nat.{add-zero}
use native.Mathlib.Numerals.{add-one}
use native.Mathlib.Omega.{arith}
use lib.ListN.{length, set}
use lib.Seq.{sets}
use Rattle.std.specs.Int.{w16, w32, to_be_bytes}
use Rattle.saved.specs.Bytes.{bytes_of}

-- one list behind the other
pub sets_then : (l xs ys : List ℕ) (a : ℕ) → sets (sets l a xs) (a + length xs) ys ≡ sets l a (xs ++ ys)
sets_then l [] ys a = rw add-zero
sets_then l (x ∷ xs) ys a = let e : a + suc (length xs) ≡ suc a + length xs = omega arith in rw e (sets_then (set l a x) xs ys (suc a))

-- the bytes that the code writes for a head and for a number of 32 bits
pub head-written : (l : List ℕ) (at tag len : ℕ) → sets (set l at tag) (at + 1) (to_be_bytes w16 len) ≡ sets l at (tag ∷ bytes_of 2 len)
unfolding bytes_of
head-written l at tag len = rw add-one

pub four-bytes : (v : ℕ) → to_be_bytes w32 v ≡ bytes_of 4 v
unfolding bytes_of
four-bytes v =
    let d : v / 16777216 % 256 ≡ v / 256 / 256 / 256 % 256 = omega arith in
    let e : v / 65536 % 256 ≡ v / 256 / 256 % 256 = omega arith in
    rw (d, e)
