-- A byte in two hexadecimal digits.
-- Assumes nothing.
use mathlib.Core.Path.{◌≡◌, refl}
use mathlib.Core.Bool.{false}
use mathlib.Core.List.{[], ◌∷◌}
use Prim.Native.Nat.{ℕ, ◌/◌, ◌%◌, ◌<◌}
use native.Mathlib.Omega.{arith}
use native.Mathlib.Decide.{dec_lt}
use borrow.Author.Tests.{ne_eqb}
use lib.Dec.{eqb}
use lib.ListN.{length}
use Rattle.std.specs.Fmt.{digits, digit_glyph, padded_integral, char_count}
use Rattle.input.specs.Words.{two_digits}

pub two_glyphs : (b : ℕ) → b < 256 → two_digits b ≡ digit_glyph false (b / 16) ∷ digit_glyph false (b % 16) ∷ []
unfolding digits padded_integral char_count
two_glyphs b h = pick (dec_lt b 16)
  where
    pick : Dec (b < 16) → two_digits b ≡ digit_glyph false (b / 16) ∷ digit_glyph false (b % 16) ∷ []
    pick (yes l) = let z : b / 16 ≡ 0 = omega arith in rw z refl
    pick (no l) =
        let n : eqb (b / 16) 0 ≡ false = ne_eqb (b / 16) 0 (λ z. omega arith) in
        let z : b / 16 / 16 ≡ 0 = omega arith in
        let s : b / 16 % 16 ≡ b / 16 = omega arith in
        rw (n, z, s) refl

pub two_long : (b : ℕ) → b < 256 → length (two_digits b) ≡ 2
two_long b h = rw (two_glyphs b h) refl
