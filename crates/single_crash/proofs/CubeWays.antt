-- By numbers: who learns of b, and by which test, in the round in which b crashes, when the tests of the first s levels are made, and in the next
-- one.
-- Assumes nothing.
use mathlib.Core.Path.{◌≡◌, refl, sym, ap, ◌∙◌}
use mathlib.Core.Logic.{◌≢◌, by_cases}
use Prim.Native.Nat.{ℕ, suc, ◌+◌, ◌*◌, ◌-◌, ◌/◌, ◌%◌, ◌^◌, ◌≤◌, ◌<◌}
use native.Mathlib.Nat.{mod-eq_of_lt, mod-lt, mod-le, mul-mod_left}
use native.Mathlib.Decide.{ℕ_discrete, dec_lt}
use native.Mathlib.Omega.{arith}
use lib.Bits.{bit_xor, xor_lt, xor_mod, xor_comm}
use lib.Pow.{pow_pos, pow_mono, pow-add, high}
use Rattle.lists.proofs.Xor.{Near, xor_assoc, xor-cancel, xor-zero-eq, xor-of-near}
use Rattle.table.specs.Sizes.{level}
use Rattle.table.proofs.Levels.{level-le, level-split, level-bounds}
use Rattle.station.specs.Groups.{distance, station_at}
use Rattle.single_crash.proofs.CubePace.{Cubic}
use Rattle.single_crash.proofs.CubeLearn.{Way}

-- a distance of level h + 1 without the digit of that level is below 2^h
lower : (m h : ℕ) → level m ≡ suc h → bit_xor m (2 ^ h) < 2 ^ h
lower m h e = xor-of-near h m (2 ^ h) near
  where
    unit : (u : ℕ) → 2 ^ h ≤ u → u < 2 ^ suc h → u / 2 ^ h ≡ 1
    unit u lo hi =
        let v : ℕ = u - 2 ^ h in
        let whole : 1 * 2 ^ h + v ≡ u = omega arith in
        rw whole at (high 1 h {lo = v} (omega arith))

    near : Near h m (2 ^ h)
    near =
        let bounds = level-bounds m h e in
        unit m bounds.0 bounds.1 ∙ sym (unit (2 ^ h) (omega arith) (omega (arith, pow_pos h)))

-- the distance from b of the board at distance m from x
pub turned : (x m b : ℕ) → distance (station_at x m) b ≡ bit_xor (distance x b) m
turned x m b = cc (xor_assoc x m b, xor_assoc x b m, xor_comm m b)

-- the distance of another board is not 0
pub distance-some : (x b : ℕ) → x ≢ b → 1 ≤ distance x b
distance-some x b apart = let far : distance x b ≢ 0 = λ z. apart (xor-zero-eq x b z) in omega arith

-- that of the board beside b is 1
pub distance-beside : (x b : ℕ) → station_at x 1 ≡ b → distance x b ≡ 1
distance-beside x b e = ap (bit_xor x) (sym e) ∙ xor-cancel x 1

pub beside-of : (x b : ℕ) → distance x b ≡ 1 → station_at x 1 ≡ b
beside-of x b e = rw (← e) (xor-cancel x b)

-- the distance is a multiple of 2^s
abbrev pub Multiple : ℕ → ℕ → ℕ → Type 0
Multiple b s x = distance x b % 2 ^ s ≡ 0

-- the level of the distance, and of its last s digits
abbrev pub by_distance : ℕ → ℕ → ℕ
by_distance b x = level (distance x b)

abbrev pub by_digits : ℕ → ℕ → ℕ → ℕ
by_digits b s x = level (distance x b % 2 ^ s)

-- a positive multiple of 2^s has a level above s
pub multiple-above : (s m : ℕ) → 1 ≤ m → m % 2 ^ s ≡ 0 → 2 ^ s ≤ m
multiple-above s m pos e = by_cases (dec_lt m (2 ^ s)) (λ l. omega (arith, mod-eq_of_lt l)) (λ l. omega arith)

-- a power of two from 2^s on is a multiple of 2^s
pub power-multiple : (s h : ℕ) → s ≤ h → 2 ^ h % 2 ^ s ≡ 0
power-multiple s h l =
    let u : ℕ = h - s in
    let e : u + s ≡ h = omega arith in
    rw (← e, pow-add 2 u s) (mul-mod_left (2 ^ u) (2 ^ s))

module _ {n d : ℕ} (b : ℕ) (c : Cubic n d) (hb : b < n) where
  distance-below : (x : ℕ) → x < n → distance x b < 2 ^ d
  distance-below x hx = xor_lt d x b (omega (arith, c.power)) (omega (arith, c.power))

  -- in the round of the crash: boards whose distance from b is a multiple of 2^s
  pub way-distance : (s : ℕ) → Way n d b (Multiple b s) (by_distance b)
  way-distance s = record {
    nearer = λ x h hx apart whole e far.
        let m : ℕ = distance x b in
        let above = multiple-above s m (distance-some x b apart) whole in
        let top : s ≤ h =
        by_cases (dec_lt h s) (λ l. omega (arith, above, (level-bounds m h e).1, pow_mono {i = suc h} {j = s} l)) (λ l. omega arith) in
        let rest : bit_xor m (2 ^ h) % 2 ^ s ≡ 0 =
        xor_mod m (2 ^ h) s ∙ rw (whole, power-multiple s h top) refl in
        (rw (turned x (2 ^ h) b) rest, rw (turned x (2 ^ h) b) (level-le (bit_xor m (2 ^ h)) h (lower m h e)));
    most = λ x hx apart whole. level-le (distance x b) d (distance-below x hx);
    beside = λ x e. rw (distance-beside x b e) (level-le 1 1 (omega arith));
  }

  -- in the next one: all boards
  pub way-digits : (s : ℕ) → s ≤ d → Way n d b (λ x. Unit {0}) (by_digits b s)
  way-digits s le = record {
    nearer = λ x h hx apart all e far.
        let u : ℕ = distance x b % 2 ^ s in
        let small : u < 2 ^ s = mod-lt (distance x b) (pow_pos s) in
        let low : 2 ^ h < 2 ^ s = omega (arith, (level-bounds u h e).0) in
        let same : bit_xor (distance x b) (2 ^ h) % 2 ^ s ≡ bit_xor u (2 ^ h) =
        xor_mod (distance x b) (2 ^ h) s ∙ ap (bit_xor u) (mod-eq_of_lt low) in
        (tt, rw (turned x (2 ^ h) b, same) (level-le (bit_xor u (2 ^ h)) h (lower u h e)));
    most = λ x hx apart all. omega (arith, level-le (distance x b % 2 ^ s) s (mod-lt (distance x b) (pow_pos s)), le);
    beside = λ x e. level-le (distance x b % 2 ^ s) 1 (omega (arith, distance-beside x b e, mod-le 1 (2 ^ s)));
  }

  -- the tests that are needed in the next round are s at most
  pub digits-most : (s x : ℕ) → by_digits b s x ≤ s
  digits-most s x = level-le (distance x b % 2 ^ s) s (mod-lt (distance x b) (pow_pos s))

  -- and none by the boards that were to learn in the round of the crash
  pub digits-none : (s x : ℕ) → by_digits b s x ≡ 0 → Multiple b s x
  digits-none s x e =
      by_cases (ℕ_discrete (distance x b % 2 ^ s) 0) (λ z. z)
      (λ z. let t = level-split (distance x b % 2 ^ s) (omega (arith, z)) in absurd (omega (arith, e, t.1)))

  -- by all d digits they are those by the distance
  pub digits-all : (x : ℕ) → x < n → by_digits b d x ≡ by_distance b x
  digits-all x hx = ap level (mod-eq_of_lt (distance-below x hx))
