-- Laws of the greatest common divisor: it divides both numbers, and every common divisor divides it.
-- Assumes nothing.
use mathlib.Core.Path.{◌≡◌, refl, sym}
use Prim.Native.Nat.{ℕ, zero, suc, ◌*◌, ◌/◌, ◌%◌, ◌<◌, ◌≤◌, ◌∣◌}
use native.Mathlib.Nat.{one-dvd, dvd_antisymm, dvd-mul_right, mul-dvd-mul_left, dvd_of_mul-dvd-mul_left, mul-div_cancel', pos_of_dvd_of_pos}
use native.Mathlib.Nat.{mod-lt, zero-lt-suc}
use native.Mathlib.Omega.{arith}
use lib.Dec.{eqb-suc-zero}
use Rattle.std.specs.Int.{IsGcd}
use Rattle.std.proofs.lemmas.Nat.Gcd.{IsGcd-from_zero, IsGcd-from_mod, same_from_IsGcd}
use Rattle.figures.specs.Fractions.{euclid, gcd}

euclid-greatest : (steps a b : ℕ) → b ≤ steps → IsGcd a b (euclid steps a b)
unfolding euclid
euclid-greatest zero a b h = IsGcd-from_zero a b (omega arith)
euclid-greatest (suc steps) a zero h = IsGcd-from_zero a 0 refl
euclid-greatest (suc steps) a (suc b) h =
    rw eqb-suc-zero
    (IsGcd-from_mod a (suc b) (euclid steps (suc b) (a % suc b))
    (euclid-greatest steps (suc b) (a % suc b) (omega (arith, mod-lt a (zero-lt-suc b)))))

pub gcd-greatest : (a b : ℕ) → IsGcd a b (gcd a b)
unfolding gcd
gcd-greatest a b = euclid-greatest b a b (omega arith)

pub gcd_zero : (a : ℕ) → gcd a 0 ≡ a
gcd_zero a = same_from_IsGcd a 0 (gcd a 0) a (gcd-greatest a 0) (IsGcd-from_zero a 0 refl)

pub gcd_one : (a b : ℕ) → b ≡ 1 → gcd a b ≡ 1
gcd_one a b e = rw e (dvd_antisymm (gcd-greatest a 1).1 (one-dvd (gcd a 1)))

-- Euclid's step
pub gcd_step : (a b : ℕ) → gcd b (a % b) ≡ gcd a b
gcd_step a b =
    same_from_IsGcd a b (gcd b (a % b)) (gcd a b) (IsGcd-from_mod a b (gcd b (a % b)) (gcd-greatest b (a % b))) (gcd-greatest a b)

pub gcd_positive : (a b : ℕ) → 0 < b → 0 < gcd a b
gcd_positive a b h = pos_of_dvd_of_pos (gcd-greatest a b).1 h

-- what divides a multiple of k, and is one, divides without k too
without : (k m h : ℕ) → 0 < k → k ∣ h → h ∣ k * m → h / k ∣ m
without k m h pos d e = dvd_of_mul-dvd-mul_left (h / k) pos (rw (sym (mul-div_cancel' k d)) at e)

-- a common factor comes out
pub gcd-scaled : (k a b : ℕ) → 0 < k → gcd (k * a) (k * b) ≡ k * gcd a b
gcd-scaled k a b pos =
    let h = gcd (k * a) (k * b) in
    let all = gcd-greatest (k * a) (k * b) in
    let part = gcd-greatest a b in
    let d : k ∣ h = all.2 k (dvd-mul_right k a) (dvd-mul_right k b) in
    let within : h / k ∣ gcd a b = part.2 (h / k) (without k a h pos d all.0) (without k b h pos d all.1) in
    dvd_antisymm (rw (mul-div_cancel' k d) at (mul-dvd-mul_left (h / k) k within))
    (all.2 (k * gcd a b) (mul-dvd-mul_left (gcd a b) k part.0) (mul-dvd-mul_left (gcd a b) k part.1))
