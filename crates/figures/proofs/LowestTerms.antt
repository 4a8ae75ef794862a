-- Fractions in lowest terms: `lowest` gives one, there is only one, and it does not depend on a common factor.
-- Assumes nothing.
use mathlib.Core.Path.{◌≡◌, sym, ◌∙◌, ap, ap₂}
use Prim.Native.Nat.{ℕ, ◌*◌, ◌/◌, ◌<◌, ◌≤◌, ◌∣◌}
use native.Mathlib.Nat.{
  div-one,
  dvd_antisymm,
  dvd-mul_right,
  dvd-mul_left,
  mul-dvd-mul_left,
  mul-div_cancel',
  mul-div-mul_left,
  eq_of_mul-eq-mul_left,
  eq_of_mul-eq-mul_right,
  le_of_mul-le-mul_left,
  le_of_dvd,
  pos_of_dvd_of_pos,
}
use native.Mathlib.Omega.{arith}
use Rattle.figures.specs.declared.Fraction.{Fraction}
use Rattle.figures.specs.Fractions.{gcd, lowest, LowestTerms}
use Rattle.figures.proofs.Gcd.{gcd-greatest, gcd_positive, gcd-scaled}

-- the fraction that `lowest` gives stands for upper / lower and is in lowest terms
pub lowest_terms : (upper lower : ℕ) → 0 < lower → LowestTerms upper lower (lowest upper lower)
unfolding lowest
lowest_terms upper lower pos =
    let g = gcd upper lower in
    let both = gcd-greatest upper lower in
    let gpos : 0 < g = gcd_positive upper lower pos in
    let u : g * (upper / g) ≡ upper = mul-div_cancel' g both.0 in
    let l : g * (lower / g) ≡ lower = mul-div_cancel' g both.1 in
    let l-divides : lower / g ∣ lower = rw l at (dvd-mul_left (lower / g) g) in
    let l-positive : 0 < lower / g = pos_of_dvd_of_pos l-divides pos in
    record {
      same-value = ap (λ (x : ℕ). upper / g * x) (sym l) ∙ omega arith ∙ ap (λ (x : ℕ). x * (lower / g)) u;
      no-common-divisor = λ k a b.
          let whole : g * k ∣ g =
          both.2 (g * k) (rw u at (mul-dvd-mul_left k g a)) (rw l at (mul-dvd-mul_left k g b)) in
          let low : k ≤ 1 = le_of_mul-le-mul_left {k = g} (omega (arith, le_of_dvd gpos whole)) gpos in
          omega (arith, low, pos_of_dvd_of_pos b l-positive);
      positive = l-positive;
    }

-- what is in lowest terms already
pub lowest_as_is : (upper lower : ℕ) → gcd upper lower ≡ 1 → lowest upper lower ≡ record { upper = upper; lower = lower }
unfolding lowest
lowest_as_is upper lower e = rw (e, div-one, div-one)

-- what has no common divisor with b and times c is a multiple of b: then c is one (Euclid's lemma)
coprime-divides : (a b c : ℕ) → 0 < c → ((k : ℕ) → k ∣ a → k ∣ b → k ≡ 1) → b ∣ c * a → b ∣ c
coprime-divides a b c pos none d =
    let both = gcd-greatest a b in
    let e : c * gcd a b ≡ c = ap (λ (x : ℕ). c * x) (none (gcd a b) both.0 both.1) ∙ omega arith in
    rw (gcd-scaled c a b pos ∙ e) at ((gcd-greatest (c * a) (c * b)).2 b d (dvd-mul_left b c))

-- the lower parts of two that stand for the same fraction divide each other
lower-divides : (upper lower : ℕ) (f g : Fraction) → 0 < lower → LowestTerms upper lower f → LowestTerms upper lower g → f.lower ∣ g.lower
lower-divides upper lower f g pos p q =
    let left : lower * (g.lower * f.upper) ≡ upper * f.lower * g.lower = omega arith ∙ ap (λ (x : ℕ). x * g.lower) p.same-value in
    let right : lower * (f.lower * g.upper) ≡ upper * f.lower * g.lower =
    omega arith ∙ ap (λ (x : ℕ). x * f.lower) q.same-value ∙ omega arith in
    let cross : g.lower * f.upper ≡ f.lower * g.upper = eq_of_mul-eq-mul_left lower pos _ _ (left ∙ sym right) in
    coprime-divides f.upper f.lower g.lower q.positive p.no-common-divisor (rw cross (dvd-mul_right f.lower g.upper))

-- there is only one
pub lowest_unique : (upper lower : ℕ) (f g : Fraction) → 0 < lower → LowestTerms upper lower f → LowestTerms upper lower g → f ≡ g
lowest_unique upper lower f g pos p q =
    let same : f.lower ≡ g.lower = dvd_antisymm (lower-divides upper lower f g pos p q) (lower-divides upper lower g f pos q p) in
    let over : f.upper ≡ g.upper =
    eq_of_mul-eq-mul_right lower pos _ _ (p.same-value ∙ ap (λ (x : ℕ). upper * x) same ∙ sym q.same-value) in
    ap₂ {C = Fraction} (λ a b. record { upper = a; lower = b }) over same

-- a common factor does not matter
pub lowest-scaled : (k upper lower : ℕ) → 0 < k → lowest (k * upper) (k * lower) ≡ lowest upper lower
unfolding lowest
lowest-scaled k upper lower pos =
    rw gcd-scaled
    (ap₂ {C = Fraction} (λ a b. record { upper = a; lower = b }) (mul-div-mul_left upper (gcd upper lower) pos)
    (mul-div-mul_left lower (gcd upper lower) pos))
