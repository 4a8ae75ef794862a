-- Fractions in lowest terms.
-- Assumes nothing.
use Rattle.std.specs.Prelude.{◌≡◌, ℕ, zero, suc, ◌*◌, ◌/◌, ◌%◌, ◌<◌, if◌then◌else◌, ◌==◌}
use Rattle.std.specs.Int.{◌∣◌}
use Rattle.figures.specs.declared.Fraction.{Fraction}

-- Euclid's algorithm, in at most so many divisions
unfoldable pub euclid : ℕ → ℕ → ℕ → ℕ
euclid zero a b = a
euclid (suc steps) a b = if b == 0 then a else euclid steps b (a % b)

-- the greatest common divisor; the second number gets less at each division, so that it is 0 after b of them at the latest
unfoldable pub gcd : ℕ → ℕ → ℕ
gcd a b = euclid b a b

-- Rule Lowest terms: the fraction upper / lower in lowest terms, for any lower part but 0
unfoldable pub lowest : ℕ → ℕ → Fraction
lowest upper lower = record { upper = upper / gcd upper lower; lower = lower / gcd upper lower }

-- Rule Lowest terms, of a fraction that stands for upper / lower: the same value, by cross multiplication; no common divisor above 1; a positive
-- lower part
pub record LowestTerms (upper lower : ℕ) (f : Fraction) : Type 0 where
  pub same-value : f.upper * lower ≡ upper * f.lower
  pub no-common-divisor : (k : ℕ) → k ∣ f.upper → k ∣ f.lower → k ≡ 1
  pub positive : 0 < f.lower

-- for any lower part but 0, the fraction that `lowest` gives is in lowest terms and stands for upper / lower
abbrev pub LowestIsLowest : Type 0
LowestIsLowest = (upper lower : ℕ) → 0 < lower → LowestTerms upper lower (lowest upper lower)

-- and there is only one such
abbrev pub OnlyOneLowest : Type 0
OnlyOneLowest = (upper lower : ℕ) (f g : Fraction) → 0 < lower → LowestTerms upper lower f → LowestTerms upper lower g → f ≡ g

-- nothing is 0/1
abbrev pub ZeroLowest : Type 0
ZeroLowest = (lower : ℕ) → 0 < lower → lowest 0 lower ≡ record { upper = 0; lower = 1 }
