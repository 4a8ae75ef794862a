-- What a live station knows in the pass that it makes in a round, and what a closed round guarantees of rows. A live set and rows over
-- numbers, nothing else.
-- Assumes nothing.
use mathlib.Core.Path.{◌≡◌}
use mathlib.Core.Bool.{Bool, true, false}
use Prim.Native.Nat.{ℕ, zero, suc, ◌^◌, ◌≤◌}
use native.Mathlib.Decide.{le_ind}
use native.Mathlib.Omega.{arith}
use lib.Bits.{bit_xor}
use Rattle.detection.proofs.Near.{Member, Ahead, member-distance}

-- `InPass live row i h j`: i knows j in its pass when it is through the levels up to h, that is, the distances below 2 ^ h. `row` has the
-- rows at the round's start
pub data InPass (live : ℕ → Bool) (row : ℕ → ℕ → Type 0) (i : ℕ) : ℕ → ℕ → Type 0 where
  -- i suspected j at the round's start
  had : {j : ℕ} → row i j → InPass live row i zero j
  -- i knew j a level before
  stays : {h j : ℕ} → InPass live row i h j → InPass live row i (suc h) j
  -- i knows all ahead of it in the group of x, so it tests x, which is not live
  finds : {h x : ℕ} → Member h x i → ((y : ℕ) → Ahead h x i y → InPass live row i h y) → live x ≡ false → InPass live row i (suc h) x
  -- it tests x, which is live and suspected j at the round's start
  hears : {h x j : ℕ} → Member h x i → ((y : ℕ) → Ahead h x i y → InPass live row i h y) → live x ≡ true → row x j
      → InPass live row i (suc h) j

-- i tests x, in whose group at level h + 1 it stands: it knows all ahead of it there
abbrev pub Tests : (ℕ → Bool) → (ℕ → ℕ → Type 0) → ℕ → ℕ → ℕ → Type 0
Tests live row i h x = Member h x i × ((y : ℕ) → Ahead h x i y → InPass live row i h y)

-- what a test gives
pub find : {live : ℕ → Bool} {row : ℕ → ℕ → Type 0} {i h x : ℕ} → Tests live row i h x → live x ≡ false → InPass live row i (suc h) x
find asks = finds asks.0 asks.1

pub hear : {live : ℕ → Bool} {row : ℕ → ℕ → Type 0} {i h x j : ℕ} → Tests live row i h x → live x ≡ true → row x j
    → InPass live row i (suc h) j
hear asks = hears asks.0 asks.1

-- the first in a group tests, whatever it knows
pub first-tests : {live : ℕ → Bool} {row : ℕ → ℕ → Type 0} (i h x : ℕ) → Member h x i → bit_xor x i ≤ 2 ^ h → Tests live row i h x
first-tests i h x m l = (m, λ y a. absurd (omega (arith, (member-distance h x y).0 a.0, a.1)))

-- what is known stays known to the end of the pass
pub lift : {live : ℕ → Bool} {row : ℕ → ℕ → Type 0} {i j : ℕ} (g h : ℕ) → g ≤ h → InPass live row i g j → InPass live row i h j
lift {live} {row} {i} {j} g h l k = le_ind (λ (h : ℕ). InPass live row i h j) k (λ h l. stays) h l

-- with larger rows more is known
pub wider : {live : ℕ → Bool} {row row' : ℕ → ℕ → Type 0} {i j : ℕ} (h : ℕ) → ((x y : ℕ) → row x y → row' x y)
    → InPass live row i h j → InPass live row' i h j
wider h up (had r) = had (up _ _ r)
wider h up (stays k) = stays (wider _ up k)
wider h up (finds m ahead f) = finds m (λ y a. wider _ up (ahead y a)) f
wider h up (hears m ahead t r) = hears m (λ y a. wider _ up (ahead y a)) t (up _ _ r)

-- what a closed round guarantees of the rows at its start, `row`, and those at its end, `row'`
pub record Round (live : ℕ → Bool) (row row' : ℕ → ℕ → Type 0) : Type 0 where
  -- what a live station knows in its pass is in its row at the end
  pub keeps : (i h j : ℕ) → live i ≡ true → InPass live row i h j → row' i j
  -- what it knows at a level up to h is in the row of a live station that it tests at level h + 1
  pub pushes : (i g h x j : ℕ) → g ≤ h → live i ≡ true → live x ≡ true → Tests live row i h x → InPass live row i g j → row' x j
