-- The ring unrolled: position k of the circle is station k % n, so that nothing wraps. The live positions next to a position, and what a closed
-- round on the ring guarantees.
-- Assumes nothing.
use mathlib.Core.Path.{◌≡◌, sym, ◌∙◌}
use mathlib.Core.Logic.{by_cases}
use mathlib.Core.Bool.{Bool, true, false, true≢false}
use Prim.Native.Nat.{ℕ, zero, suc, ◌+◌, ◌%◌, ◌≤◌, ◌<◌}
use native.Mathlib.Decide.{dec_lt}
use native.Mathlib.Omega.{arith}
use Rattle.lists.proofs.BoolLaws.{by_bool}

-- whether the station at a position is live
abbrev pub at_position : ℕ → (ℕ → Bool) → ℕ → Bool
at_position n live k = live (k % n)

-- b is the next live position after the live position a
pub record NextLive (n : ℕ) (live : ℕ → Bool) (a b : ℕ) : Type 0 where
  pub later : a < b
  pub from : at_position n live a ≡ true
  pub to : at_position n live b ≡ true
  pub between : (k : ℕ) → a < k → k < b → at_position n live k ≡ false

-- what closed round r, from 0, guarantees, where R r i j says that i suspects j before it: nothing is forgotten; of two live stations next to each
-- other both suspect the dead ones between them, and each has what the other had
pub record RingRound (n : ℕ) (live : ℕ → Bool) (R : ℕ → ℕ → ℕ → Type 0) (r : ℕ) : Type 0 where
  pub keeps : (i j : ℕ) → R r i j → R (suc r) i j
  pub finds : (a b k : ℕ) → NextLive n live a b → a < k → k < b → R (suc r) (a % n) (k % n) × R (suc r) (b % n) (k % n)
  pub tells : (a b j : ℕ) → NextLive n live a b → R r (a % n) j → R (suc r) (b % n) j
  pub hears : (a b j : ℕ) → NextLive n live a b → R r (b % n) j → R (suc r) (a % n) j

-- the last position before x that passes, if one does from s on
pub record LastBefore (q : ℕ → Bool) (s x y : ℕ) : Type 0 where
  pub low : s ≤ y
  pub high : y < x
  pub passes : q y ≡ true
  pub none : (k : ℕ) → y < k → k < x → q k ≡ false

pub last-before : (q : ℕ → Bool) (s x : ℕ) → q s ≡ true → s < x → (y : ℕ) × LastBefore q s x y
last-before q s zero qs h = absurd (omega arith)
last-before q s (suc x) qs h =
    by_bool (q x) (λ e. (x, record { low = omega arith; high = omega arith; passes = e; none = λ k a b. absurd (omega arith) }))
    (λ e.
    let l : s < x = by_cases (dec_lt s x) (λ a. a) (λ a. let same : s ≡ x = omega arith in absurd (true≢false (sym (rw same at qs) ∙ e))) in
    let r = last-before q s x qs l in (
      r.0,
      record {
        low = r.1.low;
        high = omega (arith, r.1.high);
        passes = r.1.passes;
        none = λ k a b. by_cases (dec_lt k x) (r.1.none k a) (λ m. let same : k ≡ x = omega arith in rw same e);
      },
    ))

-- the first position after x that passes, if one does d + 1 places on
pub record FirstAfter (q : ℕ → Bool) (x t y : ℕ) : Type 0 where
  pub low : x < y
  pub high : y ≤ t
  pub passes : q y ≡ true
  pub none : (k : ℕ) → x < k → k < y → q k ≡ false

pub first-after : (q : ℕ → Bool) (d x t : ℕ) → x + suc d ≡ t → q t ≡ true → (y : ℕ) × FirstAfter q x t y
first-after q zero x t e qt = (t, record { low = omega arith; high = omega arith; passes = qt; none = λ k a b. absurd (omega arith) })
first-after q (suc d) x t e qt =
    by_bool (q (suc x)) (λ p. (suc x, record { low = omega arith; high = omega arith; passes = p; none = λ k a b. absurd (omega arith) }))
    (λ f.
    let r = first-after q d (suc x) t (omega arith) qt in (
      r.0,
      record {
        low = omega (arith, r.1.low);
        high = r.1.high;
        passes = r.1.passes;
        none = λ k a b. by_cases (dec_lt (suc x) k) (λ l. r.1.none k l b) (λ m. let same : k ≡ suc x = omega arith in rw same f);
      },
    ))
