-- Who knows a dead station of the ring after how many rounds: every live one after half as many as there are stations, rounded down.
-- Assumes nothing.
use mathlib.Core.Path.{◌≡◌, sym, ap, ◌∙◌, subst}
use mathlib.Core.Logic.{by_cases}
use mathlib.Core.Bool.{Bool, true, false, true≢false}
use Prim.Native.Nat.{ℕ, zero, suc, ◌+◌, ◌-◌, ◌/◌, ◌%◌, ◌≤◌, ◌<◌}
use native.Mathlib.Nat.{mod-eq_of_lt, add-mod_right}
use native.Mathlib.Decide.{dec_lt}
use native.Mathlib.Omega.{arith}
use Rattle.detection.proofs.Circle.{at_position, NextLive, RingRound, last-before, first-after}

module _ (n : ℕ) (live : ℕ → Bool) (R : ℕ → ℕ → ℕ → Type 0) (rounds : ℕ) (closed : (r : ℕ) → r < rounds → RingRound n live R r) where
  -- a dead position between two live ones that are next to each other
  module _ (p j s : ℕ) (gap : NextLive n live p s) (a : p < j) (b : j < s) where
    -- r + 1 rounds bring it r places past the one behind it
    pub forward : (r x : ℕ) → r < rounds → at_position n live x ≡ true → s ≤ x → x ≤ s + r → R (suc r) (x % n) (j % n)
    forward zero x h lx lo hi =
        let same : x ≡ s = omega arith in
        rw same ((closed 0 h).finds p s j gap a b).1
    forward (suc r) x h lx lo hi =
        by_cases (dec_lt x (s + suc r))
        (λ l. (closed (suc r) h).keeps (x % n) (j % n) (forward r x (omega arith) lx lo (omega arith)))
        (λ m.
        let y = last-before (at_position n live) s x gap.to (omega arith) in
        let next : NextLive n live y.0 x = record { later = y.1.high; from = y.1.passes; to = lx; between = y.1.none } in
        (closed (suc r) h).tells y.0 x (j % n) next (forward r y.0 (omega arith) y.1.passes y.1.low (omega (arith, y.1.high))))

    -- and r places ahead of the one before it
    pub backward : (r x : ℕ) → r < rounds → at_position n live x ≡ true → x ≤ p → p ≤ x + r → R (suc r) (x % n) (j % n)
    backward zero x h lx lo hi =
        let same : x ≡ p = omega arith in
        rw same ((closed 0 h).finds p s j gap a b).0
    backward (suc r) x h lx lo hi =
        by_cases (dec_lt p (x + suc r))
        (λ l. (closed (suc r) h).keeps (x % n) (j % n) (backward r x (omega arith) lx lo (omega arith)))
        (λ m.
        let y = first-after (at_position n live) r x p (omega arith) gap.from in
        let next : NextLive n live x y.0 = record { later = y.1.low; from = lx; to = y.1.passes; between = y.1.none } in
        (closed (suc r) h).hears x y.0 (j % n) next (backward r y.0 (omega arith) y.1.passes y.1.high (omega (arith, y.1.low))))

-- the same station n places on
live-on : (n : ℕ) (live : ℕ → Bool) (k : ℕ) → at_position n live k ≡ true → at_position n live (k + n) ≡ true
live-on n live k e = rw (add-mod_right k n) e

-- the position of i behind j, less than n places on
position : (n i j : ℕ) → i < n → j < n → (i ≡ j → ⊥) → (x : ℕ) × (j < x) × (x < j + n) × (x % n ≡ i)
position n i j h hj apart =
    by_cases (dec_lt j i) (λ l. (i, l, omega arith, mod-eq_of_lt h))
    (λ l. (i + n, omega arith, omega arith, add-mod_right i n ∙ mod-eq_of_lt h))

-- so every live station knows every dead one
pub all-known : (n : ℕ) (live : ℕ → Bool) (R : ℕ → ℕ → ℕ → Type 0) → ((r : ℕ) → r < n / 2 → RingRound n live R r)
    → (i j : ℕ) → i < n → j < n → live i ≡ true → live j ≡ false → R (n / 2) i j
all-known n live R closed i j h hj li dj =
    let apart : i ≡ j → ⊥ = λ e. true≢false (sym li ∙ ap live e ∙ dj) in
    let x = position n i j h hj apart in
    let at : ℕ = j + n in
    let lx : at_position n live x.0 ≡ true = rw x.3 li in
    let lx' : at_position n live (x.0 + n) ≡ true = live-on n live x.0 lx in
    let p = last-before (at_position n live) x.0 at lx x.2 in
    let s = first-after (at_position n live) (x.0 + n - suc at) at (x.0 + n) (omega (arith, x.1)) lx' in
    let dead : at_position n live at ≡ false = rw (add-mod_right j n, mod-eq_of_lt hj) dj in
    let gap : NextLive n live p.0 s.0 =
    record {
      later = omega (arith, p.1.high, s.1.low);
      from = p.1.passes;
      to = s.1.passes;
      between = λ k a b.
          by_cases (dec_lt k at) (p.1.none k a)
          (λ m. by_cases (dec_lt at k) (λ l. s.1.none k l b) (λ q. let same : k ≡ at = omega arith in rw same dead));
    } in
    let r : ℕ = n / 2 - 1 in
    let last : suc r ≡ n / 2 = omega (arith, x.1, x.2) in
    let here : at % n ≡ j = add-mod_right j n ∙ mod-eq_of_lt hj in
    let there : (x.0 + n) % n ≡ i = add-mod_right x.0 n ∙ x.3 in
    let known : R (suc r) i j =
    by_cases (dec_lt (x.0 + n) (s.0 + suc r))
    (λ l. rw (there, here) at (forward n live R (n / 2) closed p.0 at s.0 gap p.1.high s.1.low r (x.0 + n) (omega arith) lx' s.1.high (omega arith)))
    (λ l.
    let back : p.0 ≤ x.0 + r = omega (arith, p.1.high, s.1.low) in
    rw (x.3, here) at (backward n live R (n / 2) closed p.0 at s.0 gap p.1.high s.1.low r x.0 (omega arith) lx p.1.low back)) in
    subst (λ (k : ℕ). R k i j) last known
