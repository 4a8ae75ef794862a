-- The tests of a closed round on the ring, of which there are as many as stations: the first live position from k on goes up by the tests of k.
-- Assumes nothing.
use mathlib.Core.Path.{◌≡◌, sym, ◌∙◌}
use mathlib.Core.Logic.{by_cases}
use mathlib.Core.Bool.{Bool, true, false, true≢false}
use Prim.Native.Nat.{ℕ, zero, suc, ◌+◌, ◌-◌, ◌≤◌, ◌<◌}
use native.Mathlib.Nat.{mod-eq_of_lt, add-mod_right}
use native.Mathlib.Decide.{dec_lt}
use native.Mathlib.Omega.{arith}
use Rattle.lists.specs.Search.{least}
use Rattle.lists.specs.Sums.{sum_below}
use Rattle.lists.proofs.BoolLaws.{by_bool}
use Rattle.lists.proofs.SearchLaws.{least-between, least-passes, least-before, least-is}
use Rattle.lists.proofs.SumLaws.{sum_below-suc}
use Rattle.detection.proofs.Circle.{at_position, NextLive}

module _ (n : ℕ) (live : ℕ → Bool) (z : ℕ) (hz : z < n) (lz : live z ≡ true) where
  abbrev q : ℕ → Bool
  q = at_position n live

  -- the first live position from k on
  abbrev first : ℕ → ℕ
  first k = least q n k

  -- there is one, less than n places on
  first-found : (k : ℕ) → k ≤ n → first k < k + n
  first-found k h =
      by_cases (dec_lt (first k) (k + n)) (λ l. l)
      (λ m.
      let none : (y : ℕ) → k ≤ y → y < k + n → q y ≡ false = λ y a b. least-before q n k y a (omega arith) in
      by_cases (dec_lt z k)
      (λ l. absurd (true≢false (sym lz ∙ (rw (add-mod_right z n, mod-eq_of_lt hz) at (none (z + n) (omega arith) (omega arith))))))
      (λ l. absurd (true≢false (sym lz ∙ (rw (mod-eq_of_lt hz) at (none z (omega arith) (omega arith)))))))

  first-live : (k : ℕ) → k ≤ n → q (first k) ≡ true
  first-live k h = least-passes q n k (first-found k h)

  first-low : (k : ℕ) → k ≤ first k
  first-low k = (least-between q n k).0

  -- from a live station on it is that one, and behind it comes the next live one
  first-here : (k : ℕ) → k < n → live k ≡ true → first k ≡ k
  first-here k h l = least-is q n k k (omega arith) (omega arith) (rw (mod-eq_of_lt h) l) (λ y a b. absurd (omega arith))

  next-live : (k : ℕ) → k < n → live k ≡ true → NextLive n live k (first (suc k))
  next-live k h l = record {
    later = omega (arith, first-low (suc k));
    from = rw (mod-eq_of_lt h) l;
    to = first-live (suc k) (omega arith);
    between = λ y a b. least-before q n (suc k) y (omega arith) b;
  }

  -- a dead station is passed over
  first-dead : (k : ℕ) → k < n → live k ≡ false → first (suc k) ≡ first k
  first-dead k h d =
      let apart : first k ≡ k → ⊥ = λ e. true≢false (sym (rw (e, mod-eq_of_lt h) at (first-live k (omega arith))) ∙ d) in
      least-is q n (suc k) (first k) (omega (arith, first-low k, apart)) (omega (arith, first-found k (omega arith))) (first-live k (omega arith))
      (λ y a b. least-before q n k y (omega arith) b)

  -- and n places on the circle begins anew
  first-round : first n ≡ first 0 + n
  first-round =
      least-is q n n (first 0 + n) (omega arith) (omega (arith, first-found 0 (omega arith)))
      (rw (add-mod_right (first 0) n) (first-live 0 (omega arith)))
      (λ y a b.
      let back : y - n + n ≡ y = omega arith in
      let none : q (y - n) ≡ false = least-before q n 0 (y - n) (omega arith) (omega arith) in
      rw (sym back, add-mod_right (y - n) n) none)

  module _ (tests : ℕ → ℕ) (gaps : (a b : ℕ) → a < n → NextLive n live a b → tests a ≡ b - a)
      (none : (a : ℕ) → a < n → live a ≡ false → tests a ≡ 0) where
    summed : (k : ℕ) → k ≤ n → sum_below tests k + first 0 ≡ first k
    unfolding sum_below
    summed zero h = omega arith
    summed (suc k) h =
        by_bool (live k)
        (λ l.
        let gap = gaps k (first (suc k)) (omega arith) (next-live k (omega arith) l) in
        omega (arith, sum_below-suc tests k, summed k (omega arith), first-here k (omega arith) l, first-low (suc k), gap))
        (λ d. omega (arith, sum_below-suc tests k, summed k (omega arith), first-dead k (omega arith) d, none k (omega arith) d))

    -- a live station makes as many as there are places to the next live one, no other makes any
    pub all-tests : sum_below tests n ≡ n
    all-tests = omega (arith, summed n (omega arith), first-round)
