-- How many distances are due, by levels.
-- Assumes nothing.
use mathlib.Core.Path.{◌≡◌, refl, sym, ap, ap₂, ◌∙◌}
use mathlib.Core.Bool.{Bool, true, false, not, ◌&&◌, ◌||◌, and-true, and-false}
use mathlib.Core.List.{List}
use Prim.Native.Nat.{ℕ, zero, suc, ◌+◌, ◌-◌, ◌/◌, ◌^◌, ◌≤◌, ◌<◌}
use native.Mathlib.Nat.{add-zero}
use native.Mathlib.Numerals.{add-one}
use native.Mathlib.Omega.{arith}
use borrow.Author.Tests.{lt-ltb}
use lib.Bits.{xor_lt}
use lib.ListN.{length}
use lib.Pow.{pow_pos, pow_mono}
use Rattle.lists.specs.Search.{every}
use Rattle.lists.specs.Sums.{sum_below, bit}
use Rattle.station.specs.Groups.{station_at}
use Rattle.table.specs.Sizes.{dimension, distances}
use Rattle.station.specs.Tests.{unsuspected, stands, due, due_distances}
use Rattle.lists.proofs.BoolLaws.{by_bool, every-same}
use Rattle.lists.proofs.SearchLaws.{both, every-suc, every-at, every-all}
use Rattle.lists.proofs.SumLaws.{sum_below-suc, sum_by, sum-split, sum-zero, sum-levels}
use Rattle.table.proofs.Levels.{level-zero, level-is, level_in}
use Rattle.lists.proofs.FilterLaws.{select-sum}
use Rattle.station.proofs.DueLaws.{due-zero}
use Rattle.station.proofs.EntryLaws.{unsuspected-below}
use Rattle.station.proofs.AheadLaws.{level-top}
use Rattle.slots.specs.Slots.{tests_due}
use Rattle.slots.specs.Law.{suspects_group, bit_set, whole_below, TestsByLevels, TestsAtMost}
use Rattle.slots.proofs.DigitLaws.{digit_low, digit-below, Whole, due-digits}

-- terms that are no greater have no greater a sum
pub sum-le : {f g : ℕ → ℕ} (n : ℕ) → ((i : ℕ) → i < n → f i ≤ g i) → sum_below f n ≤ sum_below g n
unfolding sum_below
sum-le zero l = omega arith
sum-le {f} {g} (suc n) l = omega (arith, sum_below-suc f n, sum_below-suc g n, sum-le n (λ i h. l i (omega arith)), l n (omega arith))

-- whether each digit of k below place h that is set passes W
abbrev allowed : (ℕ → Bool) → ℕ → ℕ → Bool
allowed W h k = every (λ g. not (bit_set k g) || W g) h

-- with a digit more in front: 0 changes nothing, and 1 asks W
allowed-low : (W : ℕ → Bool) (h k : ℕ) → k < 2 ^ h → allowed W (suc h) k ≡ allowed W h k
allowed-low W h k small =
    let unset : bit_set k h ≡ false = by_bool (bit_set k h) (λ s. absurd (omega (arith, digit-below h h k small s))) (λ s. s) in
    every-suc (λ g. not (bit_set k g) || W g) h ∙ rw (unset, and-true)

allowed-high : (W : ℕ → Bool) (h k : ℕ) → k < 2 ^ h → allowed W (suc h) (2 ^ h + k) ≡ (allowed W h k && W h)
allowed-high W h k small = every-suc (λ g. not (bit_set (2 ^ h + k) g) || W g) h ∙ ap₂ ◌&&◌ low top
  where
    low : allowed W h (2 ^ h + k) ≡ allowed W h k
    low = every-same _ _ h (λ g l. rw (digit_low h g k l))

    top : (not (bit_set (2 ^ h + k) h) || W h) ≡ W h
    top =
        let one : (2 ^ h + k) / 2 ^ h ≡ 1 = level-top (2 ^ h + k) h (level_in h k small) in
        rw one

-- so many k below 2^h have no digit set but those that pass W
allowed-count : (W : ℕ → Bool) (h : ℕ) → sum_below (λ k. bit (allowed W h k)) (2 ^ h) ≡ 2 ^ sum_below (λ g. bit (W g)) h
unfolding sum_below every
allowed-count W zero = refl
allowed-count W (suc h) =
    let A : ℕ = sum_below (λ k. bit (allowed W h k)) (2 ^ h) in
    let twice : 2 ^ suc h ≡ 2 ^ h + 2 ^ h = omega arith in
    let low : sum_below (λ k. bit (allowed W (suc h) k)) (2 ^ h) ≡ A = sum_by (2 ^ h) (λ k l. ap bit (allowed-low W h k l)) in
    let high : sum_below (λ k. bit (allowed W (suc h) (2 ^ h + k))) (2 ^ h) ≡ sum_below (λ k. bit (allowed W h k && W h)) (2 ^ h) =
    sum_by (2 ^ h) (λ k l. ap bit (allowed-high W h k l)) in
    let w : ℕ = sum_below (λ g. bit (W g)) h in
    let more : sum_below (λ g. bit (W g)) (suc h) ≡ w + bit (W h) = sum_below-suc (λ g. bit (W g)) h in
    let halves = rw (← twice) at (sum-split (λ k. bit (allowed W (suc h) k)) (2 ^ h) (2 ^ h)) in
    by_bool (W h)
    (λ e.
    let all : sum_below (λ k. bit (allowed W h k && W h)) (2 ^ h) ≡ A = sum_by (2 ^ h) (λ k l. rw (e, and-true)) in
    let power : 2 ^ sum_below (λ g. bit (W g)) (suc h) ≡ 2 ^ w + 2 ^ w = rw (more, e, add-one w) (omega arith) in
    omega (arith, halves, low, high, all, power, allowed-count W h))
    (λ e.
    let none : sum_below (λ k. bit (allowed W h k && W h)) (2 ^ h) ≡ 0 = sum-zero (2 ^ h) (λ k l. rw (e, and-false)) in
    let power : 2 ^ sum_below (λ g. bit (W g)) (suc h) ≡ 2 ^ w = rw (more, e, add-zero w) in
    omega (arith, halves, low, high, none, power, allowed-count W h))

-- two tests that pass together are the same
same_test : (a b : Bool) → (a ≡ true → b ≡ true) → (b ≡ true → a ≡ true) → a ≡ b
same_test true b f g = sym (f refl)
same_test false b f g = by_bool b (λ e. g e ∙ sym e) (λ e. sym e)

module _ (r : List ℕ) (i : ℕ) (own : unsuspected r i ≡ true) where
  abbrev W : ℕ → Bool
  W g = suspects_group r i (suc g)

  -- the law, as a test
  due-allowed : (h k : ℕ) → k < 2 ^ h → due r i (2 ^ h + k) ≡ (stands r i (2 ^ h + k) && allowed W h k)
  due-allowed h k small = same_test _ _ there back
    where
      there : due r i (2 ^ h + k) ≡ true → (stands r i (2 ^ h + k) && allowed W h k) ≡ true
      there e =
          let l = (due-digits r i h k small).0 e in
          rw l.1 (every-all _ h (λ g b. by_bool (bit_set k g) (λ s. rw (s, l.2 g s)) (λ s. rw s)))

      back : (stands r i (2 ^ h + k) && allowed W h k) ≡ true → due r i (2 ^ h + k) ≡ true
      back e =
          let b = both _ _ e in
          let whole : Whole r i k = λ g s. rw s at (every-at (λ g. not (bit_set k g) || W g) h g b.1 (digit-below h g k small s)) in
          (due-digits r i h k small).1 (own, b.0, whole)

  -- the tests, level by level
  pub level-sums : (n : ℕ) → tests_due n r i ≡ sum_below (λ h. sum_below (λ k. bit (due r i (2 ^ h + k))) (2 ^ h)) (dimension n)
  unfolding tests_due due_distances distances
  level-sums n =
      select-sum (due r i) (2 ^ dimension n) ∙ sum-levels (λ m. bit (due r i m)) (dimension n)
      ∙ rw (due-zero r i) (omega arith)

  at_most : (n : ℕ) → tests_due n r i ≤ sum_below (λ h. 2 ^ whole_below r i h) (dimension n)
  unfolding whole_below
  at_most n =
      rw (level-sums n) (sum-le (dimension n) (λ h l.
      let each : sum_below (λ k. bit (due r i (2 ^ h + k))) (2 ^ h) ≤ sum_below (λ k. bit (allowed W h k)) (2 ^ h) =
      sum-le (2 ^ h) (λ k b. rw (due-allowed h k b) (less (stands r i (2 ^ h + k)) (allowed W h k))) in
      omega (arith, each, allowed-count W h)))
    where
      less : (a b : Bool) → bit (a && b) ≤ bit b
      less true b = omega arith
      less false b = omega arith

-- 2^d boards have dimension d
power-dimension : (d : ℕ) → dimension (2 ^ d) ≡ d
unfolding dimension
power-dimension zero = level-zero
power-dimension (suc d) = level-is (2 ^ suc d - 1) d (omega (arith, pow_pos d)) (omega (arith, pow_pos d))

pub tests-by-levels : TestsByLevels
unfolding whole_below
tests-by-levels d r i long own =
    level-sums r i own (2 ^ d) ∙ rw (power-dimension d) (sum_by d (λ h l. level-sum h l ∙ allowed-count (W r i own) h))
  where
    inside : i < 2 ^ d
    inside = rw long at (unsuspected-below r i own)

    level-sum : (h : ℕ) → h < d → sum_below (λ k. bit (due r i (2 ^ h + k))) (2 ^ h) ≡ sum_below (λ k. bit (allowed (W r i own) h k)) (2 ^ h)
    level-sum h l =
        sum_by (2 ^ h) (λ k b.
        let far : 2 ^ h + k < 2 ^ d = omega (arith, pow_mono {i = suc h} {j = d} l) in
        let here : stands r i (2 ^ h + k) ≡ true = lt-ltb (station_at i (2 ^ h + k)) (length r) (rw long (xor_lt d i (2 ^ h + k) inside far)) in
        rw (due-allowed r i own h k b, here))

pub tests-at-most : TestsAtMost
tests-at-most n r i own = at_most r i own n
