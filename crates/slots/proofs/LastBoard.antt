-- With one board more than a power of two, the last board tests all others.
-- Assumes nothing.
use mathlib.Core.Path.{◌≡◌, ap, ◌∙◌}
use mathlib.Core.Bool.{true}
use mathlib.Core.List.{List}
use Prim.Native.Nat.{ℕ, suc, ◌+◌, ◌*◌, ◌-◌, ◌^◌, ◌<◌}
use native.Mathlib.Nat.{one-mul, zero-mul, add-zero, zero-add}
use native.Mathlib.Omega.{arith}
use borrow.Author.Tests.{lt-ltb, le-ltb}
use lib.Bits.{bit_xor, xor_block, xor_zero_l}
use lib.ListN.{length}
use lib.Pow.{pow_pos, pow_mono}
use Rattle.lists.specs.Sums.{sum_below, bit}
use Rattle.station.specs.Groups.{station_at, width, member}
use Rattle.table.specs.Sizes.{dimension}
use Rattle.station.specs.Tests.{unsuspected, stands, due}
use Rattle.lists.proofs.SearchLaws.{every-all}
use Rattle.lists.proofs.SumLaws.{sum_below-suc, sum_by, sum-zero, sum-const}
use Rattle.table.proofs.Levels.{level_in}
use Rattle.station.proofs.DueLaws.{unsuspected-absent, due-absent}
use Rattle.slots.specs.Law.{suspects_group, LastTestsAll}
use Rattle.slots.proofs.DigitLaws.{digit-below, due-digits}
use Rattle.slots.proofs.Counts.{level-sums}

-- the numbers at the distances below 2^d from 2^d, and from 2^d on
low-numbers : (d m : ℕ) → m < 2 ^ d → bit_xor (2 ^ d) m ≡ 2 ^ d + m
low-numbers d m l = simp (one-mul, zero-mul, add-zero, zero-add, xor_zero_l) at (xor_block d 1 0 0 m (pow_pos d) l)

high-numbers : (d k : ℕ) → k < 2 ^ d → bit_xor (2 ^ d) (2 ^ d + k) ≡ k
high-numbers d k l = simp (one-mul, zero-mul, add-zero, zero-add, xor_zero_l) at (xor_block d 1 1 0 k (pow_pos d) l)

module _ (d : ℕ) (r : List ℕ) (long : length r ≡ suc (2 ^ d)) (none : (x : ℕ) → x < suc (2 ^ d) → unsuspected r x ≡ true) where
  abbrev i : ℕ
  i = 2 ^ d

  -- at the levels up to d nobody stands
  far : (h p : ℕ) → h < d → p < 2 ^ h → ¬ (station_at i (2 ^ h + p) < length r)
  far h p l b inside =
      let m : ℕ = 2 ^ h + p in
      let small : m < 2 ^ d = omega (arith, pow_mono {i = suc h} {j = d} l) in
      omega (arith, long, low-numbers d m small, pow_pos h)

  none-due : (h : ℕ) → h < d → sum_below (λ k. bit (due r i (2 ^ h + k))) (2 ^ h) ≡ 0
  none-due h l =
      sum-zero (2 ^ h) (λ k b. ap bit (due-absent r i (2 ^ h + k) (le-ltb (station_at i (2 ^ h + k)) (length r) (omega (arith, far h k l b)))))

  -- so all own groups below level d + 1 are suspected whole
  whole : (g : ℕ) → g < d → suspects_group r i (suc g) ≡ true
  unfolding suspects_group width member
  whole g l = every-all _ (2 ^ g) (λ p b. rw (unsuspected-absent r (station_at i (2 ^ g + p)) (far g p l b)))

  due_all : (k : ℕ) → k < 2 ^ d → due r i (2 ^ d + k) ≡ true
  due_all k l =
      let there : stands r i (2 ^ d + k) ≡ true = lt-ltb (station_at i (2 ^ d + k)) (length r) (omega (arith, long, high-numbers d k l)) in
      (due-digits r i d k l).1 (none i (omega arith), there, λ g s. whole g (digit-below d g k l s))

pub last-tests-all : LastTestsAll
unfolding dimension
last-tests-all d r long none =
    let less : suc (2 ^ d) - 1 ≡ 2 ^ d + 0 = omega arith in
    let top : dimension (suc (2 ^ d)) ≡ suc d = rw less (level_in d 0 (pow_pos d)) in
    let low : sum_below (λ h. sum_below (λ k. bit (due r (2 ^ d) (2 ^ h + k))) (2 ^ h)) d ≡ 0 = sum-zero d (λ h l. none-due d r long none h l) in
    let high : sum_below (λ k. bit (due r (2 ^ d) (2 ^ d + k))) (2 ^ d) ≡ 2 ^ d * 1 =
    sum_by (2 ^ d) (λ k l. ap bit (due_all d r long none k l)) ∙ sum-const 1 (2 ^ d) in
    level-sums r (2 ^ d) (none (2 ^ d) (omega arith)) (suc (2 ^ d)) ∙ rw top (omega (
      arith,
      low,
      high,
      sum_below-suc (λ h. sum_below (λ k. bit (due r (2 ^ d) (2 ^ h + k))) (2 ^ h)) d,
    ))
