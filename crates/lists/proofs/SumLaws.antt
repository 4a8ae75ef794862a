-- Laws of sums over the numbers below a bound.
-- Assumes nothing.
use mathlib.Core.Path.{◌≡◌, refl, sym, ◌∙◌, ap, ap₂}
use mathlib.Core.Logic.{◌≢◌, by_cases}
use mathlib.Core.Bool.{Bool, true, not}
use Prim.Native.Nat.{ℕ, zero, suc, ◌+◌, ◌*◌, ◌-◌, ◌≤◌, ◌<◌, ◌^◌}
use native.Mathlib.Nat.{add-zero, zero-add, add_comm, add-suc, mul-zero, zero-mul, one-mul, mul-one, suc-mul}
use native.Mathlib.Decide.{dec_lt}
use native.Mathlib.Omega.{arith}
use lib.Bits.{bit_xor, xor_block}
use Rattle.std.specs.List.{range_with_len}
use Rattle.std.specs.List as list
use Rattle.std.proofs.lemmas.List.Sums.{sum_by_push}
use Rattle.lists.specs.Sums.{sum_below, bit}
use Rattle.lists.proofs.BoolLaws.{bit-split}
use Rattle.lists.proofs.SearchLaws.{range-suc}

pub sum_below-suc : (f : ℕ → ℕ) (n : ℕ) → sum_below f (suc n) ≡ sum_below f n + f n
unfolding sum_below
sum_below-suc f n = ap (list.sum_by f) (range-suc n) ∙ sum_by_push f (range_with_len 0 n) n

-- equal terms have equal sums
pub sum_by : {f g : ℕ → ℕ} (n : ℕ) → ((i : ℕ) → i < n → f i ≡ g i) → sum_below f n ≡ sum_below g n
unfolding sum_below
sum_by zero e = refl
sum_by {f} {g} (suc n) e =
    sum_below-suc f n ∙ ap₂ ◌+◌ (sum_by n (λ i h. e i (omega arith))) (e n (omega arith)) ∙ sym (sum_below-suc g n)

-- the sum of the sums of two terms
pub sum-add : (f g : ℕ → ℕ) (n : ℕ) → sum_below (λ i. f i + g i) n ≡ sum_below f n + sum_below g n
unfolding sum_below
sum-add f g zero = refl
sum-add f g (suc n) =
    omega (arith, sum-add f g n, sum_below-suc (λ i. f i + g i) n, sum_below-suc f n, sum_below-suc g n)

-- a constant term
pub sum-const : (c n : ℕ) → sum_below (λ i. c) n ≡ n * c
unfolding sum_below
sum-const c zero = sym (zero-mul c)
sum-const c (suc n) = sum_below-suc (λ i. c) n ∙ rw (sum-const c n, suc-mul)

-- terms that are all 0
pub sum-zero : {f : ℕ → ℕ} (n : ℕ) → ((i : ℕ) → i < n → f i ≡ 0) → sum_below f n ≡ 0
sum-zero n e = sum_by n e ∙ (sum-const 0 n ∙ mul-zero n)

-- all terms but one are 0
pub sum-single : (f : ℕ → ℕ) (n p : ℕ) → p < n → ((i : ℕ) → i < n → i ≢ p → f i ≡ 0) → sum_below f n ≡ f p
sum-single f zero p l e = omega arith
sum-single f (suc n) p l e =
    sum_below-suc f n ∙ by_cases (dec_lt p n) (λ h. omega (arith, sum-single f n p h (λ i g. e i (omega arith)), e n (omega arith) (omega arith)))
    (λ h. let same : p ≡ n = omega arith in rw same (omega (arith, sum-zero n (λ i g. e i (omega arith) (omega arith)))))

-- two sums, one inside the other, change places
pub sum-swap : (f : ℕ → ℕ → ℕ) (n m : ℕ) → sum_below (λ i. sum_below (f i) m) n ≡ sum_below (λ k. sum_below (λ i. f i k) n) m
unfolding sum_below
sum-swap f zero m = sym (sum-zero m (λ i h. refl))
sum-swap f (suc n) m =
    sum_below-suc (λ i. sum_below (f i) m) n ∙ ap (λ (v : ℕ). v + sum_below (f n) m) (sum-swap f n m)
    ∙ sym (sum-add (λ k. sum_below (λ i. f i k) n) (f n) m) ∙ sum_by m (λ k h. sym (sum_below-suc (λ i. f i k) n))

-- a sum in two parts
pub sum-split : (f : ℕ → ℕ) (a b : ℕ) → sum_below f (a + b) ≡ sum_below f a + sum_below (λ i. f (a + i)) b
unfolding sum_below
sum-split f a zero = rw (add-zero a) (omega arith)
sum-split f a (suc b) =
    ap (sum_below f) (add-suc a b) ∙ omega (arith, sum_below-suc f (a + b), sum-split f a b, sum_below-suc (λ i. f (a + i)) b)

-- a sum whose terms from a on are 0
pub sum-stays : (f : ℕ → ℕ) (a b : ℕ) → a ≤ b → ((y : ℕ) → a ≤ y → y < b → f y ≡ 0) → sum_below f b ≡ sum_below f a
sum-stays f a b h z =
    let e : a + (b - a) ≡ b = omega arith in
    omega (arith, rw e at (sum-split f a (b - a)), sum-zero {f = λ k. f (a + k)} (b - a) (λ k l. z (a + k) (omega arith) (omega arith)))

-- a sum over a power of two, by halves
sum-halves : (f : ℕ → ℕ) (d : ℕ) → sum_below f (2 ^ suc d) ≡ sum_below f (2 ^ d) + sum_below (λ i. f (2 ^ d + i)) (2 ^ d)
sum-halves f d = let e : 2 ^ suc d ≡ 2 ^ d + 2 ^ d = omega arith in rw e (sum-split f (2 ^ d) (2 ^ d))

-- a sum over a power of two, by the level of the index
pub sum-levels : (g : ℕ → ℕ) (d : ℕ) → sum_below g (2 ^ d) ≡ g 0 + sum_below (λ h. sum_below (λ k. g (2 ^ h + k)) (2 ^ h)) d
unfolding sum_below
sum-levels g zero = omega arith
sum-levels g (suc d) =
    sum-halves g d ∙ omega (arith, sum-levels g d, sum_below-suc (λ h. sum_below (λ k. g (2 ^ h + k)) (2 ^ h)) d)

-- a sum over all numbers below a power of two does not change when its index is exclusive-ored with one of them
pub sum-xor : (f : ℕ → ℕ) (d m : ℕ) → m < 2 ^ d → sum_below (λ i. f (bit_xor i m)) (2 ^ d) ≡ sum_below f (2 ^ d)
unfolding sum_below
sum-xor f zero m h = let e : m ≡ 0 = omega arith in rw e
sum-xor f (suc d) m h =
    by_cases (dec_lt m (2 ^ d)) (λ l. at (λ g k. sum-xor g d k) 0 m l (omega arith) refl)
    (λ l. at (λ g k. sum-xor g d k) 1 (m - 2 ^ d) (omega arith) (omega arith) (add_comm _ _))
  where
    -- the half of the sum with top digit a, where m has top digit c
    half : ℕ → ℕ → ℕ
    half a c = sum_below (λ i. f (bit_xor a c * 2 ^ d + i)) (2 ^ d)

    at : ((g : ℕ → ℕ) (k : ℕ) → k < 2 ^ d → sum_below (λ i. g (bit_xor i k)) (2 ^ d) ≡ sum_below g (2 ^ d)) → (c k : ℕ) → k < 2 ^ d
        → c * 2 ^ d + k ≡ m
        → half 0 c + half 1 c ≡ half 0 0 + half 1 0 → sum_below (λ i. f (bit_xor i m)) (2 ^ suc d) ≡ sum_below f (2 ^ suc d)
    at rest c k l e swap =
        let halves : (a : ℕ) → sum_below (λ i. f (bit_xor (a * 2 ^ d + i) (c * 2 ^ d + k))) (2 ^ d) ≡ half a c =
        λ a. sum_by (2 ^ d) (λ i g. ap f (xor_block d a c i k g l)) ∙ rest (λ i. f (bit_xor a c * 2 ^ d + i)) k l in
        let swapped = simp (zero-mul, zero-add, one-mul) at swap in
        let low = simp (zero-mul, zero-add, e) at (halves 0) in
        let high = simp (one-mul, e) at (halves 1) in
        omega (arith, low, high, swapped, sum-halves f d, sum-halves (λ i. f (bit_xor i m)) d)

-- tests that pass and tests that fail are all
pub sum-not : (q : ℕ → Bool) (n : ℕ) → sum_below (λ k. bit (q k)) n + sum_below (λ k. bit (not (q k))) n ≡ n
sum-not q n =
    sym (sum-add (λ k. bit (q k)) (λ k. bit (not (q k))) n) ∙ (sum_by n (λ i h. bit-split true (q i)) ∙ (sum-const 1 n ∙ mul-one n))
