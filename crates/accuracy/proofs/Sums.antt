-- Counting: late replies and crashes by station.
-- Assumes nothing.
use mathlib.Core.Path.{◌≡◌, refl, sym, ◌∙◌}
use mathlib.Core.Logic.{◌≢◌, by_cases}
use mathlib.Core.Bool.{Bool, true, false, not, ◌&&◌, true≢false}
use mathlib.Core.List.{List, [], ◌∷◌}
use Prim.Native.Nat.{ℕ, zero, suc, ◌≤◌, ◌<◌}
use native.Mathlib.Decide.{ℕ_discrete}
use native.Mathlib.Omega.{arith}
use borrow.Author.Tests.{eq-eqb, ne_eqb, eqb-false, ltb-true, ltb-false, not-true}
use lib.Dec.{eqb, ltb}
use Rattle.lists.specs.Search.{least}
use Rattle.lists.proofs.SearchLaws.{both, least-passes, least-before}
use Rattle.lists.specs.Sums.{sum_below, bit}
use Rattle.lists.proofs.BoolLaws.{by_bool}
use Rattle.lists.proofs.SumLaws.{sum_below-suc, sum_by, sum-add, sum-zero}
use Rattle.detection.specs.Runs.{Taken}
use Rattle.detection.specs.Rounds.{any_taken, all_taken, count_taken}

pub bit-most : (b : Bool) → bit b ≤ 1
bit-most true = omega arith
bit-most false = omega arith

-- a sum of greater terms
pub sum-most : (f g : ℕ → ℕ) (n : ℕ) → ((i : ℕ) → i < n → f i ≤ g i) → sum_below f n ≤ sum_below g n
unfolding sum_below
sum-most f g zero h = omega arith
sum-most f g (suc n) h =
    omega (arith, sum_below-suc f n, sum_below-suc g n, sum-most f g n (λ i l. h i (omega arith)), h n (omega arith))

-- of the numbers below n at most one is p
one-hit : (p n : ℕ) → sum_below (λ i. bit (eqb p i)) n ≤ 1
unfolding sum_below
one-hit p n = (most n).0
  where
    most : (n : ℕ) → (sum_below (λ i. bit (eqb p i)) n ≤ 1) × (n ≤ p → sum_below (λ i. bit (eqb p i)) n ≡ 0)
    most zero = (omega arith, λ _. omega arith)
    most (suc n) =
        let r = most n in
        let s = sum_below-suc (λ i. bit (eqb p i)) n in
        by_cases (ℕ_discrete p n) (λ e. (omega (arith, s, r.1 (omega arith), rw (eq-eqb p n e) at s), λ h. omega arith))
        (λ d. let s' = rw (ne_eqb p n d) at s in (omega (arith, s', r.0), λ h. omega (arith, s', r.1 (omega arith))))

-- what passes q, each for one station at most
hit-sum : (b : Bool) (p n : ℕ) → sum_below (λ i. bit (b && eqb p i)) n ≤ bit b
hit-sum true p n = one-hit p n
hit-sum false p n = omega (arith, sum-zero {f = λ i. 0} n (λ i h. refl))

-- entries that pass q, told apart by a number
pub count-sum : (q : Taken → Bool) (f : Taken → ℕ) (r : ℕ → Taken → Bool) → ((i : ℕ) (x : Taken) → r i x ≡ (q x && eqb (f x) i))
    → (n : ℕ) (xs : List Taken)
    → sum_below (λ i. count_taken (r i) xs) n ≤ count_taken q xs
unfolding count_taken
count-sum q f r is n [] = omega (arith, sum-zero {f = λ i. 0} n (λ i h. refl))
count-sum q f r is n (x ∷ xs) =
    let here : sum_below (λ i. bit (r i x)) n ≡ sum_below (λ i. bit (q x && eqb (f x) i)) n = sum_by n (λ i h. rw (is i x)) in
    omega (arith, sum-add (λ i. bit (r i x)) (λ i. count_taken (r i) xs) n, here, hit-sum (q x) (f x) n, count-sum q f r is n xs)

-- one entry that passes is counted
pub any-counted : (q : Taken → Bool) (xs : List Taken) → any_taken q xs ≡ true → 1 ≤ count_taken q xs
unfolding any_taken count_taken
any-counted q [] a = absurd (true≢false (sym a))
any-counted q (x ∷ xs) a = by_bool (q x) (λ e. rw e (omega arith)) (λ e. rw e (omega (arith, any-counted q xs (rw e at a))))

-- where no entry passes q, none passes a test that implies q
pub none-passes : (q r : Taken → Bool) → ((x : Taken) → r x ≡ true → q x ≡ true) → (xs : List Taken) → all_taken (λ x. not (q x)) xs ≡ true
    → any_taken r xs ≡ false
unfolding any_taken all_taken
none-passes q r imp [] a = refl
none-passes q r imp (x ∷ xs) a =
    by_bool (q x) (λ e. absurd (true≢false (sym (rw e at a))))
    (λ e. by_bool (r x) (λ f. absurd (true≢false (sym (imp x f) ∙ e))) (λ f. rw f (none-passes q r imp xs (rw e at a))))

-- where two numbers below n pass q, each number has another that passes
pub two-hits : (q : ℕ → Bool) (n : ℕ) → 2 ≤ sum_below (λ k. bit (q k)) n → (i : ℕ) → (j : ℕ) × (j < n) × (i ≢ j) × (q j ≡ true)
two-hits q n two i =
    by_bool (ltb p n)
    (λ e.
    let below = ltb-true p n e in
    let r = both (not (eqb i p)) (q p) (least-passes other n 0 (omega arith)) in
    (p, below, eqb-false i p (not-true (eqb i p) r.0), r.1))
    (λ e.
    let gone : (k : ℕ) → k < n → other k ≡ false = λ k h. least-before other n 0 k (omega arith) (omega (arith, ltb-false p n e)) in
    absurd (omega (arith, two, one-hit i n, sum-most (λ k. bit (q k)) (λ k. bit (eqb i k)) n (λ k h. most k (gone k h)))))
  where
    other : ℕ → Bool
    other k = not (eqb i k) && q k

    p : ℕ
    p = least other n 0

    most : (k : ℕ) → other k ≡ false → bit (q k) ≤ bit (eqb i k)
    most k = by_bool (eqb i k) (λ e. rw e (λ _. bit-most (q k))) (λ e. rw e (λ f. rw f (omega arith)))
