-- On the cube all distances at which live stations lead groups are as many as the count of tests says.
-- Assumes nothing.
use mathlib.Core.Path.{◌≡◌, ap, ◌∙◌}
use mathlib.Core.Bool.{Bool, false, cond, ◌&&◌, and-false}
use mathlib.Core.List.{List}
use Prim.Native.Nat.{ℕ, suc, ◌+◌, ◌*◌, ◌≤◌}
use native.Mathlib.Omega.{arith}
use borrow.Author.Tests.{lt-ltb, le-ltb}
use Rattle.lists.specs.Sums.{sum_below, bit}
use Rattle.lists.proofs.SumLaws.{sum_by, sum-zero, sum-stays, sum-const}
use Rattle.table.specs.Sizes.{level, dimension, distances}
use Rattle.table.specs.Table.{live}
use Rattle.station.specs.Groups.{station_at, is_present}
use Rattle.station.proofs.DueLaws.{first-not}
use Rattle.detection.specs.Claim.{group_without_live, pairs_without_live, tests_per_round}
use Rattle.detection.proofs.Count.{nobody, tests-and-rest}
use Rattle.detection.proofs.Knowledge.{LiveOf, leads_at}

-- at how many of the distances below b station i leads the group of a station
abbrev pub leads_below : ℕ → (ℕ → Bool) → ℕ → ℕ → ℕ
leads_below n L i b = sum_below (λ m. bit (leads_at n L i m)) b

-- who is not a live station leads nobody's group
pub leads-none : (n : ℕ) (L : ℕ → Bool) (i m : ℕ) → LiveOf n L i ≡ false → bit (leads_at n L i m) ≡ 0
leads-none n L i m e =
    let none : leads_at n L i m ≡ false = rw (first-not (LiveOf n L) (station_at i m) (level m) i e, and-false) in
    ap bit none

-- a sum over all numbers whose terms for the absent ones are 0
present-sum : (n : ℕ) (f : ℕ → ℕ) → n ≤ distances n → ((i : ℕ) → n ≤ i → f i ≡ 0) → sum_below f (distances n) ≡ sum_below f n
present-sum n f low none = sum-stays f n (distances n) low (λ i a b. none i a)

-- T has the live set
module _ (n : ℕ) (T : List ℕ) (low : n ≤ distances n) where
  abbrev L : ℕ → Bool
  L = live n T

  all_led : sum_below (λ i. leads_below n L i (distances n)) (distances n) ≡ sum_below (λ i. leads_below n L i (distances n)) n
  all_led = present-sum n _ low (λ i a. sum-zero (distances n) (λ m b. leads-none n L i m (rw (le-ltb i n a))))

  pairs : sum_below (λ j. sum_below (λ h. bit (is_present n j && nobody (LiveOf n L) j (suc h))) (dimension n)) (distances n)
      ≡ pairs_without_live n T
  unfolding pairs_without_live group_without_live
  pairs =
      present-sum n _ low (λ j a. sum-zero (dimension n) (λ h b. rw (le-ltb j n a)))
      ∙ sum_by n (λ j a. sum_by (dimension n) (λ h b. rw (lt-ltb j n a)))

  stations : sum_below (λ j. cond (is_present n j) (dimension n) 0) (distances n) ≡ n * dimension n
  stations =
      present-sum n _ low (λ j a. rw (le-ltb j n a))
      ∙ (sum_by {g = λ j. dimension n} n (λ j a. rw (lt-ltb j n a)) ∙ sum-const (dimension n) n)

  split : sum_below (λ i. leads_below n L i (distances n)) (distances n)
      + sum_below (λ j. sum_below (λ h. bit (is_present n j && nobody (LiveOf n L) j (suc h))) (dimension n)) (distances n)
      ≡ sum_below (λ j. cond (is_present n j) (dimension n) 0) (distances n)
  unfolding distances
  split = tests-and-rest (is_present n) (LiveOf n L) (dimension n)

  pub led-count : sum_below (λ i. leads_below n L i (distances n)) n ≡ tests_per_round n T
  led-count = omega (arith, split, all_led, pairs, stations)
