-- How many stations stand at the distances from a station: those of n stations are n, and the others n − 1.
-- Assumes nothing.
use mathlib.Core.Path.{◌≡◌, ap, ◌∙◌}
use mathlib.Core.Bool.{true}
use Prim.Native.Nat.{ℕ, zero, suc, ◌+◌, ◌*◌, ◌-◌, ◌%◌, ◌^◌, ◌≤◌, ◌<◌}
use native.Mathlib.Omega.{arith}
use borrow.Author.Tests.{lt-ltb, le-ltb}
use lib.Bits.{xor_comm, xor_zero_r}
use lib.ListN.{length}
use Rattle.lists.specs.Sums.{sum_below, bit}
use Rattle.table.specs.Sizes.{is_size, dimension, distances}
use Rattle.table.specs.Wiring.{is_ring, end_distance}
use Rattle.table.proofs.WiringLaws.{end-cube}
use Rattle.station.specs.Wired.{wired_station}
use Rattle.station.proofs.WiredLaws.{place_before, place_below, cube-station, ring-station}
use Rattle.lists.proofs.BoolLaws.{by_bool}
use Rattle.station.specs.Groups.{station_at, is_present}
use Rattle.station.specs.Calls.{is_other, other_distances}
use Rattle.lists.proofs.SumLaws.{sum_below-suc, sum_by, sum-split, sum-zero, sum-const, sum-xor}
use Rattle.table.proofs.SizeLaws.{size-distances, distances-pos}
use Rattle.lists.proofs.FilterLaws.{select-sum}
use Rattle.table.specs.declared.wiring.Wiring.{Wiring}
use Rattle.table.specs.declared.wiring.Wiring.TheVariants.{Cube}

-- how many of n stations stand at the distances below m from station i
abbrev pub standing : Wiring → ℕ → ℕ → ℕ → ℕ
standing w n i m = sum_below (λ k. bit (is_present n (wired_station w n i k))) m

-- of the numbers below m ≥ n those below n are n
numbers-below : (n m : ℕ) → n ≤ m → sum_below (λ j. bit (is_present n j)) m ≡ n
numbers-below n m l =
    let whole : n + (m - n) ≡ m = omega arith in
    let low : sum_below (λ j. bit (is_present n j)) n ≡ n * 1 = sum_by n (λ j h. ap bit (lt-ltb j n h)) ∙ sum-const 1 n in
    let high = sum-zero {f = λ j. bit (is_present n (n + j))} (m - n) (λ j h. ap bit (le-ltb (n + j) n (omega arith))) in
    omega (arith, rw whole at (sum-split (λ j. bit (is_present n j)) n (m - n)), low, high)

cube-all : (n i : ℕ) → is_size n ≡ true → i < n → sum_below (λ k. bit (is_present n (station_at i k))) (distances n) ≡ n
unfolding distances
cube-all n i size h =
    let low = (size-distances n size).0 in
    sum_by (2 ^ dimension n) (λ k l. rw (xor_comm i k)) ∙ sum-xor (λ j. bit (is_present n j)) (dimension n) i (omega arith)
    ∙ numbers-below n (2 ^ dimension n) low

-- what each wiring must satisfy of the distances below its end distance: at so many stand all n stations
pub standing-all : (w : Wiring) (n i : ℕ) → is_size n ≡ true → i < n → standing w n i (end_distance w n) ≡ n
unfolding end_distance
standing-all w n i size h =
    by_bool (is_ring w)
    (λ r. rw r (sum_by n (λ k l. rw (ring-station w n i k r) (ap bit (lt-ltb ((i + k) % n) n (place_below n (i + k) (omega arith)))))
    ∙ sum-const 1 n ∙ omega arith))
    (λ c. rw c (sum_by (distances n) (λ k l. ap (λ (x : ℕ). bit (is_present n x)) (cube-station w n i k c)) ∙ cube-all n i size h))

-- a station at a distance counts one more
pub standing-more : (w : Wiring) (n i m : ℕ) → wired_station w n i m < n → standing w n i (suc m) ≡ suc (standing w n i m)
standing-more w n i m l =
    omega (arith, sum_below-suc (λ k. bit (is_present n (wired_station w n i k))) m, ap bit (lt-ltb (wired_station w n i m) n l))

pub standing-grows : (w : Wiring) (n i a b : ℕ) → a ≤ b → standing w n i a ≤ standing w n i b
standing-grows w n i a b l =
    let e : a + (b - a) ≡ b = omega arith in
    omega (arith, rw e at (sum-split (λ k. bit (is_present n (wired_station w n i k))) a (b - a)))

-- the station itself stands at distance 0
pub standing-own : (w : Wiring) (n i : ℕ) → i < n → standing w n i 1 ≡ 1
unfolding sum_below
standing-own w n i h =
    by_bool (is_ring w)
    (λ r. let e : wired_station w n i 0 ≡ i = ring-station w n i 0 r ∙ place_before n (i + 0) (omega arith) ∙ omega arith in rw (e, lt-ltb i n h))
    (λ c. let e : wired_station w n i 0 ≡ i = cube-station w n i 0 c ∙ xor_zero_r i in rw (e, lt-ltb i n h))

-- below m > 0 one station more stands than other stations do, for the station itself stands at 0
others_below : (n i m : ℕ) → i < n → suc (sum_below (λ k. bit (is_other n i k)) (suc m)) ≡ standing Cube n i (suc m)
unfolding sum_below wired_station
others_below n i zero h = rw (xor_zero_r i, lt-ltb i n h) (omega arith)
others_below n i (suc m) h =
    rw (
      sum_below-suc (λ k. bit (is_other n i k)) (suc m),
      sum_below-suc (λ k. bit (is_present n (station_at i k))) (suc m),
      lt-ltb 0 (suc m) (omega arith),
    ) (omega (arith, others_below n i m h))

-- the other stations of n are n − 1
pub others-all : (n i : ℕ) → is_size n ≡ true → i < n → suc (length (other_distances n i)) ≡ n
unfolding other_distances
others-all n i size h =
    let pos : suc (distances n - 1) ≡ distances n = omega (arith, distances-pos n) in
    let whole : standing Cube n i (distances n) ≡ n = rw (end-cube n) at (standing-all Cube n i size h) in
    omega (arith, select-sum (is_other n i) (distances n), rw pos at (others_below n i (distances n - 1) h), whole)
