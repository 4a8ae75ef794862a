-- The most tests of any of 2^d boards, with nobody and with one dead.
-- Assumes nothing.
use mathlib.Core.Path.{◌≡◌, sym, ◌∙◌}
use mathlib.Core.Logic.{◌≢◌, by_cases}
use mathlib.Core.Bool.{true}
use mathlib.Core.List.{List}
use Prim.Native.Nat.{ℕ, ◌*◌, ◌-◌, ◌^◌, ◌≤◌, ◌<◌}
use native.Mathlib.Decide.{ℕ_discrete}
use native.Mathlib.Omega.{arith}
use borrow.Author.Tests.{eq-eqb, ne_eqb}
use lib.Bits.{xor_self, xor_lt}
use lib.ListN.{length}
use lib.Pow.{pow_pos, pow_mono}
use Rattle.station.specs.Groups.{distance, station_at}
use Rattle.station.specs.Tests.{unsuspected}
use Rattle.station.specs.Rows.{mark}
use Rattle.lists.proofs.Xor.{xor-cancel}
use Rattle.station.proofs.UnionLaws.{mark-length}
use Rattle.slots.specs.Slots.{tests_due, tests_with, most_tests, most_of_boards}
use Rattle.lists.specs.Search.{greatest}
use Rattle.slots.specs.Law.{SuspectsOne, MostOfPowers}
use Rattle.slots.proofs.OneDead.{nobody-suspected, one-suspected, one-suspected-exactly}
use Rattle.lists.proofs.SearchLaws.{greatest-le, greatest-most}
use Rattle.slots.proofs.MoreTests.{mark-unsuspected, mark-suspected, with-other, with-self}

-- the greatest of numbers that all are c
greatest-same : (f : ℕ → ℕ) (n c : ℕ) → 0 < n → ((k : ℕ) → k < n → f k ≡ c) → greatest f n ≡ c
greatest-same f n c some all =
    let first : f 0 ≡ c = all 0 some in
    omega (arith, greatest-le f n 0 some, greatest-most f n c (λ k l. omega (arith, all k l)))

module _ (d : ℕ) (r : List ℕ) (long : length r ≡ 2 ^ d) (none : (x : ℕ) → x < 2 ^ d → unsuspected r x ≡ true) where
  -- with j marked the row suspects j alone
  one-marked : (i j : ℕ) → i < 2 ^ d → j < 2 ^ d → j ≢ i → SuspectsOne d (mark r j) i j
  one-marked i j here there apart = record {
    long = mark-length r j ∙ long;
    here = here;
    there = there;
    apart = λ e. apart (sym e);
    one = λ x l. by_cases (ℕ_discrete x j)
        (λ e. rw (eq-eqb x j e) (rw e (mark-suspected r j (omega (arith, long)))))
        (λ e. rw (ne_eqb x j e) (mark-unsuspected r j x e ∙ none x l));
  }

  -- of any board the most is that with the station at distance 1 marked
  most-of : 0 < d → (i : ℕ) → i < 2 ^ d → most_tests (2 ^ d) r i ≡ 2 * d - 1
  unfolding most_tests
  most-of some i here =
      omega (arith, greatest-le (tests_with (2 ^ d) r i) (2 ^ d) beside there, greatest-most (tests_with (2 ^ d) r i) (2 ^ d) (2 * d - 1) each, has)
    where
      beside : ℕ
      beside = station_at i 1

      there : beside < 2 ^ d
      there = xor_lt d i 1 here (omega (arith, pow_mono {i = 1} {j = d} some))

      each : (j : ℕ) → j < 2 ^ d → tests_with (2 ^ d) r i j ≤ 2 * d - 1
      each j l =
          by_cases (ℕ_discrete j i) (λ e. rw (with-self (2 ^ d) r i j e) (omega arith))
          (λ e. rw (with-other (2 ^ d) r i j e) (one-suspected d (mark r j) i j (one-marked i j here l e)))

      apart : beside ≢ i
      apart e = omega (arith, xor_self i, rw e at (xor-cancel i 1))

      has : tests_with (2 ^ d) r i beside ≡ 2 * d - 1
      has =
          with-other (2 ^ d) r i beside apart
          ∙ one-suspected-exactly d (mark r beside) i beside (one-marked i beside here there apart)
          ∙ rw (eq-eqb (distance i beside) 1 (xor-cancel i 1))

  -- and one board alone has none to test
  most-each : (i : ℕ) → i < 2 ^ d → most_tests (2 ^ d) r i ≡ 2 * d - 1
  unfolding most_tests
  most-each i here =
      by_cases (ℕ_discrete d 0)
      (λ z.
      let alone : 2 ^ d ≡ 1 = rw z in
      omega (arith, z, greatest-most (tests_with (2 ^ d) r i) (2 ^ d) 0 (λ j l. omega (arith, with-self (2 ^ d) r i j (omega (arith, alone))))))
      (λ z. most-of (omega arith) i here)

pub most-of-powers : MostOfPowers
unfolding most_of_boards
most-of-powers d r long none = (
  greatest-same (tests_due (2 ^ d) r) (2 ^ d) d (pow_pos d) (λ i l. nobody-suspected d r i long l none),
  greatest-same (most_tests (2 ^ d) r) (2 ^ d) (2 * d - 1) (pow_pos d) (λ i l. most-each d r long none i l),
)
