-- The law of the due distances by binary digits, and what follows from it for the number of tests.
-- Assumes nothing.
use Rattle.std.specs.Prelude.{◌≡◌, ◌↔◌, ◌≢◌, ◌⊎◌, Bool, true, false, not, length, if◌then◌else◌, ◌==◌}
use Rattle.std.specs.Prelude.{ℕ, suc, ◌+◌, ◌*◌, ◌-◌, ◌/◌, ◌%◌, ◌^◌, ◌≤◌, ◌<◌}
use mathlib.Core.List.{List, Memᴰ}
use Rattle.lists.specs.Search.{every}
use Rattle.lists.specs.Sums.{sum_below, bit}
use Rattle.table.specs.Sizes.{is_size, dimension}
use Rattle.station.specs.Groups.{distance, width, member}
use Rattle.station.specs.Tests.{unsuspected, stands, due}
use Rattle.station.specs.Rows.{mark}
use Rattle.slots.specs.Slots.{tested, untested_distances, untested, ahead, tests_due, most_tests, most_of_boards}

-- row r leaves nobody of station i's own group at level t unsuspected. An absent number is never "not suspected", so that a group of absent
-- numbers only is suspected whole
unfoldable pub suspects_group : List ℕ → ℕ → ℕ → Bool
suspects_group r i t = every (λ k. not (unsuspected r (member i t k))) (width t)

-- bit h of k is set
abbrev pub bit_set : ℕ → ℕ → Bool
bit_set k h = k / 2 ^ h % 2 == 1

-- Rule Due by digits: with m = 2^(s−1) + k, distance m is due for i just if a station stands there and, for each digit 1 of k, at place t counted
-- from 1, i suspects its whole own group at level t. For all rows: nothing is due for a row that suspects its own station, which refusal 3 keeps
-- out
abbrev pub DueByDigits : Type 0
DueByDigits =
    (r : List ℕ) (i s k : ℕ) → k < width s
    → (due r i (width s + k) ≡ true)
    ↔ ((unsuspected r i ≡ true) × (stands r i (width s + k) ≡ true)
    × ((t : ℕ) → 0 < t → bit_set k (t - 1) ≡ true → suspects_group r i t ≡ true))

-- each other station is one that i tests or one that it does not test, and is listed once: the two lists have n − 1 stations
abbrev pub NobodyLeftOut : Type 0
NobodyLeftOut =
    (n : ℕ) (r : List ℕ) (i : ℕ) → is_size n ≡ true → length r ≡ n → i < n
    → ((x : ℕ) → x < n → x ≢ i → Memᴰ x (tested n r i) ⊎ Memᴰ x (untested n r i))
    × (suc (length (tested n r i) + length (untested n r i)) ≡ n)

-- the counts are the lengths of the lists
abbrev pub ListsCounted : Type 0
ListsCounted =
    (n : ℕ) (r : List ℕ) (i : ℕ) → (length (tested n r i) ≡ tests_due n r i) × (length (untested n r i) ≡ length (untested_distances n r i))
    × (length (ahead n r i) ≡ length (untested_distances n r i))

-- how many of i's own groups at levels 1 to h it suspects whole
unfoldable pub whole_below : List ℕ → ℕ → ℕ → ℕ
whole_below r i h = sum_below (λ g. bit (suspects_group r i (suc g))) h

-- so with 2^d boards the tests are a sum over the levels: for level h + 1, 2 to the number of own groups below it that i suspects whole
abbrev pub TestsByLevels : Type 0
TestsByLevels =
    (d : ℕ) (r : List ℕ) (i : ℕ) → length r ≡ 2 ^ d → unsuspected r i ≡ true → tests_due (2 ^ d) r i ≡ sum_below (λ h. 2 ^ whole_below r i h) d

-- at any size at most so many: at some of these distances nobody stands
abbrev pub TestsAtMost : Type 0
TestsAtMost =
    (n : ℕ) (r : List ℕ) (i : ℕ) → unsuspected r i ≡ true → tests_due n r i ≤ sum_below (λ h. 2 ^ whole_below r i h) (dimension n)

-- Rule Numbers of tests: of 2^d stations each has d due if it suspects nobody
abbrev pub NobodySuspected : Type 0
NobodySuspected =
    (d : ℕ) (r : List ℕ) (i : ℕ) → length r ≡ 2 ^ d → i < 2 ^ d → ((x : ℕ) → x < 2 ^ d → unsuspected r x ≡ true) → tests_due (2 ^ d) r i ≡ d

-- row r of 2^d suspects j, another station than i, and nobody else
pub record SuspectsOne (d : ℕ) (r : List ℕ) (i j : ℕ) : Type 0 where
  pub long : length r ≡ 2 ^ d
  pub here : i < 2 ^ d
  pub there : j < 2 ^ d
  pub apart : i ≢ j
  pub one : (x : ℕ) → x < 2 ^ d → unsuspected r x ≡ not (x == j)

-- with one suspected a station has at most 2d − 1 due
abbrev pub OneSuspected : Type 0
OneSuspected = (d : ℕ) (r : List ℕ) (i j : ℕ) → SuspectsOne d r i j → tests_due (2 ^ d) r i ≤ 2 * d - 1

-- Rule Numbers of tests: with one suspected the station at distance 1 from it has 2d − 1 due, and every other one d
abbrev pub OneSuspectedExactly : Type 0
OneSuspectedExactly =
    (d : ℕ) (r : List ℕ) (i j : ℕ) → SuspectsOne d r i j → tests_due (2 ^ d) r i ≡ (if distance i j == 1 then 2 * d - 1 else d)

-- so the most of any of 2^d boards is d with nobody dead, and 2d − 1 with any one dead
abbrev pub MostOfPowers : Type 0
MostOfPowers =
    (d : ℕ) (r : List ℕ) → length r ≡ 2 ^ d → ((x : ℕ) → x < 2 ^ d → unsuspected r x ≡ true)
    → (most_of_boards (2 ^ d) r false ≡ d) × (most_of_boards (2 ^ d) r true ≡ 2 * d - 1)

-- Rule Numbers of tests: of 2^d + 1 stations that suspect nobody the last one tests all others
abbrev pub LastTestsAll : Type 0
LastTestsAll =
    (d : ℕ) (r : List ℕ) → length r ≡ suc (2 ^ d) → ((x : ℕ) → x < suc (2 ^ d) → unsuspected r x ≡ true)
    → tests_due (suc (2 ^ d)) r (2 ^ d) ≡ 2 ^ d

-- row r' is as long as r and suspects all that r suspects, but not i
pub record Wider (r r' : List ℕ) (i : ℕ) : Type 0 where
  pub long : length r' ≡ length r
  pub own : unsuspected r' i ≡ true
  pub more : (x : ℕ) → unsuspected r' x ≡ true → unsuspected r x ≡ true

-- Rule Numbers of tests: who suspects more makes no fewer tests
abbrev pub NeverFewer : Type 0
NeverFewer = (n : ℕ) (r r' : List ℕ) (i : ℕ) → Wider r r' i → tests_due n r i ≤ tests_due n r' i

-- the most with one more dead is no less than the tests now
abbrev pub MostIsNoLess : Type 0
MostIsNoLess = (n : ℕ) (r : List ℕ) (i : ℕ) → unsuspected r i ≡ true → tests_due n r i ≤ most_tests n r i

-- the most with one more dead is no less than the tests by any row that suspects nobody but those that r suspects and one other station
abbrev pub MostCovers : Type 0
MostCovers = (n : ℕ) (r r' : List ℕ) (i j : ℕ) → j < n → j ≢ i → Wider r' (mark r j) i → tests_due n r' i ≤ most_tests n r i
