-- With 2^d boards: how many tests where nobody, and where one, is suspected.
-- Assumes nothing.
use mathlib.Core.Path.{◌≡◌, refl, sym, ap, ◌∙◌}
use mathlib.Core.Logic.{◌≢◌, by_cases}
use mathlib.Core.Bool.{Bool, true, false, cond, not}
use mathlib.Core.List.{List}
use Prim.Native.Nat.{ℕ, suc, ◌+◌, ◌*◌, ◌-◌, ◌^◌, ◌<◌}
use native.Mathlib.Nat.{mul-one}
use native.Mathlib.Decide.{ℕ_discrete}
use native.Mathlib.Omega.{arith}
use borrow.Author.Tests.{eq-eqb, ne_eqb}
use lib.Bits.{xor_lt}
use lib.Dec.{eqb}
use lib.Pow.{pow_pos, pow_mono}
use Rattle.lists.specs.Search.{every}
use Rattle.lists.specs.Sums.{sum_below, bit}
use Rattle.station.specs.Groups.{distance, station_at, width, member}
use Rattle.station.specs.Tests.{unsuspected}
use Rattle.lists.proofs.BoolLaws.{by_bool}
use Rattle.lists.proofs.SearchLaws.{every-not}
use Rattle.lists.proofs.SumLaws.{sum_by, sum-split, sum-zero, sum-single, sum-const}
use Rattle.lists.proofs.Xor.{xor-cancel}
use Rattle.slots.specs.Slots.{tests_due}
use Rattle.slots.specs.Law.{suspects_group, whole_below, NobodySuspected, SuspectsOne, OneSuspected, OneSuspectedExactly}
use Rattle.slots.proofs.Counts.{tests-by-levels}

-- a group with somebody who is not suspected
not-whole : (r : List ℕ) (i g p : ℕ) → p < 2 ^ g → unsuspected r (station_at i (2 ^ g + p)) ≡ true → suspects_group r i (suc g) ≡ false
unfolding suspects_group width member
not-whole r i g p l e = every-not (λ k. not (unsuspected r (station_at i (2 ^ g + k)))) (2 ^ g) p l (rw e)

-- a station of a group below level d + 1 is one of the 2^d
in-plant : (d i g p : ℕ) → i < 2 ^ d → g < d → p < 2 ^ g → station_at i (2 ^ g + p) < 2 ^ d
in-plant d i g p h l b = xor_lt d i (2 ^ g + p) h (omega (arith, pow_mono {i = suc g} {j = d} l))

pub nobody-suspected : NobodySuspected
unfolding whole_below
nobody-suspected d r i long h none =
    tests-by-levels d r i long (none i h) ∙ sum_by d (λ a l. rw (zero-whole a l)) ∙ (sum-const 1 d ∙ mul-one d)
  where
    zero-whole : (a : ℕ) → a < d → sum_below (λ g. bit (suspects_group r i (suc g))) a ≡ 0
    zero-whole a l =
        sum-zero a (λ g b. ap bit (not-whole r i g 0 (pow_pos g) (none _ (in-plant d i g 0 h (omega arith) (pow_pos g)))))

module _ (d : ℕ) (r : List ℕ) (i j : ℕ) (given : SuspectsOne d r i j) where
  -- whether j is at distance 1
  abbrev beside : Bool
  beside = eqb (distance i j) 1

  -- somebody else is there: d is not 0
  positive : 0 < d
  positive = by_cases (ℕ_discrete d 0) (λ z. absurd (given.apart (omega (arith, rw z at given.here, rw z at given.there)))) (λ z. omega arith)

  -- the group of level 1 is the station at distance 1
  first_group : suspects_group r i 1 ≡ beside
  unfolding suspects_group width member every
  first_group =
      rw (given.one (station_at i 1) (in-plant d i 0 0 given.here positive (omega arith)))
      (by_cases (ℕ_discrete (distance i j) 1)
      (λ e. let at : station_at i 1 ≡ j = rw (← e) (xor-cancel i j) in rw (eq-eqb (station_at i 1) j at, eq-eqb (distance i j) 1 e))
      (λ e.
      let off : station_at i 1 ≢ j = λ q. e (ap (station_at i) (sym q) ∙ xor-cancel i 1) in
      rw (ne_eqb (station_at i 1) j off, ne_eqb (distance i j) 1 e)))

  -- a group of a higher level has another station than j
  higher-group : (g : ℕ) → suc g < d → suspects_group r i (suc (suc g)) ≡ false
  higher-group g l =
      by_cases (ℕ_discrete (station_at i (2 ^ suc g + 0)) j)
      (λ e. not-whole r i (suc g) 1 (omega (arith, pow_pos g)) (other 1 (omega (arith, pow_pos g)) (λ q. omega (arith, same e q))))
      (λ e. not-whole r i (suc g) 0 (pow_pos (suc g)) (other 0 (pow_pos (suc g)) e))
    where
      other : (p : ℕ) → p < 2 ^ suc g → station_at i (2 ^ suc g + p) ≢ j → unsuspected r (station_at i (2 ^ suc g + p)) ≡ true
      other p b apart = given.one _ (in-plant d i (suc g) p given.here l b) ∙ rw (ne_eqb _ j apart)

      same : station_at i (2 ^ suc g + 0) ≡ j → station_at i (2 ^ suc g + 1) ≡ j → 2 ^ suc g + 0 ≡ 2 ^ suc g + 1
      same e q = sym (xor-cancel i (2 ^ suc g + 0)) ∙ ap (station_at i) (e ∙ sym q) ∙ xor-cancel i (2 ^ suc g + 1)

  -- so of the groups below a level above 1 the one of level 1 counts alone
  whole-count : (h : ℕ) → suc h < d → whole_below r i (suc h) ≡ bit beside
  unfolding whole_below
  whole-count h l =
      sum-single (λ g. bit (suspects_group r i (suc g))) (suc h) 0 (omega arith) (λ g b apart.
      let e : suc (g - 1) ≡ g = omega arith in
      ap bit (rw e at (higher-group (g - 1) (omega arith))))
      ∙ ap bit first_group

  own : unsuspected r i ≡ true
  own = given.one i given.here ∙ rw (ne_eqb i j given.apart)

  level-one : sum_below (λ h. 2 ^ whole_below r i h) 1 ≡ 1
  unfolding sum_below whole_below
  level-one = refl

  exactly : tests_due (2 ^ d) r i ≡ cond beside (2 * d - 1) d
  exactly =
      let e : 1 + (d - 1) ≡ d = omega (arith, positive) in
      let f : ℕ → ℕ = λ h. 2 ^ whole_below r i h in
      let low : sum_below f 1 ≡ 1 = level-one in
      let high : sum_below (λ h. f (1 + h)) (d - 1) ≡ (d - 1) * 2 ^ bit beside =
      sum_by (d - 1) (λ h l. let one_more : 1 + h ≡ suc h = omega arith in rw one_more (ap (λ (v : ℕ). 2 ^ v) (whole-count h (omega arith))))
      ∙ sum-const (2 ^ bit beside) (d - 1) in
      let all = rw e at (sum-split f 1 (d - 1)) in
      tests-by-levels d r i given.long own
      ∙ by_bool beside (λ q. rw q (omega (arith, all, low, rw q at high, positive))) (λ q. rw q (omega (arith, all, low, rw q at high, positive)))

pub one-suspected-exactly : OneSuspectedExactly
one-suspected-exactly d r i j given = exactly d r i j given

pub one-suspected : OneSuspected
one-suspected d r i j given =
    by_bool (eqb (distance i j) 1) (λ e. omega (arith, rw e at (exactly d r i j given)))
    (λ e. omega (arith, rw e at (exactly d r i j given), positive d r i j given))
