-- On the cube of 2^d boards: at which distances a board tests whose row suspects board b at most.
-- Assumes nothing.
use mathlib.Core.Path.{◌≡◌, refl, sym, ap, ◌∙◌}
use mathlib.Core.Logic.{◌≢◌, ◌⊎◌, inl, inr, by_cases}
use mathlib.Core.Bool.{true, false, not, true≢false}
use mathlib.Core.List.{List}
use Prim.Native.Nat.{ℕ, zero, suc, ◌+◌, ◌*◌, ◌-◌, ◌/◌, ◌%◌, ◌^◌, ◌≤◌, ◌<◌}
use native.Mathlib.Nat.{div-eq_of_lt}
use native.Mathlib.Decide.{ℕ_discrete}
use native.Mathlib.Omega.{arith}
use borrow.Author.Tests.{eq-eqb, eqb-true, lt-ltb, not-true}
use lib.Bits.{xor_lt}
use lib.ListN.{length}
use lib.Pow.{pow_pos, pow_mono, high}
use Rattle.lists.specs.Search.{least}
use Rattle.lists.proofs.BoolLaws.{by_bool}
use Rattle.lists.proofs.SearchLaws.{every-at, every-all, least-is, least-none}
use Rattle.lists.proofs.Xor.{xor-cancel}
use Rattle.table.proofs.Levels.{level-split}
use Rattle.station.specs.Groups.{station_at, width, member}
use Rattle.station.specs.Tests.{unsuspected, stands, due}
use Rattle.slots.specs.Law.{suspects_group, bit_set}
use Rattle.slots.proofs.DigitLaws.{digit-below, due-digits}

-- the next distance of a board that has made t tests, one a level: 1 at first, then the one behind 2^(t−1)
unfoldable pub pace : ℕ → ℕ
pace zero = 1
pace (suc t) = 2 ^ t + 1

pub pace_zero : pace 0 ≡ 1
unfolding pace
pace_zero = refl

pub pace_suc : (t : ℕ) → 2 ^ t + 1 ≡ pace (suc t)
unfolding pace
pace_suc t = refl

pace-low : (t : ℕ) → pace t ≤ 2 ^ t
unfolding pace
pace-low zero = omega arith
pace-low (suc t) = omega (arith, pow_pos t)

-- the row of board i of 2^d leaves all but b unsuspected, and i is not b
pub record Few (d : ℕ) (r : List ℕ) (i b : ℕ) : Type 0 where
  pub long : length r ≡ 2 ^ d
  pub here : i < 2 ^ d
  pub apart : i ≢ b
  pub clear : (x : ℕ) → x < 2 ^ d → x ≢ b → unsuspected r x ≡ true

module _ (d : ℕ) (r : List ℕ) (i b : ℕ) (few : Few d r i b) where
  -- a distance of a level from 1 to d stays in the plant
  present : (m h : ℕ) → m < 2 ^ suc h → h < d → station_at i m < 2 ^ d
  present m h small l = xor_lt d i m few.here (omega (arith, pow_mono {i = suc h} {j = d} l))

  -- the first distance of each level is due
  pub power-due : (h : ℕ) → h < d → due r i (2 ^ h) ≡ true
  power-due h l =
      let e : 2 ^ h + 0 ≡ 2 ^ h = omega arith in
      let small : 2 ^ h + 0 < 2 ^ suc h = omega (arith, pow_pos h) in
      let there : stands r i (2 ^ h + 0) ≡ true = rw few.long (lt-ltb (station_at i (2 ^ h + 0)) (2 ^ d) (present (2 ^ h + 0) h small l)) in
      rw e at ((due-digits r i h 0 (pow_pos h)).1 (few.clear i few.here few.apart, there, λ g s. absurd (none g s)))
    where
      none : (g : ℕ) → ¬ (bit_set 0 g ≡ true)
      none g s =
          let z : 0 / 2 ^ g ≡ 0 = div-eq_of_lt (pow_pos g) in
          let one : 0 / 2 ^ g % 2 ≡ 1 = eqb-true (0 / 2 ^ g % 2) 1 s in
          omega (arith, rw z at one)

  -- each board of a group that i suspects whole is b
  suspected : (g p : ℕ) → p < 2 ^ g → suspects_group r i (suc g) ≡ true → unsuspected r (station_at i (2 ^ g + p)) ≡ false
  unfolding suspects_group width member
  suspected g p l whole = not-true _ (every-at (λ k. not (unsuspected r (station_at i (2 ^ g + k)))) (2 ^ g) p whole l)

  member-is : (g p : ℕ) → g < d → p < 2 ^ g → suspects_group r i (suc g) ≡ true → station_at i (2 ^ g + p) ≡ b
  member-is g p l small whole =
      by_cases (ℕ_discrete (station_at i (2 ^ g + p)) b) (λ e. e)
      (λ e. absurd (true≢false (sym (few.clear (station_at i (2 ^ g + p)) (present (2 ^ g + p) g (omega arith) l) e) ∙ suspected g p small whole)))

  -- so it is the one at level 1
  whole-is : (g : ℕ) → g < d → suspects_group r i (suc g) ≡ true → (g ≡ 0) × (station_at i 1 ≡ b)
  whole-is zero l whole = (refl, member-is 0 0 l (omega arith) whole)
  whole-is (suc g) l whole =
      let first = member-is (suc g) 0 l (pow_pos (suc g)) whole in
      let second = member-is (suc g) 1 l (omega (arith, pow_pos g)) whole in
      let same : 2 ^ suc g + 0 ≡ 2 ^ suc g + 1 =
      sym (xor-cancel i (2 ^ suc g + 0)) ∙ ap (station_at i) (first ∙ sym second) ∙ xor-cancel i (2 ^ suc g + 1) in
      absurd (omega (arith, same))

  -- of the distances of a level only the first is due, and the second for the board beside b
  due-only : (h k : ℕ) → k < 2 ^ h → h < d → due r i (2 ^ h + k) ≡ true → (k ≡ 0) ⊎ ((k ≡ 1) × (station_at i 1 ≡ b))
  due-only h zero small l is_due = inl refl
  due-only h (suc k) small l is_due =
      let t = level-split (suc k) (omega arith) in
      let g : ℕ = t.0 in
      let e : 1 * 2 ^ g + (suc k - 2 ^ g) ≡ suc k = omega (arith, t.2) in
      let one : suc k / 2 ^ g ≡ 1 = rw e at (high 1 g {lo = suc k - 2 ^ g} (omega (arith, t.2, t.3))) in
      let set : bit_set (suc k) g ≡ true = eq-eqb (suc k / 2 ^ g % 2) 1 (omega (arith, one)) in
      let whole = ((due-digits r i h (suc k) small).0 is_due).2 g set in
      let is = whole-is g (omega (arith, digit-below h g (suc k) small set)) whole in
      inr (omega (arith, rw is.0 at t.3), is.1)

  -- where it suspects b the second one is due for that board
  pub second-due : (h : ℕ) → 1 ≤ h → h < d → unsuspected r b ≡ false → station_at i 1 ≡ b → due r i (2 ^ h + 1) ≡ true
  unfolding suspects_group width member
  second-due h some l dead at =
      let one : 1 < 2 ^ h = omega (arith, pow_mono {i = 1} {j = h} some) in
      let small : 2 ^ h + 1 < 2 ^ suc h = omega arith in
      let there : stands r i (2 ^ h + 1) ≡ true = rw few.long (lt-ltb (station_at i (2 ^ h + 1)) (2 ^ d) (present (2 ^ h + 1) h small l)) in
      let group : suspects_group r i 1 ≡ true =
      every-all (λ k. not (unsuspected r (station_at i (2 ^ 0 + k)))) (2 ^ 0) (λ k m.
      let first : 2 ^ 0 + k ≡ 1 = omega arith in
      rw (first, at, dead) refl) in
      (due-digits r i h 1 one).1 (
        few.clear i few.here few.apart,
        there,
        λ g s. let zero : g ≡ 0 = omega (arith, digit-below 1 g 1 (omega arith) s) in rw zero group,
      )

  -- so from its next distance on none is due before the first of the next level
  undue : (t y : ℕ) → t ≤ d → station_at i 1 ≢ b → pace t ≤ y → y < 2 ^ t → due r i y ≡ false
  unfolding pace
  undue zero y l far lo hi = absurd (omega arith)
  undue (suc t) y l far lo hi =
      by_bool (due r i y) (λ is_due. absurd (neither (due-only t (y - 2 ^ t) (omega arith) (omega arith) (rw place is_due)))) (λ e. e)
    where
      place : 2 ^ t + (y - 2 ^ t) ≡ y
      place = omega arith

      neither : ¬ ((y - 2 ^ t ≡ 0) ⊎ ((y - 2 ^ t ≡ 1) × (station_at i 1 ≡ b)))
      neither (inl e) = omega arith
      neither (inr e) = far e.1

  -- behind t tests, one a level, the next one is the first of level t + 1
  pub next-level : (t : ℕ) → t < d → station_at i 1 ≢ b → least (due r i) (2 ^ d - pace t) (pace t) ≡ 2 ^ t
  next-level t l far =
      least-is (due r i) (2 ^ d - pace t) (pace t) (2 ^ t) (pace-low t) (omega (arith, pace-low t, pow_mono {i = suc t} {j = d} l, pow_pos t))
      (power-due t l) (λ y lo hi. undue t y (omega arith) far lo hi)

  -- and behind d there is none
  pub next-none : station_at i 1 ≢ b → least (due r i) (2 ^ d - pace d) (pace d) ≡ 2 ^ d
  next-none far =
      let low = pace-low d in
      let none = least-none (due r i) (2 ^ d - pace d) (pace d) (λ y lo hi. undue d y (omega arith) far lo (omega arith)) in
      omega arith

  -- the first test is the first of level 1, for the board beside b too
  pub next-first : 0 < d → least (due r i) (2 ^ d - 1) 1 ≡ 1
  next-first l =
      least-is (due r i) (2 ^ d - 1) 1 1 (omega arith) (omega (arith, pow_mono {i = 1} {j = d} l)) (power-due 0 l) (λ y lo hi. absurd (omega arith))
