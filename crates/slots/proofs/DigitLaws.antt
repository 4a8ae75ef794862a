-- The law of the due distances by binary digits.
-- Assumes nothing.
use mathlib.Core.Path.{◌≡◌, sym, ap, ◌∙◌}
use mathlib.Core.Logic.{◌↔◌}
use mathlib.Core.Bool.{true, false, not, true≢false}
use mathlib.Core.List.{List}
use Prim.Native.Nat.{ℕ, zero, suc, ◌+◌, ◌*◌, ◌-◌, ◌/◌, ◌%◌, ◌^◌, ◌≤◌, ◌<◌}
use native.Mathlib.Nat.{div-eq_of_lt, add-mul-div_right, add_comm}
use native.Mathlib.Omega.{arith}
use borrow.Author.Tests.{eq-eqb, eqb-true, not-true}
use lib.Pow.{pow_pos, pow_mono, pow-add}
use Rattle.station.specs.Groups.{distance, station_at, width, member}
use Rattle.table.specs.Sizes.{level}
use Rattle.station.specs.Tests.{unsuspected, stands, due}
use Rattle.station.specs.Ahead.{Before}
use Rattle.lists.proofs.BoolLaws.{by_bool}
use Rattle.lists.proofs.SearchLaws.{every-at, every-all}
use Rattle.lists.proofs.Xor.{xor-cancel}
use Rattle.table.proofs.Levels.{level_in, level-bounds}
use Rattle.station.proofs.DueLaws.{first-not, due-zero, due-not, due-stands}
use Rattle.station.proofs.AheadLaws.{before-by-digits, due-if-nobody-before}
use Rattle.slots.specs.Law.{suspects_group, bit_set, DueByDigits}

-- a digit below the highest one of 2^h + k is that of k
pub digit_low : (h g k : ℕ) → g < h → (2 ^ h + k) / 2 ^ g % 2 ≡ k / 2 ^ g % 2
digit_low h g k l =
    let u : ℕ = h - suc g in
    let e : suc u + g ≡ h = omega arith in
    let whole : 2 ^ h ≡ 2 ^ suc u * 2 ^ g = ap (λ (v : ℕ). 2 ^ v) (sym e) ∙ pow-add 2 (suc u) g in
    let turned : 2 ^ h + k ≡ k + 2 ^ suc u * 2 ^ g = rw whole (add_comm (2 ^ suc u * 2 ^ g) k) in
    let high : (2 ^ h + k) / 2 ^ g ≡ k / 2 ^ g + 2 ^ suc u = rw turned (add-mul-div_right k (2 ^ suc u) (pow_pos g)) in
    let even : 2 ^ suc u ≡ 2 ^ u + 2 ^ u = omega arith in
    omega (arith, high, even)

-- a digit that is set stands below the number's length
pub digit-below : (h g k : ℕ) → k < 2 ^ h → bit_set k g ≡ true → g < h
digit-below h g k small s =
    let low : ¬ (h ≤ g) = λ l.
    let none : k / 2 ^ g ≡ 0 = div-eq_of_lt (omega (arith, pow_mono {i = h} {j = g} l)) in
    let one : k / 2 ^ g % 2 ≡ 1 = eqb-true (k / 2 ^ g % 2) 1 s in
    omega (arith, rw none at one) in
    omega arith

-- a distance is due for a station that its row does not suspect, and where it leaves nobody unsuspected that stands before it
due-own : (r : List ℕ) (i m : ℕ) → due r i m ≡ true → unsuspected r i ≡ true
due-own r i m is_due =
    by_bool (unsuspected r i) (λ e. e)
    (λ e. absurd (true≢false (sym is_due ∙ due-not r i m (first-not (unsuspected r) (station_at i m) (level m) i e))))

pub due-nobody : (r : List ℕ) (i m : ℕ) → due r i m ≡ true → (0 < m) × ((x : ℕ) → Before i m x → unsuspected r x ≡ false)
due-nobody r i m is_due =
    let apart : ¬ (m ≡ 0) = λ z. true≢false (sym is_due ∙ rw z (due-zero r i)) in
    (omega arith, ((due-if-nobody-before r i m (due-own r i m is_due) (omega arith)).0 is_due).1)

-- i suspects whole the own group of each digit of k that is set: what the law says, by digits and not by levels
abbrev pub Whole : List ℕ → ℕ → ℕ → Type 0
Whole r i k = (g : ℕ) → bit_set k g ≡ true → suspects_group r i (suc g) ≡ true

module _ (r : List ℕ) (i h k : ℕ) (small : k < 2 ^ h) where
  abbrev m : ℕ
  m = 2 ^ h + k

  -- the groups of the digits that are set stand before i, and nobody else does
  before_of : (g p : ℕ) → bit_set k g ≡ true → p < 2 ^ g → Before i m (member i (suc g) p)
  unfolding member width
  before_of g p s l =
      let below : g < h = digit-below h g k small s in
      let far : level (distance i (station_at i (2 ^ g + p))) ≡ suc g = rw (xor-cancel i (2 ^ g + p)) (level_in g p l) in
      (before-by-digits i m (station_at i (2 ^ g + p))).1
      (g, far, rw (level_in h k small) (omega arith), digit_low h g k below ∙ eqb-true (k / 2 ^ g % 2) 1 s)

  whole-if-due : due r i m ≡ true → Whole r i k
  unfolding suspects_group width
  whole-if-due is_due g s = every-all _ (2 ^ g) (λ p l. rw ((due-nobody r i m is_due).1 (member i (suc g) p) (before_of g p s l)))

  -- where the groups of the digits that are set are suspected whole, nobody unsuspected stands before i
  nobody-before : Whole r i k → (x : ℕ) → Before i m x → unsuspected r x ≡ false
  unfolding suspects_group width member
  nobody-before whole x b =
      let d = (before-by-digits i m x).0 b in
      let g : ℕ = d.0 in
      let e : ℕ = distance i x in
      let in_group = level-bounds e g d.1 in
      let below : g < h = omega (arith, d.2, level_in h k small) in
      let s : bit_set k g ≡ true = eq-eqb (k / 2 ^ g % 2) 1 (sym (digit_low h g k below) ∙ d.3) in
      let place : 2 ^ g + (e - 2 ^ g) ≡ e = omega (arith, in_group.0) in
      let all =
      every-at (λ p. not (unsuspected r (station_at i (2 ^ g + p)))) (2 ^ g) (e - 2 ^ g) (whole g s) (omega (arith, in_group.0, in_group.1)) in
      not-true _ (rw (place, xor-cancel i x) at all)

  pub due-digits : (due r i m ≡ true) ↔ ((unsuspected r i ≡ true) × (stands r i m ≡ true) × Whole r i k)
  due-digits = (
    λ is_due. (due-own r i m is_due, due-stands r i m is_due, whole-if-due is_due),
    λ given. (due-if-nobody-before r i m given.0 (omega (arith, pow_pos h))).1 (given.1, nobody-before given.2),
  )

pub due-by-digits : DueByDigits
unfolding width
due-by-digits r i zero k small = absurd (omega arith)
due-by-digits r i (suc h) k small = (
  λ is_due.
      let d = (due-digits r i h k small).0 is_due in
      (d.0, d.1, λ t pos s. let e : suc (t - 1) ≡ t = omega arith in rw e at (d.2 (t - 1) s)),
  λ given. (due-digits r i h k small).1
      (given.0, given.1, λ g s. let e : suc g - 1 ≡ g = omega arith in given.2 (suc g) (omega arith) (rw e s)),
)
