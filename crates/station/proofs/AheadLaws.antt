-- Who stands before a station in a group (specs/Ahead): by binary digits, up to which distance, and when a distance is due.
-- Assumes nothing.
use mathlib.Core.Path.{◌≡◌, sym, ap, ◌∙◌, refl}
use mathlib.Core.Logic.{by_cases}
use mathlib.Core.Bool.{Bool, true, false, true≢false}
use mathlib.Core.List.{List}
use Rattle.std.specs.Prelude.{Some}
use Prim.Native.Nat.{ℕ, suc, ◌+◌, ◌*◌, ◌-◌, ◌/◌, ◌%◌, ◌^◌, ◌≤◌, ◌<◌}
use native.Mathlib.Nat.{suc-mul, div-mul-le_self, le-div_iff_mul-le}
use native.Mathlib.Decide.{dec_lt}
use native.Mathlib.Omega.{arith}
use borrow.Author.Tests.{eq-eqb, ne_eqb}
use lib.Dec.{eqb}
use lib.Pow.{pow_pos, pow_mono}
use lib.Bits.{bit_xor, bit_or, bit_and, and_shr, and_block, and_zero_l, differ, xor_step, xor_comm, xor_zero_r, xor_shr, or_step, or_shr, or_self, or_zero_r, or_add_and, and_le_r}
use Rattle.station.specs.Groups.{distance, station_at}
use Rattle.table.specs.Sizes.{level}
use Rattle.station.specs.Tests.{unsuspected, first, DueAnswer, answer_due, answer_ahead, answer, says_due, stands, due}
use Rattle.station.specs.Calls.{answer_byte}
use Rattle.station.specs.Ahead.{Before, SomebodyBefore, NamedStandsBefore, BeforeByDigits, block_end, BeforeInBlock, NoneDueInBlock, DueIfNobodyBefore}
use Rattle.lists.proofs.BoolLaws.{by_bool}
use Rattle.lists.proofs.Xor.{Near, div-le, near_le, near-of-xor, xor-of-near, xor_assoc, xor-cancel, xor-undo}
use Rattle.table.proofs.Levels.{level-zero, level-upper, level-le, level-is, level-bounds, level-split}
use Rattle.station.proofs.DueLaws.{is_station, first-not, first_found, answer_here, due-is, due-not, due-zero, due-stands}

-- a level by the highest digit
pub level-top : (m g : ℕ) → level m ≡ suc g → m / 2 ^ g ≡ 1
level-top m g e =
    let b = level-bounds m g e in
    let low : 1 ≤ m / 2 ^ g = (le-div_iff_mul-le (pow_pos g)).1 (omega (arith, b.0)) in
    let high : ¬ (2 ≤ m / 2 ^ g) = λ l. omega (arith, b.1, (le-div_iff_mul-le (pow_pos g)).0 l) in
    omega arith

top-level : (m g : ℕ) → m / 2 ^ g ≡ 1 → level m ≡ suc g
top-level m g e =
    let low : 1 * 2 ^ g ≤ m = (le-div_iff_mul-le (pow_pos g)).0 (omega arith) in
    let high : ¬ (2 * 2 ^ g ≤ m) = λ l. let two : 2 ≤ m / 2 ^ g = (le-div_iff_mul-le (pow_pos g)).1 l in omega arith in
    level-is m g (omega arith) (omega arith)

-- to turn the lowest digit round
flip : (a : ℕ) → bit_xor a 1 ≡ a / 2 * 2 + differ (a % 2) 1
flip a = xor_step a 1 ∙ rw (xor_zero_r (a / 2))

flip-odd : (a : ℕ) → a % 2 ≡ 1 → suc (bit_xor a 1) ≡ a
flip-odd a o = omega (arith, rw o at (flip a))

flip-even : (a : ℕ) → a % 2 ≡ 0 → bit_xor a 1 ≡ suc a
flip-even a o = omega (arith, rw o at (flip a))

-- less by the leading digits
less-of-div : (k a b : ℕ) → a / 2 ^ k < b / 2 ^ k → a < b
less-of-div k a b l = let no : ¬ (b ≤ a) = λ g. omega (arith, div-le k b a g) in omega arith

-- the exclusive or with a number whose highest digit is that at place t
module _ (m e t : ℕ) (at : level e ≡ suc t) where
  top : bit_xor m e / 2 ^ t ≡ bit_xor (m / 2 ^ t) 1
  top = xor_shr m e t ∙ rw (level-top e t at)

  digit-less : m / 2 ^ t % 2 ≡ 1 → bit_xor m e < m
  digit-less o = less-of-div t (bit_xor m e) m (omega (arith, top, flip-odd (m / 2 ^ t) o))

  digit-more : m / 2 ^ t % 2 ≡ 0 → m < bit_xor m e
  digit-more o = less-of-div t m (bit_xor m e) (omega (arith, top, flip-even (m / 2 ^ t) o))

-- the distance of x from the station at distance m, by its distance from i
by-own : (i m x : ℕ) → distance (station_at i m) x ≡ bit_xor m (distance i x)
by-own i m x = cc (xor_comm i m, xor_assoc m i x)

pub before-by-digits : BeforeByDigits
before-by-digits i m x = (there, back)
  where
    e : ℕ
    e = distance i x

    there : Before i m x → (t : ℕ) × (level e ≡ suc t) × (suc t < level m) × (m / 2 ^ t % 2 ≡ 1)
    there b =
        let less : bit_xor m e < m = rw (by-own i m x) at b.1 in
        let same : level (bit_xor m e) ≡ level m = rw (by-own i m x) at b.0 in
        let not-zero : ¬ (e ≡ 0) = λ z. omega (arith, xor_zero_r m, rw z at less) in
        let s = level-split e (omega arith) in
        let u = level-split m (omega arith) in
        let g : ℕ = u.0 in
        let low : bit_xor m (bit_xor m e) < 2 ^ g =
        xor-of-near g m (bit_xor m e) (level-top m g u.1 ∙ sym (level-top (bit_xor m e) g (same ∙ u.1))) in
        let odd : ¬ (m / 2 ^ s.0 % 2 ≡ 0) = λ z. omega (arith, digit-more m e s.0 s.1 z) in
        (s.0, s.1, omega (arith, u.1, s.1, level-le e g (rw (xor-cancel m e) at low)), omega arith)

    back : (t : ℕ) × (level e ≡ suc t) × (suc t < level m) × (m / 2 ^ t % 2 ≡ 1) → Before i m x
    back d =
        let not-zero : ¬ (m ≡ 0) = λ z. omega (arith, level-zero, rw z at d.2) in
        let u = level-split m (omega arith) in
        let g : ℕ = u.0 in
        let small : e < 2 ^ g = omega (arith, level-upper e, pow_mono {i = level e} {j = g} (omega (arith, d.1, d.2, u.1))) in
        let near : Near g m (bit_xor m e) = near-of-xor g m (bit_xor m e) (rw (xor-cancel m e) small) in
        let top : bit_xor m e / 2 ^ g ≡ 1 = sym near ∙ level-top m g u.1 in
        rw (by-own i m x) (top-level (bit_xor m e) g top ∙ sym u.1, digit-less m e d.0 d.1 d.3)

-- who stands before i at distance m does so at all distances up to l, if the digits of l from that of his level on are those of m
pub before-until : (i m x y l : ℕ) → Before i m x → m ≤ y → y ≤ l
    → ((t : ℕ) → level (distance i x) ≡ suc t → m / 2 ^ t % 2 ≡ 1 → l / 2 ^ t ≡ m / 2 ^ t) → Before i y x
before-until i m x y l b lo hi same =
    let d = (before-by-digits i m x).0 b in
    let t : ℕ = d.0 in
    let near : Near t m y = omega (arith, same t d.1 d.3, div-le t m y lo, div-le t y l hi) in
    let u = level-split m (omega (arith, b.1)) in
    let g : ℕ = u.0 in
    let far : Near g m y = near_le t g m y (omega (arith, d.2, u.1)) near in
    let same-level : level y ≡ suc g = top-level y g (sym far ∙ level-top m g u.1) in
    (before-by-digits i y x).1 (t, d.1, omega (arith, d.2, u.1, same-level), rw near at d.3)

-- an odd number has all digits of the one before it
or-odd : (a b : ℕ) → a % 2 ≡ 1 → a ≡ suc b → bit_or a b ≡ a
or-odd a b odd e =
    let low : b % 2 ≡ 0 = omega arith in
    let same : b / 2 ≡ a / 2 = omega arith in
    omega (arith, rw (odd, low, same, or_self (a / 2)) at (or_step a b))

-- where digit t of m is 1, the end of its block has the same digits from t on
block_near : (m t : ℕ) → m / 2 ^ t % 2 ≡ 1 → block_end m / 2 ^ t ≡ m / 2 ^ t
unfolding block_end
block_near m t odd =
    let a : ℕ = m / 2 ^ t in
    let b : ℕ = (m - 1) / 2 ^ t in
    let next : a ≡ suc (a - 1) = omega arith in
    let whole : a * 2 ^ t ≡ (a - 1) * 2 ^ t + 2 ^ t = ap (λ (v : ℕ). v * 2 ^ t) next ∙ suc-mul (a - 1) (2 ^ t) in
    let low : a - 1 ≤ b = (le-div_iff_mul-le (pow_pos t)).1 (omega (arith, pow_pos t, whole, div-mul-le_self m (2 ^ t))) in
    let high : b ≤ a = div-le t (m - 1) m (omega arith) in
    let either : bit_or a b ≡ a =
    by_cases (dec_lt b a) (λ l. or-odd a b odd (omega arith)) (λ l. let same : b ≡ a = omega arith in rw same (or_self a)) in
    or_shr m (m - 1) t ∙ either

pub before-in-block : BeforeInBlock
before-in-block i m x y b lo hi = before-until i m x y (block_end m) b lo hi (λ t e odd. block_near m t odd)

-- m without its lowest 1 has the level of m, where it is not 0
without-lowest : (m g : ℕ) → m / 2 ^ g ≡ 1 → ¬ (bit_and m (m - 1) ≡ 0) → bit_and m (m - 1) / 2 ^ g ≡ 1
without-lowest m g one some = by_cases (dec_lt (2 ^ g) m) more (λ l. absurd (some (only l)))
  where
    low : 1 * 2 ^ g ≤ m
    low = (le-div_iff_mul-le (pow_pos g)).0 (omega (arith, one))

    more : 2 ^ g < m → bit_and m (m - 1) / 2 ^ g ≡ 1
    more l =
        let least : 1 ≤ (m - 1) / 2 ^ g = (le-div_iff_mul-le (pow_pos g)).1 (omega (arith, l)) in
        let same : (m - 1) / 2 ^ g ≡ 1 = omega (arith, one, div-le g (m - 1) m (omega arith)) in
        and_shr m (m - 1) g ∙ rw (one, same) refl

    only : ¬ (2 ^ g < m) → bit_and m (m - 1) ≡ 0
    only l =
        let power : m ≡ 2 ^ g = omega (arith, low, l) in
        let w : ℕ = 2 ^ g - 1 in
        let a : 1 * 2 ^ g + 0 ≡ 2 ^ g = omega arith in
        let b : 0 * 2 ^ g + w ≡ w = omega arith in
        let c : bit_and 1 0 * 2 ^ g + bit_and 0 w ≡ 0 = omega (arith, and_zero_l w, and_zero_l 0) in
        rw power (rw (a, b) at (and_block g 1 0 0 w (pow_pos g) (omega (arith, pow_pos g)))) ∙ c

-- so who stands there, from the station at distance m, stands before i
pub nearer-before : (i m : ℕ) → ¬ (bit_and m (m - 1) ≡ 0) → Before i m (station_at (station_at i m) (bit_and m (m - 1)))
nearer-before i m some =
    let e = bit_and m (m - 1) in
    let pos : 0 < m = omega (arith, and_le_r m (m - 1)) in
    let u = level-split m pos in
    let same : level e ≡ level m = top-level e u.0 (without-lowest m u.0 (level-top m u.0 u.1) some) ∙ sym u.1 in
    rw (xor-cancel (station_at i m) e) (same, omega (arith, and_le_r m (m - 1)))

-- as the code asks for it: the block begins with m, and that of distance 0 ends with it
pub block-low : (m l : ℕ) → l ≡ block_end m → m ≤ l
unfolding block_end
block-low m l e = omega (arith, or_add_and m (m - 1), and_le_r m (m - 1))

pub block-zero : block_end 0 ≡ 0
unfolding block_end
block-zero = or_zero_r 0

pub named-stands-before : NamedStandsBefore
named-stands-before r i m x own pos here e = by_bool (eqb y i) (λ z. absurd (true≢false (ap says_due (given z)))) named
  where
    j : ℕ
    j = station_at i m

    f : (a : ℕ) × (level a ≡ level m) × (a ≤ m) × (unsuspected r (station_at j a) ≡ true) ×
        (first (unsuspected r) j (level m) ≡ Some (station_at j a))
    f = first_found (unsuspected r) j m pos (rw (xor-undo i m) own)

    y : ℕ
    y = station_at j f.0

    given : eqb y i ≡ true → answer_due ≡ answer_ahead x
    given z = rw (f.4, z) at (sym (answer_here r i m here) ∙ e)

    named : eqb y i ≡ false → (unsuspected r x ≡ true) × Before i m x
    named z =
        let same : y ≡ x = ap answer_byte (rw (f.4, z) at (sym (answer_here r i m here) ∙ e)) in
        let apart : ¬ (f.0 ≡ m) = λ a. true≢false (sym (eq-eqb y i (ap (station_at j) a ∙ xor-undo i m)) ∙ z) in
        rw (← same, xor-cancel j f.0) (f.3, (f.1, omega (arith, f.2)))

-- i is not first where one that stands before it passes
before-first : (q : ℕ → Bool) (i m x : ℕ) → q x ≡ true → Before i m x → is_station i (first q (station_at i m) (level m)) ≡ false
before-first q i m x passes b =
    let j : ℕ = station_at i m in
    let a : ℕ = distance j x in
    let u = level-split m (omega (arith, b.1)) in
    let some_level : ¬ (a ≡ 0) = λ z. omega (arith, level-zero, u.1, rw z at b.0) in
    let f = first_found q j a (omega arith) (rw (xor-cancel j x) passes) in
    let y : ℕ = f.0 in
    let apart : ¬ (station_at j y ≡ i) = λ e.
    let same : y ≡ m = cc (xor-cancel j y, xor-undo i m, xor-cancel j m) in
    omega (arith, b.1, f.2) in
    let none : is_station i (first q j (level a)) ≡ false = rw f.4 (ne_eqb (station_at j y) i apart) in
    rw b.0 at none

-- nor then is the distance due
not-due-before : (r : List ℕ) (i m x : ℕ) → unsuspected r x ≡ true → Before i m x → due r i m ≡ false
not-due-before r i m x passes b = due-not r i m (before-first (unsuspected r) i m x passes b)

-- so none of the block is due
pub none-due-behind : (r : List ℕ) (i m y : ℕ) → SomebodyBefore r i m → m ≤ y → y ≤ block_end m → due r i y ≡ false
none-due-behind r i m y (x, passes, b) lo hi = not-due-before r i y x passes (before-in-block i m x y b lo hi)

pub due-if-nobody-before : DueIfNobodyBefore
due-if-nobody-before r i m own pos = (λ e. (due-stands r i m e, there e), λ given. due-is r i m ∙ back given.0 given.1 (answer r i m) refl)
  where
    there : due r i m ≡ true → (x : ℕ) → Before i m x → unsuspected r x ≡ false
    there e x b = by_bool (unsuspected r x) (λ p. absurd (true≢false (sym e ∙ not-due-before r i m x p b))) (λ p. p)

    back : stands r i m ≡ true → ((x : ℕ) → Before i m x → unsuspected r x ≡ false) → (a : DueAnswer) → answer r i m ≡ a
        → says_due (answer r i m) ≡ true
    back here none answer_due e = rw e
    back here none (answer_ahead x) e =
        let b = named-stands-before r i m x own pos here e in
        absurd (true≢false (sym b.0 ∙ none x b.1))

pub none-due-in-block : NoneDueInBlock
none-due-in-block r i m x y here e lo hi = by_bool (unsuspected r i) (λ own. pick own (dec_lt 0 m)) not_own
  where
    not_own : unsuspected r i ≡ false → due r i y ≡ false
    not_own fails = due-not r i y (first-not (unsuspected r) (station_at i y) (level y) i fails)

    pick : unsuspected r i ≡ true → Dec (0 < m) → due r i y ≡ false
    pick own (yes pos) = let b = named-stands-before r i m x own pos here e in none-due-behind r i m y (x, b.0, b.1) lo hi
    pick own (no none) =
        let zero-m : m ≡ 0 = omega arith in
        let flat : y ≡ 0 = omega (arith, block-zero, rw zero-m at hi) in
        rw flat (due-zero r i)
