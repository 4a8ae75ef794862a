-- Packed rows come back.
-- Assumes nothing.
use mathlib.Core.Path.{◌≡◌, refl, sym, ap, ◌∙◌}
use mathlib.Core.Logic.{◌≢◌}
use mathlib.Core.Bool.{Bool, true, false}
use mathlib.Core.List.{List}
use Prim.Native.Nat.{ℕ, zero, suc, ◌+◌, ◌*◌, ◌-◌, ◌/◌, ◌%◌, ◌^◌, ◌≤◌, ◌<◌}
use native.Mathlib.Nat.{pow-succ'}
use native.Mathlib.Decide.{dec_lt, ℕ_discrete}
use native.Mathlib.Omega.{arith}
use borrow.Author.Tests.{eq-eqb, ne_eqb}
use lib.Dec.{eqb}
use lib.Pow.{pow_mono}
use lib.ListN.{length, get_or}
use lib.Seq.{ext_get_or}
use Rattle.std.specs.Int.{bit_at}
use Rattle.std.proofs.lemmas.List.{get_or_past}
use Rattle.std.proofs.lemmas.Nat.Bits.{bit_at_lowest, bit_at-suc, bit_at-lt}
use Rattle.lists.specs.Sums.{bit}
use Rattle.lists.proofs.SearchLaws.{list_of-length, list_of-at}
use Rattle.board.specs.Packed.{bits, suspicion, packed_length, packed_byte, pack, heard_byte, heard, AnyBytesAreARow}

suspicion-bit : (r : List ℕ) (k : ℕ) → suspicion r k ≤ 1
suspicion-bit r k = pick (eqb (get_or r k 0) 1)
  where
    pick : (b : Bool) → bit b ≤ 1
    pick true = omega arith
    pick false = omega arith

suspicion-is : (r : List ℕ) (k : ℕ) → get_or r k 0 ≤ 1 → suspicion r k ≡ get_or r k 0
suspicion-is r k h = pick (ℕ_discrete (get_or r k 0) 1)
  where
    pick : Dec (get_or r k 0 ≡ 1) → suspicion r k ≡ get_or r k 0
    pick (yes e) = rw (eq-eqb (get_or r k 0) 1 e) (sym e)
    pick (no d) = rw (ne_eqb (get_or r k 0) 1 d) (omega arith)

-- the digits of a number made of bits
bits-at : (f : ℕ → ℕ) → ((k : ℕ) → f k ≤ 1) → (m k j : ℕ) → j < m → bit_at (bits f k m) j ≡ f (k + j)
unfolding bits
bits-at f low zero k j h = absurd (omega arith)
bits-at f low (suc m) k zero h =
    let e : f (k + 0) ≡ f k = ap f (omega arith) in
    bit_at_lowest (f k + 2 * bits f (suc k) m) ∙ omega (arith, low k, e)
bits-at f low (suc m) k (suc j) h =
    let half : (f k + 2 * bits f (suc k) m) / 2 ≡ bits f (suc k) m = omega (arith, low k) in
    let e : f (suc k + j) ≡ f (k + suc j) = ap f (omega arith) in
    bit_at-suc (f k + 2 * bits f (suc k) m) j ∙ (ap (λ (x : ℕ). bit_at x j) half ∙ (bits-at f low m (suc k) j (omega arith) ∙ e))

bits-none : (f : ℕ → ℕ) (k m : ℕ) → ((j : ℕ) → j < m → f (k + j) ≡ 0) → bits f k m ≡ 0
unfolding bits
bits-none f k zero none = refl
bits-none f k (suc m) none =
    let a : f (k + 0) ≡ 0 = none 0 (omega arith) in
    let e : f (k + 0) ≡ f k = ap f (omega arith) in
    let rest : bits f (suc k) m ≡ 0 =
    bits-none f (suc k) m (λ j h. let g : suc k + j ≡ k + suc j = omega arith in ap f g ∙ none (suc j) (omega arith)) in
    omega (arith, a, e, rest)

-- eight boards of which none is suspected
pub nobody-packed : (r : List ℕ) (b : ℕ) → ((j : ℕ) → j < 8 → get_or r (8 * b + j) 0 ≡ 0) → 0 ≡ packed_byte r b
unfolding packed_byte
nobody-packed r b none = sym (bits-none (suspicion r) (8 * b) 8 (λ j h. ap (λ (x : ℕ). bit (eqb x 1)) (none j h)))

pub bits-below : (f : ℕ → ℕ) → ((k : ℕ) → f k ≤ 1) → (m k : ℕ) → bits f k m < 2 ^ m
unfolding bits
bits-below f low zero k = omega arith
bits-below f low (suc m) k = omega (arith, low k, bits-below f low m (suc k), pow-succ' 2 m)

pub heard-length : (n from : ℕ) (p : List ℕ) → length (heard n from p) ≡ n
unfolding heard
heard-length n from p = list_of-length (heard_byte from p) n

pub heard_at : (n from : ℕ) (p : List ℕ) (k : ℕ) → k < n → get_or (heard n from p) k 0 ≡ heard_byte from p k
unfolding heard
heard_at n from p k h = list_of-at (heard_byte from p) n k h

-- about the sender, and about another
pub heard-from : (from : ℕ) (p : List ℕ) → heard_byte from p from ≡ 0
unfolding heard_byte
heard-from from p = rw (eq-eqb from from refl) refl

pub heard-other : (from : ℕ) (p : List ℕ) (k : ℕ) → k ≢ from → heard_byte from p k ≡ bit_at (get_or p (k / 8) 0) (k % 8)
unfolding heard_byte
heard-other from p k d = rw (ne_eqb k from d) refl

-- bit k of a packed row
packed-at : (n : ℕ) (r : List ℕ) (k : ℕ) → k < n → bit_at (get_or (pack n r) (k / 8) 0) (k % 8) ≡ suspicion r k
unfolding pack packed_byte
packed-at n r k h =
    let b : ℕ = k / 8 in
    let j : ℕ = k % 8 in
    let e : 8 * b + j ≡ k = omega arith in
    ap (λ (x : ℕ). bit_at x j) (list_of-at (packed_byte r) (packed_length n) b (omega arith))
    ∙ (bits-at (suspicion r) (suspicion-bit r) 8 (8 * b) j (omega arith) ∙ ap (suspicion r) e)

-- a row comes back, packed by the station that it is of
pub back : (n from : ℕ) (r : List ℕ) → length r ≡ n → ((k : ℕ) → k < n → get_or r k 0 ≤ 1) → get_or r from 0 ≡ 0 → heard n from (pack n r) ≡ r
back n from r long low own =
    let e = heard-length n from (pack n r) in
    ext_get_or 0 (heard n from (pack n r)) r (e ∙ sym long)
    (λ k h. heard_at n from (pack n r) k (omega arith) ∙ pick k (omega arith) (ℕ_discrete k from))
  where
    pick : (k : ℕ) → k < n → Dec (k ≡ from) → heard_byte from (pack n r) k ≡ get_or r k 0
    pick k h (yes e) = rw e (heard-from from (pack n r) ∙ sym own)
    pick k h (no d) = heard-other from (pack n r) k d ∙ (packed-at n r k h ∙ suspicion-is r k (low k h))

-- whatever bytes come are a row
pub heard-low : (from : ℕ) (p : List ℕ) (k : ℕ) → heard_byte from p k ≤ 1
heard-low from p k = pick (ℕ_discrete k from)
  where
    pick : Dec (k ≡ from) → heard_byte from p k ≤ 1
    pick (yes e) = rw e (omega (arith, heard-from from p))
    pick (no d) = omega (arith, heard-other from p k d, bit_at-lt (get_or p (k / 8) 0) (k % 8))

heard-own : (n from : ℕ) (p : List ℕ) → Dec (from < n) → get_or (heard n from p) from 0 ≡ 0
heard-own n from p (yes h) = heard_at n from p from h ∙ heard-from from p
heard-own n from p (no d) = get_or_past _ from 0 (omega (arith, heard-length n from p))

pub any-bytes : AnyBytesAreARow
any-bytes n from p =
    (heard-length n from p, heard-own n from p (dec_lt from n), λ k h. omega (arith, heard_at n from p k h, heard-low from p k))

-- the loop that packs a byte, from the highest bit down: there is room for one more bit, and it is added
module _ (r : List ℕ) (s k byte : ℕ) (done : byte ≡ bits (suspicion r) (s + k) (8 - k)) (more : 0 < k) where
  pub room : byte ≤ 127
  room =
      let p : 2 ^ (8 - k) ≤ 2 ^ 7 = pow_mono {i = 8 - k} {j = 7} (omega arith) in
      omega (arith, done, bits-below (suspicion r) (suspicion-bit r) (8 - k) (s + k), p)

  pub one-more : (v : ℕ) → k ≤ 8 → v ≡ suspicion r (s + (k - 1)) → 2 * byte + v ≡ bits (suspicion r) (s + (k - 1)) (8 - (k - 1))
  unfolding bits
  one-more v h e =
      let a : 8 - (k - 1) ≡ suc (8 - k) = omega arith in
      let b : suc (s + (k - 1)) ≡ s + k = omega arith in
      rw (a, b) (omega (arith, e, done))

pub bit-room : (r : List ℕ) (k : ℕ) → suspicion r k ≤ 1
bit-room = suspicion-bit
