-- A heard row joined into a row, station by station.
-- Assumes nothing.
use mathlib.Core.Path.{◌≡◌, refl, sym, ap, ◌∙◌}
use mathlib.Core.Logic.{◌≢◌}
use mathlib.Core.Bool.{Bool, true, false}
use mathlib.Core.List.{List}
use borrow.Author.Tests.{eqb-true, eqb-false}
use Prim.Native.Nat.{ℕ, ◌+◌, ◌-◌, ◌*◌, ◌/◌, ◌%◌, ◌^◌, max, ◌≤◌, ◌<◌}
use native.Mathlib.Decide.{ℕ_discrete, dec_lt}
use native.Mathlib.Omega.{arith}
use native.Mathlib.Nat.{div-eq_of_lt, div-lt_iff_lt-mul}
use lib.Bits.{bit_and}
use lib.Dec.{eqb}
use lib.Pow.{pow_mono, pow_pos}
use lib.ListN.{length, get_or, set, length-set}
use lib.Seq.{get_or-set_same, get_or-set_other, ext_get_or}
use Rattle.std.specs.Int.{bit_at}
use Rattle.std.proofs.lemmas.Nat.Bits.{shr_and_one, bit_at-lt}
use Rattle.lists.specs.Bytes.{joined_byte}
use Rattle.station.specs.Rows.{union_byte, union}
use Rattle.station.proofs.UnionLaws.{union-length, union-at, union-own, union-others}
use Rattle.board.specs.Packed.{heard_byte, heard}
use Rattle.board.proofs.PackedLaws.{heard_at, heard-from, heard-other, heard-low}

unheard : (from : ℕ) (p : List ℕ) (k : ℕ) → bit_at (get_or p (k / 8) 0) (k % 8) ≡ 0 → heard_byte from p k ≡ 0
unheard from p k z = pick (ℕ_discrete k from)
  where
    pick : Dec (k ≡ from) → heard_byte from p k ≡ 0
    pick (yes e) = ap (heard_byte from p) e ∙ heard-from from p
    pick (no d) = heard-other from p k d ∙ z

-- row `now` is row r, joined with h at the places before m
pub record Joined (r h now : List ℕ) (own m : ℕ) : Type 0 where
  pub long : length now ≡ length r
  pub passed : (k : ℕ) → k < m → k < length r → get_or now k 0 ≡ union_byte r h own k
  pub ahead : (k : ℕ) → m ≤ k → get_or now k 0 ≡ get_or r k 0

-- a byte of 0 changes nothing
same_byte : (r h : List ℕ) (own k : ℕ) → get_or h k 0 ≡ 0 → union_byte r h own k ≡ get_or r k 0
unfolding joined_byte
same_byte r h own k z = pick (ℕ_discrete k own)
  where
    pick : Dec (k ≡ own) → union_byte r h own k ≡ get_or r k 0
    pick (yes e) = rw e (union-own r h own)
    pick (no d) = union-others r h own k d ∙ omega (arith, z)

-- what the question about one station says
pub not-heard : (n from k : ℕ) (p : List ℕ) (b : Bool) → k < n → b ≡ eqb (heard_byte from p k) 1 → b ≡ false → get_or (heard n from p) k 0 ≡ 0
not-heard n from k p b h e f = heard_at n from p k h ∙ omega (arith, heard-low from p k, eqb-false (heard_byte from p k) 1 (sym e ∙ f))

pub is-heard : (n from k : ℕ) (p : List ℕ) (b : Bool) → k < n → b ≡ eqb (heard_byte from p k) 1 → b ≡ true → get_or (heard n from p) k 0 ≡ 1
is-heard n from k p b h e f = heard_at n from p k h ∙ eqb-true (heard_byte from p k) 1 (sym e ∙ f)

-- one station: its byte stays if it is the row's own, or if nothing is said of it; else it is 1 at least
stays : (r : List ℕ) (k v : ℕ) → k < length r → v ≡ get_or r k 0 → r ≡ set r k v
stays r k v h e =
    ext_get_or 0 r (set r k v) (sym (length-set r k v)) (λ m a. pick m (ℕ_discrete m k))
  where
    pick : (m : ℕ) → Dec (m ≡ k) → get_or r m 0 ≡ get_or (set r k v) m 0
    pick m (yes q) = ap (λ (x : ℕ). get_or r x 0) q ∙ sym e ∙ sym (get_or-set_same r k v 0 h) ∙ ap (λ (x : ℕ). get_or (set r k v) x 0) (sym q)
    pick m (no d) = sym (get_or-set_other r k m v 0 d)

pub own-stays : (r h : List ℕ) (own k : ℕ) → k < length r → k ≡ own → r ≡ set r k (union_byte r h own k)
own-stays r h own k l e =
    stays r k (union_byte r h own k) l (ap (union_byte r h own) e ∙ union-own r h own ∙ ap (λ (x : ℕ). get_or r x 0) (sym e))

pub unheard-stays : (r h : List ℕ) (own k : ℕ) → k < length r → get_or h k 0 ≡ 0 → r ≡ set r k (union_byte r h own k)
unheard-stays r h own k l z = stays r k (union_byte r h own k) l (same_byte r h own k z)

pub heard-joined : (r h : List ℕ) (own k v : ℕ) → k ≢ own → get_or h k 0 ≡ 1 → v ≡ max (get_or r k 0) 1 → set r k v ≡ set r k (union_byte r h own k)
unfolding joined_byte
heard-joined r h own k v d o e = ap (set r k) (e ∙ ap (max (get_or r k 0)) (sym o) ∙ sym (union-others r h own k d))

union_by-place : (r t h : List ℕ) (own k : ℕ) → get_or r k 0 ≡ get_or t k 0 → union_byte r h own k ≡ union_byte t h own k
unfolding joined_byte
union_by-place r t h own k e = pick (ℕ_discrete k own)
  where
    pick : Dec (k ≡ own) → union_byte r h own k ≡ union_byte t h own k
    pick (yes q) = rw q (union-own r h own ∙ (let f : get_or r own 0 ≡ get_or t own 0 = rw q at e in f) ∙ sym (union-own t h own))
    pick (no d) = union-others r h own k d ∙ ap (λ (x : ℕ). max x (get_or h k 0)) e ∙ sym (union-others t h own k d)

module _ (r h now : List ℕ) (own m : ℕ) (j : Joined r h now own m) where
  -- places at which h has 0 are passed
  pub join-passed : (to : ℕ) → ((k : ℕ) → m ≤ k → k < to → k < length r → get_or h k 0 ≡ 0) → m ≤ to → Joined r h now own to
  join-passed to zeros le = record {
    long = j.long;
    passed = λ k a b. pick k a b (dec_lt k m);
    ahead = λ k a. j.ahead k (omega arith);
  }
    where
      pick : (k : ℕ) → k < to → k < length r → Dec (k < m) → get_or now k 0 ≡ union_byte r h own k
      pick k a b (yes l) = j.passed k l b
      pick k a b (no l) = j.ahead k (omega arith) ∙ sym (same_byte r h own k (zeros k (omega arith) a b))

  -- and one at which it has a 1 is joined
  pub join-next : (t : List ℕ) → m < length r → t ≡ set now m (union_byte now h own m) → Joined r h t own (m + 1)
  join-next t inside e = record {
    long = ap length e ∙ length-set now m (union_byte now h own m) ∙ j.long;
    passed = λ k a b. ap (λ (x : List ℕ). get_or x k 0) e ∙ pick k a b (ℕ_discrete k m);
    ahead =
        λ k a. ap (λ (x : List ℕ). get_or x k 0) e ∙ get_or-set_other now m k (union_byte now h own m) 0 (λ q. omega arith) ∙ j.ahead k (omega arith);
  }
    where
      pick : (k : ℕ) → k < m + 1 → k < length r → Dec (k ≡ m) → get_or (set now m (union_byte now h own m)) k 0 ≡ union_byte r h own k
      pick k a b (yes q) =
          rw q (get_or-set_same now m (union_byte now h own m) 0 (omega (arith, j.long)) ∙ union_by-place now r h own m (j.ahead m (omega arith)))
      pick k a b (no d) = get_or-set_other now m k (union_byte now h own m) 0 d ∙ j.passed k (omega arith) b

  pub join-done : length r ≤ m → now ≡ union r h own
  join-done le =
      ext_get_or 0 now (union r h own) (j.long ∙ sym (union-length r h own))
      (λ k a. let b : k < length r = omega (arith, j.long) in j.passed k (omega arith) b ∙ sym (union-at r h own k b))

-- at first
pub join-start : (r h : List ℕ) (own : ℕ) → Joined r h r own 0
join-start r h own = record { long = refl; passed = λ k a b. absurd (omega arith); ahead = λ k a. refl }

-- the rest of a byte is 0
rest-zero : (x d j : ℕ) → x / 2 ^ d ≡ 0 → d ≤ j → bit_at x j ≡ 0
rest-zero x d j e le =
    let p : 2 ^ d ≤ 2 ^ j = pow_mono {i = d} {j = j} le in
    let q : x < 1 * 2 ^ d = (div-lt_iff_lt-mul {k = 2 ^ d} (pow_pos d)).0 (omega (arith, e)) in
    let z : x / 2 ^ j ≡ 0 = div-eq_of_lt (omega (arith, p, q)) in
    sym (shr_and_one x j) ∙ ap (λ (y : ℕ). bit_and y 1) z

-- so it says of none of the stations up to the next byte that it is suspected
pub rest-unheard : (n from : ℕ) (p : List ℕ) (m : ℕ) → get_or p (m / 8) 0 / 2 ^ (m % 8) ≡ 0
    → (k : ℕ) → m ≤ k → k < m + (8 - m % 8) → k < n → get_or (heard n from p) k 0 ≡ 0
rest-unheard n from p m e k lo hi h =
    let b : k / 8 ≡ m / 8 = omega arith in
    heard_at n from p k h ∙ unheard from p k
    (ap (λ (x : ℕ). bit_at (get_or p x 0) (k % 8)) b ∙ rest-zero (get_or p (m / 8) 0) (m % 8) (k % 8) e (omega arith))

-- a bit that is not 1
pub bit-unheard : (n from : ℕ) (p : List ℕ) (m : ℕ) → bit_and (get_or p (m / 8) 0 / 2 ^ (m % 8)) 1 ≢ 1
    → (k : ℕ) → m ≤ k → k < m + 1 → k < n → get_or (heard n from p) k 0 ≡ 0
bit-unheard n from p m e k lo hi h =
    let z : k ≡ m = omega arith in
    let b = shr_and_one (get_or p (m / 8) 0) (m % 8) in
    let c = bit_at-lt (get_or p (m / 8) 0) (m % 8) in
    let f : bit_at (get_or p (m / 8) 0) (m % 8) ≡ 0 = pick _ c (λ q. e (b ∙ q)) in
    heard_at n from p k h ∙ unheard from p k (ap (λ (x : ℕ). bit_at (get_or p (x / 8) 0) (x % 8)) z ∙ f)
  where
    pick : (x : ℕ) → x < 2 → x ≢ 1 → x ≡ 0
    pick x l d = omega arith
