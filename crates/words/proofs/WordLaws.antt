-- Laws of bytes read as a word: which of them are 0 or 1.
-- Assumes nothing.
use mathlib.Core.Path.{◌≡◌, refl, sym, ap, ap₂, subst, ◌∙◌}
use mathlib.Core.Logic.{by_cases}
use mathlib.Core.Bool.{Bool, true, false, ◌&&◌, and_assoc, and-true}
use mathlib.Core.List.{List, []}
use Prim.Native.Nat.{ℕ, zero, suc, ◌+◌, ◌-◌, ◌*◌, ◌/◌, ◌%◌, ◌^◌, min, max, ◌≤◌, ◌<◌}
use native.Mathlib.Decide.{dec_lt}
use native.Mathlib.Nat.{add-zero, add-suc, suc-mul}
use native.Mathlib.Omega.{arith}
use borrow.Author.Tests.{ne_eqb, eqb-true, le-leb, lt-leb}
use lib.Arith.{bin_ind}
use lib.Bits.{bit_and, bit_or, and_step, or_step, and_zero_l, or_zero_l, and_block, or_add_and, and_le_r}
use lib.Dec.{eqb, leb}
use lib.ListN.{length, get_or, take, drop, length-drop}
use lib.Seq.{take_all, get_or-take, get_or-drop, drop-drop}
use mir.Syntax.{w8, w64}
use mir.Val.{Fits}
use Rattle.std.specs.Int.{from_le_bytes}
use Rattle.std.specs.Simd.{first_chunks}
use Rattle.lists.specs.Search.{every}
use Rattle.words.specs.Words.{is_bit_at, are_bits, eight_zeros}
use Rattle.lists.proofs.SearchLaws.{both, every-suc, every-at, every-all}

-- laws of `every`
pub every-append : (q : ℕ → Bool) (a b : ℕ) → every q (a + b) ≡ (every q a && every (λ j. q (a + j)) b)
unfolding every
every-append q a zero = rw add-zero (sym (and-true (every q a)))
every-append q a (suc b) =
    ap (every q) (add-suc a b) ∙ every-suc q (a + b) ∙ ap (λ (x : Bool). x && q (a + b)) (every-append q a b)
    ∙ and_assoc (every q a) (every (λ j. q (a + j)) b) (q (a + b)) ∙ ap (◌&&◌ (every q a)) (sym (every-suc (λ j. q (a + j)) b))

every-head : (q : ℕ → Bool) (n : ℕ) → every q (suc n) ≡ (q 0 && every (λ j. q (suc j)) n)
unfolding every
every-head q zero = every-suc q 0 ∙ sym (and-true (q 0))
every-head q (suc n) =
    every-suc q (suc n) ∙ ap (λ (x : Bool). x && q (suc n)) (every-head q n) ∙ and_assoc (q 0) (every (λ j. q (suc j)) n) (q (suc n))
    ∙ ap (◌&&◌ (q 0)) (sym (every-suc (λ j. q (suc j)) n))

-- the bits of a number
and-or : (a b m : ℕ) → bit_and (bit_or a b) m ≡ bit_or (bit_and a m) (bit_and b m)
and-or = bin_ind (λ (a : ℕ). (b m : ℕ) → bit_and (bit_or a b) m ≡ bit_or (bit_and a m) (bit_and b m)) base step
  where
    base : (b m : ℕ) → bit_and (bit_or 0 b) m ≡ bit_or (bit_and 0 m) (bit_and b m)
    base b m = cc (or_zero_l b, and_zero_l m, or_zero_l (bit_and b m))

    or_of : (a b : ℕ) → (bit_or a b / 2 ≡ bit_or (a / 2) (b / 2)) × (bit_or a b % 2 ≡ max (a % 2) (b % 2))
    or_of a b = omega (arith, or_step a b)

    and_of : (a b : ℕ) → (bit_and a b / 2 ≡ bit_and (a / 2) (b / 2)) × (bit_and a b % 2 ≡ min (a % 2) (b % 2))
    and_of a b = omega (arith, and_step a b)

    digit : (x y z : ℕ) → min (max x y) z ≡ max (min x z) (min y z)
    digit x y z = omega arith

    step : (a : ℕ) → ((b m : ℕ) → bit_and (bit_or (a / 2) b) m ≡ bit_or (bit_and (a / 2) m) (bit_and b m))
        → (b m : ℕ) → bit_and (bit_or a b) m ≡ bit_or (bit_and a m) (bit_and b m)
    step a below b m =
        cc (
          and_step (bit_or a b) m,
          or_step (bit_and a m) (bit_and b m),
          (or_of a b).0,
          (or_of a b).1,
          (and_of a m).0,
          (and_of a m).1,
          (and_of b m).0,
          (and_of b m).1,
          below (b / 2) (m / 2),
          digit (a % 2) (b % 2) (m % 2),
        )

neither : (a b : ℕ) → eqb (bit_or a b) 0 ≡ (eqb a 0 && eqb b 0)
neither zero b = refl
neither (suc a) b =
    ne_eqb (bit_or (suc a) b) 0 (λ e. omega (arith, or_add_and (suc a) b, and_le_r (suc a) b))
    ∙ sym (ap (λ (t : Bool). t && eqb b 0) (ne_eqb (suc a) 0 (λ e. omega arith)))

-- a word of bytes, the lowest first
abbrev pub digits : (ℕ → ℕ) → ℕ → ℕ
digits f zero = 0
digits f (suc n) = f 0 + 256 * digits (λ j. f (suc j)) n

-- the mask that leaves of each of n bytes all but its lowest bit
abbrev high_bits : ℕ → ℕ
high_bits = digits (λ _. 254)

-- a fact of one byte, by trying each
abbrev each_below : ℕ → (ℕ → Bool) → Bool
each_below zero t = true
each_below (suc n) t = t n && each_below n t

tried : (n : ℕ) (t : ℕ → Bool) → each_below n t ≡ true → (b : ℕ) → b < n → t b ≡ true
tried zero t e b l = absurd (omega arith)
tried (suc n) t e b l = by (t n) refl e (tried n t)
  where
    by : (x : Bool) → t n ≡ x → (x && each_below n t) ≡ true → (each_below n t ≡ true → (c : ℕ) → c < n → t c ≡ true) → t b ≡ true
    by true p q rest = by_cases (dec_lt b n) (λ u. rest q b u) (λ u. let same : b ≡ n = omega arith in ap t same ∙ p)
    by false p q rest = cc

abbrev same : Bool → Bool → Bool
same true b = b
same false true = false
same false false = true

same-is : (a b : Bool) → same a b ≡ true → a ≡ b
same-is true b e = sym e
same-is false true e = cc
same-is false false e = refl

bit_byte : (b : ℕ) → b < 256 → eqb (bit_and b 254) 0 ≡ leb b 1
bit_byte b l = same-is _ _ (tried 256 (λ x. same (eqb (bit_and x 254) 0) (leb x 1)) refl b l)

both_zero : (x y : ℕ) → eqb (x * 256 + y) 0 ≡ (eqb y 0 && eqb x 0)
both_zero x zero = pick x
  where
    pick : (x : ℕ) → eqb (x * 256 + 0) 0 ≡ eqb x 0
    pick zero = refl
    pick (suc x) = ne_eqb (suc x * 256 + 0) 0 (λ e. omega arith) ∙ sym (ne_eqb (suc x) 0 (λ e. omega arith))
both_zero x (suc y) =
    ne_eqb (x * 256 + suc y) 0 (λ e. omega arith) ∙ sym (ap (λ (t : Bool). t && eqb x 0) (ne_eqb (suc y) 0 (λ e. omega arith)))

-- a word has no bit outside the lowest of each byte just if all its bytes are 0 or 1
bits-of : (f : ℕ → ℕ) (n m : ℕ) → n ≤ m → ((k : ℕ) → f k < 256) → eqb (bit_and (digits f n) (high_bits m)) 0 ≡ every (λ k. leb (f k) 1) n
unfolding every
bits-of f zero m l small = ap (λ (x : ℕ). eqb x 0) (and_zero_l (high_bits m))
bits-of f (suc n) zero l small = absurd (omega arith)
bits-of f (suc n) (suc m) l small =
    let rest = digits (λ j. f (suc j)) n in
    let mask = high_bits m in
    let w : f 0 + 256 * rest ≡ rest * 2 ^ 8 + f 0 = omega arith in
    let h : 254 + 256 * mask ≡ mask * 2 ^ 8 + 254 = omega arith in
    let b : bit_and (rest * 2 ^ 8 + f 0) (mask * 2 ^ 8 + 254) ≡ bit_and rest mask * 2 ^ 8 + bit_and (f 0) 254 =
    and_block 8 rest mask (f 0) 254 (small 0) (omega arith) in
    ap (λ (x : ℕ). eqb x 0) (ap₂ bit_and w h ∙ b) ∙ both_zero (bit_and rest mask) (bit_and (f 0) 254)
    ∙ ap₂ ◌&&◌ (bit_byte (f 0) (small 0)) (bits-of (λ j. f (suc j)) n m (omega arith) (λ k. small (suc k))) ∙ sym (every-head (λ k. leb (f k) 1) n)

pub digits-same : (f g : ℕ → ℕ) (n : ℕ) → ((j : ℕ) → j < n → f j ≡ g j) → digits f n ≡ digits g n
digits-same f g zero e = refl
digits-same f g (suc n) e =
    let a = e 0 (omega arith) in let b = digits-same (λ j. f (suc j)) (λ j. g (suc j)) n (λ j h. e (suc j) (omega arith)) in omega arith

-- the bytes of a list from place p on
abbrev pub from : List ℕ → ℕ → ℕ → ℕ
from t p j = get_or t (p + j) 0

part : (t : List ℕ) (p m : ℕ) → digits (λ j. get_or (take m (drop p t)) j 0) m ≡ digits (from t p) m
part t p m = digits-same _ _ m (λ j h. get_or-take m (drop p t) j 0 h ∙ get_or-drop p t j 0)

pub read_8 : (t : List ℕ) (p w : ℕ) → w ≡ from_le_bytes w64 (take 8 (drop p t)) → w ≡ digits (from t p) 8
read_8 t p w e = e ∙ whole (take 8 (drop p t)) ∙ part t p 8
  where
    whole : (b : List ℕ) → from_le_bytes w64 b ≡ digits (λ j. get_or b j 0) 8
    whole b = omega arith

-- so many bytes more
pub bits-next : (t : List ℕ) (all w p m : ℕ) → m ≤ 8 → ((k : ℕ) → get_or t k 0 < 256)
    → eqb (bit_and all 0xFEFE_FEFE_FEFE_FEFE) 0 ≡ every (is_bit_at t) p
    → w ≡ digits (from t p) m → eqb (bit_and (bit_or all w) 0xFEFE_FEFE_FEFE_FEFE) 0 ≡ every (is_bit_at t) (p + m)
bits-next t all w p m l small before e =
    ap (λ (x : ℕ). eqb x 0) (and-or all w 0xFEFE_FEFE_FEFE_FEFE) ∙ neither (bit_and all 0xFEFE_FEFE_FEFE_FEFE) (bit_and w 0xFEFE_FEFE_FEFE_FEFE)
    ∙ ap₂ ◌&&◌ before (ap (λ (x : ℕ). eqb (bit_and x 0xFEFE_FEFE_FEFE_FEFE) 0) e ∙ bits-of (from t p) m 8 l (λ k. small (p + k)))
    ∙ sym (every-append (is_bit_at t) p m)

-- the chunks of a list
pub chunk-at : (n c : ℕ) (t d : List ℕ) (k p : ℕ) → k < c → p ≡ k * n → get_or (first_chunks n c t) k d ≡ take n (drop p t)
chunk-at n zero t d k p h e = absurd (omega arith)
chunk-at n (suc c) t d zero p h e = let z : p ≡ 0 = omega arith in rw z refl
chunk-at n (suc c) t d (suc k) p h e =
    let z : p ≡ n + k * n = omega (arith, suc-mul k n) in
    chunk-at n c (drop n t) d k (k * n) (omega arith) refl ∙ ap (take n) (drop-drop (k * n) n t ∙ ap (λ (x : ℕ). drop x t) (sym z))

-- no word so far has a bit that a byte of 0 or 1 does not have, just if all bytes before place p are 0 or 1
abbrev pub Seen : List ℕ → ℕ → ℕ → Type 0
Seen t all p = eqb (bit_and all 0xFEFE_FEFE_FEFE_FEFE) 0 ≡ every (is_bit_at t) p

-- word k of a list
pub chunk-read : (t : List ℕ) (ws : List (List ℕ)) (k w : ℕ) → ws ≡ first_chunks 8 (length t / 8) t → length ws ≡ length t / 8
    → k < length ws → w ≡ from_le_bytes w64 (get_or ws k []) → w ≡ digits (from t (k * 8)) 8
chunk-read t ws k w f n h e =
    let c : get_or ws k [] ≡ take 8 (drop (k * 8) t) =
    ap (λ (x : List (List ℕ)). get_or x k []) f ∙ chunk-at 8 (length t / 8) t [] k (k * 8) (omega arith) refl in
    read_8 t (k * 8) w (e ∙ ap (from_le_bytes w64) c)

pub word-next : (t : List ℕ) (ws : List (List ℕ)) (k all w : ℕ) → ((i : ℕ) → Fits w8 (get_or t i 0)) → ws ≡ first_chunks 8 (length t / 8) t
    → length ws ≡ length t / 8 → k < length ws → Seen t all (k * 8) → w ≡ from_le_bytes w64 (get_or ws k [])
    → Seen t (bit_or all w) ((k + 1) * 8)
word-next t ws k all w typed f n h before e =
    let p : k * 8 + 8 ≡ (k + 1) * 8 = omega arith in
    let r : w ≡ digits (from t (k * 8)) 8 = chunk-read t ws k w f n h e in
    subst (Seen t (bit_or all w)) p (bits-next t all w (k * 8) 8 (omega arith) (λ j. (typed j).fits) before r)

pub byte-next : (t : List ℕ) (k all : ℕ) → ((i : ℕ) → Fits w8 (get_or t i 0)) → Seen t all k → Seen t (bit_or all (get_or t k 0)) (k + 1)
byte-next t k all typed before =
    bits-next t all (get_or t k 0) k 1 (omega arith) (λ j. (typed j).fits) before
    (let z : k + 0 ≡ k = omega arith in omega (arith, ap (λ (x : ℕ). get_or t x 0) z))

pub bits-done : (t : List ℕ) (all k : ℕ) → k ≤ length t → length t ≤ k → Seen t all k → eqb (bit_and all 0xFEFE_FEFE_FEFE_FEFE) 0 ≡ are_bits t
unfolding are_bits
bits-done t all k l m seen = let p : k ≡ length t = omega arith in rw p at seen

-- two parts that overlap
every-joined : (q : ℕ → Bool) (p a m : ℕ) → a ≤ p → p ≤ a + m → (every q p && every (λ j. q (a + j)) m) ≡ every q (a + m)
every-joined q p a m l h = same-when _ _
    (λ e. let b = both _ _ e in every-all q (a + m) (λ k u. by_cases (dec_lt k p) (every-at q p k b.0)
    (λ v. let z : a + (k - a) ≡ k = omega arith in subst (λ (x : ℕ). q x ≡ true) z (every-at (λ j. q (a + j)) m (k - a) b.1 (omega arith)))))
    (λ e. ap₂ ◌&&◌ (every-all q p (λ k u. every-at q (a + m) k e (omega arith)))
    (every-all (λ j. q (a + j)) m (λ k u. every-at q (a + m) (a + k) e (omega arith))))
  where
    same-when : (x y : Bool) → (x ≡ true → y ≡ true) → (y ≡ true → x ≡ true) → x ≡ y
    same-when true y f g = sym (f refl)
    same-when false true f g = g refl
    same-when false false f g = refl

-- the last eight bytes
pub last-read : (t b : List ℕ) (w : ℕ) → 8 ≤ length t → b ≡ drop (length t - 8) t → w ≡ from_le_bytes w64 b → w ≡ digits (from t (length t - 8)) 8
last-read t b w l e r =
    let a = length t - 8 in
    let d : b ≡ take 8 (drop a t) = e ∙ sym (take_all 8 (drop a t) (omega (arith, length-drop a t))) in
    read_8 t a w (r ∙ ap (from_le_bytes w64) d)

-- the last eight bytes, of which some may have been passed
pub last-done : (t b : List ℕ) (c k all w : ℕ) → ((i : ℕ) → Fits w8 (get_or t i 0)) → 8 ≤ length t → b ≡ drop (length t - 8) t
    → c ≡ length t / 8 → c ≤ k → k ≤ c → Seen t all (k * 8) → w ≡ from_le_bytes w64 b
    → eqb (bit_and (bit_or all w) 0xFEFE_FEFE_FEFE_FEFE) 0 ≡ are_bits t
unfolding are_bits
last-done t b c k all w typed l e n h g before r =
    let a = length t - 8 in
    let z : a + 8 ≡ length t = omega arith in
    let v : w ≡ digits (from t a) 8 = last-read t b w l e r in
    ap (λ (x : ℕ). eqb x 0) (and-or all w 0xFEFE_FEFE_FEFE_FEFE) ∙ neither (bit_and all 0xFEFE_FEFE_FEFE_FEFE) (bit_and w 0xFEFE_FEFE_FEFE_FEFE)
    ∙ ap₂ ◌&&◌ before (ap (λ (x : ℕ). eqb (bit_and x 0xFEFE_FEFE_FEFE_FEFE) 0) v ∙ bits-of (from t a) 8 8 (omega arith) (λ j. (typed (a + j)).fits))
    ∙ every-joined (is_bit_at t) (k * 8) a 8 (omega arith) (omega arith) ∙ ap (every (is_bit_at t)) z

-- a word is 0 just if all its bytes are
zero-of : (f : ℕ → ℕ) (n : ℕ) → eqb (digits f n) 0 ≡ every (λ k. eqb (f k) 0) n
unfolding every
zero-of f zero = refl
zero-of f (suc n) =
    let rest = digits (λ j. f (suc j)) n in
    let w : f 0 + 256 * rest ≡ rest * 256 + f 0 = omega arith in
    ap (λ (x : ℕ). eqb x 0) w ∙ both_zero rest (f 0) ∙ ap (λ (b : Bool). eqb (f 0) 0 && b) (zero-of (λ j. f (suc j)) n)
    ∙ sym (every-head (λ k. eqb (f k) 0) n)

pub zeros-read : (t : List ℕ) (p w : ℕ) → p + 8 ≤ length t → w ≡ from_le_bytes w64 (take 8 (drop p t)) → eqb w 0 ≡ eight_zeros t p
unfolding eight_zeros
zeros-read t p w l e = rw (le-leb (p + 8) (length t) l, read_8 t p w e) (zero-of (from t p) 8)

pub zeros-beyond : (t : List ℕ) (p : ℕ) → length t < p + 8 → false ≡ eight_zeros t p
unfolding eight_zeros
zeros-beyond t p l = rw (lt-leb (p + 8) (length t) l) refl

-- so each is
pub zeros-at : (t : List ℕ) (p j : ℕ) → eight_zeros t p ≡ true → j < 8 → get_or t (p + j) 0 ≡ 0
unfolding eight_zeros
zeros-at t p j e h = eqb-true _ _ (every-at (λ k. eqb (get_or t (p + k) 0) 0) 8 j (both _ _ e).1 h)
