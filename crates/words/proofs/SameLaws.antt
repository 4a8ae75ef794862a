-- Laws of two lists of bytes that are compared eight at a time.
-- Assumes nothing.
use mathlib.Core.Path.{◌≡◌, refl, sym, subst, ◌∙◌}
use mathlib.Core.Logic.{◌↔◌, by_cases}
use mathlib.Core.Bool.{true}
use mathlib.Core.List.{List}
use Prim.Native.Nat.{ℕ, zero, suc, ◌+◌, ◌-◌, ◌*◌, ◌≤◌, ◌<◌}
use native.Mathlib.Decide.{dec_lt}
use native.Mathlib.Omega.{arith}
use borrow.Author.Tests.{eq-eqb, eqb-true}
use lib.Bits.{bit_or, bit_xor, or_zero_l, or_add_and, and_le_r, xor_self}
use lib.Dec.{eqb}
use lib.ListN.{length, get_or}
use mir.Syntax.{w8}
use mir.Val.{Fits}
use Rattle.std.proofs.lemmas.List.{ext_get_or}
use Rattle.std.specs.Bool.{Decides}
use Rattle.lists.proofs.Xor.{xor-zero-eq}
use Rattle.words.proofs.WordLaws.{digits, digits-same, from}

-- words are the same just if all their bytes are
bytes-of : (f g : ℕ → ℕ) (n : ℕ) → ((k : ℕ) → f k < 256) → ((k : ℕ) → g k < 256) → digits f n ≡ digits g n → (j : ℕ) → j < n → f j ≡ g j
bytes-of f g zero small small' e j h = absurd (omega arith)
bytes-of f g (suc n) small small' e zero h = omega (arith, small 0, small' 0, e)
bytes-of f g (suc n) small small' e (suc j) h =
    bytes-of (λ k. f (suc k)) (λ k. g (suc k)) n (λ k. small (suc k)) (λ k. small' (suc k)) (omega (arith, small 0, small' 0, e)) j (omega arith)

or-zero : (a b : ℕ) → bit_or a b ≡ 0 → (a ≡ 0) × (b ≡ 0)
or-zero a b e =
    let z : a ≡ 0 = omega (arith, or_add_and a b, and_le_r a b) in
    (z, sym (or_zero_l b) ∙ (rw z at e))

-- the bytes of two lists are the same at m places from p on
abbrev pub Same : List ℕ → List ℕ → ℕ → ℕ → Type 0
Same a b p m = (j : ℕ) → j < m → get_or a (p + j) 0 ≡ get_or b (p + j) 0

-- the last eight are, and all before place p
abbrev pub SameSoFar : List ℕ → List ℕ → ℕ → Type 0
SameSoFar a b p = Same a b (length a - 8) 8 × ((j : ℕ) → j < p → get_or a j 0 ≡ get_or b j 0)

-- what is 0 just then
abbrev pub Compared : List ℕ → List ℕ → ℕ → ℕ → Type 0
Compared a b apart p = (apart ≡ 0) ↔ SameSoFar a b p

module _ (a b : List ℕ) (typed : (i : ℕ) → Fits w8 (get_or a i 0)) (typed' : (i : ℕ) → Fits w8 (get_or b i 0)) where
  pub word-same : (p x y : ℕ) → x ≡ digits (from a p) 8 → y ≡ digits (from b p) 8 → (bit_xor x y ≡ 0) ↔ Same a b p 8
  word-same p x y e f = (
    λ z. bytes-of (from a p) (from b p) 8 (λ k. (typed (p + k)).fits) (λ k. (typed' (p + k)).fits) (sym e ∙ xor-zero-eq x y z ∙ f),
    λ s. let same : x ≡ y = e ∙ digits-same (from a p) (from b p) 8 s ∙ sym f in rw same (xor_self y),
  )

  pub compared-last : (x y : ℕ) → x ≡ digits (from a (length a - 8)) 8 → y ≡ digits (from b (length a - 8)) 8 → Compared a b (bit_xor x y) 0
  compared-last x y e f =
      let s = word-same (length a - 8) x y e f in
      (λ z. (s.0 z, λ j h. absurd (omega arith)), λ g. s.1 g.0)

  pub compared-next : (apart k x y : ℕ) → Compared a b apart (k * 8) → x ≡ digits (from a (k * 8)) 8 → y ≡ digits (from b (k * 8)) 8
      → Compared a b (bit_or apart (bit_xor x y)) ((k + 1) * 8)
  compared-next apart k x y before e f = (there, back)
    where
      s : (bit_xor x y ≡ 0) ↔ Same a b (k * 8) 8
      s = word-same (k * 8) x y e f

      there : bit_or apart (bit_xor x y) ≡ 0 → SameSoFar a b ((k + 1) * 8)
      there z =
          let o = or-zero apart (bit_xor x y) z in
          let t = before.0 o.0 in (
            t.0,
            λ j h. by_cases (dec_lt j (k * 8)) (t.1 j)
                (λ l. let place : k * 8 + (j - k * 8) ≡ j = omega arith in
                subst (λ (q : ℕ). get_or a q 0 ≡ get_or b q 0) place (s.0 o.1 (j - k * 8) (omega arith))),
          )

      back : SameSoFar a b ((k + 1) * 8) → bit_or apart (bit_xor x y) ≡ 0
      back g =
          let u : apart ≡ 0 = before.1 (g.0, λ j h. g.1 j (omega arith)) in
          let v : bit_xor x y ≡ 0 =
          s.1 (λ j h. g.1 (k * 8 + j) (omega arith)) in
          rw (u, v) (or_zero_l 0)

pub compared-done : (a b : List ℕ) (apart k : ℕ) → length a ≡ length b → length a ≤ k * 8 + 8 → Compared a b apart (k * 8)
    → Decides (eqb apart 0) (a ≡ b)
compared-done a b apart k long all c = (there, back)
  where
    there : eqb apart 0 ≡ true → a ≡ b
    there z =
        let t = c.0 (eqb-true apart 0 z) in
        ext_get_or 0 a b long (λ j h. by_cases (dec_lt j (k * 8)) (t.1 j)
        (λ l. let place : length a - 8 + (j - (length a - 8)) ≡ j = omega arith in
        subst (λ (q : ℕ). get_or a q 0 ≡ get_or b q 0) place (t.0 (j - (length a - 8)) (omega arith))))

    back : a ≡ b → eqb apart 0 ≡ true
    back e = eq-eqb apart 0 (c.1 (rw e (λ j h. refl, λ j h. refl)))
