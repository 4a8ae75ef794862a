-- Laws of two lists of bytes, place by place, of specs/Bytes.
-- Assumes nothing.
use mathlib.Core.Path.{◌≡◌, refl, sym, ap, subst, ◌∙◌}
use mathlib.Core.Logic.{◌⊎◌, inl, inr}
use mathlib.Core.Bool.{Bool, false, ◌&&◌, and_assoc, and-true}
use mathlib.Core.List.{List, [], ◌∷◌, ◌++◌}
use Prim.Native.Nat.{ℕ, zero, suc, min, max, ◌≤◌, ◌<◌}
use native.Mathlib.Decide.{ℕ_discrete}
use native.Mathlib.Nat.{zero-max}
use native.Mathlib.Omega.{arith}
use borrow.Author.Tests.{le-leb, lt-leb, eq-eqb, ne_eqb}
use lib.Bits.{bit_xor, xor_self}
use lib.Dec.{eqb}
use lib.ListN.{length, get_or, drop, get_or-eq_default}
use lib.Seq.{sets}
use Rattle.std.specs.Bool.{Decides}
use Rattle.std.specs.Str.{bytes_eq}
use Rattle.std.proofs.lemmas.Slice.Eq.{bytes_eq-Decides}
use Rattle.lists.specs.Search.{list_of}
use Rattle.lists.specs.Bytes.{joined_byte, joined_bytes, with_joined}
use Rattle.lists.proofs.SearchLaws.{list_of-length, list_of-at}
use Rattle.lists.proofs.Xor.{xor-zero-eq}
use Rattle.lists.proofs.Writing.{sets-front}
use Rattle.lists.proofs.Loops.{fill-rest}

pub joined_length : (a b : List ℕ) → length (joined_bytes a b) ≡ length a
unfolding joined_bytes
joined_length a b = list_of-length (joined_byte a b) (length a)

pub joined_at : (a b : List ℕ) (k : ℕ) → k < length a → get_or (joined_bytes a b) k 0 ≡ joined_byte a b k
unfolding joined_bytes
joined_at a b k h = list_of-at (joined_byte a b) (length a) k h

-- the greater byte, where x is the byte of the first list
pub joined-byte : (a b : List ℕ) (k x v : ℕ) → x ≡ get_or a k 0 → v ≡ max x (get_or b k 0) → v ≡ joined_byte a b k
unfolding joined_byte
joined-byte a b k x v e f = rw e at f

-- past the other list's end the bytes stay as they are
pub joined-filled : (a b : List ℕ) (k : ℕ) (t : List ℕ) → t ≡ sets a 0 (list_of (joined_byte a b) k) → k ≡ min (length a) (length b)
    → t ≡ joined_bytes a b
unfolding joined_bytes joined_byte
joined-filled a b k t e m =
    fill-rest (joined_byte a b) k a t e (omega arith)
    (λ y lo hi. let z : get_or b y 0 ≡ 0 = get_or-eq_default b 0 (omega arith) in omega arith)

-- both into a buffer
pub into-apart : (a b out : List ℕ) → (length a ≡ length b → ⊥) → out ≡ with_joined a b out
unfolding with_joined
into-apart a b out h = rw (ne_eqb (length a) (length b) h)

pub into-short : (a b out : List ℕ) → length a ≡ length b → length out < length a → out ≡ with_joined a b out
unfolding with_joined
into-short a b out e h = rw (eq-eqb (length a) (length b) e, lt-leb (length a) (length out) h)

into-is : (a b out : List ℕ) → length a ≡ length b → length a ≤ length out → with_joined a b out ≡ sets out 0 (joined_bytes a b)
unfolding with_joined
into-is a b out e h = rw (eq-eqb (length a) (length b) e, le-leb (length a) (length out) h)

pub into-fits : (a b out : List ℕ) → length a ≡ length b → length a ≤ length out
    → with_joined a b out ≡ joined_bytes a b ++ drop (length (joined_bytes a b)) out
into-fits a b out e h = into-is a b out e h ∙ sets-front out (joined_bytes a b) (omega (arith, joined_length a b))

pub into-filled : (a b out : List ℕ) (k : ℕ) (t : List ℕ) → length a ≡ length b → length a ≤ length out → t ≡ sets out 0 (list_of (joined_byte a b) k)
    → k ≤ length a → length a ≤ k → t ≡ with_joined a b out
unfolding joined_bytes
into-filled a b out k t e h f l m = let x : k ≡ length a = omega arith in f ∙ rw x (sym (into-is a b out e h))

-- the greatest exclusive or of two bytes so far is 0 as long as all were the same; s and t are the bytes still to come
pub same_next : (s t u v : List ℕ) (apart x y z : ℕ) (same : Bool) → same ≡ (eqb apart 0 && bytes_eq s t) → s ≡ x ∷ u → t ≡ y ∷ v
    → z ≡ max apart (bit_xor x y) → same ≡ (eqb z 0 && bytes_eq u v)
same_next s t u v apart x y z same e f g h =
    e ∙ rw (f, g, h, max-zero apart (bit_xor x y), xor-zero x y (ℕ_discrete x y)) (sym (and_assoc (eqb apart 0) (eqb x y) (bytes_eq u v)))
  where
    max-zero : (c d : ℕ) → eqb (max c d) 0 ≡ (eqb c 0 && eqb d 0)
    max-zero zero d = rw zero-max
    max-zero (suc c) d = rw (ne_eqb (suc c) 0 (λ z. omega arith)) (ne_eqb (max (suc c) d) 0 (λ z. omega arith))

    xor-zero : (u v : ℕ) → Dec (u ≡ v) → eqb (bit_xor u v) 0 ≡ eqb u v
    xor-zero u v (yes q) = rw q (eq-eqb (bit_xor v v) 0 (xor_self v) ∙ sym (eq-eqb v v refl))
    xor-zero u v (no d) = ne_eqb (bit_xor u v) 0 (λ z. d (xor-zero-eq u v z)) ∙ sym (ne_eqb u v d)

-- where no byte is still to come in one of two lists of one length
pub same_done : {A B : Type 0} (a b s t : List ℕ) (p : Bool) → bytes_eq a b ≡ (p && bytes_eq s t) → length s ≡ length t
    → (A → length s ≡ 0) → (B → length t ≡ 0) → A ⊎ B → Decides p (a ≡ b)
same_done {A} {B} a b s t p e l first second z = subst (λ (r : Bool). Decides r (a ≡ b)) (e ∙ over s t (none z) l) (bytes_eq-Decides a b)
  where
    none : A ⊎ B → length s ≡ 0
    none (inl x) = first x
    none (inr y) = l ∙ second y

    over : (s t : List ℕ) → length s ≡ 0 → length s ≡ length t → (p && bytes_eq s t) ≡ p
    over [] [] n m = and-true p
    over [] (y ∷ t) n m = absurd (omega arith)
    over (x ∷ s) t n m = absurd (omega arith)

pub same-apart : (a b : List ℕ) → (length a ≡ length b → ⊥) → Decides false (a ≡ b)
same-apart a b h = ((λ e. cc), λ e. absurd (h (ap length e)))
