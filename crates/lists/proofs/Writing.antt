-- Laws of a list written into another from a place on, which is the kit's `sets`: past the end nothing is written.
-- Assumes nothing.
use mathlib.Core.Path.{◌≡◌, refl, sym, ◌∙◌}
use mathlib.Core.List.{List, [], ◌∷◌, ◌++◌, append-nil, append_assoc}
use native.Mathlib.Decide.{dec_lt}
use Prim.Native.Nat.{ℕ, zero, suc, ◌+◌, ◌-◌, ◌≤◌, ◌<◌, min}
use native.Mathlib.Nat.{add-zero, zero-add}
use native.Mathlib.Omega.{arith}
use lib.ListN.{length, get_or, set, take, drop, length-append, length-take}
use lib.Seq.{sets, sets-eq, drop-length, get_or-set_other, take-nil}
use Rattle.std.proofs.lemmas.List.{set_past, take_all, length-set}

-- one more
pub sets_more : (l xs : List ℕ) (a v : ℕ) → sets l a (xs ++ (v ∷ [])) ≡ set (sets l a xs) (a + length xs) v
sets_more l [] a v = rw (add-zero a)
sets_more l (x ∷ xs) a v = let e : suc a + length xs ≡ a + suc (length xs) = omega arith in rw e at (sets_more (set l a x) xs (suc a) v)

-- from the front, where count are written
pub sets-next : (l xs t : List ℕ) (count v : ℕ) → count ≡ length xs → t ≡ sets l 0 xs → set t count v ≡ sets l 0 (xs ++ (v ∷ []))
sets-next l xs t count v c e = rw (sets_more l xs 0 v, zero-add, ← c, ← e)

-- two more
pub sets-two : (l xs t : List ℕ) (count v w : ℕ) → count ≡ length xs → t ≡ sets l 0 xs
    → set (set t count v) (count + 1) w ≡ sets l 0 (xs ++ (v ∷ w ∷ []))
sets-two l xs t count v w c e =
    let longer : count + 1 ≡ length (xs ++ (v ∷ [])) = omega (arith, length-append xs (v ∷ [])) in
    sets-next l (xs ++ (v ∷ [])) (set t count v) (count + 1) w longer (sets-next l xs t count v c e) ∙ rw append_assoc

-- what is not yet written
pub sets-ahead : (l xs : List ℕ) (a k : ℕ) → a + length xs ≤ k → get_or (sets l a xs) k 0 ≡ get_or l k 0
sets-ahead l [] a k h = refl
sets-ahead l (x ∷ xs) a k h = sets-ahead (set l a x) xs (suc a) k (omega arith) ∙ get_or-set_other l a k x 0 (λ e. omega arith)

-- what is written, then the rest
pub sets-front : (l xs : List ℕ) → length xs ≤ length l → sets l 0 xs ≡ xs ++ drop (length xs) l
sets-front l xs h = rw zero-add at (sets-eq xs l 0 (omega arith))

-- all is written over
pub sets-all : (l xs : List ℕ) → length l ≡ length xs → sets l 0 xs ≡ xs
sets-all l xs e = sets-front l xs (omega arith) ∙ rw (← e, drop-length l, append-nil)

-- from the end on nothing is written
pub sets-past : (l xs : List ℕ) (a : ℕ) → length l ≤ a → sets l a xs ≡ l
sets-past l [] a h = refl
sets-past l (x ∷ xs) a h = rw (set_past l a x h) (sets-past l xs (suc a) (omega arith))

-- only what fits is written
sets-fitting : (l xs : List ℕ) (a k : ℕ) → length l ≤ a + k → sets l a xs ≡ sets l a (take k xs)
sets-fitting l [] a k h = rw take-nil
sets-fitting l (x ∷ xs) a zero h = sets-past l (x ∷ xs) a (omega arith)
sets-fitting l (x ∷ xs) a (suc k) h = sets-fitting (set l a x) xs (suc a) k (rw length-set (omega arith))

-- one text behind another
pub sets-behind : (l xs ys : List ℕ) (a : ℕ) → sets l a (xs ++ ys) ≡ sets (sets l a xs) (a + length xs) ys
sets-behind l [] ys a = rw (add-zero a)
sets-behind l (x ∷ xs) ys a = let e : suc a + length xs ≡ a + suc (length xs) = omega arith in rw e at (sets-behind (set l a x) xs ys (suc a))

-- what fits, between what stands before and behind it
pub sets-within : (l xs : List ℕ) (a k : ℕ) → a ≤ length l → k ≡ min (length xs) (length l - a)
    → sets l a xs ≡ take a l ++ (take k xs ++ drop (a + k) l)
sets-within l xs a k h e =
    let n : length (take k xs) ≡ k = rw length-take (omega arith) in
    cut (dec_lt (length xs) (length l - a)) ∙ sets-eq (take k xs) l a (omega arith) ∙ rw (n, append_assoc) refl
  where
    cut : Dec (length xs < length l - a) → sets l a xs ≡ sets l a (take k xs)
    cut (yes g) = rw (take_all k xs (omega arith)) refl
    cut (no g) = sets-fitting l xs a k (omega arith)

-- four texts, one behind the other
pub sets-four : (l a b d e : List ℕ)
    → sets (sets (sets (sets l 0 a) (length a) b) (length a + length b) d) (length a + length b + length d) e ≡ sets l 0 (a ++ (b ++ (d ++ e)))
sets-four l a b d e =
    let first : sets l 0 (a ++ (b ++ (d ++ e))) ≡ sets (sets l 0 a) (length a) (b ++ (d ++ e)) = rw zero-add at (sets-behind l a (b ++ (d ++ e)) 0) in
    sym (first ∙ sets-behind (sets l 0 a) b (d ++ e) (length a) ∙ sets-behind (sets (sets l 0 a) (length a) b) d e (length a + length b))
