-- Laws of the words of a call: a test and a filter of what they are mapped to, and what is asked for by the words besides the option.
-- Assumes nothing.
use mathlib.Core.Path.{◌≡◌, refl, ◌∙◌}
use mathlib.Core.Bool.{Bool, true, false, cond}
use mathlib.Core.List.{List, [], ◌∷◌, ◌++◌, map}
use Prim.Native.Nat.{ℕ, ◌+◌, ◌≤◌, ◌<◌}
use native.Mathlib.Omega.{arith}
use lib.ListN.{length}
use Rattle.std.specs.Prelude.{filter, not, Ok, Err, None}
use Rattle.std.proofs.Common.{length-append}
use Rattle.std.specs.List.{list_any}
use Rattle.watch.specs.Words.{too_many_words}
use Rattle.watch.specs.Call.{run, is_ring_option, wiring_in, asked_by, asked_by_others, asked_in}

pub list_any-map : {A B : Type 0} (f : A → B) (p : B → Bool) (xs : List A) → list_any p (map f xs) ≡ list_any (λ x. p (f x)) xs
list_any-map f p [] = refl
list_any-map f p (x ∷ xs) = rw (list_any-map f p xs)

filter-map : {A B : Type 0} (f : A → B) (p : B → Bool) (xs : List A) → filter p (map f xs) ≡ map f (filter (λ x. p (f x)) xs)
filter-map f p [] = refl
filter-map {A = A} {B = B} f p (x ∷ xs) = go (p (f x)) (filter p (map f xs)) (filter (λ x. p (f x)) xs) (filter-map f p xs)
  where
    go : (b : Bool) (l : List B) (m : List A) → l ≡ map f m → cond b (f x ∷ l) l ≡ map f (cond b (x ∷ m) m)
    go true l m e = rw e
    go false l m e = e

-- of words of which these are kept, n besides the option
module _ {S : Type 0} (text : S → List ℕ) (words kept : List S) (n : ℕ) (sized : n ≡ length kept)
    (told : kept ≡ filter (λ w. not (is_ring_option (text w))) words) where
  others : asked_in (map text words) ≡ asked_by_others (wiring_in (map text words)) (map text kept)
  others = rw (filter-map text (λ w. not (is_ring_option w)) words, told)

  pub asked-many : 1 < n → asked_in (map text words) ≡ Err too_many_words
  asked-many h = others ∙ go kept (omega arith)
    where
      go : (l : List S) → 1 < length l → asked_by_others (wiring_in (map text words)) (map text l) ≡ Err too_many_words
      go [] h = absurd (omega arith)
      go (x ∷ []) h = absurd (omega arith)
      go (x ∷ y ∷ l) h = refl

  pub asked-none : n ≡ 0 → asked_in (map text words) ≡ Ok (run (wiring_in (map text words)) None)
  asked-none h = others ∙ go kept (omega arith)
    where
      go : (l : List S) → length l ≡ 0 → asked_by_others (wiring_in (map text words)) (map text l) ≡ Ok (run (wiring_in (map text words)) None)
      go [] h = refl
      go (x ∷ l) h = absurd (omega arith)

  pub asked-one : (front : List S) (word : S) → n ≤ 1 → kept ≡ front ++ word ∷ []
      → asked_in (map text words) ≡ asked_by (wiring_in (map text words)) (text word)
  asked-one front word h e = others ∙ go front (omega arith) e
    where
      go : (l : List S) → length kept ≤ 1 → kept ≡ l ++ word ∷ []
          → asked_by_others (wiring_in (map text words)) (map text kept) ≡ asked_by (wiring_in (map text words)) (text word)
      go [] h e = rw e
      go (x ∷ l) h e = let g : length kept ≡ length (x ∷ l) + length (word ∷ []) = rw (e, length-append) in absurd (omega arith)
