-- The first of the doubts, as two loops find it; and that there is none exactly if the table is accurate.
-- Assumes nothing.
use mathlib.Core.Path.{◌≡◌, refl, sym, ap, ap₂, ◌∙◌}
use mathlib.Core.Bool.{Bool, true, false, not, ◌&&◌, ◌||◌, and-false}
use mathlib.Core.List.{List, [], ◌∷◌, ◌++◌, map}
use Prim.Native.Nat.{ℕ, zero, suc, ◌+◌, ◌-◌, ◌<◌}
use native.Mathlib.Omega.{arith}
use lib.ListN.{length, get_or}
use Rattle.std.specs.Prelude.{Some, None, Ok, ◌==◌}
use Rattle.lists.proofs.RefusalLaws.{and_ok}
use Rattle.std.specs.List.{filter, flat_map, list_all, range_with_len, slice_get}
use Rattle.std.proofs.lemmas.Bool.{ne_eqb}
use Rattle.std.proofs.lemmas.List.Elements.{filter-append}
use Rattle.std.proofs.lemmas.Grind.{flat_map-append}
use Rattle.std.proofs.lemmas.List.{map-append}
use Rattle.lists.specs.Search.{every, select}
use Rattle.lists.proofs.SearchLaws.{every-all}
use Rattle.lists.proofs.BoolLaws.{by_bool, every-same}
use Rattle.table.specs.Table.{suspects, live, row}
use Rattle.table.specs.Rules.{table_check}
use Rattle.table.proofs.CellLaws.{row_at}
use Rattle.table.specs.Properties.{none_suspected, no_live_suspicion}
use Rattle.table.specs.declared.wiring.Wiring.{Wiring}
use Rattle.lamp.specs.declared.Doubt.{Doubt}
use Rattle.lamp.specs.Doubt.{doubt_of, is_doubted, doubts_of, doubts, first_doubt, doubt_lamp, IsOut}

-- whether a list has no element
abbrev pub is_empty : {A : Type 0} → List A → Bool
is_empty [] = true
is_empty (x ∷ xs) = false

empty-is : {A : Type 0} (xs : List A) → is_empty xs ≡ true → xs ≡ []
empty-is [] e = refl
empty-is (x ∷ xs) e = cc

empty-append : {A : Type 0} (xs ys : List A) → is_empty (xs ++ ys) ≡ (is_empty xs && is_empty ys)
empty-append [] ys = refl
empty-append (x ∷ xs) ys = refl

-- what is made of the elements that pass is nothing exactly if none passes
empty-map : {A : Type 0} (f : ℕ → A) (q : ℕ → Bool) (xs : List ℕ) → is_empty (map f (filter q xs)) ≡ list_all (λ x. not (q x)) xs
empty-map f q [] = refl
empty-map f q (x ∷ xs) = by_bool (q x) (λ e. rw (e)) (λ e. rw (e) (empty-map f q xs))

-- the same where f gives a list for each
empty-flat : {A : Type 0} (f : ℕ → List A) (q : ℕ → Bool) (xs : List ℕ)
    → is_empty (flat_map f (filter q xs)) ≡ list_all (λ x. not (q x) || is_empty (f x)) xs
empty-flat f q [] = refl
empty-flat f q (x ∷ xs) =
    by_bool (q x)
    (λ e. rw (e) (empty-append (f x) (flat_map f (filter q xs)) ∙ ap (λ b. is_empty (f x) && b) (empty-flat f q xs)))
    (λ e. rw (e) (empty-flat f q xs))

-- the numbers below n, parted at x
range-parts : (n x : ℕ) → x < n → range_with_len 0 n ≡ range_with_len 0 x ++ (x ∷ range_with_len (x + 1) (n - (x + 1)))
range-parts n x h = from 0 n x x h (omega arith)
  where
    from : (a n k j : ℕ) → k < n → a + k ≡ j → range_with_len a n ≡ range_with_len a k ++ (j ∷ range_with_len (j + 1) (n - (k + 1)))
    from a zero k j h e = absurd (omega arith)
    from a (suc n) zero j h e =
        let here : a ≡ j = omega arith in
        let rest : suc n - (0 + 1) ≡ n = omega arith in
        rw (here, rest) refl
    from a (suc n) (suc k) j h e =
        let rest : suc n - (suc k + 1) ≡ n - (k + 1) = omega arith in
        rw (rest) (ap (λ l. a ∷ l) (from (a + 1) n k j (omega arith) (omega arith)))

-- where none before x passes, and x does, x is the first of those that pass
select-parts : (q : ℕ → Bool) (n x : ℕ) → x < n → q x ≡ true → select q n ≡ select q x ++ (x ∷ filter q (range_with_len (x + 1) (n - (x + 1))))
select-parts q n x h p =
    ap (filter q) (range-parts n x h) ∙ filter-append q (range_with_len 0 x) (x ∷ range_with_len (x + 1) (n - (x + 1))) ∙ rw (p) refl

-- station k is not one that is live and suspected by i
abbrev pub undoubted : ℕ → List ℕ → ℕ → ℕ → Bool
undoubted n t i k = not (is_doubted n t i k)

-- station i is not live, or has no doubt
abbrev pub doubtless : ℕ → List ℕ → ℕ → Bool
doubtless n t i = not (live n t i) || every (undoubted n t i) n

empty-line : (n : ℕ) (t : List ℕ) (i m : ℕ) → is_empty (map (doubt_of i) (select (is_doubted n t i) m)) ≡ every (undoubted n t i) m
unfolding every
empty-line n t i m = empty-map (doubt_of i) (is_doubted n t i) (range_with_len 0 m)

lists-empty : (n : ℕ) (t : List ℕ) (m : ℕ)
    → is_empty (flat_map (doubts_of n t) (select (live n t) m)) ≡ every (λ i. not (live n t i) || is_empty (doubts_of n t i)) m
unfolding every
lists-empty n t m = empty-flat (doubts_of n t) (live n t) (range_with_len 0 m)

empty-lines : (n : ℕ) (t : List ℕ) (m : ℕ) → is_empty (flat_map (doubts_of n t) (select (live n t) m)) ≡ every (doubtless n t) m
empty-lines n t m =
    lists-empty n t m
    ∙ every-same (λ i. not (live n t i) || is_empty (doubts_of n t i)) (doubtless n t) m (λ i h. ap (λ b. not (live n t i) || b) (empty-line n t i n))

-- what the code reads of it: byte k of the row, and whether its station is live, which is b
pub read-doubt : (n : ℕ) (t : List ℕ) (i k : ℕ) (r : List ℕ) (b : Bool) → r ≡ row n t i → length r ≡ n → k < length r → b ≡ live n t k
    → is_doubted n t i k ≡ (get_or r k 0 == 1 && b)
read-doubt n t i k r b e long h l = ap₂ (λ x y. x == 1 && y) (sym (row_at n t i k (omega arith)) ∙ ap (λ s. get_or s k 0) (sym e)) (sym l)

-- a station that is not live is passed over; so is one of whose row no byte shows a doubt
pub passed-dead : (n : ℕ) (t : List ℕ) (i : ℕ) (b : Bool) → b ≡ live n t i → b ≡ false → true ≡ doubtless n t i
passed-dead n t i b l e = rw (← l, e) refl

pub passed-line : (n : ℕ) (t : List ℕ) (i : ℕ) → true ≡ every (undoubted n t i) n → true ≡ doubtless n t i
passed-line n t i e = rw (← e) (sym (or-true (not (live n t i))))
  where
    or-true : (b : Bool) → (b || true) ≡ true
    or-true true = refl
    or-true false = refl

-- a byte is passed over that is not 1, or whose station is not live
pub passed-byte : (n : ℕ) (t : List ℕ) (i k : ℕ) (r : List ℕ) → r ≡ row n t i → length r ≡ n → k < length r → (get_or r k 0 ≡ 1 → ⊥)
    → true ≡ undoubted n t i k
passed-byte n t i k r e long h other = rw (read-doubt n t i k r (live n t k) e long h refl, ne_eqb (get_or r k 0) 1 other) refl

pub passed-doubted : (n : ℕ) (t : List ℕ) (i k : ℕ) (r : List ℕ) (b : Bool) → r ≡ row n t i → length r ≡ n → k < length r → b ≡ live n t k → b ≡ false
    → true ≡ undoubted n t i k
passed-doubted n t i k r b e long h l dead = rw (read-doubt n t i k r b e long h l, dead, and-false) refl

-- the first doubt of a station
first-of-line : (n : ℕ) (t : List ℕ) (i k : ℕ) → k < n → every (undoubted n t i) k ≡ true → is_doubted n t i k ≡ true
    → (rest : List Doubt) × (doubts_of n t i ≡ doubt_of i k ∷ rest)
first-of-line n t i k h none p =
    let q = is_doubted n t i in
    let before = empty-is (map (doubt_of i) (select q k)) (empty-line n t i k ∙ none) in (
      map (doubt_of i) (filter q (range_with_len (k + 1) (n - (k + 1)))),
      ap (map (doubt_of i)) (select-parts q n k h p) ∙ map-append (doubt_of i) (select q k) _ ∙ rw (before) refl,
    )

-- the pair that two loops find
pub first-found : (n : ℕ) (t : List ℕ) (i k : ℕ) → i < n → every (doubtless n t) i ≡ true → live n t i ≡ true
    → k < n → every (undoubted n t i) k ≡ true → is_doubted n t i k ≡ true → first_doubt n t ≡ Some (doubt_of i k)
unfolding first_doubt doubts
first-found n t i k h lines alive hk line p =
    let f = doubts_of n t in
    let before = empty-is (flat_map f (select (live n t) i)) (empty-lines n t i ∙ lines) in
    let first = first-of-line n t i k hk line p in
    ap (λ l. slice_get (flat_map f l) 0) (select-parts (live n t) n i h alive)
    ∙ ap (λ l. slice_get l 0) (flat_map-append f (select (live n t) i) _)
    ∙ rw (before, first.1) refl

-- where no line has any
pub first-none : (n : ℕ) (t : List ℕ) → every (doubtless n t) n ≡ true → first_doubt n t ≡ None
unfolding first_doubt doubts
first-none n t lines = rw (empty-is (flat_map (doubts_of n t) (select (live n t) n)) (empty-lines n t n ∙ lines)) refl

-- and only there
pub none-doubtless : (n : ℕ) (t : List ℕ) → first_doubt n t ≡ None → every (doubtless n t) n ≡ true
unfolding first_doubt doubts
none-doubtless n t e = sym (empty-lines n t n) ∙ none-empty _ e
  where
    none-empty : (xs : List Doubt) → slice_get xs 0 ≡ None → is_empty xs ≡ true
    none-empty [] e = refl
    none-empty (x ∷ xs) e = cc

-- one line of the two: a says whether its station is live, l and s who is live and who is suspected
line-same : (a : Bool) (l s : ℕ → Bool) (n : ℕ)
    → (not a || every (λ j. not (s j && l j)) n) ≡ every (λ j. not a || not (l j) || not (s j)) n
line-same true l s n = every-same (λ j. not (s j && l j)) (λ j. not (l j) || not (s j)) n (λ j h. not-both (s j) (l j))
  where
    not-both : (a b : Bool) → not (a && b) ≡ (not b || not a)
    not-both true true = refl
    not-both true false = refl
    not-both false true = refl
    not-both false false = refl
line-same false l s n = sym (every-all (λ j. true) n (λ j h. refl))

-- that is: where the table is accurate
pub doubtless-accurate : (n : ℕ) (t : List ℕ) → every (doubtless n t) n ≡ none_suspected n t
unfolding none_suspected
doubtless-accurate n t =
    every-same (doubtless n t) (λ i. every (no_live_suspicion n t i) n) n
    (λ i h. line-same (live n t i) (live n t) (λ j. suspects n t i j == 1) n)

-- none is found exactly where the table is accurate
pub none-accurate : (n : ℕ) (t : List ℕ) → first_doubt n t ≡ None → none_suspected n t ≡ true
none-accurate n t e = sym (doubtless-accurate n t) ∙ none-doubtless n t e

pub accurate-none : (n : ℕ) (t : List ℕ) → none_suspected n t ≡ true → first_doubt n t ≡ None
accurate-none n t e = first-none n t (doubtless-accurate n t ∙ e)

-- the lamp that is out
pub out-is : (w : Wiring) (n : ℕ) (t : List ℕ) → IsOut w n t → (table_check w n t ≡ Ok tt) × (none_suspected n t ≡ true)
unfolding doubt_lamp
out-is w n t out = let p = and_ok (table_check w n t) (Ok (first_doubt n t)) None out in (p.0, none-accurate n t (cc p.1))

pub is-out : (w : Wiring) (n : ℕ) (t : List ℕ) → table_check w n t ≡ Ok tt → none_suspected n t ≡ true → IsOut w n t
unfolding doubt_lamp
is-out w n t ok e = rw (ok, accurate-none n t e) refl
