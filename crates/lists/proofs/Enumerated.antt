-- Lists over ranges as std's iterators give them, and a loop over the pairs of an `enumerate` that writes at the place that it is given.
-- Assumes nothing.
use mathlib.Core.Path.{◌≡◌, refl, sym, ap, ◌∙◌}
use mathlib.Core.Bool.{Bool, false, not}
use mathlib.Core.List.{List, [], ◌∷◌, ◌++◌, map, map-append}
use Prim.Native.Nat.{ℕ, zero, suc, ◌+◌, ◌-◌, ◌≤◌, ◌<◌}
use native.Mathlib.Nat.{zero-add}
use native.Mathlib.Omega.{arith}
use lib.ListN.{length, get_or, set, length-map}
use lib.Seq.{sets}
use Rattle.std.specs.List.{filter, range_with_len, enumerate_from}
use Rattle.std.proofs.lemmas.List.FromFn.{length-range_with_len, length-enumerate_from, get_or-enumerate_from}
use Rattle.std.proofs.lemmas.List.Filters.{length-filter_both}
use Rattle.lists.specs.Search.{list_of, select}
use Rattle.lists.proofs.Writing.{sets-next}

-- f of each number of a range
pub map-range : (f : ℕ → ℕ) (n : ℕ) → map f (range_with_len 0 n) ≡ list_of f n
unfolding list_of
map-range f n = refl

-- the numbers from 1 on that pass a test that 0 fails
pub filter-range : (q : ℕ → Bool) (n : ℕ) → q 0 ≡ false → 1 ≤ n → filter q (range_with_len 1 (n - 1)) ≡ select q n
filter-range q zero none h = absurd (omega arith)
filter-range q (suc n) none h = let less : suc n - 1 ≡ n = omega arith in rw (less, none)

-- fewer pass than there are, where 0 fails
pub filter-few : (q : ℕ → Bool) (n : ℕ) → q 0 ≡ false → length (filter q (range_with_len 0 n)) ≤ n - 1
filter-few q zero none = omega arith
filter-few q (suc n) none =
    rw none (omega (arith, length-filter_both q (λ k. not (q k)) (λ k. refl) (range_with_len 1 n), length-range_with_len 1 n))

-- tests that agree on all numbers from a on
pub filter-from : (p q : ℕ → Bool) (a n : ℕ) → ((x : ℕ) → a ≤ x → p x ≡ q x) → filter p (range_with_len a n) ≡ filter q (range_with_len a n)
filter-from p q a zero same = refl
filter-from p q a (suc n) same = rw (same a (omega arith), filter-from p q (a + 1) n (λ x l. same x (omega arith)))

-- which pair it is that a loop over an `enumerate` has after the pairs ps: its number says how many were before
pub enumerated : {X : Type 0} (ys : List X) (n k : ℕ) (x : X) → (n < length (enumerate_from 0 ys)) × ((k, x) ≡ get_or (enumerate_from 0 ys) n (k, x))
    → (k ≡ n) × (n < length ys)
enumerated ys n k x t =
    let l : n < length ys = rw (length-enumerate_from 0 ys) at t.0 in
    (ap (λ p. p.0) (t.1 ∙ get_or-enumerate_from 0 ys n (k, x) l) ∙ zero-add n, l)

seconds : {X : Type 0} (ps : List (ℕ × X)) → map (λ (p : ℕ × X). p.1) ps ≡ map (λ (p : ℕ × X). p.1) (map (λ (p : ℕ × X). (p.0, p.1)) ps)
seconds [] = refl
seconds (p ∷ ps) = ap (λ l. p.1 ∷ l) (seconds ps)

seconds-enumerated : {X : Type 0} (n : ℕ) (ys : List X) → map (λ (p : ℕ × X). p.1) (enumerate_from n ys) ≡ ys
seconds-enumerated n [] = refl
seconds-enumerated n (y ∷ ys) = ap (λ l. y ∷ l) (seconds-enumerated (n + 1) ys)

-- the items of all pairs
pub enumerated-all : {X : Type 0} (n : ℕ) (ys : List X) (ps : List (ℕ × X)) → map (λ (p : ℕ × X). (p.0, p.1)) ps ≡ enumerate_from n ys
    → map (λ (p : ℕ × X). p.1) ps ≡ ys
enumerated-all {X = X} n ys ps e = seconds ps ∙ (ap (map (λ (p : ℕ × X). p.1)) e ∙ seconds-enumerated n ys)

-- a list into which one more is written
pub write-next : {X : Type 0} (f : X → ℕ) (l t : List ℕ) (ps : List X) (k : ℕ) (p : X) → k ≡ length ps → t ≡ sets l 0 (map f ps)
    → set t k (f p) ≡ sets l 0 (map f (ps ++ (p ∷ [])))
write-next f l t ps k p c e = rw (map-append f ps) (sets-next l (map f ps) t k (f p) (c ∙ sym (length-map ps f)) e)
