-- The definitions of specs/Search in the shapes in which a loop that counts up asks for them: where it begins, after a turn, where it is left.
-- `r` is the answer of the call that makes the turn's test, and the loop is left where it is false.
-- Assumes nothing.
use mathlib.Core.Path.{◌≡◌, refl, sym, ap, ap₂, subst, ◌∙◌}
use mathlib.Core.Bool.{Bool, true, false, not, ◌&&◌, ◌||◌}
use mathlib.Core.List.{List, ◌++◌}
use Prim.Native.Nat.{ℕ, ◌+◌, ◌-◌, ◌≤◌, ◌<◌, max}
use native.Mathlib.Nat.{le_antisymm}
use native.Mathlib.Numerals.{add-one}
use native.Mathlib.Omega.{arith}
use borrow.Author.Tests.{not-true, not-false}
use lib.ListN.{length, get_or, set, drop, length-drop}
use lib.Seq.{sets, get_or-drop, ext_get_or}
use Rattle.lists.specs.Search.{every, list_of, greatest}
use Rattle.lists.proofs.Writing.{sets-next, sets-ahead, sets-front, sets-all}
use Rattle.lists.proofs.SearchLaws.{every-suc, every-not, list_of-suc, list_of-length, list_of-at, list_of-append, greatest-suc}

pub every-start : (q : ℕ → Bool) → every q 0 ≡ true
unfolding every
every-start q = refl

pub every-next : (q : ℕ → Bool) (k : ℕ) (r : Bool) → every q k ≡ true → r ≡ q k → not r ≡ false → every q (k + 1) ≡ true
every-next q k r e s t =
    let p : q k ≡ true = sym s ∙ not-false r t in ap (every q) (add-one k) ∙ every-suc q k ∙ ap₂ ◌&&◌ e p

pub every-stop : (q : ℕ → Bool) (n k : ℕ) (r : Bool) → k < n → r ≡ q k → not r ≡ true → false ≡ every q n
every-stop q n k r h s f = sym (every-not q n k h (sym s ∙ not-true r f))

pub every-done : (q : ℕ → Bool) (n k : ℕ) → every q k ≡ true → k ≤ n → n ≤ k → true ≡ every q n
every-done q n k e a b = subst (λ (x : ℕ). true ≡ every q x) (le_antisymm a b) (sym e)

-- `some` says whether one passed so far fails the test, and l whether this one does
pub some_next : (q : ℕ → Bool) (k : ℕ) (some l : Bool) → some ≡ not (every q k) → not l ≡ q k → (some || l) ≡ not (every q (k + 1))
some_next q k some l e f = rw (e, add-one, every-suc q k, ← f) (cases (every q k) l)
  where
    cases : (a b : Bool) → (not a || b) ≡ not (a && not b)
    cases true true = refl
    cases true false = refl
    cases false b = refl

-- the greatest, as a loop that counts up finds it
pub greatest-start : (f : ℕ → ℕ) → 0 ≡ greatest f 0
unfolding greatest list_of
greatest-start f = refl

pub greatest-next : (f : ℕ → ℕ) (k most v : ℕ) → most ≡ greatest f k → v ≡ f k → max most v ≡ greatest f (k + 1)
greatest-next f k most v e g = rw (add-one k, greatest-suc f k, e, g)

-- a list l that a loop fills from its front: after k turns it is `sets l 0 (list_of f k)`
pub fill_start : (f : ℕ → ℕ) (l : List ℕ) → l ≡ sets l 0 (list_of f 0)
unfolding list_of
fill_start f l = refl

-- what is not yet written
pub fill-ahead : (f : ℕ → ℕ) (k : ℕ) (l t : List ℕ) → t ≡ sets l 0 (list_of f k) → get_or t k 0 ≡ get_or l k 0
fill-ahead f k l t e = rw e (sets-ahead l (list_of f k) 0 k (omega (arith, list_of-length f k)))

pub fill-next : (f : ℕ → ℕ) (k : ℕ) (l t : List ℕ) (v : ℕ) → t ≡ sets l 0 (list_of f k) → v ≡ f k → set t k v ≡ sets l 0 (list_of f (k + 1))
fill-next f k l t v e w = rw (add-one, list_of-suc f k, w) (sets-next l (list_of f k) t k (f k) (sym (list_of-length f k)) e)

pub fill_done : (f : ℕ → ℕ) (k n : ℕ) (l t : List ℕ) → t ≡ sets l 0 (list_of f k) → length t ≡ length l → length l ≡ n → k ≤ length l → length t ≤ k
    → t ≡ list_of f n
fill_done f k n l t e s w a b =
    let x : k ≡ n = omega arith in
    e ∙ rw x (sets-all l (list_of f n) (w ∙ sym (list_of-length f n)))

-- a loop that stops early, where what is not yet written is right as it is
pub fill-rest : (f : ℕ → ℕ) (k : ℕ) (l t : List ℕ) → t ≡ sets l 0 (list_of f k) → k ≤ length l
    → ((y : ℕ) → k ≤ y → y < length l → get_or l y 0 ≡ f y) → t ≡ list_of f (length l)
fill-rest f k l t e h same =
    let s : k + (length l - k) ≡ length l = omega arith in
    let g : sets l 0 (list_of f k) ≡ list_of f k ++ drop k l =
    sets-front l (list_of f k) (omega (arith, list_of-length f k)) ∙ rw (list_of-length f k) in
    let d : drop k l ≡ list_of (λ y. f (k + y)) (length l - k) =
    ext_get_or 0 (drop k l) (list_of (λ y. f (k + y)) (length l - k)) (length-drop k l ∙ sym (list_of-length (λ y. f (k + y)) (length l - k)))
    (λ y b. let hy : y < length l - k = subst (λ (x : ℕ). y < x) (length-drop k l) b in
    get_or-drop k l y 0 ∙ same (k + y) (omega arith) (omega arith) ∙ sym (list_of-at (λ z. f (k + z)) (length l - k) y hy)) in
    e ∙ g ∙ ap (λ x. list_of f k ++ x) d ∙ sym (list_of-append f k (length l - k)) ∙ ap (list_of f) s

pub ruleset loops = (every-start, every-next, every-stop, every-done, fill_start, fill-next, fill_done)
