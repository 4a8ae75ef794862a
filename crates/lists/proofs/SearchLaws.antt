-- Laws of the searches and lists of specs/Search.
-- Assumes nothing.
use mathlib.Core.Path.{◌≡◌, refl, sym, ap, ap₂, ◌∙◌}
use mathlib.Core.Logic.{◌⊎◌, inl, inr, by_cases}
use mathlib.Core.Bool.{Bool, true, false, cond, ◌&&◌, and-true}
use mathlib.Core.List.{[], ◌∷◌, ◌++◌, append-nil, append_assoc, List, map, map-append}
use Prim.Native.Nat.{ℕ, zero, suc, ◌+◌, max, ◌≤◌, ◌<◌}
use native.Mathlib.Nat.{eq-or-lt_of_le, le_of_suc-le-suc, add-zero, add-suc, zero-add, zero-max, not-suc-le-zero}
use native.Mathlib.Decide.{dec_lt}
use native.Mathlib.Omega.{arith}
use lib.ListN.{length, get_or}
use Rattle.std.specs.Prelude.{Some, unwrap_or}
use Rattle.std.specs.List.{find, list_all, range_with_len, reduce}
use Rattle.std.proofs.lemmas.List.Folds.{list_all-append}
use Rattle.std.proofs.lemmas.List.FromFn.{length-map-range_with_len, get_or-map-range_with_len}
use Rattle.std.proofs.lemmas.List.Sums.{fold-append}
use Rattle.lists.specs.Search.{least, every, list_of, greatest}

-- the numbers below n + 1 are those below n, and n
pub range-suc : (n : ℕ) → range_with_len 0 (suc n) ≡ range_with_len 0 n ++ (n ∷ [])
range-suc n = from 0 n n (zero-add n)
  where
    from : (a n j : ℕ) → a + n ≡ j → range_with_len a (suc n) ≡ range_with_len a n ++ (j ∷ [])
    from a zero j e = let same : a ≡ j = omega arith in ap (λ (k : ℕ). k ∷ []) same
    from a (suc n) j e = ap (λ (l : List ℕ). a ∷ l) (from (a + 1) n j (omega arith))

least-zero : (q : ℕ → Bool) (k : ℕ) → least q 0 k ≡ k
unfolding least
least-zero q k = add-zero k

pub least-suc : (q : ℕ → Bool) (n k : ℕ) → least q (suc n) k ≡ cond (q k) k (least q n (suc k))
unfolding least
least-suc q n k = by (q k)
  where
    by : (b : Bool) → unwrap_or (cond b (Some k) (find q (range_with_len (k + 1) n))) (k + suc n)
        ≡ cond b k (unwrap_or (find q (range_with_len (suc k) n)) (suc k + n))
    by true = refl
    by false =
        let next : k + 1 ≡ suc k = omega arith in
        let end : k + suc n ≡ suc k + n = omega arith in
        ap₂ (λ (a b : ℕ). unwrap_or (find q (range_with_len a n)) b) next end

pub least-between : (q : ℕ → Bool) (n k : ℕ) → (k ≤ least q n k) × (least q n k ≤ k + n)
least-between q zero k = omega (arith, least-zero q k)
least-between q (suc n) k = rw (least-suc q n k) (go (q k) (least q n (suc k)) (least-between q n (suc k)))
  where
    go : (b : Bool) (r : ℕ) → (suc k ≤ r) × (r ≤ suc k + n) → (k ≤ cond b k r) × (cond b k r ≤ k + suc n)
    go true r rest = omega arith
    go false r rest = omega arith

-- what is found passes
pub least-passes : (q : ℕ → Bool) (n k : ℕ) → least q n k < k + n → q (least q n k) ≡ true
least-passes q zero k = λ h. absurd (omega (arith, least-zero q k))
least-passes q (suc n) k = rw (least-suc q n k) (go (q k) refl (least q n (suc k)) (least-passes q n (suc k)))
  where
    go : (b : Bool) → q k ≡ b → (r : ℕ) → (r < suc k + n → q r ≡ true) → cond b k r < k + suc n → q (cond b k r) ≡ true
    go true e r rest h = e
    go false e r rest h = rest (omega arith)

-- nothing before it passes
pub least-before : (q : ℕ → Bool) (n k x : ℕ) → k ≤ x → x < least q n k → q x ≡ false
least-before q zero k x lo = λ h. absurd (omega (arith, least-zero q k))
least-before q (suc n) k x lo = rw (least-suc q n k) (go (q k) refl (least q n (suc k)) (eq-or-lt_of_le lo) (least-before q n (suc k) x))
  where
    go : (b : Bool) → q k ≡ b → (r : ℕ) → (k ≡ x) ⊎ (k < x) → (k < x → x < r → q x ≡ false) → x < cond b k r → q x ≡ false
    go true e r o rest h = absurd (omega arith)
    go false e r (inl p) rest h = cc
    go false e r (inr l) rest h = rest l h

-- where none passes
pub least-none : (q : ℕ → Bool) (n k : ℕ) → ((y : ℕ) → k ≤ y → y < k + n → q y ≡ false) → least q n k ≡ k + n
least-none q n k none = pick (eq-or-lt_of_le (least-between q n k).1)
  where
    pick : (least q n k ≡ k + n) ⊎ (least q n k < k + n) → least q n k ≡ k + n
    pick (inl e) = e
    pick (inr l) = cc (least-passes q n k l, none (least q n k) (least-between q n k).0 l)

-- the first that passes is found
pub least-is : (q : ℕ → Bool) (n k x : ℕ) → k ≤ x → x < k + n → q x ≡ true → ((y : ℕ) → k ≤ y → y < x → q y ≡ false) → least q n k ≡ x
least-is q zero k x lo hi p none = omega arith
least-is q (suc n) k x lo hi p none =
    least-suc q n k ∙ pick (eq-or-lt_of_le lo) (λ l. least-is q n (suc k) x l (omega arith) p (λ y a b. none y (omega arith) b))
  where
    pick : (k ≡ x) ⊎ (k < x) → (k < x → least q n (suc k) ≡ x) → cond (q k) k (least q n (suc k)) ≡ x
    pick (inl e) rest = let t : q k ≡ true = cc in rw t e
    pick (inr l) rest = rw (none k (omega arith) l) (rest l)

-- both parts of a conjunction
pub both : (a b : Bool) → (a && b) ≡ true → (a ≡ true) × (b ≡ true)
both true b e = (refl, e)
both false b e = (e, cc)

pub every-suc : (q : ℕ → Bool) (n : ℕ) → every q (suc n) ≡ (every q n && q n)
unfolding every
every-suc q n =
    ap (list_all q) (range-suc n) ∙ list_all-append q (range_with_len 0 n) (n ∷ []) ∙ ap (◌&&◌ (list_all q (range_with_len 0 n))) (and-true (q n))

pub every-at : (q : ℕ → Bool) (n k : ℕ) → every q n ≡ true → k < n → q k ≡ true
every-at q zero k e h = absurd (omega arith)
every-at q (suc n) k e h = pick (both (every q n) (q n) (sym (every-suc q n) ∙ e)) (every-at q n k) (eq-or-lt_of_le (le_of_suc-le-suc h))
  where
    pick : (every q n ≡ true) × (q n ≡ true) → (every q n ≡ true → k < n → q k ≡ true) → (k ≡ n) ⊎ (k < n) → q k ≡ true
    pick parts rest (inl p) = cc
    pick parts rest (inr l) = rest parts.0 l

pub every-all : (q : ℕ → Bool) (n : ℕ) → ((k : ℕ) → k < n → q k ≡ true) → every q n ≡ true
unfolding every
every-all q zero all = refl
every-all q (suc n) all = every-suc q n ∙ ap₂ ◌&&◌ (every-all q n (λ k h. all k (omega arith))) (all n (omega arith))

-- one that fails
pub every-not : (q : ℕ → Bool) (n k : ℕ) → k < n → q k ≡ false → every q n ≡ false
every-not q n k h f = pick (every q n) refl
  where
    pick : (b : Bool) → every q n ≡ b → every q n ≡ false
    pick true e = cc (every-at q n k e h)
    pick false e = e

pub list_of-suc : (f : ℕ → ℕ) (n : ℕ) → list_of f (suc n) ≡ list_of f n ++ (f n ∷ [])
unfolding list_of
list_of-suc f n = ap (map f) (range-suc n) ∙ map-append f (range_with_len 0 n) (n ∷ [])

pub list_of-length : (f : ℕ → ℕ) (n : ℕ) → length (list_of f n) ≡ n
unfolding list_of
list_of-length f n = length-map-range_with_len f 0 n

pub list_of-at : (f : ℕ → ℕ) (n k : ℕ) → k < n → get_or (list_of f n) k 0 ≡ f k
unfolding list_of
list_of-at f n k h = get_or-map-range_with_len f 0 n k k 0 h (zero-add k)

pub list_of-same : (f g : ℕ → ℕ) (n : ℕ) → ((k : ℕ) → k < n → f k ≡ g k) → list_of f n ≡ list_of g n
unfolding list_of
list_of-same f g zero same = refl
list_of-same f g (suc n) same =
    list_of-suc f n ∙ ap₂ (λ (l : List ℕ) (v : ℕ). l ++ (v ∷ [])) (list_of-same f g n (λ k h. same k (omega arith))) (same n (omega arith))
    ∙ sym (list_of-suc g n)

-- the first a places, then the next b
pub list_of-append : (f : ℕ → ℕ) (a b : ℕ) → list_of f (a + b) ≡ list_of f a ++ list_of (λ k. f (a + k)) b
unfolding list_of
list_of-append f a zero = rw (add-zero, append-nil)
list_of-append f a (suc b) =
    ap (list_of f) (add-suc a b) ∙ list_of-suc f (a + b) ∙ ap (λ (l : List ℕ). l ++ (f (a + b) ∷ [])) (list_of-append f a b)
    ∙ append_assoc (list_of f a) (list_of (λ k. f (a + k)) b) (f (a + b) ∷ []) ∙ ap (◌++◌ (list_of f a)) (sym (list_of-suc (λ k. f (a + k)) b))

-- one more
pub greatest-suc : (f : ℕ → ℕ) (n : ℕ) → greatest f (suc n) ≡ max (greatest f n) (f n)
unfolding greatest
greatest-suc f n = ap (λ (l : List ℕ). unwrap_or (reduce max l) 0) (list_of-suc f n) ∙ more (list_of f n)
  where
    more : (xs : List ℕ) → unwrap_or (reduce max (xs ++ (f n ∷ []))) 0 ≡ max (unwrap_or (reduce max xs) 0) (f n)
    more [] = sym (zero-max (f n))
    more (x ∷ xs) = fold-append max x xs (f n ∷ [])

-- the greatest is none less, and no more than what none exceeds
pub greatest-le : (f : ℕ → ℕ) (n k : ℕ) → k < n → f k ≤ greatest f n
greatest-le f zero k l = absurd (omega arith)
greatest-le f (suc n) k l =
    by_cases (dec_lt k n)
    (λ b. omega (arith, greatest-suc f n, greatest-le f n k b))
    (λ b. let e : k ≡ n = omega arith in rw e (omega (arith, greatest-suc f n)))

pub greatest-most : (f : ℕ → ℕ) (n c : ℕ) → ((k : ℕ) → k < n → f k ≤ c) → greatest f n ≤ c
unfolding greatest list_of
greatest-most f zero c l = omega arith
greatest-most f (suc n) c l = omega (arith, greatest-suc f n, greatest-most f n c (λ k h. l k (omega arith)), l n (omega arith))

-- within a list the default is not read
pub get_d-within : (l : List ℕ) (k a b : ℕ) → k < length l → get_or l k a ≡ get_or l k b
get_d-within [] k a b h = absurd (not-suc-le-zero h)
get_d-within (x ∷ l) zero a b h = refl
get_d-within (x ∷ l) (suc k) a b h = get_d-within l k a b (le_of_suc-le-suc h)
