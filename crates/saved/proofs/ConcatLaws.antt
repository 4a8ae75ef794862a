-- Laws of lists one behind the other.
-- Assumes nothing.
use mathlib.Core.Path.{◌≡◌, refl, ◌∙◌}
use mathlib.Core.List.{List, ◌++◌}
use Prim.Native.Nat.{ℕ, zero, suc, ◌+◌, ◌*◌, ◌≤◌, ◌<◌}
use native.Mathlib.Nat.{zero-mul, suc-mul, mul-le-mul_right}
use native.Mathlib.Decide.{dec_lt}
use native.Mathlib.Omega.{arith}
use lib.ListN.{length, take, drop, length-append, length-drop}
use lib.Seq.{take_all, take-add, take-append-le, drop-append-le, drop_at}
use Rattle.saved.specs.Bytes.{concat_of}

pub concat-length : (f : ℕ → List ℕ) (m n : ℕ) → ((i : ℕ) → i < n → length (f i) ≡ m) → length (concat_of f n) ≡ n * m
unfolding concat_of
concat-length f m zero long = omega arith
concat-length f m (suc n) long =
    let r = concat-length f m n (λ i h. long i (omega arith)) in
    omega (arith, length-append (concat_of f n) (f n), long n (omega arith), suc-mul n m)

pub concat-same : (f g : ℕ → List ℕ) (n : ℕ) → ((i : ℕ) → i < n → f i ≡ g i) → concat_of f n ≡ concat_of g n
unfolding concat_of
concat-same f g zero same = refl
concat-same f g (suc n) same = cc (concat-same f g n (λ i h. same i (omega arith)), same n (omega arith))

-- the list of place i, where all have length m
pub concat-at : (f : ℕ → List ℕ) (m n i : ℕ) → ((i : ℕ) → i < n → length (f i) ≡ m) → i < n → take m (drop (i * m) (concat_of f n)) ≡ f i
unfolding concat_of
concat-at f m zero i long h = absurd (omega arith)
concat-at f m (suc n) i long h = pick (dec_lt i n) (concat-at f m n i before)
  where
    before : (j : ℕ) → j < n → length (f j) ≡ m
    before j l = long j (omega arith)

    whole : length (concat_of f n) ≡ n * m
    whole = concat-length f m n before

    pick : Dec (i < n) → (i < n → take m (drop (i * m) (concat_of f n)) ≡ f i) → take m (drop (i * m) (concat_of f n ++ f n)) ≡ f i
    pick (yes b) rest =
        let s : i * m + m ≤ n * m = omega (arith, suc-mul i m, mul-le-mul_right {m = suc i} {n = n} m b) in
        rw (drop-append-le (i * m) (concat_of f n) (f n) (omega (arith, whole)))
        (take-append-le m (drop (i * m) (concat_of f n)) (f n) (omega (arith, whole, length-drop (i * m) (concat_of f n))) ∙ rest b)
    pick (no b) rest =
        let e : i ≡ n = omega arith in
        rw (e, drop_at (concat_of f n) (f n) (n * m) whole) (take_all m (f n) (omega (arith, long n (omega arith))))

-- a list is its parts of length m
parts-take : (t : List ℕ) (m n : ℕ) → concat_of (λ i. take m (drop (i * m) t)) n ≡ take (n * m) t
unfolding concat_of
parts-take t m zero = rw zero-mul
parts-take t m (suc n) = rw (suc-mul, take-add (n * m) m t, parts-take t m n)

pub concat-parts : (t : List ℕ) (m n : ℕ) → length t ≡ n * m → concat_of (λ i. take m (drop (i * m) t)) n ≡ t
concat-parts t m n long = parts-take t m n ∙ take_all (n * m) t (omega arith)
