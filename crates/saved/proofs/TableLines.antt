-- Laws of the lines of a table: read after a line is written, and all one behind the other.
-- Assumes nothing.
use mathlib.Core.Path.{◌≡◌, refl, sym, ◌∙◌}
use mathlib.Core.Logic.{◌≢◌, by_cases}
use mathlib.Core.List.{List, [], ◌∷◌}
use Prim.Native.Nat.{ℕ, zero, suc, ◌+◌, ◌≤◌, ◌<◌}
use native.Mathlib.Nat.{add-zero, suc-mul, mul-le-mul_right}
use native.Mathlib.Decide.{dec_lt}
use native.Mathlib.Omega.{arith}
use lib.ListN.{length, get_or, set, drop, length-set}
use lib.Seq.{sets, length-sets, get_or-set_same, get_or-set_other, get_or-take, get_or-drop, ext_get_or}
use Rattle.lists.proofs.Writing.{sets-ahead}
use Rattle.table.specs.Table.{stride, table_length, line_start}
use Rattle.table.proofs.CellLaws.{line-inside}
use Rattle.saved.specs.Bytes.{concat_of}
use Rattle.saved.specs.Save.{line_of}
use Rattle.saved.proofs.ConcatLaws.{concat-parts}
use Rattle.saved.proofs.SaveLaws.{line-length}

-- a list written into another, read before it and in it
before-written : (l xs : List ℕ) (a k : ℕ) → k < a → get_or (sets l a xs) k 0 ≡ get_or l k 0
before-written l [] a k h = refl
before-written l (x ∷ xs) a k h = before-written (set l a x) xs (suc a) k (omega arith) ∙ get_or-set_other l a k x 0 (λ e. omega arith)

in-written : (l xs : List ℕ) (a j : ℕ) → j < length xs → a + length xs ≤ length l → get_or (sets l a xs) (a + j) 0 ≡ get_or xs j 0
in-written l [] a j h m = omega arith
in-written l (x ∷ xs) a zero h m =
    rw add-zero (before-written (set l a x) xs (suc a) a (omega arith) ∙ get_or-set_same l a x 0 (omega arith))
in-written l (x ∷ xs) a (suc j) h m =
    let e : a + suc j ≡ suc a + j = omega arith in
    rw e (in-written (set l a x) xs (suc a) j (omega arith) (omega (arith, length-set l a x)))

-- lines do not overlap
ordered : (n i j : ℕ) → i < j → line_start n i + stride n ≤ line_start n j
unfolding line_start
ordered n i j h = omega (arith, suc-mul i (stride n), mul-le-mul_right {m = suc i} {n = j} (stride n) h)

module _ (n : ℕ) (t l : List ℕ) (i : ℕ) (long : length t ≡ table_length n) (h : i < n) (e : length l ≡ stride n) where
  written : List ℕ
  written = sets t (line_start n i) l

  pub written-long : length (sets t (line_start n i) l) ≡ table_length n
  written-long = length-sets t (line_start n i) l ∙ long

  pub line_same : line_of n (sets t (line_start n i) l) i ≡ l
  unfolding line_of written
  line_same =
      let a = line-length n written written-long i h in
      ext_get_or 0 (line_of n written i) l (a ∙ sym e)
      (λ k g. rw (get_or-take (stride n) (drop (line_start n i) written) k 0 (omega arith), get_or-drop (line_start n i) written k 0)
      (in-written t l (line_start n i) k (omega arith) (omega (arith, line-inside n i h))))

  pub line_other : (j : ℕ) → j < n → j ≢ i → line_of n (sets t (line_start n i) l) j ≡ line_of n t j
  unfolding line_of written
  line_other j g d =
      let a = line-length n written written-long j g in
      let b = line-length n t long j g in
      ext_get_or 0 (line_of n written j) (line_of n t j) (a ∙ sym b)
      (λ k m. let s : k < stride n = omega arith in
      rw (get_or-take (stride n) (drop (line_start n j) written) k 0 s, get_or-drop (line_start n j) written k 0)
      (apart (line_start n j + k) k s refl ∙ sym (get_or-take (stride n) (drop (line_start n j) t) k 0 s ∙ get_or-drop (line_start n j) t k 0)))
    where
      apart : (p k : ℕ) → k < stride n → p ≡ line_start n j + k → get_or written p 0 ≡ get_or t p 0
      apart p k s q =
          by_cases (dec_lt j i) (λ y. before-written t l (line_start n i) p (omega (arith, ordered n j i y)))
          (λ y. sets-ahead t l (line_start n i) p (omega (arith, ordered n i j (omega arith))))

-- a table is its lines
pub own-lines : (n : ℕ) (t : List ℕ) → length t ≡ table_length n → concat_of (λ i. line_of n t i) n ≡ t
unfolding line_of line_start table_length
own-lines n t long = concat-parts t (stride n) n long
