-- Laws of a line by itself: what is written into the table is written into the line.
-- Assumes nothing.
use mathlib.Core.Path.{◌≡◌, sym, ap, ◌∙◌}
use mathlib.Core.Logic.{◌≢◌}
use mathlib.Core.List.{List, ◌++◌}
use Prim.Native.Nat.{ℕ, ◌+◌, ◌*◌, ◌-◌, ◌/◌, ◌%◌, ◌≤◌, ◌<◌}
use native.Mathlib.Nat.{suc-mul, mul-le-mul_right, div-lt_iff_lt-mul, mod-lt, mod-add-div'}
use native.Mathlib.Decide.{dec_lt, ℕ_discrete}
use native.Mathlib.Omega.{arith}
use lib.ListN.{length, get_or, set, take, drop, length-append, length-take, length-drop, length-set, get_or-append}
use lib.Seq.{length-take-le, get_or-append-add, get_or-take, get_or-drop, get_or-set_same, get_or-set_other, ext_get_or}
use Rattle.table.specs.Table.{head, stride, table_length, line_start, cell, set_cell, row, set_row}
use Rattle.table.proofs.CellLaws.{line-inside, spliced-before, spliced-in, spliced-after, cell_same, cell_other, set_cell-length, row-length}
use Rattle.table.proofs.CellLaws.{row_at, set_row-length, set_row-in, set_row-out}
use Rattle.table.specs.Line.{line, row_of, with_row, set_line}

pub line-length : (n : ℕ) (t : List ℕ) (i : ℕ) → length t ≡ table_length n → i < n → length (line n t i) ≡ stride n
unfolding line
line-length n t i long h = simp (length-take, length-drop) (omega (arith, line-inside n i h))

pub line_at : (n : ℕ) (t : List ℕ) (i c : ℕ) → c < stride n → get_or (line n t i) c 0 ≡ cell n t i c
unfolding line cell
line_at n t i c h = get_or-take (stride n) (drop (line_start n i) t) c 0 h ∙ get_or-drop (line_start n i) t c 0

-- a line by its bytes
pub line_is : (n : ℕ) (t : List ℕ) (i : ℕ) (l : List ℕ) → length t ≡ table_length n → i < n → length l ≡ stride n
    → ((c : ℕ) → c < stride n → cell n t i c ≡ get_or l c 0) → line n t i ≡ l
line_is n t i l long h len same =
    let e = line-length n t i long h in
    ext_get_or 0 (line n t i) l (e ∙ sym len) (λ c b. let hc : c < stride n = omega arith in line_at n t i c hc ∙ same c hc)

pub line_same : (n : ℕ) (t t' : List ℕ) (i : ℕ) → length t ≡ table_length n → length t' ≡ length t → i < n
    → ((c : ℕ) → c < stride n → cell n t' i c ≡ cell n t i c) → line n t' i ≡ line n t i
line_same n t t' i long len h same =
    line_is n t' i (line n t i) (len ∙ long) h (line-length n t i long h) (λ c hc. same c hc ∙ sym (line_at n t i c hc))

-- one byte written
pub line-set : (n : ℕ) (t : List ℕ) (i c v : ℕ) → length t ≡ table_length n → i < n → c < stride n
    → line n (set_cell n t i c v) i ≡ set (line n t i) c v
line-set n t i c v long h hc =
    line_is n (set_cell n t i c v) i (set (line n t i) c v) (set_cell-length n t i c v ∙ long) h (length-set (line n t i) c v ∙ len)
    (λ d hd. pick d hd (ℕ_discrete d c))
  where
    len : length (line n t i) ≡ stride n
    len = line-length n t i long h

    pick : (d : ℕ) → d < stride n → Dec (d ≡ c) → cell n (set_cell n t i c v) i d ≡ get_or (set (line n t i) c v) d 0
    pick d hd (yes e) = rw e (cell_same n t i c v long h hc ∙ sym (get_or-set_same (line n t i) c v 0 (omega (arith, len))))
    pick d hd (no ne) =
        cell_other n t i c v i d hc hd (λ _ f. ne (sym f)) ∙ (sym (line_at n t i d hd) ∙ sym (get_or-set_other (line n t i) c d v 0 ne))

pub line-set-other : (n : ℕ) (t : List ℕ) (i c v k : ℕ) → length t ≡ table_length n → k < n → c < stride n → i ≢ k
    → line n (set_cell n t i c v) k ≡ line n t k
line-set-other n t i c v k long h hc apart =
    line_same n t (set_cell n t i c v) k long (set_cell-length n t i c v) h (λ d hd. cell_other n t i c v k d hc hd (λ e. absurd (apart e)))

-- the row of a line, and a row written
pub row_of-length : (n : ℕ) (l : List ℕ) → length l ≡ stride n → length (row_of n l) ≡ n
unfolding row_of
row_of-length n l len = simp (length-take, length-drop) (omega arith)

pub row_of-at : (n : ℕ) (l : List ℕ) (k : ℕ) → k < n → get_or (row_of n l) k 0 ≡ get_or l (head + k) 0
unfolding row_of
row_of-at n l k h = get_or-take n (drop head l) k 0 h ∙ get_or-drop head l k 0

pub line-row : (n : ℕ) (t : List ℕ) (i : ℕ) → length t ≡ table_length n → i < n → row_of n (line n t i) ≡ row n t i
line-row n t i long h =
    let a : length (row_of n (line n t i)) ≡ n = row_of-length n (line n t i) (line-length n t i long h) in
    ext_get_or 0 (row_of n (line n t i)) (row n t i) (a ∙ sym (row-length n t i long h))
    (λ k b. let hk : k < n = omega arith in row_of-at n (line n t i) k hk ∙ (line_at n t i (head + k) (omega arith) ∙ sym (row_at n t i k hk)))

module _ (n : ℕ) (l r : List ℕ) (len : length l ≡ stride n) (hr : length r ≡ n) where
  front : length (take head l) ≡ head
  front = length-take-le head l (omega arith)

  pub with_row-length : length (with_row n l r) ≡ stride n
  unfolding with_row
  with_row-length = simp (length-append, length-take, length-drop) (omega arith)

  pub with_row-head : (c : ℕ) → c < head → get_or (with_row n l r) c 0 ≡ get_or l c 0
  unfolding with_row
  with_row-head c h = get_or-append (take head l) (r ++ drop n (drop head l)) 0 c (omega (arith, front)) ∙ get_or-take head l c 0 h

  pub with_row-in : (k : ℕ) → k < n → get_or (with_row n l r) (head + k) 0 ≡ get_or r k 0
  unfolding with_row
  with_row-in k h =
      cc (front, get_or-append-add (take head l) (r ++ drop n (drop head l)) k 0, get_or-append r (drop n (drop head l)) 0 k (omega arith))

pub line-set_row : (n : ℕ) (t : List ℕ) (i : ℕ) (r : List ℕ) → length t ≡ table_length n → i < n → length r ≡ n
    → line n (set_row n t i r) i ≡ with_row n (line n t i) r
line-set_row n t i r long h hr =
    line_is n (set_row n t i r) i (with_row n (line n t i) r) (set_row-length n t i r long h hr ∙ long) h (with_row-length n (line n t i) r len hr)
    (λ d hd. pick d hd (dec_lt d head))
  where
    len : length (line n t i) ≡ stride n
    len = line-length n t i long h

    pick : (d : ℕ) → d < stride n → Dec (d < head) → cell n (set_row n t i r) i d ≡ get_or (with_row n (line n t i) r) d 0
    pick d hd (yes b) =
        set_row-out n t i r i d long h hr hd (λ _. b) ∙ (sym (line_at n t i d hd) ∙ sym (with_row-head n (line n t i) r len hr d b))
    pick d hd (no b) =
        let k : ℕ = d - head in
        let f : d ≡ head + k = omega arith in
        rw f (set_row-in n t i r k long h hr (omega arith) ∙ sym (with_row-in n (line n t i) r len hr k (omega arith)))

pub line-set_row-other : (n : ℕ) (t : List ℕ) (i : ℕ) (r : List ℕ) (k : ℕ) → length t ≡ table_length n → i < n → k < n → length r ≡ n → i ≢ k
    → line n (set_row n t i r) k ≡ line n t k
line-set_row-other n t i r k long h hk hr apart =
    line_same n t (set_row n t i r) k long (set_row-length n t i r long h hr) hk
    (λ d hd. set_row-out n t i r k d long h hr hd (λ e. absurd (apart e)))

-- a line written
lines-apart : (n k i : ℕ) → k < i → line_start n k + stride n ≤ line_start n i
unfolding line_start
lines-apart n k i h = omega (arith, suc-mul k (stride n), mul-le-mul_right (stride n) h)

module _ (n : ℕ) (t : List ℕ) (i : ℕ) (l : List ℕ) (long : length t ≡ table_length n) (h : i < n) (hl : length l ≡ stride n) where
  pub set_line-length : length (set_line n t i l) ≡ length t
  unfolding set_line
  set_line-length = simp (length-append, length-take, length-drop) (omega (arith, line-inside n i h))

  pub line-set_line : line n (set_line n t i l) i ≡ l
  unfolding set_line cell
  line-set_line =
      line_is n (set_line n t i l) i l (set_line-length ∙ long) h hl
      (λ c hc. spliced-in t l (line_start n i) (stride n) (omega (arith, line-inside n i h)) hl c hc)

  pub line-set_line-other : (k : ℕ) → k < n → k ≢ i → line n (set_line n t i l) k ≡ line n t k
  unfolding set_line cell
  line-set_line-other k hk apart =
      line_same n t (set_line n t i l) k long set_line-length hk (λ c hc. pick c hc (dec_lt k i))
    where
      a : ℕ
      a = line_start n i

      fits : a + stride n ≤ length t
      fits = omega (arith, line-inside n i h)

      pick : (c : ℕ) → c < stride n → Dec (k < i) → get_or (set_line n t i l) (line_start n k + c) 0 ≡ get_or t (line_start n k + c) 0
      pick c hc (yes b) = spliced-before t l a (stride n) fits hl (line_start n k + c) (omega (arith, lines-apart n k i b))
      pick c hc (no b) =
          let f : a + stride n ≤ line_start n k = lines-apart n i k (omega arith) in
          let e : line_start n k + c ≡ a + (stride n + (line_start n k + c - (a + stride n))) = omega arith in
          rw e (spliced-after t l a (stride n) fits hl (line_start n k + c - (a + stride n)))

-- tables whose lines are the same
byte-by-line : (n : ℕ) (t u : List ℕ) → ((i : ℕ) → i < n → line n t i ≡ line n u i) → (p : ℕ) → p < table_length n → get_or t p 0 ≡ get_or u p 0
unfolding cell line_start table_length
byte-by-line n t u same p h =
    let i : ℕ = p / stride n in
    let c : ℕ = p % stride n in
    let hi : i < n = (div-lt_iff_lt-mul {k = stride n} (omega arith)).1 h in
    let hc : c < stride n = mod-lt p (omega arith) in
    let e : i * stride n + c ≡ p = omega (arith, mod-add-div' p (stride n)) in
    let f : cell n t i c ≡ cell n u i c = sym (line_at n t i c hc) ∙ (ap (λ (l : List ℕ). get_or l c 0) (same i hi) ∙ line_at n u i c hc) in
    rw e at f

pub by_lines : (n : ℕ) (t u : List ℕ) → length t ≡ table_length n → length u ≡ table_length n
    → ((i : ℕ) → i < n → line n t i ≡ line n u i) → t ≡ u
by_lines n t u long long' same = ext_get_or 0 t u (long ∙ sym long') (λ p h. byte-by-line n t u same p (omega (arith, h)))
