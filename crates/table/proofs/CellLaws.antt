-- Laws of the cells and rows of a lent table, of specs/Table, and the line rules of specs/Rules as facts.
-- Assumes nothing.
use mathlib.Core.Path.{◌≡◌, refl, sym, ap, ap₂, ◌∙◌}
use mathlib.Core.Bool.{Bool, true, false, ◌&&◌, ◌||◌, or-true}
use mathlib.Core.Logic.{◌≢◌}
use mathlib.Core.List.{List, ◌++◌, append_assoc}
use Prim.Native.Nat.{ℕ, ◌+◌, ◌-◌, ◌/◌, ◌%◌, ◌≤◌, ◌<◌}
use native.Mathlib.Decide.{dec_lt}
use native.Mathlib.Nat.{suc-mul, mul-le-mul_right}
use native.Mathlib.Omega.{arith}
use borrow.Author.Tests.{leb-true, eqb-true, eqb-false, le-leb, lt-ltb, eq-eqb, ne_eqb}
use lib.Arith.{digits_div, digits_mod}
use lib.Dec.{leb, eqb}
use lib.ListN.{length, get_or, take, drop, length-append, length-take, length-drop, length-set, get_or-append}
use lib.Seq.{sets, sets-eq, drop-drop, length-take-le, get_or-append-add, get_or-take, get_or-drop, get_or-set_same, get_or-set_other, ext_get_or}
use Rattle.table.specs.Wiring.{end_distance}
use Rattle.table.proofs.WiringLaws.{end-pos}
use Rattle.table.specs.Table.{head, stride, table_length, line_start, cell, set_cell, status, next_distance, finished, tests_made, status_told}
use Rattle.table.specs.Table.{told_by, told_by_column, told_by_none, not_recorded, rounds_ago, rounds_ago_column, suspects, row_start, row, set_row}
use Rattle.table.specs.Table.{next_column, tests_column}
use Rattle.table.specs.Rules.{pass_rule, exit_rule, suspicion_rule, row_rule_by, row_rule, line_rules}
use Rattle.lists.proofs.BoolLaws.{every-same}
use Rattle.lists.proofs.SearchLaws.{both, every-at, every-all}
use Rattle.table.proofs.Accepting.{Accepted}
use Rattle.table.specs.declared.wiring.Wiring.{Wiring}

-- a column that a turn counts in: next distance, pass finished, tests made
abbrev pub TurnCounts : ℕ → Type 0
TurnCounts c = (next_column ≤ c) × (c ≤ tests_column)

-- a column that closing a round changes
abbrev pub ClosingChanges : ℕ → Type 0
ClosingChanges c = (next_column ≤ c) × (c ≤ rounds_ago_column) × (c ≢ told_by_column)

-- two places are one only where line and column are
place_same : (n i c i' c' : ℕ) → c < stride n → c' < stride n → line_start n i + c ≡ line_start n i' + c' → (i ≡ i') × (c ≡ c')
unfolding line_start
place_same n i c i' c' h h' e = (
  sym (digits_div i h) ∙ ap (λ (x : ℕ). x / stride n) e ∙ digits_div i' h',
  sym (digits_mod i h) ∙ ap (λ (x : ℕ). x % stride n) e
      ∙ digits_mod i' h',
)

pub line-inside : (n i : ℕ) → i < n → line_start n i + stride n ≤ table_length n
unfolding line_start table_length
line-inside n i h = omega (arith, suc-mul i (stride n), mul-le-mul_right (stride n) h)

-- a byte of a line below n lies inside the table, by the place where the line begins
pub byte_inside : (n : ℕ) (t : List ℕ) (i c a : ℕ) → a ≡ line_start n i → length t ≡ table_length n → i < n → c < stride n → a + c < length t
byte_inside n t i c a s e h hc = omega (arith, line-inside n i h)

-- a row lies inside the table
pub row_inside : (n : ℕ) (t : List ℕ) (i : ℕ) → length t ≡ table_length n → i < n → row_start n i + n ≤ length t
row_inside n t i e h = omega (arith, line-inside n i h)

-- the row as the code takes it
pub row-part : (n : ℕ) (t : List ℕ) (i a : ℕ) → a ≡ row_start n i → take (a + n - a) (drop a t) ≡ row n t i
unfolding row
row-part n t i a e = let w : a + n - a ≡ n = omega arith in rw (w, e)

-- a line in place of line i, as the code puts it there
pub line-written : (n : ℕ) (t l : List ℕ) (i a m : ℕ) → a ≡ line_start n i → length t ≡ table_length n → i < n → length l ≡ stride n → m ≡ stride n
    → take a t ++ (l ++ drop m (drop a t)) ≡ sets t (line_start n i) l
line-written n t l i a m e s h long w =
    let fits : a + length l ≤ length t = omega (arith, line-inside n i h) in
    let same : m ≡ length l = omega arith in
    rw (← e, same, drop-drop (length l) a t, sets-eq l t a fits, append_assoc)

pub cell_same : (n : ℕ) (t : List ℕ) (i c v : ℕ) → length t ≡ table_length n → i < n → c < stride n → cell n (set_cell n t i c v) i c ≡ v
unfolding cell set_cell
cell_same n t i c v long h hc = get_or-set_same t (line_start n i + c) v 0 (omega (arith, line-inside n i h))

pub cell_other : (n : ℕ) (t : List ℕ) (i c v i' c' : ℕ) → c < stride n → c' < stride n → (i ≡ i' → c ≡ c' → ⊥)
    → cell n (set_cell n t i c v) i' c' ≡ cell n t i' c'
unfolding cell set_cell
cell_other n t i c v i' c' h h' apart =
    get_or-set_other t (line_start n i + c) (line_start n i' + c') v 0 (λ e. let s = place_same n i c i' c' h h' (sym e) in apart s.0 s.1)

pub set_cell-length : (n : ℕ) (t : List ℕ) (i c v : ℕ) → length (set_cell n t i c v) ≡ length t
unfolding set_cell
set_cell-length n t i c v = length-set t (line_start n i + c) v

pub row-length : (n : ℕ) (t : List ℕ) (i : ℕ) → length t ≡ table_length n → i < n → length (row n t i) ≡ n
unfolding row
row-length n t i long h = simp (length-take, length-drop) (omega (arith, line-inside n i h))

pub row_at : (n : ℕ) (t : List ℕ) (i k : ℕ) → k < n → get_or (row n t i) k 0 ≡ suspects n t i k
unfolding row cell
row_at n t i k h = rw (get_or-take, get_or-drop) (ap (λ (p : ℕ). get_or t p 0) (omega arith))

pub row_same : (n : ℕ) (t t' : List ℕ) (i : ℕ) → length t ≡ table_length n → length t' ≡ table_length n → i < n
    → ((k : ℕ) → k < n → suspects n t i k ≡ suspects n t' i k) → row n t i ≡ row n t' i
row_same n t t' i long long' h same =
    let e = row-length n t i long h in
    ext_get_or 0 (row n t i) (row n t' i) (e ∙ sym (row-length n t' i long' h))
    (λ k l. let hk : k < n = omega arith in row_at n t i k hk ∙ (same k hk ∙ sym (row_at n t' i k hk)))

-- a list with r in place of its bytes from a on, as many as r has: read before, in and after r
module _ (t r : List ℕ) (a m : ℕ) (fits : a + m ≤ length t) (long : length r ≡ m) where
  at_front : length (take a t) ≡ a
  at_front = length-take-le a t (omega arith)

  pub spliced-before : (p : ℕ) → p < a → get_or (take a t ++ (r ++ drop m (drop a t))) p 0 ≡ get_or t p 0
  spliced-before p h = get_or-append (take a t) (r ++ drop m (drop a t)) 0 p (omega (arith, at_front)) ∙ get_or-take a t p 0 h

  pub spliced-in : (k : ℕ) → k < m → get_or (take a t ++ (r ++ drop m (drop a t))) (a + k) 0 ≡ get_or r k 0
  spliced-in k h =
      cc (at_front, get_or-append-add (take a t) (r ++ drop m (drop a t)) k 0, get_or-append r (drop m (drop a t)) 0 k (omega arith))

  pub spliced-after : (k : ℕ) → get_or (take a t ++ (r ++ drop m (drop a t))) (a + (m + k)) 0 ≡ get_or t (a + (m + k)) 0
  spliced-after k =
      cc (
        at_front,
        get_or-append-add (take a t) (r ++ drop m (drop a t)) (m + k) 0,
        get_or-append-add r (drop m (drop a t)) k 0,
        get_or-drop m (drop a t) k 0,
        get_or-drop a t (m + k) 0,
      )

pub set_row-length : (n : ℕ) (t : List ℕ) (i : ℕ) (r : List ℕ) → length t ≡ table_length n → i < n → length r ≡ n
    → length (set_row n t i r) ≡ length t
unfolding set_row
set_row-length n t i r long h hr = simp (length-append, length-take, length-drop) (omega (arith, line-inside n i h))

pub set_row-in : (n : ℕ) (t : List ℕ) (i : ℕ) (r : List ℕ) (k : ℕ) → length t ≡ table_length n → i < n → length r ≡ n → k < n
    → suspects n (set_row n t i r) i k ≡ get_or r k 0
unfolding set_row cell
set_row-in n t i r k long h hr hk =
    ap (λ (p : ℕ). get_or (set_row n t i r) p 0) (omega arith) ∙ spliced-in t r (row_start n i) n (omega (arith, line-inside n i h)) hr k hk

pub set_row-out : (n : ℕ) (t : List ℕ) (i : ℕ) (r : List ℕ) (i' c : ℕ) → length t ≡ table_length n → i < n → length r ≡ n → c < stride n
    → (i ≡ i' → c < head) → cell n (set_row n t i r) i' c ≡ cell n t i' c
unfolding set_row cell
set_row-out n t i r i' c long h hr hc out = pick (dec_lt p a) (dec_lt p (a + n))
  where
    p : ℕ
    p = line_start n i' + c

    a : ℕ
    a = row_start n i

    fits : a + n ≤ length t
    fits = omega (arith, line-inside n i h)

    pick : Dec (p < a) → Dec (p < a + n) → get_or (set_row n t i r) p 0 ≡ get_or t p 0
    pick (yes l) d = spliced-before t r a n fits hr p l
    pick (no m) (yes l) =
        let s = place_same n i (p - line_start n i) i' c (omega arith) hc (omega arith) in
        absurd (omega (arith, out s.0))
    pick (no m) (no m') =
        let e : p ≡ a + (n + (p - (a + n))) = omega arith in
        rw e (spliced-after t r a n fits hr (p - (a + n)))

-- the rules of a row, of row i of a table
pub row_rule_of_row : (n : ℕ) (t r : List ℕ) (i : ℕ) → i < n → r ≡ row n t i → length r ≡ n
    → row_rule_by (length r) i (λ k. get_or r k 0) ≡ row_rule n t i
unfolding row_rule
row_rule_of_row n t r i h e l =
    rw (l, e) (ap₂ (λ (a : ℕ) (b : Bool). eqb a 0 && b) (row_at n t i i h) (every-same _ _ n (λ k hk. ap (λ (a : ℕ). leb a 1) (row_at n t i k hk))))

-- the rules of bytes 1 to 3, of their values, by the end distance
pub record Pass (end next finished tests : ℕ) : Type 0 where
  pub next_low : 1 ≤ next
  pub next_high : next ≤ end
  pub finished_range : finished ≤ 1
  pub tests_bound : tests ≤ next - 1
  pub finished_next : finished ≡ 1 → next ≡ end

-- a line at the start of a round
pub start-pass : (w : Wiring) (n i : ℕ) → i < n → Pass (end_distance w n) 1 0 0
start-pass w n i h = record {
  next_low = omega arith;
  next_high = end-pos w n i h;
  finished_range = omega arith;
  tests_bound = omega arith;
  finished_next = λ p. absurd (omega arith);
}

-- the line rules of line i, on wiring w
pub record Line (w : Wiring) (n : ℕ) (t : List ℕ) (i : ℕ) : Type 0 where
  pub status_range : status n t i ≤ 3
  pub pass : Pass (end_distance w n) (next_distance n t i) (finished n t i) (tests_made n t i)
  pub exits : exit_rule n i (status n t i) (told_by n t i) (rounds_ago n t i) ≡ true
  pub own : suspects n t i i ≡ 0
  pub range : (k : ℕ) → k < n → suspects n t i k ≤ 1

-- bytes 4 and 5 of a live line
pub live_exit : (n i by ago : ℕ) → exit_rule n i 0 by ago ≡ true → (by ≡ told_by_none) × (ago ≡ 0)
unfolding exit_rule
live_exit n i by ago e = let a = both _ _ e in (eqb-true _ _ a.0, eqb-true _ _ a.1)

-- byte 4 of a line that ceased to be live, but not because told
pub none-exit : (n i s by ago : ℕ) → 1 ≤ s → s ≢ status_told → by ≡ told_by_none → exit_rule n i s by ago ≡ true
unfolding exit_rule
none-exit n i s by ago low untold e = rw (ne_eqb s 0 (omega arith), ne_eqb s status_told untold) (eq-eqb by told_by_none e)

-- byte 4 of a line that left because told by another station
pub told-exit : (n i by ago : ℕ) → by < n → by ≢ i → exit_rule n i status_told by ago ≡ true
unfolding exit_rule
told-exit n i by ago h d = rw (lt-ltb by n h, ne_eqb by i d) (or-true (eqb by not_recorded))

one_of : (a b : Bool) → (a || b) ≡ true → a ≡ false → b ≡ true
one_of true b e f = cc
one_of false b e f = e

or_right : (a b : Bool) → (a ≡ false → b ≡ true) → (a || b) ≡ true
or_right true b h = refl
or_right false b h = h refl

pub pass-facts : (end x f m : ℕ) → pass_rule end x f m ≡ true → Pass end x f m
pass-facts end x f m e =
    let a = both _ _ e in
    let b = both _ _ a.0 in
    let c = both _ _ b.0 in
    let d = both _ _ c.0 in
    record {
      next_low = leb-true _ _ d.0;
      next_high = leb-true _ _ d.1;
      finished_range = leb-true _ _ c.1;
      tests_bound = leb-true _ _ b.1;
      finished_next = λ p. eqb-true _ _ (one_of _ _ a.1 (ne_eqb f 0 (omega arith)));
    }

pub pass-holds : (end x f m : ℕ) → Pass end x f m → pass_rule end x f m ≡ true
pass-holds end x f m p =
    rw (le-leb 1 x p.next_low, le-leb x end p.next_high, le-leb f 1 p.finished_range, le-leb m (x - 1) p.tests_bound)
    (or_right (eqb f 0) (eqb x end) (λ g. eq-eqb x end (p.finished_next (omega (arith, p.finished_range, eqb-false f 0 g)))))

line-facts : (w : Wiring) (n : ℕ) (t : List ℕ) (i : ℕ) → line_rules w n t i ≡ true → Line w n t i
unfolding line_rules row_rule
line-facts w n t i e =
    let a = both _ _ e in
    let b = both _ _ a.0 in
    let c = both _ _ b.0 in
    let r = both _ _ a.1 in
    record {
      status_range = leb-true _ _ c.0;
      pass = pass-facts _ _ _ _ c.1;
      exits = b.1;
      own = eqb-true _ _ r.0;
      range = λ k h. leb-true _ _ (every-at (suspicion_rule n t i) n k r.1 h);
    }

pub line-holds : (w : Wiring) (n : ℕ) (t : List ℕ) (i : ℕ) → Line w n t i → line_rules w n t i ≡ true
unfolding line_rules row_rule
line-holds w n t i l =
    rw (
      le-leb (status n t i) 3 l.status_range,
      pass-holds (end_distance w n) (next_distance n t i) (finished n t i) (tests_made n t i) l.pass,
      l.exits,
      eq-eqb (suspects n t i i) 0 l.own,
    )
    (every-all (suspicion_rule n t i) n (λ k h. le-leb (suspects n t i k) 1 (l.range k h)))

pub accepted-line : (w : Wiring) (n : ℕ) (t : List ℕ) → Accepted w n t → (i : ℕ) → i < n → Line w n t i
accepted-line w n t a i h = line-facts w n t i (every-at (line_rules w n t) n i a.lines h)
