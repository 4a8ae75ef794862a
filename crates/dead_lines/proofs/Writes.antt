-- The same bytes written into two tables: cells that were equal stay so, and no station becomes live.
-- Assumes nothing.
use mathlib.Core.Path.{◌≡◌, refl, sym, ◌∙◌}
use mathlib.Core.Bool.{true}
use mathlib.Core.List.{List}
use Prim.Native.Nat.{ℕ, zero, suc, ◌+◌, ◌-◌, ◌≤◌, ◌<◌}
use native.Mathlib.Decide.{dec_lt, ℕ_discrete}
use native.Mathlib.Omega.{arith}
use borrow.Author.Tests.{eqb-true}
use lib.ListN.{length}
use Rattle.table.specs.Table.{head, stride, table_length, cell, set_cell, status_column, next_column}
use Rattle.table.specs.Table.{finished_column, tests_column, rounds_ago_column, status, rounds_ago, live, set_row}
use Rattle.table.proofs.CellLaws.{cell_same, cell_other, set_cell-length, set_row-length, set_row-in, set_row-out}
use Rattle.lists.specs.Steps.{after_steps}
use Rattle.plant.specs.Round.{rounds_after, reset_line, reset_lines}
use Rattle.plant.proofs.RoundLaws.{reset-cells, reset-ago, reset-other}
use Rattle.dead_lines.specs.Alike.{SameLine}

-- two tables of n stations, with equal statuses and equal live lines
pub record Twins (n : ℕ) (t u : List ℕ) : Type 0 where
  pub long : length t ≡ table_length n
  pub other_long : length u ≡ table_length n
  pub statuses : (i : ℕ) → i < n → status n t i ≡ status n u i
  pub live_lines : (i : ℕ) → i < n → live n t i ≡ true → SameLine n t u i

-- what is made of t and u, t' and u', has each cell equal that was equal, and no station live that was not
pub record Step (n : ℕ) (t u t' u' : List ℕ) : Type 0 where
  pub long : length t' ≡ length t
  pub other_long : length u' ≡ length u
  pub cells : (i c : ℕ) → i < n → c < stride n → cell n t i c ≡ cell n u i c → cell n t' i c ≡ cell n u' i c
  pub was_live : (i : ℕ) → i < n → live n t' i ≡ true → live n t i ≡ true

pub still : (n : ℕ) (t u : List ℕ) → Step n t u t u
still n t u = record { long = refl; other_long = refl; cells = λ i c h hc e. e; was_live = λ i h l. l }

pub then : {n : ℕ} {t u t' u' t'' u'' : List ℕ} → Step n t u t' u' → Step n t' u' t'' u'' → Step n t u t'' u''
then a b = record {
  long = b.long ∙ a.long;
  other_long = b.other_long ∙ a.other_long;
  cells = λ i c h hc e. b.cells i c h hc (a.cells i c h hc e);
  was_live = λ i h l. a.was_live i h (b.was_live i h l);
}

-- so the tables stay twins
pub twins-after : {n : ℕ} {t u t' u' : List ℕ} → Twins n t u → Step n t u t' u' → Twins n t' u'
twins-after w s = record {
  long = s.long ∙ w.long;
  other_long = s.other_long ∙ w.other_long;
  statuses = λ i h. s.cells i status_column h (omega arith) (w.statuses i h);
  live_lines = λ i h l c hc. s.cells i c h (omega (arith, hc)) (w.live_lines i h (s.was_live i h l) c hc);
}

pub line-after : {n : ℕ} {t u t' u' : List ℕ} → Step n t u t' u' → (i : ℕ) → i < n → SameLine n t u i → SameLine n t' u' i
line-after s i h line c hc = s.cells i c h (omega (arith, hc)) (line c hc)

module _ (n : ℕ) (t u : List ℕ) (long : length t ≡ table_length n) (other_long : length u ≡ table_length n) (i : ℕ) (h : i < n) where
  -- one cell written, with equal bytes; a status only by one that is not live
  pub write-cell : (c a b : ℕ) → c < stride n → a ≡ b → (c ≡ status_column → 1 ≤ a) → Step n t u (set_cell n t i c a) (set_cell n u i c b)
  write-cell c a b hc same gone = record {
    long = set_cell-length n t i c a;
    other_long = set_cell-length n u i c b;
    cells = λ k d hk hd e. at k d hd e (ℕ_discrete i k) (ℕ_discrete c d);
    was_live = λ k hk l. lived k l (ℕ_discrete i k) (ℕ_discrete c status_column);
  }
    where
      away : (k d : ℕ) → d < stride n → (i ≡ k → c ≡ d → ⊥) → cell n t k d ≡ cell n u k d
          → cell n (set_cell n t i c a) k d ≡ cell n (set_cell n u i c b) k d
      away k d hd apart e = cell_other n t i c a k d hc hd apart ∙ (e ∙ sym (cell_other n u i c b k d hc hd apart))

      at : (k d : ℕ) → d < stride n → cell n t k d ≡ cell n u k d → Dec (i ≡ k) → Dec (c ≡ d)
          → cell n (set_cell n t i c a) k d ≡ cell n (set_cell n u i c b) k d
      at k d hd e (yes p) (yes q) = rw (← p, ← q) (cell_same n t i c a long h hc ∙ (same ∙ sym (cell_same n u i c b other_long h hc)))
      at k d hd e (no p) q = away k d hd (λ x y. p x) e
      at k d hd e (yes p) (no q) = away k d hd (λ x y. q y) e

      lived : (k : ℕ) → live n (set_cell n t i c a) k ≡ true → Dec (i ≡ k) → Dec (c ≡ status_column) → live n t k ≡ true
      lived k l (yes p) (yes q) =
          let zero = eqb-true (status n (set_cell n t i c a) k) 0 l in
          let here : cell n (set_cell n t i c a) k status_column ≡ a = rw (← p, ← q) (cell_same n t i c a long h hc) in
          absurd (omega (arith, zero, here, gone q))
      lived k l (no p) q = rw (cell_other n t i c a k status_column hc (omega arith) (λ x y. p x)) at l
      lived k l (yes p) (no q) = rw (cell_other n t i c a k status_column hc (omega arith) (λ x y. q y)) at l

  -- a whole row written
  pub write-row : (r : List ℕ) → length r ≡ n → Step n t u (set_row n t i r) (set_row n u i r)
  write-row r hr = record {
    long = set_row-length n t i r long h hr;
    other_long = set_row-length n u i r other_long h hr;
    cells = λ k c hk hc e. at k c hc e (ℕ_discrete i k) (dec_lt c head);
    was_live = λ k hk l. rw (set_row-out n t i r k status_column long h hr (omega arith) (λ _. omega arith)) at l;
  }
    where
      away : (k c : ℕ) → c < stride n → (i ≡ k → c < head) → cell n t k c ≡ cell n u k c → cell n (set_row n t i r) k c ≡ cell n (set_row n u i r) k c
      away k c hc out e = set_row-out n t i r k c long h hr hc out ∙ (e ∙ sym (set_row-out n u i r k c other_long h hr hc out))

      at : (k c : ℕ) → c < stride n → cell n t k c ≡ cell n u k c → Dec (i ≡ k) → Dec (c < head)
          → cell n (set_row n t i r) k c ≡ cell n (set_row n u i r) k c
      at k c hc e (no p) q = away k c hc (λ x. absurd (p x)) e
      at k c hc e (yes p) (yes q) = away k c hc (λ _. q) e
      at k c hc e (yes p) (no q) =
          let x : ℕ = c - head in
          let f : c ≡ head + x = omega arith in
          rw (← p, f) (set_row-in n t i r x long h hr (omega arith) ∙ sym (set_row-in n u i r x other_long h hr (omega arith)))

resets-length : (n m : ℕ) (t : List ℕ) → length (after_steps (reset_line n) m t) ≡ length t
unfolding after_steps reset_line
resets-length n zero t = refl
resets-length n (suc m) t = simp set_cell-length (resets-length n m t)

reset-length : (n : ℕ) (t : List ℕ) → length (reset_lines n t) ≡ length t
unfolding reset_lines
reset-length n t = resets-length n n t

-- a closing: bytes 1 to 3 of all lines are then equal, and byte 5 goes by itself and the status
pub closing : (n : ℕ) (t u : List ℕ) → Twins n t u → Step n t u (reset_lines n t) (reset_lines n u)
unfolding rounds_after
closing n t u w = record {
  long = reset-length n t;
  other_long = reset-length n u;
  cells = λ i c h hc e.
      let five = ℕ_discrete c rounds_ago_column in
      at i c h hc e (ℕ_discrete c next_column) (ℕ_discrete c finished_column) (ℕ_discrete c tests_column) five;
  was_live = λ i h l. rw (reset-other n t i status_column (omega arith) (λ p. omega arith)) at l;
}
  where
    at : (i c : ℕ) → i < n → c < stride n → cell n t i c ≡ cell n u i c → Dec (c ≡ next_column) → Dec (c ≡ finished_column) → Dec (c ≡ tests_column)
        → Dec (c ≡ rounds_ago_column) → cell n (reset_lines n t) i c ≡ cell n (reset_lines n u) i c
    at i c h hc e (yes p) q r x = rw p ((reset-cells n t w.long i h).next ∙ sym (reset-cells n u w.other_long i h).next)
    at i c h hc e (no p) (yes q) r x = rw q ((reset-cells n t w.long i h).unfinished ∙ sym (reset-cells n u w.other_long i h).unfinished)
    at i c h hc e (no p) (no q) (yes r) x = rw r ((reset-cells n t w.long i h).untested ∙ sym (reset-cells n u w.other_long i h).untested)
    at i c h hc e (no p) (no q) (no r) (yes x) =
        let five : rounds_ago n t i ≡ rounds_ago n u i = rw x at e in
        let same : rounds_after n t i ≡ rounds_after n u i = rw (w.statuses i h, five) in
        rw x (reset-ago n t w.long i h ∙ (same ∙ sym (reset-ago n u w.other_long i h)))
    at i c h hc e (no p) (no q) (no r) (no x) =
        reset-other n t i c hc (λ y. omega arith) ∙ (e ∙ sym (reset-other n u i c hc (λ y. omega arith)))
