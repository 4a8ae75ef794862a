-- What closing a round does to the cells and lines of the table.
-- Assumes nothing.
use mathlib.Core.Path.{◌≡◌, refl, ◌∙◌}
use mathlib.Core.Bool.{true}
use mathlib.Core.Logic.{◌⊎◌, inl, inr}
use mathlib.Core.List.{List}
use Prim.Native.Nat.{ℕ, zero, suc, ◌+◌, ◌≤◌, ◌<◌}
use native.Mathlib.Nat.{eq-or-lt_of_le, le_of_suc-le-suc}
use native.Mathlib.Omega.{arith}
use lib.ListN.{length}
use Rattle.table.specs.Table.{head, stride, table_length, cell, set_cell, next_column, finished_column, tests_column, rounds_ago_column}
use Rattle.table.specs.Table.{told_by_column, next_distance, finished, tests_made, told_by, rounds_ago, status, status_column, live}
use Rattle.table.proofs.CellLaws.{start-pass, cell_same, cell_other, set_cell-length, ClosingChanges}
use Rattle.table.specs.Rules.{exit_rule}
use Rattle.lists.specs.Steps.{after_steps}
use Rattle.lists.proofs.BoolLaws.{by_bool}
use Rattle.table.specs.declared.wiring.Wiring.{Wiring}
use Rattle.plant.specs.Round.{rounds_after, reset_line, reset_lines}
use Rattle.plant.proofs.StepLines.{Lines}

-- the line as the round rule leaves it, but for byte 5
pub record Reset (n : ℕ) (t : List ℕ) (i : ℕ) : Type 0 where
  pub next : next_distance n t i ≡ 1
  pub unfinished : finished n t i ≡ 0
  pub untested : tests_made n t i ≡ 0

-- line i of t' as the round rule leaves that of t
abbrev LineClosed : ℕ → List ℕ → List ℕ → ℕ → Type 0
LineClosed n t t' i = Reset n t' i × (rounds_ago n t' i ≡ rounds_after n t i)

-- the bytes of a line that a closing writes, 1, 2, 3 and 5
module _ (n i : ℕ) (t : List ℕ) where
  reset_line-length : length (reset_line n i t) ≡ length t
  unfolding reset_line
  reset_line-length = simp set_cell-length

  reset_line-other : (i' c : ℕ) → c < stride n → (i ≡ i' → ¬ (ClosingChanges c))
      → cell n (reset_line n i t) i' c ≡ cell n t i' c
  unfolding reset_line
  reset_line-other i' c h out =
      cell_other n _ i rounds_ago_column _ i' c (omega arith) h (λ e f. out e (omega arith))
      ∙ (cell_other n _ i tests_column 0 i' c (omega arith) h (λ e f. out e (omega arith))
      ∙ (cell_other n _ i finished_column 0 i' c (omega arith) h (λ e f. out e (omega arith))
      ∙ cell_other n t i next_column 1 i' c (omega arith) h (λ e f. out e (omega arith))))

reset_line-here : (n i : ℕ) (t : List ℕ) → length t ≡ table_length n → i < n → LineClosed n t (reset_line n i t) i
unfolding reset_line
reset_line-here n i t long h =
    let t₁ : List ℕ = set_cell n t i next_column 1 in
    let t₂ : List ℕ = set_cell n t₁ i finished_column 0 in
    let long₁ : length t₁ ≡ table_length n = set_cell-length n t i next_column 1 ∙ long in
    let long₂ : length t₂ ≡ table_length n = set_cell-length n t₁ i finished_column 0 ∙ long₁ in
    let t₃ : List ℕ = set_cell n t₂ i tests_column 0 in
    let long₃ : length t₃ ≡ table_length n = set_cell-length n t₂ i tests_column 0 ∙ long₂ in
    let ago : ℕ = rounds_after n t i in
    let last : (c : ℕ) → c < rounds_ago_column → cell n (set_cell n t₃ i rounds_ago_column ago) i c ≡ cell n t₃ i c =
    λ c hc. cell_other n t₃ i rounds_ago_column ago i c (omega arith) (omega arith) (omega arith) in (
      record {
        next =
            last next_column (omega arith)
            ∙ (cell_other n t₂ i tests_column 0 i next_column (omega arith) (omega arith) (omega arith)
            ∙ (cell_other n t₁ i finished_column 0 i next_column (omega arith) (omega arith) (omega arith)
            ∙ cell_same n t i next_column 1 long h (omega arith)));
        unfinished =
            last finished_column (omega arith)
            ∙ (cell_other n t₂ i tests_column 0 i finished_column (omega arith) (omega arith) (omega arith)
            ∙ cell_same n t₁ i finished_column 0 long₁ h (omega arith));
        untested = last tests_column (omega arith) ∙ cell_same n t₂ i tests_column 0 long₂ h (omega arith);
      },
      cell_same n t₃ i rounds_ago_column ago long₃ h (omega arith),
    )

resets-length : (n m : ℕ) (t : List ℕ) → length (after_steps (reset_line n) m t) ≡ length t
unfolding after_steps
resets-length n zero t = refl
resets-length n (suc m) t = reset_line-length n m (after_steps (reset_line n) m t) ∙ resets-length n m t

resets-other : (n m : ℕ) (t : List ℕ) (i c : ℕ) → c < stride n → ¬ (ClosingChanges c)
    → cell n (after_steps (reset_line n) m t) i c ≡ cell n t i c
unfolding after_steps
resets-other n zero t i c h out = refl
resets-other n (suc m) t i c h out = reset_line-other n m (after_steps (reset_line n) m t) i c h (λ _. out) ∙ resets-other n m t i c h out

-- the line that is reset next is as it was at first
resets-behind : (n m : ℕ) (t : List ℕ) (i c : ℕ) → c < stride n → m ≤ i → cell n (after_steps (reset_line n) m t) i c ≡ cell n t i c
unfolding after_steps
resets-behind n zero t i c h hm = refl
resets-behind n (suc m) t i c h hm =
    reset_line-other n m (after_steps (reset_line n) m t) i c h (λ e. absurd (omega arith)) ∙ resets-behind n m t i c h (omega arith)

resets-here : (n m : ℕ) (t : List ℕ) → length t ≡ table_length n → m ≤ n → (i : ℕ) → i < m → LineClosed n t (after_steps (reset_line n) m t) i
unfolding after_steps rounds_after
resets-here n zero t long hm i h = absurd (omega arith)
resets-here n (suc m) t long hm i h = pick (resets-here n m t long (omega arith) i) (eq-or-lt_of_le (le_of_suc-le-suc h))
  where
    s : List ℕ
    s = after_steps (reset_line n) m t

    -- byte 5 goes by the bytes of its own line
    own : rounds_after n s m ≡ rounds_after n t m
    own = rw (resets-behind n m t m status_column (omega arith) (omega arith), resets-behind n m t m rounds_ago_column (omega arith) (omega arith))

    pick : (i < m → LineClosed n t s i) → (i ≡ m) ⊎ (i < m) → LineClosed n t (reset_line n m s) i
    pick rest (inl e) =
        let r = reset_line-here n m s (resets-length n m t ∙ long) hm in
        rw e (r.0, r.1 ∙ own)
    pick rest (inr l) =
        let r = rest l in
        let same : (c : ℕ) → c < stride n → cell n (reset_line n m s) i c ≡ cell n s i c =
        λ c hc. reset_line-other n m s i c hc (λ e. absurd (omega arith)) in (
          record {
            next = same next_column (omega arith) ∙ r.0.next;
            unfinished = same finished_column (omega arith) ∙ r.0.unfinished;
            untested = same tests_column (omega arith) ∙ r.0.untested;
          },
          same rounds_ago_column (omega arith) ∙ r.1,
        )

reset-length : (n : ℕ) (t : List ℕ) → length (reset_lines n t) ≡ length t
unfolding reset_lines
reset-length n t = resets-length n n t

pub reset-cells : (n : ℕ) (t : List ℕ) → length t ≡ table_length n → (i : ℕ) → i < n → Reset n (reset_lines n t) i
unfolding reset_lines
reset-cells n t long i h = (resets-here n n t long (omega arith) i h).0

pub reset-ago : (n : ℕ) (t : List ℕ) → length t ≡ table_length n → (i : ℕ) → i < n → rounds_ago n (reset_lines n t) i ≡ rounds_after n t i
unfolding reset_lines
reset-ago n t long i h = (resets-here n n t long (omega arith) i h).1

-- status, byte 4 and row bytes, those at other columns, are as before
pub reset-other : (n : ℕ) (t : List ℕ) (i c : ℕ) → c < stride n → ¬ (ClosingChanges c)
    → cell n (reset_lines n t) i c ≡ cell n t i c
unfolding reset_lines
reset-other n t i c h out = resets-other n n t i c h out

-- a live line keeps byte 5, and the rule says nothing of it elsewhere
after-exit : (n : ℕ) (t : List ℕ) (k : ℕ) → exit_rule n k (status n t k) (told_by n t k) (rounds_ago n t k) ≡ true
    → exit_rule n k (status n t k) (told_by n t k) (rounds_after n t k) ≡ true
unfolding exit_rule rounds_after
after-exit n t k e = by_bool (live n t k) (λ f. rw f (rw f at e)) (λ f. rw f (rw f at e))

-- a closing keeps the line rules
pub reset-lines : (w : Wiring) (n : ℕ) (t : List ℕ) → Lines w n t → Lines w n (reset_lines n t)
reset-lines w n t lines = (
  reset-length n t ∙ lines.0,
  λ k h.
      let l = lines.1 k h in
      let r = reset-cells n t lines.0 k h in
      record {
        status_range = rw (reset-other n t k status_column (omega arith) (λ p. omega arith)) l.status_range;
        pass = rw (r.next, r.unfinished, r.untested)
            (start-pass w n k h);
        exits =
            let s = reset-other n t k status_column (omega arith) (λ p. omega arith) in
            let b = reset-other n t k told_by_column (omega arith) (λ p. omega arith) in
            rw (s, b, reset-ago n t lines.0 k h) (after-exit n t k l.exits);
        own = reset-other n t k (head + k) (omega arith) (λ p. omega arith) ∙ l.own;
        range = λ x hx. rw (reset-other n t k (head + x) (omega arith) (λ p. omega arith)) (l.range x hx);
      },
)
