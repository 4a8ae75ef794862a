-- A closing of the round by lines.
-- Assumes nothing.
use mathlib.Core.Path.{◌≡◌, refl, ap, ◌∙◌}
use mathlib.Core.Logic.{◌≢◌, ◌⊎◌, inl, inr}
use mathlib.Core.List.{List}
use Prim.Native.Nat.{ℕ, zero, suc, ◌≤◌, ◌<◌}
use native.Mathlib.Nat.{eq-or-lt_of_le, le_of_suc-le-suc}
use native.Mathlib.Omega.{arith}
use lib.ListN.{length, set}
use Rattle.lists.specs.Steps.{after_steps}
use Rattle.table.specs.Table.{table_length, set_cell, status_column, next_column, finished_column, tests_column, rounds_ago_column}
use Rattle.table.proofs.CellLaws.{set_cell-length}
use Rattle.plant.specs.Round.{rounds_after, reset_line, reset_lines}
use Rattle.table.specs.Line.{line}
use Rattle.board.specs.Board.{round_closed}
use Rattle.cable.specs.Claims.{BoardsCloseTheRound}
use Rattle.table.proofs.LineLaws.{line_at, line-set, line-set-other}

reset-length : (n i : ℕ) (t : List ℕ) → length (reset_line n i t) ≡ length t
unfolding reset_line
reset-length n i t = simp set_cell-length

reset-here : (n i : ℕ) (t : List ℕ) → length t ≡ table_length n → i < n → line n (reset_line n i t) i ≡ round_closed (line n t i)
unfolding reset_line round_closed rounds_after
reset-here n i t long h =
    let t₁ : List ℕ = set_cell n t i next_column 1 in
    let t₂ : List ℕ = set_cell n t₁ i finished_column 0 in
    let t₃ : List ℕ = set_cell n t₂ i tests_column 0 in
    let long₁ : length t₁ ≡ table_length n = set_cell-length n t i next_column 1 ∙ long in
    let long₂ : length t₂ ≡ table_length n = set_cell-length n t₁ i finished_column 0 ∙ long₁ in
    let long₃ : length t₃ ≡ table_length n = set_cell-length n t₂ i tests_column 0 ∙ long₂ in
    let ago : ℕ = rounds_after n t i in
    let e : line n t₃ i ≡ set (set (set (line n t i) next_column 1) finished_column 0) tests_column 0 =
    line-set n t₂ i tests_column 0 long₂ h (omega arith)
    ∙ ap (λ (l : List ℕ). set l tests_column 0) (line-set n t₁ i finished_column 0 long₁ h (omega arith)
    ∙ ap (λ (l : List ℕ). set l finished_column 0) (line-set n t i next_column 1 long h (omega arith))) in
    rw (line_at n t i status_column (omega arith), line_at n t i rounds_ago_column (omega arith))
    (line-set n t₃ i rounds_ago_column ago long₃ h (omega arith) ∙ ap (λ (l : List ℕ). set l rounds_ago_column ago) e)

reset-away : (n i : ℕ) (t : List ℕ) (k : ℕ) → length t ≡ table_length n → k < n → i ≢ k → line n (reset_line n i t) k ≡ line n t k
unfolding reset_line
reset-away n i t k long hk apart =
    let t₁ : List ℕ = set_cell n t i next_column 1 in
    let t₂ : List ℕ = set_cell n t₁ i finished_column 0 in
    let t₃ : List ℕ = set_cell n t₂ i tests_column 0 in
    let long₁ : length t₁ ≡ table_length n = set_cell-length n t i next_column 1 ∙ long in
    let long₂ : length t₂ ≡ table_length n = set_cell-length n t₁ i finished_column 0 ∙ long₁ in
    let long₃ : length t₃ ≡ table_length n = set_cell-length n t₂ i tests_column 0 ∙ long₂ in
    line-set-other n t₃ i rounds_ago_column (rounds_after n t i) k long₃ hk (omega arith) apart
    ∙ line-set-other n t₂ i tests_column 0 k long₂ hk (omega arith) apart
    ∙ line-set-other n t₁ i finished_column 0 k long₁ hk (omega arith) apart
    ∙ line-set-other n t i next_column 1 k long hk (omega arith) apart

steps-length : (n m : ℕ) (t : List ℕ) → length (after_steps (reset_line n) m t) ≡ length t
unfolding after_steps
steps-length n zero t = refl
steps-length n (suc m) t = reset-length n m (after_steps (reset_line n) m t) ∙ steps-length n m t

steps-behind : (n m : ℕ) (t : List ℕ) (k : ℕ) → length t ≡ table_length n → k < n → m ≤ k → line n (after_steps (reset_line n) m t) k ≡ line n t k
unfolding after_steps
steps-behind n zero t k long hk hm = refl
steps-behind n (suc m) t k long hk hm =
    reset-away n m (after_steps (reset_line n) m t) k (steps-length n m t ∙ long) hk (omega arith) ∙ steps-behind n m t k long hk (omega arith)

steps-here : (n m : ℕ) (t : List ℕ) (k : ℕ) → length t ≡ table_length n → m ≤ n → k < m
    → line n (after_steps (reset_line n) m t) k ≡ round_closed (line n t k)
unfolding after_steps
steps-here n zero t k long hm h = absurd (omega arith)
steps-here n (suc m) t k long hm h = pick (steps-here n m t k long (omega arith)) (eq-or-lt_of_le (le_of_suc-le-suc h))
  where
    s : List ℕ
    s = after_steps (reset_line n) m t

    pick : (k < m → line n s k ≡ round_closed (line n t k)) → (k ≡ m) ⊎ (k < m) → line n (reset_line n m s) k ≡ round_closed (line n t k)
    pick rest (inl e) =
        rw e (reset-here n m s (steps-length n m t ∙ long) hm ∙ ap round_closed (steps-behind n m t m long (omega arith) (omega arith)))
    pick rest (inr l) = reset-away n m s k (steps-length n m t ∙ long) (omega arith) (omega arith) ∙ rest l

pub closed-line : (n : ℕ) (t : List ℕ) (k : ℕ) → length t ≡ table_length n → k < n → line n (reset_lines n t) k ≡ round_closed (line n t k)
unfolding reset_lines
closed-line n t k long h = steps-here n n t k long (omega arith) h

pub boards-close : BoardsCloseTheRound
boards-close n t long k h = closed-line n t k long h
