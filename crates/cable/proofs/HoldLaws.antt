-- Boards that hold what a table has.
-- Assumes nothing.
use mathlib.Core.Path.{◌≡◌, refl, sym, ap, ap₂, ◌∙◌}
use mathlib.Core.Bool.{Bool, true, not, ◌&&◌}
use mathlib.Core.List.{List}
use Prim.Native.Nat.{ℕ, ◌<◌}
use native.Mathlib.Omega.{arith}
use lib.Dec.{eqb}
use lib.ListN.{get_or}
use Rattle.lists.proofs.BoolLaws.{by_bool, every-same}
use Rattle.table.specs.Table.{status_column, finished_column, status, live}
use Rattle.table.specs.Line.{line, is_live}
use Rattle.table.specs.Rules.{some_live, live_finished, round_over}
use Rattle.table.proofs.LineLaws.{line_at}
use Rattle.cable.specs.Boards.{Lines, all_finished, Hold, LinesAreHeld}

-- a line's status
pub line-status : (n : ℕ) (t : List ℕ) (k : ℕ) → get_or (line n t k) status_column 0 ≡ status n t k
line-status n t k = line_at n t k status_column (omega arith)

-- equal lines have equal statuses
status-by : (n : ℕ) (t u : List ℕ) (k : ℕ) → line n u k ≡ line n t k → status n u k ≡ status n t k
status-by n t u k e = sym (line-status n u k) ∙ (ap (λ (l : List ℕ). get_or l status_column 0) e ∙ line-status n t k)

-- what Hold says of one board with line l
pub HoldsOne : ℕ → List ℕ → ℕ → List ℕ → Type 0
HoldsOne n u k l = (get_or l status_column 0 ≡ status n u k) × (live n u k ≡ true → l ≡ line n u k)

-- a board whose line is the table's
pub held : (n : ℕ) (u : List ℕ) (k : ℕ) (l : List ℕ) → l ≡ line n u k → HoldsOne n u k l
unfolding HoldsOne
held n u k l e = (ap (λ (l : List ℕ). get_or l status_column 0) e ∙ line-status n u k, λ _. e)

pub holds : (n : ℕ) (u : List ℕ) (b : Lines) → ((k : ℕ) → k < n → HoldsOne n u k (b k)) → Hold n u b
unfolding HoldsOne
holds n u b all = record { statuses = λ k hk. (all k hk).0; live_lines = λ k hk. (all k hk).1 }

-- boards that hold the table's lines, an end in itself
pub lines-are-held : LinesAreHeld
lines-are-held n t = holds n t (line n t) (λ k hk. held n t k (line n t k) refl)

module _ (n : ℕ) (t : List ℕ) (b : Lines) (hold : Hold n t b) where
  pub live-same : (k : ℕ) → k < n → is_live (b k) ≡ live n t k
  live-same k hk = ap (λ (x : ℕ). eqb x 0) (hold.statuses k hk)

  -- a board that does nothing, and whose line does not change in the table
  pub kept : (k : ℕ) → k < n → (u : List ℕ) → line n u k ≡ line n t k → HoldsOne n u k (b k)
  unfolding HoldsOne
  kept k hk u e = (
    hold.statuses k hk ∙ sym (status-by n t u k e),
    λ l. hold.live_lines k hk (rw (status-by n t u k e) at l) ∙ sym e,
  )

  -- the round is over for the boards as it is for the table
  pub over-same : all_finished n b ≡ round_over n t
  unfolding all_finished some_live live_finished
  over-same =
      ap₂ (λ (x y : Bool). not x && y)
      (every-same _ _ n (λ k hk. ap not (live-same k hk)))
      (every-same _ _ n (λ k hk. by_bool (live n t k)
      (λ l. rw (live-same k hk, l, hold.live_lines k hk l, line_at n t k finished_column (omega arith)))
      (λ l. rw (live-same k hk, l))))
