-- What is asked of the row of a line, by the row.
-- Assumes nothing.
use mathlib.Core.Path.{◌≡◌, ap, ap₂}
use mathlib.Core.Bool.{Bool, ◌&&◌, ◌||◌}
use mathlib.Core.List.{List}
use Prim.Native.Nat.{ℕ, ◌<◌}
use lib.Dec.{eqb, leb}
use lib.ListN.{length, get_or}
use Rattle.lists.proofs.BoolLaws.{every-same}
use Rattle.table.specs.Line.{row_of}
use Rattle.table.specs.Rules.{row_rule_by}
use Rattle.table.proofs.LineLaws.{row_of-at}
use Rattle.table.proofs.StatusLaws.{status_ok, status_err}
use Rattle.station.specs.Rows.{suspects_all}
use Rattle.board.specs.Board.{suspicion_of}

module _ (n : ℕ) (l r : List ℕ) (i : ℕ) (e : r ≡ row_of n l) (long : length r ≡ n) where
  -- whether all others are suspected
  pub alone_by_row : suspects_all (λ k. get_or r k 0) i (length r) ≡ suspects_all (suspicion_of l) i n
  alone_by_row = rw (long, e) (every-same _ _ n (λ k h. ap (λ (a : ℕ). eqb k i || eqb a 1) (row_of-at n l k h)))

  -- the rules of a row
  pub row_rule_by_row : i < n → row_rule_by (length r) i (λ k. get_or r k 0) ≡ row_rule_by n i (suspicion_of l)
  row_rule_by_row h =
      rw (long, e)
      (ap₂ (λ (a : ℕ) (b : Bool). eqb a 0 && b) (row_of-at n l i h) (every-same _ _ n (λ k hk. ap (λ (a : ℕ). leb a 1) (row_of-at n l k hk))))

-- what the rules of a line are asked by
pub ruleset line_asked = (status_ok, status_err, row_rule_by_row)
