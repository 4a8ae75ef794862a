-- The boards that were gone through are counted.
use Rattle.std.proofs.Common.{◌≡◌, ◌≤◌, ◌+◌, ◌-◌, ◌*◌, take, length}
use Rattle.std.specs.Prelude.{sum_by}
use Rattle.sheet.specs.Text.{digits}
use Rattle.sheet.proofs.sheet.width.Given as goal

abbrev pub invariant-loop-board : goal.invariant-loop-board
invariant-loop-board l = record {
  counted : l.columns ≡ sum_by (λ x. digits x.0) (take l.board-index l.boards) + (length l.boards - 1);
  bound : l.columns ≤ 3 * l.board-index + (length l.boards - 1);
}
