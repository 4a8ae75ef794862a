-- The turns of the boards that were gone through.
use Rattle.std.proofs.Common.{◌≡◌, ◌≤◌, ◌*◌}
use Rattle.lists.specs.Sums.{sum_below}
use Rattle.latency.specs.Turns.{turns_of}
use Rattle.latency.proofs.turns.turns_by_row.Given as goal

abbrev pub invariant-loop-i : goal.invariant-loop-i
invariant-loop-i l = record {
  counted : l.turns ≡ sum_below (turns_of l.n l.row) l.i;
  bound : l.turns ≤ 256 * l.i;
}
