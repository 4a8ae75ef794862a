-- The live ones of the boards that were gone through are counted.
use Rattle.std.proofs.Common.{◌≡◌, ◌≤◌}
use Rattle.lists.specs.Sums.{sum_below, bit}
use Rattle.table.specs.Table.{live}
use Rattle.latency.proofs.wait.live_boards.Given as goal

abbrev pub invariant-loop-i : goal.invariant-loop-i
invariant-loop-i l = record {
  counted : l.count ≡ sum_below (λ i. bit (live l.table.n l.table.bytes.now i)) l.i;
  bound : l.count ≤ l.i;
}
