-- The boards that were gone through are listed.
use Rattle.std.proofs.Common.{◌≡◌}
use Rattle.lists.specs.Search.{list_of}
use Rattle.latency.proofs.WaitLaws.{dead_at}
use Rattle.latency.proofs.wait.dead_row.Given as goal

abbrev pub invariant-loop-j : goal.invariant-loop-j
invariant-loop-j l = l.row.items ≡ list_of (dead_at l.table.n l.table.bytes.now) l.j
