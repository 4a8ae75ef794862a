-- Of the lines passed so far all live ones are finished, and `some` says whether one is live.
use Rattle.std.proofs.Common.{◌≡◌, true, not}
use Rattle.lists.specs.Search.{every}
use Rattle.table.specs.Rules.{not_live, finished_if_live}
use Rattle.table.proofs.lent.Table.is_round_over.Given as goal

abbrev pub invariant-loop-i : goal.invariant-loop-i
invariant-loop-i l = record {
  done : every (finished_if_live l.self.n l.self.bytes.now) l.i ≡ true;
  seen : l.some ≡ not (every (not_live l.self.n l.self.bytes.now) l.i);
}
