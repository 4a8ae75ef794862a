-- Of the lines passed so far every live one has finished, and `some` says whether one was live.
use Rattle.std.proofs.Common.{◌≡◌, true, not}
use Rattle.lists.specs.Search.{every}
use Rattle.table.specs.Rules.{not_live, finished_if_live}
use Rattle.mender.specs.Mended.{lines_mended}
use Rattle.mender.proofs.lines.is_over.Given as goal

abbrev pub invariant-loop-i : goal.invariant-loop-i
invariant-loop-i l = record {
  done : every (finished_if_live l.table.n (lines_mended l.table.wiring l.table.n l.table.bytes.now)) l.i ≡ true;
  seen : l.some ≡ not (every (not_live l.table.n (lines_mended l.table.wiring l.table.n l.table.bytes.now)) l.i);
}
