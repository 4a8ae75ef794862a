-- One more is asked.
use Rattle.std.proofs.Common.{sym, add-one}
use Rattle.lists.proofs.SearchLaws.{every-suc}
use Rattle.lists.proofs.Loops.{every-start}
use Rattle.saved.proofs.lines.all_seen.Goals as goal

pub loop-one-init : goal.loop-one-init
loop-one-init c = sym (every-start _)

pub loop-one-preserved : goal.loop-one-preserved
loop-one-preserved c = rw (add-one, every-suc, c.loop-one.invariant)
