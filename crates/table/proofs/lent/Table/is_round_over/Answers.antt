-- One line more is passed.
use Rattle.std.proofs.Common.{ap, not}
use Rattle.lists.proofs.Loops.{every-next, some_next}
use Rattle.table.proofs.lent.Table.is_round_over.Goals as goal

pub loop-i-preserved : goal.loop-i-preserved
loop-i-preserved c =
    let i = c.loop-i.invariant in
    record {
      done = every-next _ _ _ i.done c.finished_if_live.ensures (ap not c.if-not-finished_if_live.false);
      seen = some_next _ _ _ _ i.seen (ap not c.is_live-some.ensures);
    }
