-- One line more is passed.
use Rattle.std.proofs.Common.{ap, not, sym, ◌∙◌}
use Rattle.lists.proofs.Loops.{every-next, some_next}
use Rattle.mender.proofs.CellLaws.{lines_live}
use Rattle.mender.proofs.lines.is_over.Goals as goal

pub loop-i-preserved : goal.loop-i-preserved
loop-i-preserved c =
    let i = c.loop-i.invariant in
    let live = c.is_live-some.ensures
    ∙ sym (lines_live c.args.table.now.wiring c.args.table.now.n c.args.table.now.bytes.now c.loop-i.i c.loop-i-test.true) in
    record {
      done = every-next _ _ _ i.done c.finished_if_live.ensures (ap not c.if-not-finished_if_live.false);
      seen = some_next _ _ _ _ i.seen (ap not live);
    }
