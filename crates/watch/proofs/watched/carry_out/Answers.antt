-- The parts that are lent lie within table and sheet.
use Rattle.std.proofs.Common.{◌*◌, ◌∙◌, length, arith}
use Rattle.std.proofs.Math.Seq.{length-take-le}
use Rattle.watch.proofs.WatchLaws.{carried}
use Rattle.watch.proofs.watched.carry_out.Goals as goal

pub returns : goal.returns
returns c =
    let a = c.args in
    let r = c.run_fresh in
    let p = c.table_part-long in
    carried a.wiring a.size _ a.schedule.now a.sheet.now r.result _ _ (2 * length a.schedule.now)
    (λ e. length-take-le _ _ (omega arith) ∙ p.ensures.of_a_size e) (omega arith)
    (r.auto.sheet ∙ length-take-le _ _ c.requires) c.requires r.ensures
