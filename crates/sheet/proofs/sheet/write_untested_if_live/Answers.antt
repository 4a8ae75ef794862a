-- The list that is written is that of the boards that the board does not test.
use Rattle.std.proofs.Common.{arith}
use Rattle.std.proofs.lemmas.Grind.{common_steps}
use Rattle.sheet.specs.Layout.{live_line, untested_line}
use Rattle.sheet.proofs.LayoutLaws.{untested_listed}
use Rattle.sheet.proofs.sheet.write_untested_if_live.Goals as goal

pub returns : goal.returns
unfolding live_line untested_line
returns g c =
    let n = c.args.plant.now.size in
    let lists = c.list_untested-untested.ensures in
    let items = c.list_untested-untested.result.items in
    let listed = rw c.row.ensures at (untested_listed n c.row.result.now c.args.i.0 items lists.boards lists.ahead) in
    grind (arith, common_steps, listed)
