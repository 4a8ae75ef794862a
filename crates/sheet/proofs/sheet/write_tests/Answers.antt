-- The list that is written is that of the board's tests.
use Rattle.std.proofs.Common.{arith, ap, sym, ◌∙◌, length}
use Rattle.std.proofs.lemmas.Grind.{common_steps}
use Rattle.std.proofs.lemmas.List.{length-map}
use Rattle.sheet.specs.Layout.{tests_line}
use Rattle.sheet.proofs.LayoutLaws.{tests_listed}
use Rattle.sheet.proofs.sheet.write_tests.Goals as goal

pub returns : goal.returns
unfolding tests_line
returns g c =
    let n = c.args.plant.now.size in
    let items = c.list_tests-tests.result.items in
    let numbers = c.list_tests-tests.ensures in
    let row = c.row.ensures in
    let listed = rw row at (tests_listed n c.row.result.now c.args.i.0 items numbers) in
    let count = sym (length-map items (λ x. x.0)) ∙ ap length numbers in
    grind (arith, common_steps, listed, count)
