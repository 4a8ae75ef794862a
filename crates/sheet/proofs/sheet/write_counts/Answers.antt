-- Both numbers are put to the right.
use Rattle.std.proofs.Common.{arith, ap, ◌∙◌}
use Rattle.std.specs.Fmt.{styled_decimal}
use Rattle.std.proofs.lemmas.Grind.{common_steps}
use Rattle.sheet.proofs.LayoutLaws.{right_written}
use Rattle.sheet.proofs.sheet.write_counts.Goals as goal

pub returns : goal.returns
returns g c =
    let tests = ap (λ s. styled_decimal s c.args.tests) c.laid_out.ensures ∙ right_written 13 c.args.tests in
    let most = ap (λ s. styled_decimal s c.args.most) c.laid_out-2.ensures ∙ right_written 23 c.args.most in
    grind (arith, common_steps, tests, most)
