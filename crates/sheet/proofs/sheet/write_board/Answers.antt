-- The number is put to the right.
use Rattle.std.proofs.Common.{ap, ◌∙◌}
use Rattle.std.specs.Fmt.{styled_decimal}
use Rattle.sheet.proofs.LayoutLaws.{right_written}
use Rattle.sheet.proofs.sheet.write_board.Goals as goal

pub returns : goal.returns
returns g c =
    let board = ap (λ s. styled_decimal s c.args.i.0) c.laid_out.ensures ∙ right_written 5 c.args.i.0 in
    rw board at c.write.ensures.writes
