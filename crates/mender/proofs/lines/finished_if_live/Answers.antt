-- The line as it is says what the mended one would.
use Rattle.std.proofs.Common.{refl}
use Rattle.mender.proofs.CellLaws.{lines_live, lines_finished}
use Rattle.mender.proofs.lines.finished_if_live.Goals as goal

pub returns : goal.returns
returns c =
    let w = c.args.table.now.wiring in
    let n = c.args.table.now.n in
    let t = c.args.table.now.bytes.now in
    rw (lines_live w n t c.args.i.0 c.requires, lines_finished w n t c.args.i.0 c.requires)
    (rw (c.is_live.ensures, c.is_finished.ensures, c.keeps_pass.ensures) refl)
