-- By whether the round is over and the bytes keep their rules.
use Rattle.mender.proofs.CellLaws.{pass-new, pass-old}
use Rattle.mender.proofs.lines.mended_pass.Goals as goal

pub returns-then-over-keeps_pass : goal.returns-then-over-keeps_pass
returns-then-over-keeps_pass c =
    pass-new c.args.table.now.wiring c.args.table.now.n c.args.table.now.bytes.now c.args.over c.args.i.0
    c.keeps_pass.result c.keeps_pass.ensures c.if-over-keeps_pass.true

pub returns : goal.returns
returns c =
    rw (c.get.ensures, c.get-2.ensures, c.get-3.ensures)
    (pass-old c.args.table.now.wiring c.args.table.now.n c.args.table.now.bytes.now c.args.over c.args.i.0
    c.keeps_pass.result c.keeps_pass.ensures c.if-over-keeps_pass.false)
