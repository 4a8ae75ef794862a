-- The six bytes one by one.
use Rattle.std.proofs.Common.{◌∙◌, refl}
use Rattle.mender.proofs.CellLaws.{head-is}
use Rattle.mender.proofs.lines.mended_head.Goals as goal

pub returns : goal.returns
returns c =
    let status = c.from.ensures ∙ c.mended_status-status.ensures ∙ rw c.get.ensures refl in
    let by = c.mended_told_by-by.ensures ∙ rw (c.mended_status-status.ensures, c.get.ensures, c.get-2.ensures) refl in
    let ago = c.mended_rounds_ago-ago.ensures ∙ rw (by, c.mended_status-status.ensures, c.get.ensures, c.get-3.ensures) refl in
    head-is c.args.table.now.wiring c.args.table.now.n c.args.table.now.bytes.now c.args.over c.args.i.0
    c.from.result c.mended_told_by-by.result c.mended_rounds_ago-ago.result c.mended_pass.result status c.mended_pass.ensures by ago
