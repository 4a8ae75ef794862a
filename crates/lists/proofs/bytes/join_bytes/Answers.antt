use Rattle.std.proofs.Common.{arith}
use Rattle.lists.proofs.Loops.{fill-ahead, fill-next, fill_start}
use Rattle.lists.proofs.ByteLaws.{joined-byte, joined-filled}
use Rattle.lists.proofs.bytes.join_bytes.Goals as goal

pub loop-k-init : goal.loop-k-init
loop-k-init c = fill_start _ _

pub loop-k-preserved : goal.loop-k-preserved
loop-k-preserved c =
    let i = c.loop-k.invariant in
    fill-next _ _ _ _ _ i (joined-byte _ _ _ _ _ (fill-ahead _ _ _ _ i) c.max.ensures)

pub returns : goal.returns
returns c = joined-filled _ _ _ _ c.loop-k.invariant (omega arith)
