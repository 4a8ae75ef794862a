use Rattle.std.proofs.Common.{refl, arith}
use Rattle.lists.proofs.Loops.{fill_start, fill-next}
use Rattle.lists.proofs.ByteLaws.{joined-byte, into-apart, into-short, into-filled}
use Rattle.lists.proofs.bytes.write_joined.Goals as goal

pub returns-then-list-other : goal.returns-then-list-other
returns-then-list-other c = into-apart _ _ _ c.if-list-other.true

pub returns-then-out-list : goal.returns-then-out-list
returns-then-out-list c = into-short _ _ _ c.if-list-other.false c.if-out-list.true

pub loop-k-init : goal.loop-k-init
loop-k-init c = fill_start _ _

pub loop-k-preserved : goal.loop-k-preserved
loop-k-preserved c = fill-next _ _ _ _ _ c.loop-k.invariant (joined-byte _ _ _ _ _ refl c.max.ensures)

pub returns : goal.returns
returns c =
    into-filled _ _ _ _ _ c.if-list-other.false c.if-out-list.false c.loop-k.invariant (omega arith) c.loop-k-test.false
