-- The stations passed so far are not live.
use Rattle.std.proofs.Common.{not, ap, arith}
use Rattle.table.specs.Rules.{some_live}
use Rattle.lists.proofs.Loops.{every-start, every-next, every-stop, every-done}
use Rattle.granter.proofs.grant.some_live.Goals as goal

pub loop-i-init : goal.loop-i-init
loop-i-init c = every-start _

pub returns-then-is_live : goal.returns-then-is_live
unfolding some_live
returns-then-is_live c = ap not (every-stop _ _ _ _ c.loop-i-test.true (ap not c.is_live.ensures) (rw c.if-is_live.true))

pub loop-i-preserved : goal.loop-i-preserved
loop-i-preserved c = every-next _ _ _ c.loop-i.invariant (ap not c.is_live.ensures) (rw c.if-is_live.false)

pub returns : goal.returns
unfolding some_live
returns c = ap not (every-done _ _ _ c.loop-i.invariant (omega arith) c.loop-i-test.false)
