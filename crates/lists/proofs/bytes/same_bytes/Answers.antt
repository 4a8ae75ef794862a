use Rattle.std.proofs.Common.{refl, arith}
use Rattle.lists.proofs.ByteLaws.{same_next, same_done, same-apart}
use Rattle.lists.proofs.bytes.same_bytes.Goals as goal

pub returns-then-list-other : goal.returns-then-list-other
returns-then-list-other c = same-apart _ _ c.if-list-other.true

pub loop-x-init : goal.loop-x-init
loop-x-init c =
    let z = c.zip-x-items.ensures in
    rw (c.into_iter-x-iterator.ensures.into_iter_gives, z.first, z.second.0, c.iter.ensures.rest) (refl, c.if-list-other.false)

pub loop-x-preserved : goal.loop-x-preserved
loop-x-preserved c =
    let s = c.in-Some.ensures.steps in
    let i = c.loop-x.invariant in
    (same_next _ _ _ _ _ _ _ _ _ i.0 s.0 s.1 c.greater-apart.ensures, omega (arith, rw (s.0, s.1) at i.1))

pub returns : goal.returns
returns c = let i = c.loop-x.invariant in same_done _ _ _ _ _ i.0 i.1 (λ x. x.1.0) (λ x. x.1.0) c.in-None.ensures.steps
