-- A field is passed, or at fault, or goes past the end.
use Rattle.std.proofs.Common.{Ok, arith}
use Rattle.convert.proofs.PlaceLaws.{read_none, read_less, read_fault, read_on, read_length}
use Rattle.convert.proofs.place.place.Goals as goal

pub returns-in-Err : goal.returns-in-Err
returns-in-Err c =
    let here = read_fault _ _ _ c.next_whole.ensures _ c.in-Some.is _ _ c.in-Err.ensures in omega (arith, here, c.loop-field.invariant.left)

pub overflow_sub-at : goal.overflow_sub-at
overflow_sub-at c =
    let less = read_less _ _ _ c.next_whole.ensures _ c.in-Some.is in omega (arith, less, c.loop-field.invariant.passed)

pub loop-field-smaller : goal.loop-field-smaller
loop-field-smaller c = read_less _ _ _ c.next_whole.ensures _ c.in-Some.is

pub loop-field-preserved : goal.loop-field-preserved
loop-field-preserved c =
    let i = c.loop-field.invariant in
    let less = read_less _ _ _ c.next_whole.ensures _ c.in-Some.is in
    let len = read_length _ _ _ c.next_whole.ensures _ c.in-Some.is in
    let on = read_on _ _ _ c.next_whole.ensures _ c.in-Some.is _ _ c.in-Ok.ensures in
    record { passed = omega (arith, less, i.passed); left = omega (arith, less, len, on, i.passed, i.left) }

pub returns : goal.returns
returns c =
    let none = read_none _ _ _ c.next_whole.ensures c.in_default.is c.loop-field.search in omega (arith, none, c.loop-field.invariant.left)
