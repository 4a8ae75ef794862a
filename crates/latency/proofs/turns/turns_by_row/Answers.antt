-- The turns of the boards that were gone through.
use Rattle.std.proofs.Common.{◌≡◌, ◌+◌, refl, arith}
use Prim.Native.Nat.{suc}
use Rattle.lists.specs.Sums.{sum_below}
use Rattle.lists.proofs.SumLaws.{sum_below-suc}
use Rattle.latency.specs.Turns.{turns_of, turns_by_row}
use Rattle.latency.proofs.turns.turns_by_row.Goals as goal

pub loop-i-init : goal.loop-i-init
unfolding sum_below
loop-i-init c = record { counted = refl; bound = omega arith }

pub overflow_add-turns : goal.overflow_add-turns
overflow_add-turns c = omega (arith, c.loop-i.invariant, c.turns_of-turns.ensures)

pub loop-i-preserved : goal.loop-i-preserved
loop-i-preserved c =
    let i = c.loop-i.invariant in
    let t = c.turns_of-turns.ensures in
    let e : c.loop-i.i + 1 ≡ suc c.loop-i.i = omega arith in
    record {
      counted = rw e (omega (arith, i.counted, t.turns, sum_below-suc (turns_of c.args.n c.args.row.now) c.loop-i.i));
      bound = omega (arith, i.bound, t.upper_bound);
    }

pub returns-clause-turns : goal.returns-clause-turns
unfolding turns_by_row
returns-clause-turns c =
    let e : c.loop-i.i ≡ c.args.n = omega arith in
    rw e at c.loop-i.invariant.counted

pub returns-clause-upper_bound : goal.returns-clause-upper_bound
returns-clause-upper_bound c = omega (arith, c.loop-i.invariant)
