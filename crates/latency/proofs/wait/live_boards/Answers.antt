-- The boards are gone through in order.
use Rattle.std.proofs.Common.{◌≡◌, ◌+◌, refl, ap, ◌∙◌, arith}
use Prim.Native.Nat.{suc}
use Rattle.lists.specs.Sums.{sum_below, bit}
use Rattle.lists.proofs.BoolLaws.{by_bool}
use Rattle.lists.proofs.SumLaws.{sum_below-suc}
use Rattle.table.specs.Table.{live}
use Rattle.table.specs.Properties.{live_count}
use Rattle.latency.proofs.wait.live_boards.Goals as goal

pub loop-i-init : goal.loop-i-init
unfolding sum_below
loop-i-init c = record { counted = refl; bound = omega arith }

pub loop-i-preserved : goal.loop-i-preserved
loop-i-preserved c =
    let t = c.args.table.now in
    let i = c.loop-i.invariant in
    let one : c.from-count.result ≡ bit (live t.n t.bytes.now c.loop-i.i) =
    c.from-count.ensures ∙ rw c.is_live.ensures (by_bool (live t.n t.bytes.now c.loop-i.i) (λ e. rw e) (λ e. rw e)) in
    let e : c.loop-i.i + 1 ≡ suc c.loop-i.i = omega arith in
    record {
      counted = rw e (omega (arith, i.counted, one, sum_below-suc (λ i. bit (live t.n t.bytes.now i)) c.loop-i.i));
      bound = by_bool (live t.n t.bytes.now c.loop-i.i) (λ l. omega (arith, i.bound, rw l at one)) (λ l. omega (arith, i.bound, rw l at one));
    }

pub returns-clause-count : goal.returns-clause-count
unfolding live_count
returns-clause-count c =
    let t = c.args.table.now in
    let e : c.loop-i.i ≡ t.n = omega arith in
    c.loop-i.invariant.counted ∙ ap (sum_below (λ i. bit (live t.n t.bytes.now i))) e
