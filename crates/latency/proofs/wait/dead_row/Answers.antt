-- The boards are gone through in order.
use Rattle.std.proofs.Common.{◌≡◌, length, ap, ◌∙◌, arith}
use Rattle.lists.specs.Search.{list_of}
use Rattle.lists.proofs.SearchLaws.{list_of-length}
use Rattle.lists.proofs.BoolLaws.{by_bool}
use Rattle.table.specs.Table.{live}
use Rattle.table.specs.Properties.{exact_row}
use Rattle.table.proofs.SizeLaws.{size-bounds}
use Rattle.latency.proofs.WaitLaws.{dead_at, filled-next}
use Rattle.latency.proofs.wait.dead_row.Goals as goal

pub loop-j-init : goal.loop-j-init
unfolding list_of
loop-j-init c = c.new-row.ensures

pub push-requires : goal.push-requires
push-requires c =
    let t = c.args.table.now in
    let few = ap length c.loop-j.invariant ∙ list_of-length (dead_at t.n t.bytes.now) c.loop-j.j in
    omega (arith, few, size-bounds t.n t.sized)

pub loop-j-preserved : goal.loop-j-preserved
loop-j-preserved c =
    let t = c.args.table.now in
    filled-next (dead_at t.n t.bytes.now) c.loop-j.j _ _ _ c.loop-j.invariant c.push.ensures.items
    (c.from.ensures ∙ rw c.is_live.ensures (by_bool (live t.n t.bytes.now c.loop-j.j) (λ e. rw e) (λ e. rw e)))

pub returns : goal.returns
unfolding exact_row
returns c =
    let t = c.args.table.now in
    let e : c.loop-j.j ≡ t.n = omega arith in
    c.loop-j.invariant ∙ ap (list_of (dead_at t.n t.bytes.now)) e
