-- The distances are gone through in order.
use Rattle.std.proofs.Common.{◌≡◌, ℕ, Bool, sym, ◌∙◌, ap, true, false, arith}
use Rattle.station.specs.Groups.{station_at}
use Rattle.station.specs.Tests.{due, due_distances}
use Rattle.station.proofs.DueLaws.{due-zero}
use Rattle.slots.specs.Slots.{tested}
use Rattle.slots.proofs.ListLaws.{listed-next, listed-none, listed-few}
use Rattle.slots.proofs.list_tests.Goals as goal
use Rattle.slots.proofs.list_tests.Goals.{then-is_due, else-is_due}

pub push-requires : goal.push-requires
push-requires c =
    let few = listed-few _ _ _ c.loop-m.m c.loop-m.list.items c.loop-m.invariant (due-zero c.args.row.now c.args.i.0) in
    omega (arith, few, c.distances-end.ensures.upper_bound, c.loop-m-test.true)

pub loop-m-preserved : goal.loop-m-preserved
loop-m-preserved c =
    let at : ℕ → ℕ = station_at c.args.i.0 in
    let q : ℕ → Bool = due c.args.row.now c.args.i.0 in
    let items = c.loop-m.list.items in
    elim c.if-is_due.branch [
      | then-is_due w ↦
          let passes : q c.loop-m.m ≡ true = sym c.is_due.ensures ∙ w.if-is_due.true in
          let pushed = ap (λ v. v.items) w.list-is ∙ w.push.ensures.items in
          listed-next (λ x. x.0) at q c.loop-m.m items c.loop-m.invariant _ _ passes pushed w.station_at.ensures
      | else-is_due w ↦
          let fails : q c.loop-m.m ≡ false = sym c.is_due.ensures ∙ w.if-is_due.false in
          listed-none (λ x. x.0) at q c.loop-m.m items c.loop-m.invariant _ fails (ap (λ v. v.items) w.list-is)
    ]

pub returns : goal.returns
unfolding tested due_distances
returns c =
    let all : c.loop-m.m ≡ c.distances-end.result = omega arith in
    c.loop-m.invariant ∙ rw (all, c.distances-end.ensures.number_of_distances)
