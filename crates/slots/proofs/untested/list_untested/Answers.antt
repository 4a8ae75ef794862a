-- The distances are gone through in order.
use Rattle.std.proofs.Common.{◌≡◌, ℕ, Bool, sym, ◌∙◌, ap, true, false, arith}
use Rattle.station.specs.Groups.{station_at}
use Rattle.station.specs.Tests.{answer}
use Rattle.station.specs.Calls.{answer_byte}
use Rattle.slots.specs.Slots.{is_untested, untested_distances, untested, ahead}
use Rattle.slots.proofs.UntestedLaws.{untested-zero}
use Rattle.slots.proofs.ListLaws.{listed-next, listed-none, listed-few}
use Rattle.slots.proofs.untested.list_untested.Goals as goal
use Rattle.slots.proofs.untested.list_untested.Goals.{in-Some, in_default}

pub push-requires : goal.push-requires
push-requires c =
    let i = c.loop-m.invariant in
    omega (
      arith,
      listed-few _ _ _ c.loop-m.m c.loop-m.list.items i.boards (untested-zero c.args.row.now c.args.i.0),
      c.distances-end.ensures.upper_bound,
      c.loop-m-test.true,
    )

pub loop-m-preserved : goal.loop-m-preserved
loop-m-preserved c =
    let i = c.loop-m.invariant in
    let q : ℕ → Bool = is_untested c.args.row.now c.args.i.0 in
    let named : ℕ → ℕ = λ k. answer_byte (answer c.args.row.now c.args.i.0 k) in
    let at : ℕ → ℕ = station_at c.args.i.0 in
    elim c.match-ahead_at.branch [
      | in-Some w ↦
          let passes : q c.loop-m.m ≡ true = sym w.in-Some.ensures.untested in
          let pushed = ap (λ v. v.items) w.list-is ∙ w.push.ensures.items in
          record {
            boards = listed-next (λ u. u.board.0) at q c.loop-m.m c.loop-m.list.items i.boards _ _ passes pushed w.station_at-board.ensures;
            ahead = listed-next (λ u. u.ahead.0) named q c.loop-m.m c.loop-m.list.items i.ahead _ _ passes pushed w.in-Some.ensures.ahead;
          }
      | in_default w ↦
          let fails : q c.loop-m.m ≡ false = sym w.in_default.ensures.untested in
          record {
            boards = listed-none (λ u. u.board.0) at q c.loop-m.m c.loop-m.list.items i.boards _ fails (ap (λ v. v.items) w.list-is);
            ahead = listed-none (λ u. u.ahead.0) named q c.loop-m.m c.loop-m.list.items i.ahead _ fails (ap (λ v. v.items) w.list-is);
          }
    ]

pub returns-clause-boards : goal.returns-clause-boards
unfolding untested untested_distances
returns-clause-boards c =
    let all : c.loop-m.m ≡ c.distances-end.result = omega arith in
    c.loop-m.invariant.boards ∙ rw (all, c.distances-end.ensures.number_of_distances)

pub returns-clause-ahead : goal.returns-clause-ahead
unfolding ahead untested_distances
returns-clause-ahead c =
    let all : c.loop-m.m ≡ c.distances-end.result = omega arith in
    c.loop-m.invariant.ahead ∙ rw (all, c.distances-end.ensures.number_of_distances)
