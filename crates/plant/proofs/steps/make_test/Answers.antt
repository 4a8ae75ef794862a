-- The station tested is another one of the plant.
use Rattle.std.proofs.Common.{◌∙◌, arith}
use Rattle.table.proofs.Accepting.{accepted}
use Rattle.table.proofs.WiringLaws.{size-end}
use Rattle.table.proofs.CellLaws.{accepted-line}
use Rattle.station.proofs.WiredLaws.{station-apart}
use Rattle.plant.specs.Turn.{after_test, testing}
use Rattle.plant.proofs.steps.make_test.Goals as goal

pub station_at-j-requires : goal.station_at-j-requires
station_at-j-requires c =
    let p = c.requires in
    let w = c.of.ensures in
    let r = c.read-lent.ensures in
    record { station = rw (w.same_size, r.same_size) p.tester_below; distance = rw (w.same_end, r.same_end) p.distance_below }

pub test_outcome-outcome-requires : goal.test_outcome-outcome-requires
test_outcome-outcome-requires c =
    let p = c.requires in
    let r = c.read-lent.ensures in
    let w = c.of.ensures in
    let j = rw (w.same_wiring, r.same_wiring, w.same_size, r.same_size) at c.station_at-j.ensures in
    record { tester_below = rw r.same_size p.tester_below; tested_below = rw (r.same_size, j) p.tested_below }

pub count_test-requires : goal.count_test-requires
count_test-requires c =
    let w = c.args.table.now.wiring in
    let a = c.args.table.now in
    let p = c.requires in
    let t = accepted w a.n a.bytes.now p.table_obeys in
    let l = accepted-line w a.n a.bytes.now t c.args.i.0 p.tester_below in
    let end = size-end w a.n t.size in
    let last = a.last_of_pass in
    record {
      line = p.tester_below;
      distance_fits = omega (arith, end, last, p.distance_below);
      tests_fit = omega (arith, end, l.pass.tests_bound, l.pass.next_high);
    }

pub apply_outcome-requires : goal.apply_outcome-requires
apply_outcome-requires c =
    let w = c.args.table.now.wiring in
    let a = c.args in
    let p = c.requires in
    let n = c.count_test.ensures.same_loan.size in
    let r = c.read-lent.ensures in
    let v = c.of.ensures in
    let j = rw (v.same_wiring, r.same_wiring, v.same_size, r.same_size) at c.station_at-j.ensures in
    let e = c.test_outcome-outcome.ensures.tested_station ∙ j in
    let last = a.table.now.last_of_pass in
    record {
      tester_below = rw n p.tester_below;
      tested_below = rw (n, e) p.tested_below;
      apart = λ q. station-apart w a.table.now.n a.i.0 a.m.0 p.tester_below p.distance_above_0 (omega (arith, last, p.distance_below)) (q ∙ e);
    }

pub leave_if_alone-requires : goal.leave_if_alone-requires
leave_if_alone-requires c = rw (c.apply_outcome.ensures.same_loan.size, c.count_test.ensures.same_loan.size) c.requires.tester_below

pub returns-clause-tested_station : goal.returns-clause-tested_station
returns-clause-tested_station c =
    let r = c.read-lent.ensures in
    let w = c.of.ensures in
    c.test_outcome-outcome.ensures.tested_station ∙ rw (w.same_wiring, r.same_wiring, w.same_size, r.same_size) at c.station_at-j.ensures

pub returns-clause-outcome_number : goal.returns-clause-outcome_number
returns-clause-outcome_number c =
    let o = c.test_outcome-outcome.ensures in
    let r = c.read-lent.ensures in
    let w = c.of.ensures in
    let j = rw (w.same_wiring, r.same_wiring, w.same_size, r.same_size) at c.station_at-j.ensures in
    rw (o.outcome_number, r.same_size, r.same_bytes, j)

pub returns-clause-test_made : goal.returns-clause-test_made
unfolding testing after_test
returns-clause-test_made c =
    let o = c.test_outcome-outcome.ensures in
    let a = c.apply_outcome.ensures in
    let t = c.count_test.ensures in
    let r = c.read-lent.ensures in
    let w = c.of.ensures in
    let j = rw (w.same_wiring, r.same_wiring, w.same_size, r.same_size) at c.station_at-j.ensures in
    rw (
      c.leave_if_alone.ensures.left_if_alone,
      a.same_loan.size,
      a.outcome_applied,
      t.same_loan.size,
      t.test_counted,
      o.tested_station,
      o.outcome_number,
      r.same_size,
      r.same_bytes,
      j,
    )
