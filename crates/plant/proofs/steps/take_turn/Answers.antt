-- The next distance is at least 1, and a test is made where the distance found is below the end distance.
use Rattle.std.proofs.Common.{refl, arith}
use borrow.Author.Tests.{lt-ltb, le-ltb}
use Rattle.table.proofs.Accepting.{accepted}
use Rattle.table.proofs.CellLaws.{accepted-line}
use Rattle.plant.specs.Turn.{makes_test, turn, turn_tested, turn_outcome}
use Rattle.plant.proofs.NextTest.{next_test-low, test-station}
use Rattle.plant.proofs.steps.take_turn.Goals as goal

pub next_test-m-requires : goal.next_test-m-requires
next_test-m-requires c =
    let r = c.read.ensures in
    rw r.same_size c.requires.station_below

pub returns-then-table-m : goal.returns-then-table-m
unfolding turn turn_tested turn_outcome makes_test
returns-then-table-m c =
    let r = c.read.ensures in
    let m = rw (r.same_wiring, r.same_size, r.same_bytes) at c.next_test-m.ensures in
    let end = c.args.table.now.last_of_pass in
    let e = le-ltb _ _ (rw end at c.if-table-m.true) in
    let f = c.finish_pass.ensures in
    rw (← m, e) (record { tested_station = refl; outcome_number = refl; same_loan = f.same_loan; turn_made = f.pass_finished })

pub make_test-requires : goal.make_test-requires
unfolding makes_test
make_test-requires c =
    let w = c.args.table.now.wiring in
    let a = c.args.table.now in
    let i = c.args.i.0 in
    let p = c.requires in
    let r = c.read.ensures in
    let t = accepted w a.n a.bytes.now p.table_obeys in
    let l = accepted-line w a.n a.bytes.now t i p.station_below in
    let m = rw (r.same_wiring, r.same_size, r.same_bytes) at c.next_test-m.ensures in
    let end = a.last_of_pass in
    let e = lt-ltb _ _ (rw (end, m) at c.if-table-m.false) in
    record {
      table_obeys = p.table_obeys;
      tester_below = p.station_below;
      distance_above_0 = omega (arith, m, next_test-low w a.n a.bytes.now i, l.pass.next_low);
      distance_below = c.if-table-m.false;
      tested_below = rw m (test-station w a.n a.bytes.now i e t.long p.station_below);
    }

pub returns : goal.returns
unfolding turn turn_tested turn_outcome makes_test
returns c =
    let r = c.read.ensures in
    let m = rw (r.same_wiring, r.same_size, r.same_bytes) at c.next_test-m.ensures in
    let end = c.args.table.now.last_of_pass in
    let e = lt-ltb _ _ (rw end at c.if-table-m.false) in
    let o = c.make_test.ensures in
    rw (← m, e) (record { tested_station = o.tested_station; outcome_number = o.outcome_number; same_loan = o.same_loan; turn_made = o.test_made })
