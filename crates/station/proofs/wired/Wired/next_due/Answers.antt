-- The scan answers the next test of the cube; on the ring it is the next distance.
use Rattle.std.proofs.Common.{refl, sym}
use Rattle.station.proofs.WiredLaws.{cube-next_due, ring-next_due}
use Rattle.station.proofs.wired.Wired.next_due.Goals as goal

pub returns-in-Cube : goal.returns-in-Cube
returns-in-Cube c =
    let w = c.args.self in
    let next = cube-next_due w.wiring w.n c.args.row.now c.args.i.0 c.args.next.0 (rw c.in-Cube.is refl) in
    rw (next, ← w.last_of_pass) c.scan.ensures

pub returns-in-Ring : goal.returns-in-Ring
returns-in-Ring c =
    let w = c.args.self in
    sym (ring-next_due w.wiring w.n c.args.row.now c.args.i.0 c.args.next.0 (rw c.in-Ring.is refl))
