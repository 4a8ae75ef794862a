-- A drive that is not refused at its start goes on, and stops.
use Rattle.std.proofs.Common.{rules, sym}
use Rattle.plant.specs.Entry.{state_with}
use Rattle.granter.proofs.DriveLaws.{drive-refused, drive-made}
use Rattle.granter.proofs.drive.drive.Goals as goal

pub returns-in-Err-clause-outcome : goal.returns-in-Err-clause-outcome
returns-in-Err-clause-outcome c =
    let a = c.args in
    sym (drive-refused a.wiring a.n (state_with a.table.now a.tally) a.last _ (sym c.in-Err.ensures.check))

pub returns-clause-outcome : goal.returns-clause-outcome
returns-clause-outcome c =
    let a = c.args in
    let o = c.in-Ok.ensures in
    let z = sym o.check in
    let s = rw (o.same_size, o.same_last) at c.drive_on.ensures.stopped in
    rw (← drive-made a.wiring a.n (state_with a.table.now a.tally) a.last _ z s, ← o.same_last, ← o.same_size) (search rules)
