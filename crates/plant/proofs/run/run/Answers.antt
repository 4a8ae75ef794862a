-- A run that is not refused at its start goes on with the entries.
use Rattle.std.proofs.Common.{rules, sym}
use Rattle.plant.specs.Entry.{state_with}
use Rattle.plant.proofs.RunLaws.{run-refused, run-goes}
use Rattle.plant.proofs.run.run.Goals as goal

pub returns-in-Err : goal.returns-in-Err
returns-in-Err c =
    let a = c.args in
    sym (run-refused a.wiring a.n (state_with a.table.now a.tally) a.schedule.now a.sheet.now _ (sym c.in-Err.ensures.check))

pub go_on-requires : goal.go_on-requires
go_on-requires c = rw (c.in-Ok.ensures.same_size) (sym c.in-Ok.ensures.check)

pub returns : goal.returns
returns c =
    let a = c.args in
    let z = sym c.in-Ok.ensures.check in
    rw (
      run-goes a.wiring a.n (state_with a.table.now a.tally) a.schedule.now a.sheet.now z,
      ← c.in-Ok.ensures.same_size,
    ) (search rules)
