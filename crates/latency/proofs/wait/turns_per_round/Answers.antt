-- On the cube the turns are those by the row of the dead boards.
use Rattle.std.proofs.Common.{◌∙◌, ap, sym}
use Rattle.latency.specs.Turns.{turns_by_row}
use Rattle.latency.proofs.WaitLaws.{turns-on-cube}
use Rattle.latency.proofs.wait.turns_per_round.Goals as goal

pub returns-in-Cube-clause-turns : goal.returns-in-Cube-clause-turns
returns-in-Cube-clause-turns c =
    let t = c.args.table.now in
    let row = c.deref.ensures.0 ∙ c.dead_row.ensures in
    c.turns_by_row.ensures.turns ∙ (ap (turns_by_row t.n) row ∙ rw c.in-Cube.is (sym (turns-on-cube t.n t.bytes.now t.sized)))
