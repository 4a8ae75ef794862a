-- The rest of a run of one entry is that entry.
use Rattle.std.proofs.Common.{ap, ◌∙◌}
use Rattle.plant.specs.Run.{RunResult}
use Rattle.plant.proofs.RunLaws.{start-one, go-one}
use Rattle.plant.proofs.single.take_turn.Goals as goal

pub go_on-ran-requires : goal.go_on-ran-requires
go_on-ran-requires c = rw c.bytes.ensures (start-one _ _ _ c.requires.table_obeys)

pub returns-clause-state_after : goal.returns-clause-state_after
returns-clause-state_after c =
    let run = rw c.bytes.ensures at c.go_on-ran.ensures.run in
    ap (λ (o : RunResult). o.state) run ∙ go-one _ _ _ _ _ _ c.requires.turn_taken
