-- One board more is written, if it is dead.
use Rattle.std.proofs.Common.{arith}
use Rattle.std.proofs.lemmas.Grind.{common_steps}
use Rattle.sheet.proofs.PrintLaws.{dead_next}
use Rattle.sheet.proofs.sheet.write_dead.Goals as goal

pub loop-board-preserved : goal.loop-board-preserved
loop-board-preserved g c = grind (arith, common_steps, dead_next c.args.row.now c.loop-board.board c.loop-board-test.true)
