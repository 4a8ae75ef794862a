-- The claims, each a law of proofs/.
use Rattle.cable.proofs.RunByCalls.{boards-do-the-run}
use Rattle.cable.proofs.HoldLaws.{lines-are-held}
use Rattle.cable.proofs.TableOf.{boards-make-a-table}
use Rattle.cable.proofs.claims.boards_by_runs.Goals as goal

-- The law itself.
pub returns-clause-boards_do_the_run : goal.returns-clause-boards_do_the_run
returns-clause-boards_do_the_run c = boards-do-the-run

-- The law itself.
pub returns-clause-lines_are_held : goal.returns-clause-lines_are_held
returns-clause-lines_are_held c = lines-are-held

-- The law itself.
pub returns-clause-boards_make_a_table : goal.returns-clause-boards_make_a_table
returns-clause-boards_make_a_table c = boards-make-a-table
