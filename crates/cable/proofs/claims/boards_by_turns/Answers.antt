-- The claims, each a law of proofs/.
use Rattle.cable.proofs.TurnByLines.{same-turn}
use Rattle.cable.proofs.OneEquation.{turn-is-by-lines}
use Rattle.cable.proofs.ClosingByLines.{boards-close}
use Rattle.cable.proofs.RowsSent.{either-row-serves, rows-travel}
use Rattle.cable.proofs.LineFacts.{lines-of-tables}
use Rattle.cable.proofs.FreshLines.{fresh-boards}
use Rattle.cable.proofs.claims.boards_by_turns.Goals as goal

-- The law itself.
pub returns-clause-boards_do_the_turn : goal.returns-clause-boards_do_the_turn
returns-clause-boards_do_the_turn c = same-turn

-- The law itself.
pub returns-clause-turn_is_by_lines : goal.returns-clause-turn_is_by_lines
returns-clause-turn_is_by_lines c = turn-is-by-lines

-- The law itself.
pub returns-clause-boards_close_the_round : goal.returns-clause-boards_close_the_round
returns-clause-boards_close_the_round c = boards-close

-- The law itself.
pub returns-clause-either_row_serves : goal.returns-clause-either_row_serves
returns-clause-either_row_serves c = either-row-serves

-- The law itself.
pub returns-clause-rows_travel : goal.returns-clause-rows_travel
returns-clause-rows_travel c = rows-travel

-- The law itself.
pub returns-clause-lines_of_tables : goal.returns-clause-lines_of_tables
returns-clause-lines_of_tables c = lines-of-tables

-- The law itself.
pub returns-clause-fresh_boards : goal.returns-clause-fresh_boards
returns-clause-fresh_boards c = fresh-boards
