-- What is wrong with the word, or the row in which its board is dead too.
use Rattle.sheet.proofs.NamedLaws.{row_with-none, row_with-past, row_with-again, row_with-dead}
use Rattle.sheet.proofs.boards.Plant.name_dead.Goals as goal

pub returns-in_default-clause-row : goal.returns-in_default-clause-row
returns-in_default-clause-row c = row_with-none _ _ _ _ _ c.in_default.ensures.value c.saturating_sub-last.ensures

pub returns-then-self-board-clause-row : goal.returns-then-self-board-clause-row
returns-then-self-board-clause-row c = row_with-past _ _ _ _ _ c.in-Some.ensures.value _ c.if-self-board.true c.saturating_sub-last.ensures

pub returns-then-self-board-ne0-clause-row : goal.returns-then-self-board-ne0-clause-row
returns-then-self-board-ne0-clause-row c = row_with-again _ _ _ _ _ c.in-Some.ensures.value c.if-self-board.false c.if-self-board-ne0.true

pub returns-clause-row : goal.returns-clause-row
returns-clause-row c = row_with-dead _ _ _ _ _ c.in-Some.ensures.value c.if-self-board.false c.if-self-board-ne0.false
