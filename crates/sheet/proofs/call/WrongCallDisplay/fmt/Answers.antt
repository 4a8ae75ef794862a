-- Two numbers are written.
use Rattle.sheet.proofs.call.WrongCallDisplay.fmt.Goals as goal

pub returns-in-NotABoard-clause-writes : goal.returns-in-NotABoard-clause-writes
returns-in-NotABoard-clause-writes g c = rw c.in-NotABoard.is c.write-in-NotABoard.ensures.writes
