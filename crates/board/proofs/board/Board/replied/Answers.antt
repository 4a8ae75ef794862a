-- The board tested is one of the plant.
use Rattle.std.proofs.Common.{arith}
use Rattle.board.proofs.NextLaws.{next-station}
use Rattle.board.proofs.board.Board.replied.Goals as goal

pub outcome_of-outcome-requires-clause-other : goal.outcome_of-outcome-requires-clause-other
outcome_of-outcome-requires-clause-other c =
    let b = c.args.self in
    let m = c.next_test-m.ensures in
    rw (c.station_at.ensures, m)
    (next-station b.wired.wiring b.wired.n b.own.0 c.args.line.now c.requires.fits b.below
    (omega (arith, m, b.wired.last_of_pass, c.if-self-m.false)))

pub apply_outcome-requires-clause-other : goal.apply_outcome-requires-clause-other
apply_outcome-requires-clause-other c =
    let b = c.args.self in
    let m = c.next_test-m.ensures in
    rw (c.outcome_of-outcome.ensures.tested_station, c.station_at.ensures, m)
    (next-station b.wired.wiring b.wired.n b.own.0 c.args.line.now c.requires.fits b.below
    (omega (arith, m, b.wired.last_of_pass, c.if-self-m.false)))
