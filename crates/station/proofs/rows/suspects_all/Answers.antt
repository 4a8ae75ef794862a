-- The test stops at a station that is not suspected.
use Rattle.std.proofs.Common.{ap, not}
use Rattle.lists.proofs.Loops.{every-stop}
use Rattle.station.proofs.rows.suspects_all.Goals as goal

pub returns-then-not-self_or_suspected : goal.returns-then-not-self_or_suspected
returns-then-not-self_or_suspected c =
    every-stop _ _ _ _ c.loop-k-test.true c.self_or_suspected.ensures (ap not c.if-not-self_or_suspected.true)
