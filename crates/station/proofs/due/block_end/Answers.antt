-- Distance 0 is alone in its block.
use Rattle.std.proofs.Common.{sym}
use Rattle.station.proofs.AheadLaws.{block-zero}
use Rattle.station.proofs.due.block_end.Goals as goal

pub returns-then-m-eq0 : goal.returns-then-m-eq0
returns-then-m-eq0 c = rw c.if-m-eq0.true (sym block-zero)
