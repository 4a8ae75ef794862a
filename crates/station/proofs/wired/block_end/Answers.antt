-- The end of a block is the definition's own term.
use Rattle.std.proofs.Common.{refl}
use Rattle.station.specs.Ahead.{block_end}
use Rattle.station.proofs.wired.block_end.Goals as goal

pub returns : goal.returns
unfolding block_end
returns c = refl
