-- The law itself.
use Rattle.latency.proofs.RowFigures.{figures-cover}
use Rattle.latency.proofs.turns.figures_cover.Goals as goal

pub returns : goal.returns
returns c = figures-cover
