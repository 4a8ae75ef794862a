-- The round of specs/Example.antt, computed by the definitions.
-- Assumes nothing.
use mathlib.Core.Path.{refl}
use Rattle.plant.specs.Example.{RoundOnTheRing}
use Rattle.plant.proofs.WholeRun.{whole_run}

pub round-on-the-ring : RoundOnTheRing
unfolding whole_run
round-on-the-ring = refl
