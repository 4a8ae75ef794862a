-- The plants of specs/Example.antt, computed by the definitions.
-- Assumes nothing.
use mathlib.Core.Path.{refl}
use Rattle.plant.proofs.WholeRun.{whole_run}
use Rattle.detection.specs.Runs.{taken_from, taken_by}
use Rattle.detection.specs.Rounds.{any_taken, count_taken}
use Rattle.accuracy.specs.Cause.{late_of}
use Rattle.accuracy.specs.Example.{OneOfEight, TwoOfTwo}

pub one-of-eight : OneOfEight
unfolding whole_run taken_from taken_by any_taken count_taken late_of
one-of-eight = record { sheet = refl; left = refl; teller = refl; late = refl; others = refl }

pub two-of-two : TwoOfTwo
unfolding whole_run taken_from taken_by any_taken count_taken late_of
two-of-two = record { on_cube = refl; on_ring = refl; late = refl; whose = refl }
