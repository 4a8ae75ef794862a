-- The claims, each a law of proofs/.
use Rattle.single_crash.proofs.CubeKnown.{cube-in-grants, cube-in-rounds}
use Rattle.single_crash.proofs.CubeReach.{cube-no-fewer-grants, cube-no-fewer-rounds}
use Rattle.single_crash.proofs.cube.one_dead_on_cube.Goals as goal

-- The law itself.
pub returns-clause-in_grants : goal.returns-clause-in_grants
returns-clause-in_grants c = cube-in-grants

-- The law itself.
pub returns-clause-in_rounds : goal.returns-clause-in_rounds
returns-clause-in_rounds c = cube-in-rounds

-- The law itself.
pub returns-clause-no_fewer_grants : goal.returns-clause-no_fewer_grants
returns-clause-no_fewer_grants c = cube-no-fewer-grants

-- The law itself.
pub returns-clause-no_fewer_rounds : goal.returns-clause-no_fewer_rounds
returns-clause-no_fewer_rounds c = cube-no-fewer-rounds
