-- Each claim is a law of the file that it is taken from.
use Rattle.single_crash.proofs.RingKnown.{ring-in-grants, ring-in-rounds}
use Rattle.single_crash.proofs.RingReach.{ring-no-fewer-grants, ring-no-fewer-rounds}
use Rattle.single_crash.proofs.ring.one_dead_on_ring.Goals as goal

-- The law itself.
pub returns-clause-in_grants : goal.returns-clause-in_grants
returns-clause-in_grants c = ring-in-grants

-- The law itself.
pub returns-clause-in_rounds : goal.returns-clause-in_rounds
returns-clause-in_rounds c = ring-in-rounds

-- The law itself.
pub returns-clause-no_fewer_grants : goal.returns-clause-no_fewer_grants
returns-clause-no_fewer_grants c = ring-no-fewer-grants

-- The law itself.
pub returns-clause-no_fewer_rounds : goal.returns-clause-no_fewer_rounds
returns-clause-no_fewer_rounds c = ring-no-fewer-rounds
