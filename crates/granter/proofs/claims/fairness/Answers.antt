-- The claims, each a law of proofs/.
use Rattle.granter.proofs.Fair.{next-going-round, bounded-waiting}
use Rattle.granter.proofs.claims.fairness.Goals as goal

pub returns-clause-next_going_round : goal.returns-clause-next_going_round
returns-clause-next_going_round c = next-going-round

pub returns-clause-bounded_waiting : goal.returns-clause-bounded_waiting
returns-clause-bounded_waiting c = bounded-waiting
