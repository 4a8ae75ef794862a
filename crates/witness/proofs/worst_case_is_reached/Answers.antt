-- The claims, each a law of proofs/.
use Rattle.witness.proofs.Reached.{worst-case-is-reached}
use Rattle.witness.proofs.worst_case_is_reached.Goals as goal

pub returns : goal.returns
returns c = worst-case-is-reached
