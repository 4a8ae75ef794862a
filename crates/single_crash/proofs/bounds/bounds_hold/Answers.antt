-- The claim, a law of proofs/.
use Rattle.single_crash.proofs.BoundLaws.{bounds-hold}
use Rattle.single_crash.proofs.bounds.bounds_hold.Goals as goal

pub returns : goal.returns
returns c = bounds-hold
