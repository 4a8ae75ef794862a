-- The claim is a law of the file that it is taken from.
use Rattle.single_crash.proofs.SweepLaw.{grants-go-in-sweeps}
use Rattle.single_crash.proofs.claims.sweeps.Goals as goal

-- The law itself.
pub returns : goal.returns
returns c = record { in_sweeps = grants-go-in-sweeps }
