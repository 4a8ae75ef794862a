-- The claims, each a law of proofs/.
use Rattle.plant.proofs.Computed.{round-on-the-ring}
use Rattle.plant.proofs.claims.round_on_the_ring.Goals as goal

-- The round is computed in proofs/Computed.antt.
pub returns : goal.returns
returns c = round-on-the-ring
