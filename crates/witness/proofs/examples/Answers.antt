-- The claims, each a law of proofs/.
use Rattle.witness.proofs.Witness.{witness, witness-3, witness-ring}
use Rattle.witness.proofs.examples.Goals as goal

pub returns-clause-four_boards : goal.returns-clause-four_boards
returns-clause-four_boards c = witness

pub returns-clause-three_boards : goal.returns-clause-three_boards
returns-clause-three_boards c = witness-3

pub returns-clause-four_on_ring : goal.returns-clause-four_on_ring
returns-clause-four_on_ring c = witness-ring
