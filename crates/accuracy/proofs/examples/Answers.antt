-- Computed in proofs/Computed.antt.
use Rattle.accuracy.proofs.Computed.{one-of-eight, two-of-two}
use Rattle.accuracy.proofs.examples.Goals as goal

pub returns-clause-one_of_eight : goal.returns-clause-one_of_eight
returns-clause-one_of_eight c = one-of-eight

pub returns-clause-two_of_two : goal.returns-clause-two_of_two
returns-clause-two_of_two c = two-of-two
