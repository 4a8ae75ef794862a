-- The claims, each a law of proofs/.
use Rattle.board_detection.proofs.Computed.{four-boards, four-on-ring}
use Rattle.board_detection.proofs.claims.examples.Goals as goal

-- The claim is computed in proofs/Computed.antt.
pub returns-clause-four_boards : goal.returns-clause-four_boards
returns-clause-four_boards c = four-boards

-- The claim is computed in proofs/Computed.antt.
pub returns-clause-four_on_ring : goal.returns-clause-four_on_ring
returns-clause-four_on_ring c = four-on-ring
