-- The claims, each a law of proofs/.
use Rattle.saved.proofs.Examples.{two-boards, examples-hold, conversions, old-examples-hold}
use Rattle.saved.proofs.claims.examples.Goals as goal

pub returns-clause-two_boards : goal.returns-clause-two_boards
returns-clause-two_boards c = two-boards

pub returns-clause-examples_hold : goal.returns-clause-examples_hold
returns-clause-examples_hold c = examples-hold

pub returns-clause-conversions : goal.returns-clause-conversions
returns-clause-conversions c = conversions

pub returns-clause-old_examples_hold : goal.returns-clause-old_examples_hold
returns-clause-old_examples_hold c = old-examples-hold
