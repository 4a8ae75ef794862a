-- Computed in proofs/Computed.antt.
use Rattle.dead_lines.proofs.Computed.{worked-pair, each-is-needed}
use Rattle.dead_lines.proofs.examples.Goals as goal

pub returns-clause-worked_pair : goal.returns-clause-worked_pair
returns-clause-worked_pair c = worked-pair

pub returns-clause-each_is_needed : goal.returns-clause-each_is_needed
returns-clause-each_is_needed c = each-is-needed
