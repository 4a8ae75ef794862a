-- The claims, each a law of proofs/.
use Rattle.plant.proofs.RulesKept.{empty-run, run-keeps-rules}
use Rattle.plant.proofs.claims.runs.Goals as goal

pub returns-clause-empty_run : goal.returns-clause-empty_run
returns-clause-empty_run c = empty-run

pub returns-clause-run_keeps_rules : goal.returns-clause-run_keeps_rules
returns-clause-run_keeps_rules c = run-keeps-rules
