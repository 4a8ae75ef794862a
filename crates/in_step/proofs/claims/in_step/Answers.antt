-- The claims, each a law of proofs/.
use Rattle.in_step.proofs.Kept.{boards-in-step}
use Rattle.in_step.proofs.OfRuns.{causes-in-step, wait-in-step}
use Rattle.in_step.proofs.GetInForce.{entries-get-in-force}
use Rattle.in_step.proofs.claims.in_step.Goals as goal

-- By what holds whatever happens.
pub returns-clause-boards_in_step : goal.returns-clause-boards_in_step
returns-clause-boards_in_step c = boards-in-step

-- By what is proved of runs.
pub returns-clause-causes_in_step : goal.returns-clause-causes_in_step
returns-clause-causes_in_step c = causes-in-step

-- By what is proved of runs.
pub returns-clause-wait_in_step : goal.returns-clause-wait_in_step
returns-clause-wait_in_step c = wait-in-step

-- By the happenings of each entry.
pub returns-clause-entries_get_in_force : goal.returns-clause-entries_get_in_force
returns-clause-entries_get_in_force c = entries-get-in-force
