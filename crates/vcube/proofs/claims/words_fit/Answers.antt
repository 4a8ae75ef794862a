-- The claims, each a law of proofs/Fitting.antt.
use Rattle.lists.specs.Refusal.{refusal_with}
use Rattle.table.specs.Status.{status_of}
use Rattle.station.specs.Outcome.{outcome_with}
use Rattle.vcube.proofs.Fitting.{some-refusal-fits, some-status-fits, some-outcome-fits}
use Rattle.vcube.proofs.claims.words_fit.Goals as goal

pub returns-clause-refusals : goal.returns-clause-refusals
returns-clause-refusals c number = some-refusal-fits (refusal_with number)

pub returns-clause-statuses : goal.returns-clause-statuses
returns-clause-statuses c number = some-status-fits (status_of number)

pub returns-clause-outcomes : goal.returns-clause-outcomes
returns-clause-outcomes c number = some-outcome-fits (outcome_with number _)
