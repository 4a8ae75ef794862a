-- The claims, each a law of proofs/.
use Rattle.accuracy.proofs.Claims.{runs-accurate, mixed-accurate, drives-tell-nobody}
use Rattle.accuracy.proofs.accuracy.Goals as goal

pub returns-clause-runs_accurate : goal.returns-clause-runs_accurate
returns-clause-runs_accurate c = runs-accurate

pub returns-clause-mixed_accurate : goal.returns-clause-mixed_accurate
returns-clause-mixed_accurate c = mixed-accurate

pub returns-clause-drives_tell_nobody : goal.returns-clause-drives_tell_nobody
returns-clause-drives_tell_nobody c = drives-tell-nobody
