-- The claims, each a law of proofs/.
use Rattle.latency.proofs.Lists.{rounds-within-list, known-within, mixed-known-within}
use Rattle.latency.proofs.Drives.{drive-within, drives-known-within}
use Rattle.latency.proofs.from_round_start.Goals as goal

-- The law itself.
pub returns-clause-rounds_within : goal.returns-clause-rounds_within
returns-clause-rounds_within c = rounds-within-list

-- The law itself.
pub returns-clause-known_within : goal.returns-clause-known_within
returns-clause-known_within c = known-within

-- The law itself.
pub returns-clause-mixed_known_within : goal.returns-clause-mixed_known_within
returns-clause-mixed_known_within c = mixed-known-within

-- The law itself.
pub returns-clause-drive_within : goal.returns-clause-drive_within
returns-clause-drive_within c = drive-within

-- The law itself.
pub returns-clause-drives_known_within : goal.returns-clause-drives_known_within
returns-clause-drives_known_within c = drives-known-within
