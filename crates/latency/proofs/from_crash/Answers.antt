-- The claims, each a law of proofs/.
use Rattle.latency.proofs.Lists.{known-from-any-moment}
use Rattle.latency.proofs.Drives.{drives-known-from-any-moment}
use Rattle.latency.proofs.LastCrash.{known-from-crash, mixed-known-from-crash}
use Rattle.latency.proofs.from_crash.Goals as goal

-- The law itself.
pub returns-clause-known_from_any_moment : goal.returns-clause-known_from_any_moment
returns-clause-known_from_any_moment c = known-from-any-moment

-- The law itself.
pub returns-clause-drives_known_from_any_moment : goal.returns-clause-drives_known_from_any_moment
returns-clause-drives_known_from_any_moment c = drives-known-from-any-moment

-- The law itself.
pub returns-clause-known_from_crash : goal.returns-clause-known_from_crash
returns-clause-known_from_crash c = known-from-crash

-- The law itself.
pub returns-clause-mixed_known_from_crash : goal.returns-clause-mixed_known_from_crash
returns-clause-mixed_known_from_crash c = mixed-known-from-crash
