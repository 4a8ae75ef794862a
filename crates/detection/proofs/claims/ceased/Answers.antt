-- The claims, each a law of proofs/.
use Rattle.detection.proofs.Fates.{teller-is-named}
use Rattle.detection.proofs.ExitRecord.{exits-recorded, mixed-exits-recorded}
use Rattle.detection.proofs.claims.ceased.Goals as goal

pub returns-clause-teller_is_named : goal.returns-clause-teller_is_named
returns-clause-teller_is_named c = teller-is-named

pub returns-clause-exits_recorded : goal.returns-clause-exits_recorded
returns-clause-exits_recorded c = exits-recorded

pub returns-clause-mixed_exits_recorded : goal.returns-clause-mixed_exits_recorded
returns-clause-mixed_exits_recorded c = mixed-exits-recorded
