-- Each claim is a law of the file that it is taken from.
use Rattle.single_crash.proofs.Drives.{drives-are-grants, rounds-by-drives}
use Rattle.single_crash.proofs.claims.drives.Goals as goal

-- The law itself.
pub returns-clause-drives_are_grants : goal.returns-clause-drives_are_grants
returns-clause-drives_are_grants c = drives-are-grants

-- The law itself.
pub returns-clause-rounds_by_drives : goal.returns-clause-rounds_by_drives
returns-clause-rounds_by_drives c = rounds-by-drives
