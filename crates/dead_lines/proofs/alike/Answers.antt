-- The claims, each a law of proofs/.
use Rattle.dead_lines.proofs.RunAlike.{run-of-alike, runs-of-alike}
use Rattle.dead_lines.proofs.DriveAlike.{grant-of-alike, drive-of-alike, mixed-of-alike}
use Rattle.dead_lines.proofs.alike.Goals as goal

pub returns-clause-run_of_alike : goal.returns-clause-run_of_alike
returns-clause-run_of_alike c = run-of-alike

pub returns-clause-grant_of_alike : goal.returns-clause-grant_of_alike
returns-clause-grant_of_alike c = grant-of-alike

pub returns-clause-drive_of_alike : goal.returns-clause-drive_of_alike
returns-clause-drive_of_alike c = drive-of-alike

pub returns-clause-runs_of_alike : goal.returns-clause-runs_of_alike
returns-clause-runs_of_alike c = runs-of-alike

pub returns-clause-mixed_of_alike : goal.returns-clause-mixed_of_alike
returns-clause-mixed_of_alike c = mixed-of-alike
