-- Each claim is a law of the file that it is taken from, within each of the bounds.
use Rattle.detection.specs.Claim.{square_rounds, triangle_rounds, worst_rounds}
use Rattle.detection.proofs.DetectionClaim.{detection-in-square, detection-in-triangle, detection-in-worst-case}
use Rattle.detection.proofs.DriveRuns.{drive-is-turns}
use Rattle.detection.proofs.DrivenDetection.{mixed-detection, driven-detection}
use Rattle.detection.proofs.claims.driven.Goals as goal

pub returns-clause-drive_is_turns : goal.returns-clause-drive_is_turns
returns-clause-drive_is_turns c = drive-is-turns

pub returns-clause-mixed_in_square : goal.returns-clause-mixed_in_square
returns-clause-mixed_in_square c = mixed-detection square_rounds detection-in-square

pub returns-clause-mixed_in_triangle : goal.returns-clause-mixed_in_triangle
returns-clause-mixed_in_triangle c = mixed-detection triangle_rounds detection-in-triangle

pub returns-clause-mixed_in_worst_case : goal.returns-clause-mixed_in_worst_case
returns-clause-mixed_in_worst_case c = mixed-detection worst_rounds detection-in-worst-case

pub returns-clause-driven_in_square : goal.returns-clause-driven_in_square
returns-clause-driven_in_square c = driven-detection square_rounds detection-in-square

pub returns-clause-driven_in_triangle : goal.returns-clause-driven_in_triangle
returns-clause-driven_in_triangle c = driven-detection triangle_rounds detection-in-triangle

pub returns-clause-driven_in_worst_case : goal.returns-clause-driven_in_worst_case
returns-clause-driven_in_worst_case c = driven-detection worst_rounds detection-in-worst-case
