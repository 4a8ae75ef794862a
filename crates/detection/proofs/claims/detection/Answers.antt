-- The claims, each a law of proofs/.
use Rattle.detection.proofs.DetectionClaim.{detection-in-square, detection-in-triangle, detection-in-worst-case}
use Rattle.detection.proofs.FreshStart.{fresh-accepted, fresh-premises}
use Rattle.detection.proofs.claims.detection.Goals as goal

pub returns-clause-detection_in_square : goal.returns-clause-detection_in_square
returns-clause-detection_in_square c = detection-in-square

pub returns-clause-detection_in_triangle : goal.returns-clause-detection_in_triangle
returns-clause-detection_in_triangle c = detection-in-triangle

pub returns-clause-detection_in_worst_case : goal.returns-clause-detection_in_worst_case
returns-clause-detection_in_worst_case c = detection-in-worst-case

pub returns-clause-fresh_is_accepted : goal.returns-clause-fresh_is_accepted
returns-clause-fresh_is_accepted c w n wired size = fresh-accepted n w wired size

pub returns-clause-fresh_meets_premises : goal.returns-clause-fresh_meets_premises
returns-clause-fresh_meets_premises c = fresh-premises
