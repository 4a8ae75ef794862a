-- The claims, each a law of proofs/.
use Rattle.lamp_claims.proofs.StaysOutLaws.{out-meets-premises, out-begins-wait, stays-out, mixed-stays-out}
use Rattle.detection.specs.Claim.{worst_rounds}
use Rattle.detection.proofs.DetectionClaim.{detection-in-worst-case}
use Rattle.lamp_claims.proofs.lamp_is_out.Goals as goal

-- The law itself.
pub returns-clause-out_meets_premises : goal.returns-clause-out_meets_premises
returns-clause-out_meets_premises c = out-meets-premises

-- Detection within the worst case, by the law.
pub returns-clause-out_begins_wait : goal.returns-clause-out_begins_wait
returns-clause-out_begins_wait c = out-begins-wait worst_rounds detection-in-worst-case

-- The law itself.
pub returns-clause-stays_out : goal.returns-clause-stays_out
returns-clause-stays_out c = stays-out

-- The law itself.
pub returns-clause-mixed_stays_out : goal.returns-clause-mixed_stays_out
returns-clause-mixed_stays_out c = mixed-stays-out
