-- The claims, each a law of proofs/.
use Rattle.detection.proofs.ReplyEffect.{reply-ends}
use Rattle.detection.proofs.claims.reply_ends.Goals as goal

pub returns : goal.returns
returns c = reply-ends
