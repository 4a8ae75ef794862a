-- Both ways are laws of the lamp.
use Rattle.lamp.proofs.DoubtLaws.{out-is, is-out}
use Rattle.lamp.proofs.claims.out_if_accurate.Goals as goal

pub returns : goal.returns
returns c w n t = (out-is w n t, λ e. is-out w n t e.0 e.1)
