-- The worst-case latency is reached on each wiring: an end in itself.
-- Assumes nothing.
use Rattle.table.specs.declared.wiring.Wiring.TheVariants.{Cube, Ring}
use Rattle.witness.specs.WorstCase.{WorstCaseIsReached}
use Rattle.witness.proofs.Slowest.{cube-reached}
use Rattle.witness.proofs.SlowRing.{ring-reached}

pub worst-case-is-reached : WorstCaseIsReached
worst-case-is-reached Cube n size three = cube-reached n size three
worst-case-is-reached Ring n size three = ring-reached n size three
