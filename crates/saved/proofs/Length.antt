-- The length of a saved plant.
-- Assumes nothing.
use Rattle.table.proofs.Accepting.{accepted}
use Rattle.table.specs.declared.wiring.Wiring.TheVariants.{Cube}
use Rattle.saved.proofs.SaveLaws.{length-saved}
use Rattle.saved.specs.Restoring.{SavedLength}

pub saved-length : SavedLength
saved-length n t tally z = length-saved n t (accepted Cube n t z).long tally
