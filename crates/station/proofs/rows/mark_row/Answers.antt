-- The byte is put there.
use Rattle.station.specs.Rows.{mark}
use Rattle.station.proofs.rows.mark_row.Goals as goal

pub returns : goal.returns
unfolding mark
returns c = c.put.ensures
