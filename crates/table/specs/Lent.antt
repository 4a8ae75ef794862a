-- What holds of a lent table that is written: it stays the same lent memory, of the same wiring and size.
-- Assumes nothing.
use Rattle.std.specs.Prelude.{◌≡◌}
use Rattle.table.specs.declared.lent.TableMut.{TableMut}

pub record IsSameLoan (old new : TableMut) : Type 0 where
  pub reference : new.bytes.ghost_name ≡ old.bytes.ghost_name
  pub wiring : new.wiring ≡ old.wiring
  pub size : new.n ≡ old.n
