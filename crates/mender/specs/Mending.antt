-- A table on its way to the mended one.
-- Assumes nothing.
use Rattle.std.specs.Prelude.{ℕ, ◌+◌, ◌*◌, ◌≡◌, List, if◌then◌else◌, ◌==◌}
use Rattle.std.proofs.lemmas.List.Edits.{sets}
use Rattle.mender.specs.declared.report.Change.{Change}
use Rattle.mender.specs.declared.mending.Mending.{Mending}
use Rattle.mender.specs.Report.{change_bytes}

-- it stays the same lent memory, of the same wiring and size
pub record IsSameMending (old new : Mending) : Type 0 where
  pub wiring : new.wiring ≡ old.wiring
  pub size : new.n ≡ old.n
  pub table_reference : new.table.ghost_name ≡ old.table.ghost_name
  pub report_reference : new.report.ghost_name ≡ old.report.ghost_name

-- a report of so many changes with one more, if that changes the byte
abbrev pub with_change : List ℕ → ℕ → Change → List ℕ
with_change report count c = if c.before == c.after then report else sets report (4 * count) (change_bytes c)

abbrev pub count_with : ℕ → Change → ℕ
count_with count c = if c.before == c.after then count else count + 1
