-- The two bytes of the entry stand in the part that was written.
use Rattle.std.proofs.Common.{ℕ, ◌+◌, ◌-◌, ◌*◌, List, [], ◌∷◌, arith}
use Rattle.std.proofs.lemmas.Slice.{take-put_mid, drop-put_mid}
use Rattle.plant.specs.Kind.{kind_byte}
use Rattle.plant.specs.declared.entry.Entry.{Entry}
use Rattle.input.proofs.reading.put_entry.Goals as goal

pair : Entry → List ℕ
pair e = kind_byte e.kind ∷ e.station.0 ∷ []

pub returns-clause-entry_written : goal.returns-clause-entry_written
unfolding pair
returns-clause-entry_written c =
    let a = 2 * c.args.k in
    rw (c.copy_from_slice.ensures.after, c.bytes.ensures)
    (take-put_mid a (a + 2 - a) c.args.schedule.now (pair c.args.entry) (a + 2) (omega arith) (omega arith))

pub returns-clause-rest_unchanged : goal.returns-clause-rest_unchanged
unfolding pair
returns-clause-rest_unchanged c =
    let a = 2 * c.args.k in
    rw (c.copy_from_slice.ensures.after, c.bytes.ensures)
    (drop-put_mid a (a + 2 - a) c.args.schedule.now (pair c.args.entry) (a + 2) (omega arith) (omega arith) (omega arith))
