-- A live board has a byte in the row, which is put back.
use Rattle.std.proofs.Common.{sym, ◌∙◌, arith}
use Rattle.station.proofs.EntryLaws.{unsuspected-below}
use Rattle.station.proofs.UnionLaws.{mark-length}
use Rattle.slots.proofs.MostLaws.{mark-back}
use Rattle.latency.proofs.turns.known_with.Goals as goal

pub bounds-row-at : goal.bounds-row-at
bounds-row-at c = unsuspected-below c.args.row.now c.args.j.0 (sym c.is_unsuspected.ensures ∙ c.if-not-is_unsuspected.false)

pub bounds-row-at-2 : goal.bounds-row-at-2
bounds-row-at-2 c =
    let inside = unsuspected-below c.args.row.now c.args.j.0 (sym c.is_unsuspected.ensures ∙ c.if-not-is_unsuspected.false) in
    rw c.mark_row.ensures (omega (arith, inside, mark-length c.args.row.now c.args.j.0))

pub returns-clause-row_unchanged : goal.returns-clause-row_unchanged
returns-clause-row_unchanged c = rw c.mark_row.ensures (mark-back _ _)
