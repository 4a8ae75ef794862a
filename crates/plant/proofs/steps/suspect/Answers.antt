-- The part of the table that is lent is the station's row.
use Rattle.std.proofs.Common.{◌∙◌, ℕ, List, ap, arith}
use Rattle.table.specs.Table.{set_row}
use Rattle.station.specs.Rows.{mark}
use Rattle.table.proofs.CellLaws.{row_inside, row-part}
use Rattle.plant.specs.Turn.{suspect}
use Rattle.plant.proofs.RowLaws.{row_back}
use Rattle.plant.proofs.steps.suspect.Goals as goal

pub slice_bounds-mark_row-end : goal.slice_bounds-mark_row-end
slice_bounds-mark_row-end c =
    let t = c.args.table.now in
    omega (arith, row_inside t.n t.bytes.now c.args.i.0 t.fits c.requires)

pub returns-clause-row_marked : goal.returns-clause-row_marked
unfolding suspect
returns-clause-row_marked c =
    let t = c.args.table.now in
    let i = c.args.i.0 in
    let s = c.row_start-a.ensures.start_of_row in
    row_back t.n t.bytes.now i _ _ s
    ∙ ap (set_row t.n t.bytes.now i) (c.mark_row.ensures ∙ ap (λ (r : List ℕ). mark r c.args.j.0) (row-part t.n t.bytes.now i _ s))
