-- The part of the table that is lent is the station's row.
use Rattle.std.proofs.Common.{◌∙◌, ℕ, List, ap, arith}
use Rattle.table.specs.Table.{set_row}
use Rattle.station.specs.Rows.{union}
use Rattle.table.proofs.CellLaws.{row_inside, row-part}
use Rattle.plant.proofs.RowLaws.{row_back}
use Rattle.plant.proofs.steps.join_into.Goals as goal

pub slice_bounds-join_row-end : goal.slice_bounds-join_row-end
slice_bounds-join_row-end c =
    let t = c.args.table.now in
    omega (arith, row_inside t.n t.bytes.now c.args.i.0 t.fits c.requires)

pub returns-clause-row_joined : goal.returns-clause-row_joined
returns-clause-row_joined c =
    let t = c.args.table.now in
    let i = c.args.i.0 in
    let s = c.row_start-a.ensures.start_of_row in
    row_back t.n t.bytes.now i _ _ s
    ∙ ap (set_row t.n t.bytes.now i)
    (c.join_row.ensures ∙ ap (λ (r : List ℕ). union r c.args.other.now i) (row-part t.n t.bytes.now i _ s))
