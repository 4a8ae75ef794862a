-- The buffer has room for a row, and the row of j is as it was when that of i has been written.
use Rattle.std.proofs.Common.{rules}
use Rattle.table.proofs.SizeLaws.{size_top}
use Rattle.plant.proofs.RowLaws.{exchange-is, same-exchange}
use Rattle.plant.proofs.steps.exchange_rows.Goals as goal

pub slice_bounds-join_into-end : goal.slice_bounds-join_into-end
slice_bounds-join_into-end c = let s = size_top _ c.args.table.now.sized in search rules

pub slice_bounds-join_into-end-2 : goal.slice_bounds-join_into-end-2
slice_bounds-join_into-end-2 c = let s = size_top _ c.args.table.now.sized in search rules

pub returns-then-same_bytes-clause-rows_exchanged : goal.returns-then-same_bytes-clause-rows_exchanged
returns-then-same_bytes-clause-rows_exchanged c =
    let r = c.read-lent.ensures in
    let e = rw (c.row-first.ensures.row_of_line, c.row-second.ensures.row_of_line, r.same_size, r.same_bytes) at c.same_bytes.ensures in
    same-exchange _ _ _ _ (e.0 c.if-same_bytes.true)

pub returns-clause-rows_exchanged : goal.returns-clause-rows_exchanged
returns-clause-rows_exchanged c =
    let p = c.requires in
    let r = c.read-lent.ensures in
    let a = c.join_into.ensures in
    let w = rw (c.row-first.ensures.row_of_line, c.row-second.ensures.row_of_line, r.same_size, r.same_bytes) at c.write_joined.ensures in
    let b = rw a.same_loan.size at c.join_into-2.ensures.row_joined in
    exchange-is _ _ _ _ c.args.table.now.fits p.tester_below p.tested_below p.apart _ _ _ _ (size_top _ c.args.table.now.sized) w a.row_joined b
