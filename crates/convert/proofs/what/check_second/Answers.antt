-- The size's own refusal, or what the reader answers with a table of that size.
use Rattle.std.proofs.Common.{arith, sym, ◌∙◌, ap}
use Rattle.std.proofs.lemmas.Result.{err_from_is_err_and}
use lib.Seq.{length-take-le}
use Rattle.table.specs.Table.{table_length}
use Rattle.convert.proofs.WhatLaws.{size_known, size_refused, load_refused, load_taken}
use Rattle.convert.proofs.what.check_second.Goals as goal

pub returns-in_err-size : goal.returns-in_err-size
returns-in_err-size c =
    let p = err_from_is_err_and c.from_residual.result c.from_residual.ensures.1 in rw (p.1, p.2) (size_refused _ _ c.in_err-size.ensures)

pub slice_bounds-table-end : goal.slice_bounds-table-end
slice_bounds-table-end c = omega (arith, c.table_length.ensures, (size_known _ _ c.in_ok-size.ensures).1)

pub slice_bounds-load-end : goal.slice_bounds-load-end
slice_bounds-load-end c =
    let k = size_known _ _ c.in_ok-size.ensures in sym (length-take-le _ _ (omega (arith, c.table_length.ensures, k.1)))

pub returns-in_err-load : goal.returns-in_err-load
returns-in_err-load c =
    let p = err_from_is_err_and c.from_residual-in_err-load.result c.from_residual-in_err-load.ensures.1 in
    let k = size_known _ _ c.in_ok-size.ensures in
    let long = length-take-le _ _ (omega (arith, c.table_length.ensures, k.1)) ∙ c.table_length.ensures ∙ ap table_length k.0 in
    rw (p.1, p.2) (load_refused _ _ long _ c.in_err-load.ensures.answer)

pub returns : goal.returns
returns c =
    let k = size_known _ _ c.in_ok-size.ensures in
    let long = length-take-le _ _ (omega (arith, c.table_length.ensures, k.1)) ∙ c.table_length.ensures ∙ ap table_length k.0 in
    load_taken _ _ long _ c.in_ok-load.ensures.answer
