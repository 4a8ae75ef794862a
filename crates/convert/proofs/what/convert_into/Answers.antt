-- The length's own refusal, or what the converter answers with a part of that length.
use Rattle.std.proofs.Common.{arith, sym}
use Rattle.std.proofs.lemmas.Result.{err_from_is_err_and}
use Rattle.std.proofs.lemmas.List.{take-append-drop}
use lib.Seq.{length-take-le, take-append_seam}
use Rattle.convert.proofs.WhatLaws.{length_known, length_refused, convert_refused, convert_taken}
use Rattle.convert.proofs.what.convert_into.Goals as goal

pub returns-in_err-len-clause-answer : goal.returns-in_err-len-clause-answer
returns-in_err-len-clause-answer c =
    let p = err_from_is_err_and c.from_residual.result c.from_residual.ensures.1 in rw (p.1, p.2) (length_refused _ _ c.in_err-len.ensures)

pub slice_bounds-convert-end : goal.slice_bounds-convert-end
slice_bounds-convert-end c = omega (arith, (length_known _ _ c.in_ok-len.ensures).1)

pub returns-in_err-convert-clause-answer : goal.returns-in_err-convert-clause-answer
returns-in_err-convert-clause-answer c =
    let p = err_from_is_err_and c.from_residual-in_err-convert.result c.from_residual-in_err-convert.ensures.1 in
    let long = length-take-le c.in_ok-len.len c.args.buffer.now (omega (arith, (length_known _ _ c.in_ok-len.ensures).1, c.fits-buffer)) in
    rw (p.1, p.2) (convert_refused _ _ _ _ c.in_ok-len.ensures long c.in_err-convert.ensures.buffer_after _ c.in_err-convert.ensures.check).0

pub returns-in_err-convert-clause-nothing_written : goal.returns-in_err-convert-clause-nothing_written
returns-in_err-convert-clause-nothing_written c =
    let p = err_from_is_err_and c.from_residual-in_err-convert.result c.from_residual-in_err-convert.ensures.1 in
    let long = length-take-le c.in_ok-len.len c.args.buffer.now (omega (arith, (length_known _ _ c.in_ok-len.ensures).1, c.fits-buffer)) in
    let g = convert_refused _ _ _ _ c.in_ok-len.ensures long c.in_err-convert.ensures.buffer_after _ c.in_err-convert.ensures.check in
    rw p.1 (rw g.1 (take-append-drop c.in_ok-len.len c.args.buffer.now))

pub returns-clause-answer : goal.returns-clause-answer
returns-clause-answer c =
    let long = length-take-le c.in_ok-len.len c.args.buffer.now (omega (arith, (length_known _ _ c.in_ok-len.ensures).1, c.fits-buffer)) in
    (convert_taken _ _ _ _ c.in_ok-len.ensures long c.in_ok-convert.ensures.buffer_after _ c.in_ok-convert.ensures.check).0

pub returns-clause-written : goal.returns-clause-written
returns-clause-written c =
    let long = length-take-le c.in_ok-len.len c.args.buffer.now (omega (arith, (length_known _ _ c.in_ok-len.ensures).1, c.fits-buffer)) in
    let g = convert_taken _ _ _ _ c.in_ok-len.ensures long c.in_ok-convert.ensures.buffer_after _ c.in_ok-convert.ensures.check in
    rw (g.1, sym g.2) (take-append_seam _ _)
