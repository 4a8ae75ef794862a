-- The length, or the refusal of the first pass.
use Rattle.std.proofs.lemmas.Result.{err_from_is_err_and}
use Rattle.saved.proofs.Converter.{length_err, length_ok}
use Rattle.saved.proofs.convert.converted_length.Goals as goal

pub returns-in_err-opened : goal.returns-in_err-opened
returns-in_err-opened c =
    let p = err_from_is_err_and c.from_residual.result c.from_residual.ensures.1 in rw (p.1, p.2) (length_err _ _ c.in_err-opened.ensures)

pub returns : goal.returns
returns c = rw c.saved_length.ensures (length_ok _ _ c.in_ok-opened.ensures)
