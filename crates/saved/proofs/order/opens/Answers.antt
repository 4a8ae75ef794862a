-- The opening is the first field, where the edition has one.
use Rattle.std.proofs.Common.{refl}
use Rattle.std.proofs.lemmas.Result.{err_from_is_err_and}
use Rattle.saved.proofs.Reading.{tells_more, tells_none, tells_cut, ends}
use Rattle.saved.proofs.order.opens.Goals as goal

pub returns-in_err-field-in-Two : goal.returns-in_err-field-in-Two
returns-in_err-field-in-Two c =
    let p = err_from_is_err_and c.from_residual.result c.from_residual.ensures.1 in
    rw (p.1, p.2) (tells_cut _ c.in_err-field-in-Two.ensures.fields.0, c.in_err-field-in-Two.ensures.fields.1)

pub returns-in-Some : goal.returns-in-Some
returns-in-Some c =
    let t = tells_more _ _ _ c.in_ok-field-in-Two.ensures.fields _ c.in-Some.is in
    (t.0, λ h. rw (c.in-Two.is, t.1 h) (c.is_opening.ensures, refl))

pub returns-in-None : goal.returns-in-None
returns-in-None c =
    let t = tells_none _ _ _ c.in_ok-field-in-Two.ensures.fields c.in-None.is in
    let e = ends _ _ _ c.in_ok-field-in-Two.ensures.fields c.in-None.is in
    rw (c.in-Two.is, e, t.1) (refl, λ h. (refl, refl))
