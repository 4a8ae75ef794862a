-- The whole file settles 18, 21 and 22, 19 and 1, and size and tally.
use Rattle.std.proofs.Common.{sym, ap₂, ◌∙◌}
use Rattle.std.proofs.lemmas.Result.{err_from_is_err_and}
use Rattle.saved.proofs.Reading.{tells_more, tells_none, tells_cut}
use Rattle.saved.proofs.FirstPass.{keeps_on, keeps_end, completed, pass_on, pass_line}
use Rattle.saved.proofs.FirstPass.{opened_cut, opened_unopened, opened_disordered, opened_wrong, opened_found}
use Rattle.saved.proofs.first_pass.open.Goals as goal

pub returns-in_err-opens : goal.returns-in_err-opens
returns-in_err-opens c =
    let p = err_from_is_err_and c.from_residual.result c.from_residual.ensures.1 in
    rw (p.1, p.2, c.in_err-opens.ensures.1) (opened_cut _ _ c.in_err-opens.ensures.0)

pub returns-in_err-field : goal.returns-in_err-field
returns-in_err-field c =
    let p = err_from_is_err_and c.from_residual-in_err-field.result c.from_residual-in_err-field.ensures.1 in
    rw (p.1, p.2, c.in_err-field.ensures.fields.1) (opened_cut _ _ (sym c.loop-field.invariant.past ∙ tells_cut _ c.in_err-field.ensures.fields.0))

pub loop-field-preserved-then-field-eq-LINE : goal.loop-field-preserved-then-field-eq-LINE
loop-field-preserved-then-field-eq-LINE c =
    let t = tells_more _ _ _ c.in_ok-field.ensures.fields _ c.in-Some.is in
    let i = c.loop-field.invariant in
    record {
      past = t.0 ∙ i.past;
      orders = λ h. keeps_on _ _ _ _ _ _ _ _ c.allows.ensures c.behind-previous.ensures (t.1 (i.past ∙ h)) ∙ i.orders h;
      gives = λ h. pass_line _ _ _ _ c.if-field-eq-LINE.true (t.1 (i.past ∙ h)) ∙ i.gives h;
    }

pub loop-field-preserved-in-Ok : goal.loop-field-preserved-in-Ok
loop-field-preserved-in-Ok c =
    let t = tells_more _ _ _ c.in_ok-field.ensures.fields _ c.in-Some.is in
    let i = c.loop-field.invariant in
    record {
      past = t.0 ∙ i.past;
      orders = λ h. keeps_on _ _ _ _ _ _ _ _ c.allows.ensures c.behind-previous.ensures (t.1 (i.past ∙ h)) ∙ i.orders h;
      gives = λ h. pass_on _ _ _ _ _ _ c.in-Ok.is c.with-found.ensures (t.1 (i.past ∙ h)) ∙ i.gives h;
    }

pub loop-field-preserved : goal.loop-field-preserved
loop-field-preserved c =
    let t = tells_more _ _ _ c.in_ok-field.ensures.fields _ c.in-Some.is in
    let i = c.loop-field.invariant in
    record {
      past = t.0 ∙ i.past;
      orders = λ h. keeps_on _ _ _ _ _ _ _ _ c.allows.ensures c.behind-previous.ensures (t.1 (i.past ∙ h)) ∙ i.orders h;
      gives = λ h. rw c.in_default-found.is (rw c.in_default-found.is at (i.gives h));
    }

pub returns-then-not-opens : goal.returns-then-not-opens
returns-then-not-opens c =
    let t = tells_none _ _ _ c.in_ok-field.ensures.fields c.in_default.is in
    let w = sym c.loop-field.invariant.past ∙ t.0 in
    let o = (c.in_ok-opens.ensures.1 w).0 in
    opened_unopened _ _ w (sym o ∙ c.if-not-opens.true)

pub returns-then-not-in_order : goal.returns-then-not-in_order
returns-then-not-in_order c =
    let t = tells_none _ _ _ c.in_ok-field.ensures.fields c.in_default.is in
    let w = sym c.loop-field.invariant.past ∙ t.0 in
    let o = (c.in_ok-opens.ensures.1 w).0 in
    let k = sym (c.loop-field.invariant.orders w) ∙ keeps_end _ _ _ _ t.1 in
    opened_disordered _ _ w (sym o ∙ c.if-not-opens.false) (k ∙ c.if-not-in_order.true)

pub returns-in_err-found : goal.returns-in_err-found
returns-in_err-found c =
    let p = err_from_is_err_and c.from_residual-in_err-found.result c.from_residual-in_err-found.ensures.1 in
    let t = tells_none _ _ _ c.in_ok-field.ensures.fields c.in_default.is in
    let w = sym c.loop-field.invariant.past ∙ t.0 in
    let o = (c.in_ok-opens.ensures.1 w).0 in
    let k = sym (c.loop-field.invariant.orders w) ∙ keeps_end _ _ _ _ t.1 in
    let g = ap₂ completed (sym c.in_err-found.was) (sym t.1) ∙ c.loop-field.invariant.gives w in
    rw (p.1, p.2) (opened_wrong _ _ w (sym o ∙ c.if-not-opens.false) (k ∙ c.if-not-in_order.false) _ g)

pub returns : goal.returns
returns c =
    let t = tells_none _ _ _ c.in_ok-field.ensures.fields c.in_default.is in
    let w = sym c.loop-field.invariant.past ∙ t.0 in
    let o = (c.in_ok-opens.ensures.1 w).0 in
    let k = sym (c.loop-field.invariant.orders w) ∙ keeps_end _ _ _ _ t.1 in
    let g = ap₂ completed (sym c.in_ok-found.was) (sym t.1) ∙ c.loop-field.invariant.gives w in
    c.complete.ensures ∙ opened_found _ _ w (sym o ∙ c.if-not-opens.false) (k ∙ c.if-not-in_order.false) _ g
