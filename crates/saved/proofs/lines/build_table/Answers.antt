-- Each line is taken, or the lines are not right; in the end every station was seen, or they are not.
use Rattle.std.proofs.Common.{◌≡◌, ◌≤◌, Bool, false, length, arith, refl, sym, ◌∙◌}
use Rattle.std.proofs.Math.ListN.{get_or-replicate}
use Rattle.std.proofs.lemmas.List.{length-replicate}
use lib.Seq.{length-take-le}
use Rattle.std.proofs.lemmas.Result.{err_from_is_err_and}
use Rattle.lists.proofs.RefusalLaws.{ensure_ok}
use Rattle.table.specs.Table.{table_length}
use Rattle.table.proofs.SizeLaws.{size-bounds}
use Rattle.saved.proofs.Reading.{tells_more, tells_none, cut_not}
use Rattle.saved.proofs.SecondPass.{passed_none, passed_line, passed_other, passed_not, line_err, passed_more, passed_all, passed_table}
use Rattle.saved.proofs.lines.build_table.Goals as goal

pub loop-field-init : goal.loop-field-init
loop-field-init c =
    let b = size-bounds _ c.args.table.now.sized in
    record {
      same = record { reference = refl; wiring = refl; size = refl };
      whole = c.requires;
      wide = length-replicate 64 false;
      passed = passed_none _ _ _ _ _ (λ i h. get_or-replicate {A = Bool} 64 i false false (omega arith));
    }

pub returns-in_err-field-clause-check : goal.returns-in_err-field-clause-check
returns-in_err-field-clause-check c = absurd (cut_not _ c.loop-field.invariant.whole c.in_err-field.ensures.fields.0)

pub loop-field-preserved-then-field-ne-LINE : goal.loop-field-preserved-then-field-ne-LINE
loop-field-preserved-then-field-ne-LINE c =
    let i = c.loop-field.invariant in
    let t = tells_more _ _ _ c.in_ok-field.ensures.fields _ c.in-Some.is in
    let p = passed_other _ _ _ _ _ _ _ _ (t.1 i.whole) c.if-field-ne-LINE.true i.passed in
    record { same = i.same; whole = t.0 ∙ i.whole; wide = i.wide; passed = p }

pub returns-in_err-take_line-clause-check : goal.returns-in_err-take_line-clause-check
returns-in_err-take_line-clause-check c =
    let q = err_from_is_err_and c.from_residual-in_err-take_line.result c.from_residual-in_err-take_line.ensures.1 in
    let i = c.loop-field.invariant in
    let t = tells_more _ _ _ c.in_ok-field.ensures.fields _ c.in-Some.is in
    let p = passed_line _ _ _ _ _ _ _ _ (t.1 i.whole) c.if-field-ne-LINE.false i.passed in
    let e = line_err _ _ _ (rw i.same.size at c.in_err-take_line.ensures.check) in
    rw (q.1, q.2, e.1, passed_not _ _ _ _ _ _ _ p e.0)

pub loop-field-preserved : goal.loop-field-preserved
loop-field-preserved c =
    let i = c.loop-field.invariant in
    let wide : c.args.table.now.n ≤ length c.loop-field.seen = omega (arith, i.wide, size-bounds _ c.args.table.now.sized) in
    let long : length c.loop-field.table.bytes.now ≡ table_length c.args.table.now.n = rw (← i.same.size) (omega arith) in
    let s = c.in_ok-take_line.ensures.same_loan in
    let t = tells_more _ _ _ c.in_ok-field.ensures.fields _ c.in-Some.is in
    let p = passed_line _ _ _ _ _ _ _ _ (t.1 i.whole) c.if-field-ne-LINE.false i.passed in
    let e = ensure_ok _ _ _ (sym (rw i.same.size at c.in_ok-take_line.ensures.check)) in
    let b = rw i.same.size at (c.in_ok-take_line.ensures.line_written refl) in
    record {
      same = record { reference = s.reference ∙ i.same.reference; wiring = s.wiring ∙ i.same.wiring; size = s.size ∙ i.same.size };
      whole = t.0 ∙ i.whole;
      wide = c.type_inv.seen;
      passed = rw (b, c.in_ok-take_line.ensures.station_seen refl) (passed_more _ _ _ _ _ _ _ p e wide long);
    }

pub slice_bounds-all_seen-end : goal.slice_bounds-all_seen-end
slice_bounds-all_seen-end c =
    let i = c.loop-field.invariant in
    sym (length-take-le c.loop-field.table.n c.loop-field.seen (omega (arith, i.wide, i.same.size, size-bounds _ c.args.table.now.sized)))

pub slice_bounds-seen-end : goal.slice_bounds-seen-end
slice_bounds-seen-end c = let i = c.loop-field.invariant in omega (arith, i.wide, i.same.size, size-bounds _ c.args.table.now.sized)

pub returns-then-all_seen : goal.returns-then-all_seen
returns-then-all_seen c =
    let i = c.loop-field.invariant in
    let t = tells_none _ _ _ c.in_ok-field.ensures.fields c.in_default.is in
    let r = passed_all _ _ _ _ _ _ t.1 i.passed _ c.args.table.now.sized i.wide (rw i.same.size at c.if-all_seen.ensures) in
    record {
      check = rw (← r);
      same_loan = i.same;
      table_built = λ e. passed_table _ _ _ _ _ _ t.1 i.passed (rw (← i.same.size) (omega arith)) (sym r);
    }

pub returns-else-all_seen : goal.returns-else-all_seen
returns-else-all_seen c =
    let i = c.loop-field.invariant in
    let t = tells_none _ _ _ c.in_ok-field.ensures.fields c.in_default.is in
    let r = passed_all _ _ _ _ _ _ t.1 i.passed _ c.args.table.now.sized i.wide (rw i.same.size at c.if-all_seen.ensures) in
    record { check = rw (← r); same_loan = i.same; table_built = λ e. cc }
