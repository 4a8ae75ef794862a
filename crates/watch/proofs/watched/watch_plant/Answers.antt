-- The schedule has room for all entries that may be, and the entries read fit it.
use Rattle.std.proofs.Common.{◌≡◌, ◌≤◌, Ok, sym, ◌∙◌, arith, length-take, rules}
use Rattle.std.proofs.lemmas.Result.{err_from_is_err_and}
use Rattle.watch.specs.Watched.{watched_with, watched}
use Rattle.watch.proofs.Buffer.{decided}
use Rattle.watch.proofs.WatchLaws.{entries_within, watched_unread, watched_ran}
use Rattle.watch.proofs.watched.watch_plant.Goals as goal
use Rattle.watch.proofs.watched.watch_plant.Goals.{In_ok-parsed}

pub returns-in_err-parsed : goal.returns-in_err-parsed
returns-in_err-parsed c =
    let e = c.parse.ensures in
    let p = err_from_is_err_and c.from_residual.result c.from_residual.ensures.1 in
    let answer = sym c.in_err-parsed.was ∙ e.answer in
    let unread =
    watched_unread c.args.wiring c.args.sheet.now c.args.input.now _ _ c.told-schedule e.schedule_after c.in_err-parsed.field-0.0 answer in
    rw (p.1, p.2) (record { answer_and_sheet = unread.0; fault = unread.1; decided = λ rest n. unread.0 ∙ decided _ _ _ rest n })

few : (c : In_ok-parsed) → c.in_ok-parsed.parsed.entries ≤ 4096
few c =
    let e = c.parse.ensures in
    entries_within c.args.wiring c.args.sheet.now c.args.input.now _ _ c.told-schedule e.schedule_after _ (sym c.in_ok-parsed.was ∙ e.answer)

pub overflow_mul-taken : goal.overflow_mul-taken
overflow_mul-taken c = omega (arith, few (goal.at.overflow_mul-taken c).In_ok-parsed)

pub shared_ref_as_front-taken : goal.shared_ref_as_front-taken
shared_ref_as_front-taken c = omega (arith, few (goal.at.shared_ref_as_front-taken c).In_ok-parsed)

pub carry_out-requires : goal.carry_out-requires
carry_out-requires c = simp length-take (omega (arith, few (goal.at.carry_out-requires c).In_ok-parsed))

ran : (c : goal.After-carry_out) → watched_with (Ok c.carry_out.result) c.carry_out.new.sheet
    ≡ watched c.args.wiring c.args.sheet.now c.args.input.now
ran c =
    let e = c.parse.ensures in
    c.carry_out.ensures ∙ watched_ran c.args.wiring _ c.args.input.now _ _ c.told-schedule e.schedule_after _ (sym c.in_ok-parsed.was ∙ e.answer)

pub returns : goal.returns
returns c = record { answer_and_sheet = ran c; fault = search rules; decided = λ rest n. ran c ∙ decided _ _ _ rest n }
