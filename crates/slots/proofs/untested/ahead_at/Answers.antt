-- The tests are those of the definition.
use Rattle.std.proofs.Common.{◌≡◌, ◌<◌, true, false, sym, ap, ◌∙◌, arith, rules}
use mathlib.Core.Bool.{and-false}
use borrow.Author.Tests.{lt-ltb}
use Rattle.station.specs.Tests.{says_due, stands, due}
use Rattle.station.proofs.DueLaws.{due-is}
use Rattle.slots.proofs.untested.ahead_at.Goals as goal

pub returns-in-Due-clause-untested : goal.returns-in-Due-clause-untested
returns-in-Due-clause-untested c =
    let says : due c.args.row.now c.args.i.0 c.args.m.0 ≡ true = due-is _ _ _ ∙ ap says_due (sym c.in-Due.ensures) in
    rw (says, and-false)

pub returns-in-Ahead-clause-untested : goal.returns-in-Ahead-clause-untested
returns-in-Ahead-clause-untested c =
    let says : due c.args.row.now c.args.i.0 c.args.m.0 ≡ false = due-is _ _ _ ∙ ap says_due (sym c.in-Ahead.ensures) in
    let above : 0 < c.args.m.0 = omega arith in
    let here : stands c.args.row.now c.args.i.0 c.args.m.0 ≡ true = search (rules, c.stands.ensures) in
    rw (says, lt-ltb 0 c.args.m.0 above, here)
