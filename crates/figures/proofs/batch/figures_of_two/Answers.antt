-- Each refusal on the way is that of the one list that holds both.
use Rattle.std.proofs.Common.{arith, rules, sym, ◌∙◌}
use Rattle.figures.specs.Claims.{Small}
use Rattle.figures.proofs.FiguresLaws.{first_err, second_err, join_err}
use Rattle.figures.proofs.batch.figures_of_two.Goals as goal

pub returns-in_err-of_first : goal.returns-in_err-of_first
returns-in_err-of_first c =
    let p : Small c.args.first.now = λ k. omega (arith, c.type_inv.first k) in
    let q : Small c.args.second.now = λ k. omega (arith, c.type_inv.second k) in
    let h = first_err _ _ _ p q (sym c.totals.ensures ∙ c.in_err-of_first.was) in
    search rules

pub returns-in_err-of_second : goal.returns-in_err-of_second
returns-in_err-of_second c =
    let p : Small c.args.first.now = λ k. omega (arith, c.type_inv.first k) in
    let q : Small c.args.second.now = λ k. omega (arith, c.type_inv.second k) in
    let first = sym c.totals.ensures ∙ c.in_ok-of_first.was in
    let h = second_err _ _ _ _ p q first (sym c.totals-2.ensures ∙ c.in_err-of_second.was) in
    search rules

pub returns-in_err-join : goal.returns-in_err-join
returns-in_err-join c =
    let p : Small c.args.first.now = λ k. omega (arith, c.type_inv.first k) in
    let q : Small c.args.second.now = λ k. omega (arith, c.type_inv.second k) in
    let first = sym c.totals.ensures ∙ c.in_ok-of_first.was in
    let second = sym c.totals-2.ensures ∙ c.in_ok-of_second.was in
    let h = join_err _ _ _ _ _ p q first second (sym c.join.ensures ∙ c.in_err-join.was) in
    search rules
