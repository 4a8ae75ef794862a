-- The stations passed so far do not wait.
use Rattle.std.proofs.Common.{◌-◌, not, sym, ap, ◌∙◌, arith, below_more}
use Rattle.lists.proofs.SearchLaws.{least-is, least-none}
use Rattle.granter.specs.Grant.{waits, first_from}
use Rattle.granter.proofs.GrantLaws.{waits-is}
use Rattle.granter.proofs.grant.first_from.Goals as goal

pub returns-then-not-finished_if_live-clause-first : goal.returns-then-not-finished_if_live-clause-first
unfolding first_from
returns-then-not-finished_if_live-clause-first c =
    let w = sym (waits-is _ _ _) ∙ ap not (sym c.finished_if_live.ensures ∙ c.if-not-finished_if_live.true) in
    sym (least-is _ _ _ _ (omega arith) (omega arith) w (λ y a b. c.loop-i.invariant y b a))

pub loop-i-preserved : goal.loop-i-preserved
loop-i-preserved c =
    below_more _ _ c.loop-i.invariant
    (λ _. sym (waits-is _ _ _) ∙ ap not (sym c.finished_if_live.ensures ∙ c.if-not-finished_if_live.false))

pub returns-clause-none : goal.returns-clause-none
unfolding first_from
returns-clause-none c =
    let n = c.args.table.now.n in
    let from = c.args.from.0 in
    omega (arith, least-none (waits n c.args.table.now.bytes.now) (n - from) from (λ y lo hi. c.loop-i.invariant y (omega arith) lo))
