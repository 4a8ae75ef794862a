-- The distances passed so far are not due.
use Rattle.std.proofs.Common.{ℕ, false, ◌≤◌, ◌<◌, ◌≡◌, ◌+◌, ◌-◌, ◌∙◌, sym, ap, below_more, arith}
use mathlib.Core.Logic.{by_cases}
use native.Mathlib.Decide.{dec_lt}
use Rattle.station.specs.Tests.{says_due, due}
use Rattle.lists.proofs.SearchLaws.{least-is, least-none}
use Rattle.station.proofs.DueLaws.{due-absent, due-is, due-zero, names}
use Rattle.station.proofs.AheadLaws.{block-low, none-due-behind, none-due-in-block}
use Rattle.station.proofs.wired.scan.Goals.{then-not-is_nearer_ahead+else-not-stands+else-is_due, else-not-is_nearer_ahead}
use Rattle.station.proofs.wired.scan.Goals as goal

pub loop-m-init : goal.loop-m-init
loop-m-init c =
    let a = c.args in
    let passed : (y : ℕ) → y < c.max-m.result → a.from.0 ≤ y → due a.row.now a.i.0 y ≡ false =
    λ y l h. let zero-y : y ≡ 0 = omega (arith, c.max-m.ensures) in rw zero-y (due-zero a.row.now a.i.0) in
    record { above_0 = omega (arith, c.max-m.ensures); begun = omega (arith, c.max-m.ensures); passed = passed }

pub loop-m-preserved-then-not-stands : goal.loop-m-preserved-then-not-stands
loop-m-preserved-then-not-stands c = record {
  above_0 = omega arith;
  begun = omega arith;
  passed = below_more _ _ c.loop-m.invariant.passed (λ _. due-absent _ _ _ (sym c.stands.ensures ∙ c.if-not-stands.true));
}

pub loop-m-smaller : goal.loop-m-smaller
loop-m-smaller c = omega (arith, block-low _ _ c.block_end-last.ensures)

pub loop-m-preserved : goal.loop-m-preserved
loop-m-preserved c =
    let m = c.loop-m.m in
    let last = c.block_end-last.ensures in
    let block : (y : ℕ) → m ≤ y → y ≤ c.block_end-last.result.0 → due c.args.row.now c.args.i.0 y ≡ false =
    elim c.if-not-is_nearer_ahead.branch [
      | then-not-is_nearer_ahead+else-not-stands+else-is_due w ↦ (
          let here = sym w.stands.ensures ∙ w.if-not-stands.false in
          let named = names _ (rw w.due_or_ahead.ensures at (sym w.is_due.ensures ∙ w.if-is_due.false)) in
          λ y lo hi. none-due-in-block _ _ m named.0 y here named.1 lo (omega (arith, hi, last)))
      | else-not-is_nearer_ahead w ↦ (
          λ y lo hi. none-due-behind _ _ m y (c.is_nearer_ahead.ensures w.if-not-is_nearer_ahead.false) lo (omega (arith, hi, last)))
    ] in
    record {
      above_0 = omega arith;
      begun = omega (arith, block-low _ _ last);
      passed = λ y l h. by_cases (dec_lt y m) (λ b. c.loop-m.invariant.passed y b h) (λ b. block y (omega arith) (omega arith));
    }

pub returns-then-is_due : goal.returns-then-is_due
returns-then-is_due c =
    let i = c.loop-m.invariant in
    sym (least-is _ _ _ _ i.begun (omega arith) (due-is _ _ _ ∙ ap says_due (sym c.due_or_ahead.ensures) ∙ sym c.is_due.ensures ∙ c.if-is_due.true) (λ y a b. i.passed y b a))

pub returns : goal.returns
returns c =
    let a = c.args in
    let e : c.max.result ≡ a.from.0 + (a.end - a.from.0) = omega (arith, c.max.ensures) in
    e ∙ sym (least-none (due a.row.now a.i.0) (a.end - a.from.0) a.from.0 (λ y lo hi. c.loop-m.invariant.passed y (omega arith) lo))
