-- The byte that was there is put back.
use Rattle.std.proofs.Common.{sym, ◌∙◌}
use borrow.Author.Tests.{eqb-true, eqb-false}
use Rattle.slots.proofs.MoreTests.{with-other, with-self}
use Rattle.slots.proofs.MostLaws.{with-beyond, mark-back}
use Rattle.slots.proofs.tests_with.Goals as goal

pub returns-then-eq-clause-count : goal.returns-then-eq-clause-count
returns-then-eq-clause-count c = sym (with-self _ _ _ _ (eqb-true _ _ (sym c.eq.ensures ∙ c.if-eq.true)))

pub returns-then-row-at-clause-count : goal.returns-then-row-at-clause-count
returns-then-row-at-clause-count c =
    c.tests.ensures ∙ sym (with-beyond _ _ _ _ (eqb-false _ _ (sym c.eq.ensures ∙ c.if-eq.false)) c.if-row-at.true)

pub returns-clause-count : goal.returns-clause-count
returns-clause-count c =
    rw c.mark_row.ensures at c.tests-count.ensures ∙ sym (with-other _ _ _ _ (eqb-false _ _ (sym c.eq.ensures ∙ c.if-eq.false)))

pub returns-clause-row_unchanged : goal.returns-clause-row_unchanged
returns-clause-row_unchanged c = rw c.mark_row.ensures (mark-back _ _)
