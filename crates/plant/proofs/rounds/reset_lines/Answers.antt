-- The lines passed so far begin a new round, and at the end these are all.
use Rattle.std.proofs.Common.{◌∙◌, refl, arith}
use Rattle.lists.proofs.StepsLaws.{after_steps-start, after_steps-next, after_steps-done}
use Rattle.plant.specs.Round.{reset_lines}
use Rattle.plant.proofs.rounds.reset_lines.Goals as goal

pub loop-i-init : goal.loop-i-init
loop-i-init c = record { same_loan = record { reference = refl; wiring = refl; size = refl }; lines_reset = after_steps-start _ _ }

pub loop-i-preserved : goal.loop-i-preserved
loop-i-preserved c =
    let i = c.loop-i.invariant in
    let s = c.reset_line.ensures.same_loan in
    record {
      same_loan = record {
        reference = s.reference ∙ i.same_loan.reference;
        wiring = s.wiring ∙ i.same_loan.wiring;
        size = s.size ∙ i.same_loan.size;
      };
      lines_reset = after_steps-next _ _ _ _ _ i.lines_reset (rw i.same_loan.size at c.reset_line.ensures.line_reset);
    }

pub returns-clause-same_loan : goal.returns-clause-same_loan
returns-clause-same_loan c = c.loop-i.invariant.same_loan

pub returns-clause-lines_reset : goal.returns-clause-lines_reset
unfolding reset_lines
returns-clause-lines_reset c =
    let i = c.loop-i.invariant in
    after_steps-done _ _ _ _ _ i.lines_reset (omega arith) c.loop-i-test.false
