-- The lines passed so far begin a new round, the others are as they were.
use Rattle.std.proofs.Common.{◌≡◌}
use Rattle.lists.specs.Steps.{after_steps}
use Rattle.table.specs.Lent.{IsSameLoan}
use Rattle.plant.specs.Round.{reset_line}
use Rattle.plant.proofs.rounds.reset_lines.Given as goal

abbrev pub invariant-loop-i : goal.invariant-loop-i
invariant-loop-i l = record {
  same_loan : IsSameLoan l.initial.table l.table;
  lines_reset : l.table.bytes.now ≡ after_steps (reset_line l.initial.table.n) l.i l.initial.table.bytes.now;
}
