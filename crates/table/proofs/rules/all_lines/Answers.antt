-- The first line that breaks a rule decides.
use Rattle.std.proofs.Common.{rules}
use Rattle.lists.proofs.Loops.{loops}
use Rattle.table.proofs.rules.all_lines.Goals as goal

pub returns-then-not-line_rules : goal.returns-then-not-line_rules
returns-then-not-line_rules c = search (rules, loops)
