-- The lines passed so far all pass the test.
use Rattle.std.proofs.Common.{◌≡◌, true}
use Rattle.lists.specs.Search.{every}
use Rattle.table.specs.Rules.{line_rules}
use Rattle.table.proofs.rules.all_lines.Given as goal

abbrev pub invariant-loop-i : goal.invariant-loop-i
invariant-loop-i l = every (line_rules l.table.wiring l.table.n l.table.bytes.now) l.i ≡ true
