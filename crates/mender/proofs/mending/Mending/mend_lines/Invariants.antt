-- Before the place that the loops have come to the bytes are mended and their changes listed.
use Rattle.std.proofs.Common.{◌+◌}
use Rattle.table.specs.Table.{head, line_start}
use Rattle.mender.proofs.Progress.{Reached}
use Rattle.mender.proofs.mending.Mending.mend_lines.Given as goal

abbrev pub invariant-loop-i : goal.invariant-loop-i
invariant-loop-i l = Reached l.over l.fn.self l.self (line_start l.fn.self.n l.i)

abbrev pub invariant-loop-c : goal.invariant-loop-c
invariant-loop-c l = Reached l.over l.fn.self l.self (line_start l.fn.self.n l.i + l.c)

abbrev pub invariant-loop-k : goal.invariant-loop-k
invariant-loop-k l = Reached l.over l.fn.self l.self (line_start l.fn.self.n l.i + (head + l.k))
