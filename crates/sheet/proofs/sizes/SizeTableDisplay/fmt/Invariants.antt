-- The rows before k are written.
use Rattle.std.specs.Fmt.{HasWritten, IsPlainFormatter}
use Rattle.sheet.specs.SizeLines.{each_below, size_line}
use Rattle.sheet.proofs.sizes.SizeTableDisplay.fmt.Given as goal

abbrev pub invariant-loop-k : goal.invariant-loop-k
invariant-loop-k g l = IsPlainFormatter l.initial.f → HasWritten g.W.Write.write_str_gives l.initial.f (each_below size_line l.k) l.f
