-- The boards that were gone through are written.
use Rattle.std.proofs.Common.{take}
use Rattle.std.specs.Fmt.{HasWritten, IsPlainFormatter}
use Rattle.sheet.specs.Printed.{further_untested}
use Rattle.sheet.proofs.sheet.write_further_untested.Given as goal

abbrev pub invariant-loop-untested : goal.invariant-loop-untested
invariant-loop-untested g l =
    IsPlainFormatter l.initial.f → HasWritten g.W.Write.write_str_gives l.initial.f (further_untested (take l.untested-index l.boards)) l.f
