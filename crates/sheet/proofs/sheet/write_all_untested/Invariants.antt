-- The lines of the boards before i are written.
use Rattle.std.proofs.Common.{take}
use Rattle.std.specs.Fmt.{HasWritten, IsPlainFormatter}
use Rattle.sheet.specs.Layout.{untested_line, live_lines}
use Rattle.sheet.proofs.sheet.write_all_untested.Given as goal

abbrev pub invariant-loop-i : goal.invariant-loop-i
invariant-loop-i g l =
    let row = take l.plant.size l.plant.row in
    IsPlainFormatter l.initial.f
    → HasWritten g.W.Write.write_str_gives l.initial.f (live_lines (untested_line l.plant.size row) row l.i) l.f
