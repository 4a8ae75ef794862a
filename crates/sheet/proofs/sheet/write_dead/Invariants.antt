-- The boards that were gone through are written.
use Rattle.std.proofs.Common.{take}
use Rattle.std.specs.Fmt.{HasWritten, IsPlainFormatter}
use Rattle.sheet.specs.Printed.{dead_from}
use Rattle.sheet.proofs.sheet.write_dead.Given as goal

abbrev pub invariant-loop-board : goal.invariant-loop-board
invariant-loop-board g l = IsPlainFormatter l.initial.f → HasWritten g.W.Write.write_str_gives l.initial.f (dead_from 0 (take l.board l.row)) l.f
