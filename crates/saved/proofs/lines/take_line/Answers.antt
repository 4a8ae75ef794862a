-- The station is below the size.
use Rattle.std.proofs.Common.{arith}
use Rattle.table.proofs.SizeLaws.{size-bounds}
use Rattle.saved.proofs.lines.take_line.Goals as goal

pub bounds-seen-station : goal.bounds-seen-station
bounds-seen-station c = omega (arith, size-bounds _ c.args.table.now.sized)

pub bounds-seen-station-2 : goal.bounds-seen-station-2
bounds-seen-station-2 c = omega (arith, size-bounds _ c.args.table.now.sized)
