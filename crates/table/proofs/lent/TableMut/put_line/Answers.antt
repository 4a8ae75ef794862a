-- The line lies inside the table, and becomes the other.
use Rattle.std.proofs.Common.{arith}
use Rattle.table.proofs.CellLaws.{line-inside, line-written}
use Rattle.table.proofs.lent.TableMut.put_line.Goals as goal

pub slice_bounds-copy_from_slice-end : goal.slice_bounds-copy_from_slice-end
slice_bounds-copy_from_slice-end c = omega (arith, line-inside c.args.self.now.n c.args.i.0 c.requires.station, c.line_start-a.ensures.start_of_line)

pub returns-clause-line_written : goal.returns-clause-line_written
returns-clause-line_written c =
    rw c.copy_from_slice.ensures.after
    (line-written _ _ _ _ _ _ c.line_start-a.ensures.start_of_line c.args.self.now.fits c.requires.station c.requires.width
    (omega (arith, c.requires.width)))
