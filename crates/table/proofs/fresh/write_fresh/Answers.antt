-- The lines passed so far are those of a fresh table, and at the end these are all.
use Rattle.std.proofs.Common.{◌∙◌, refl, ap, length, arith}
use Rattle.std.proofs.Math.Seq.{length-sets}
use Rattle.lists.proofs.SearchLaws.{list_of-length}
use Rattle.table.specs.Table.{line_start}
use Rattle.table.proofs.CellLaws.{line-inside, line-written}
use Rattle.table.proofs.FreshLaws.{lines-start, lines-next, lines-done}
use Rattle.table.proofs.fresh.write_fresh.Goals as goal

pub loop-i-init : goal.loop-i-init
loop-i-init c = record { same_length = refl; lines_written = lines-start _ _ }

pub slice_bounds-write_line-end : goal.slice_bounds-write_line-end
slice_bounds-write_line-end c =
    let i = c.loop-i.invariant in
    omega (arith, line-inside c.args.n c.loop-i.i c.loop-i-test.true, c.line_start-a.ensures.start_of_line, c.line_length.ensures, i.same_length, c.requires)

pub loop-i-preserved : goal.loop-i-preserved
loop-i-preserved c =
    let i = c.loop-i.invariant in
    let n = c.args.n in
    let s = c.line_start-a.ensures.start_of_line in
    let w = line-written n c.loop-i.table c.write_line.new.line c.loop-i.i _ _ s (i.same_length ∙ c.requires) c.loop-i-test.true (rw c.write_line.ensures (list_of-length _ _)) (omega (arith, c.line_length.ensures)) in
    record {
      same_length = ap length w ∙ length-sets c.loop-i.table (line_start n c.loop-i.i) c.write_line.new.line ∙ i.same_length;
      lines_written = w ∙ rw c.write_line.ensures (lines-next _ _ _ _ i.lines_written);
    }

pub returns : goal.returns
returns c = lines-done _ _ _ _ c.loop-i.invariant.lines_written c.requires (omega arith) c.loop-i-test.false
