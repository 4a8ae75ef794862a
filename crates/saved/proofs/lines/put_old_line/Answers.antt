-- The first four bytes, two more and the row are the converted line.
use Rattle.std.proofs.Common.{arith, ap, ◌∙◌}
use Rattle.table.specs.Table.{table_length, set_cell}
use Rattle.table.proofs.CellLaws.{line-inside}
use Rattle.saved.proofs.SecondPass.{old_written}
use Rattle.saved.proofs.lines.put_old_line.Goals as goal

pub put_list-requires : goal.put_list-requires
put_list-requires c =
    omega (
      arith,
      c.line_start-start.ensures.start_of_line,
      c.split_at.ensures.front_len,
      c.args.table.now.fits,
      line-inside c.args.table.now.n c.args.i.0 c.requires.station,
    )

pub put_list-requires-2 : goal.put_list-requires-2
put_list-requires-2 c =
    let n = c.put-2.ensures.same_loan.size ∙ c.put.ensures.same_loan.size in
    let long = c.put-2.new.self.fits ∙ ap table_length n in
    omega (
      arith,
      long,
      c.line_start-start.ensures.start_of_line,
      c.split_at.ensures.back_len,
      c.requires.width,
      line-inside c.args.table.now.n c.args.i.0 c.requires.station,
    )

pub returns-clause-line_written : goal.returns-clause-line_written
unfolding set_cell
returns-clause-line_written c =
    rw (
      c.put_list-2.ensures,
      c.put-2.ensures.byte_written,
      c.put.ensures.same_loan.size,
      c.put.ensures.byte_written,
      c.put_list.ensures,
      c.line_start-start.ensures.start_of_line,
      c.split_at.ensures.front,
      c.split_at.ensures.back,
    )
    (old_written _ _ _ _ (omega (arith, c.requires.width)) (rw c.split_at.ensures.front at c.told_by.ensures))
