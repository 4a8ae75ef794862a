-- A head, the station and the line are the field.
use Rattle.saved.proofs.LineFields.{line-written}
use Rattle.saved.proofs.save.write_line.Goals as goal

pub returns : goal.returns
returns c = rw (c.put_list.ensures, c.put_head.ensures) (line-written _ _ _ _)
