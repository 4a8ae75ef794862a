-- The three bytes that are written are the head's.
use Rattle.saved.proofs.Copying.{head-written}
use Rattle.saved.proofs.save.put_head.Goals as goal

pub returns : goal.returns
returns c = rw (c.put_list.ensures, c.to_be_bytes.ensures) (head-written _ _ _ _)
