-- The four bytes that are written are the number's.
use Rattle.std.proofs.Common.{ap}
use Rattle.std.proofs.lemmas.List.Edits.{sets}
use Rattle.saved.proofs.Copying.{four-bytes}
use Rattle.saved.proofs.bytes.put_word.Goals as goal

pub returns : goal.returns
returns c = rw (c.put_list.ensures, c.to_be_bytes.ensures) (ap (sets _ _) (four-bytes _))
