-- What is written is written byte by byte from the front.
use Rattle.saved.specs.Bytes.{bytes_of}
use Rattle.saved.specs.Fields.{field_bytes}
use Rattle.saved.specs.Save.{front_fields}
use Rattle.saved.proofs.save.write_front.Goals as goal

pub returns : goal.returns
unfolding bytes_of field_bytes front_fields
returns c = rw (c.put_word-2.ensures, c.put_word.ensures, c.put_head-3.ensures, c.put_head-2.ensures, c.put_head.ensures)
