-- The opening, and the file behind it.
use Rattle.std.proofs.Common.{sym}
use Rattle.convert.proofs.WhatLaws.{opening_bytes, opened_front}
use Rattle.convert.proofs.what.write_opened.Goals as goal

pub returns-clause-bytes : goal.returns-clause-bytes
returns-clause-bytes c =
    rw (c.copy_from_slice.ensures.after, c.copy_from_slice-2.ensures.after) (opened_front _ _ _ (sym opening_bytes))
