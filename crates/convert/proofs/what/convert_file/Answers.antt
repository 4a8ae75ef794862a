-- A file that is longer than any saved plant, and another.
use Rattle.std.proofs.Common.{Ok, Err}
use Rattle.saved.specs.declared.edition.Edition.TheVariants.{One}
use Rattle.convert.proofs.WhatLaws.{read_long, read_short}
use Rattle.convert.proofs.what.convert_file.Goals as goal

pub returns-then-file-gt-GREATEST_SAVED-clause-answer : goal.returns-then-file-gt-GREATEST_SAVED-clause-answer
returns-then-file-gt-GREATEST_SAVED-clause-answer c = read_long One _ c.if-file-gt-GREATEST_SAVED.true

pub returns-in-Ok-clause-answer : goal.returns-in-Ok-clause-answer
returns-in-Ok-clause-answer c = read_short One _ c.if-file-gt-GREATEST_SAVED.false (Ok (tt {0})) c.in-Ok.ensures.answer

pub returns-in-Err-clause-answer : goal.returns-in-Err-clause-answer
returns-in-Err-clause-answer c =
    rw c.fault_at.ensures (read_short One c.args.file.now c.if-file-gt-GREATEST_SAVED.false (Err c.in-Err.refusal) c.in-Err.ensures.answer)
