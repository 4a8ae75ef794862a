-- A file that is longer than any saved plant, and another.
use Rattle.std.proofs.Common.{Ok, Err}
use Rattle.saved.specs.declared.edition.Edition.TheVariants.{Two}
use Rattle.convert.proofs.WhatLaws.{read_long, read_short}
use Rattle.convert.proofs.what.read_second.Goals as goal

pub returns-then-file-gt-GREATEST_SAVED : goal.returns-then-file-gt-GREATEST_SAVED
returns-then-file-gt-GREATEST_SAVED c = read_long Two _ c.if-file-gt-GREATEST_SAVED.true

pub returns-in-Ok : goal.returns-in-Ok
returns-in-Ok c = read_short Two _ c.if-file-gt-GREATEST_SAVED.false (Ok c.in-Ok.field-0) c.in-Ok.ensures

pub returns-in-Err : goal.returns-in-Err
returns-in-Err c =
    rw c.fault_at.ensures (read_short Two c.args.file.now c.if-file-gt-GREATEST_SAVED.false (Err c.in-Err.refusal) c.in-Err.ensures)
