-- Whether the fields so far are in order, what is found of them and the rest of the fields give the answer.
use Rattle.std.proofs.Common.{◌≡◌, ◌&&◌, length, false, Ok}
use Rattle.saved.specs.Fields.{runs_past, fields_of}
use Rattle.saved.specs.Reading.{behind_opening}
use Rattle.saved.proofs.FirstPass.{keeps, all_keep, completed, nothing_found}
use Rattle.saved.proofs.first_pass.open.Given as goal

abbrev pub invariant-loop-field : goal.invariant-loop-field
invariant-loop-field l = record {
  past : runs_past l.fields.rest.now ≡ runs_past l.file;
  orders : runs_past l.file ≡ false
      → (l.in_order && keeps l.fn.edition l.previous (fields_of l.fields.rest.now)) ≡ all_keep l.fn.edition (fields_of l.file);
  gives : runs_past l.file ≡ false
      → completed l.found (fields_of l.fields.rest.now) ≡ completed (Ok nothing_found) (behind_opening l.fn.edition (fields_of l.file));
}

abbrev pub decreases-loop-field : goal.decreases-loop-field
decreases-loop-field l = length l.fields.rest.now
