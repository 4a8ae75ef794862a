-- The lines of the fields that are read are taken.
use Rattle.std.proofs.Common.{◌≡◌, false, length}
use Rattle.table.specs.Lent.{IsSameLoan}
use Rattle.saved.specs.Fields.{runs_past, fields_of, tagged}
use Rattle.saved.specs.Plant.{line_tag}
use Rattle.saved.specs.Load.{file_lines}
use Rattle.saved.proofs.SecondPass.{Passed}
use Rattle.saved.proofs.lines.build_table.Given as goal

abbrev pub invariant-loop-field : goal.invariant-loop-field
invariant-loop-field l = record {
  same : IsSameLoan l.initial.table l.table;
  whole : runs_past l.fields.rest.now ≡ false;
  wide : length l.seen ≡ 64;
  passed : Passed l.fn.edition l.initial.table.n (file_lines l.file) l.table.bytes.now l.seen (tagged line_tag (fields_of l.fields.rest.now));
}

abbrev pub decreases-loop-field : goal.decreases-loop-field
decreases-loop-field l = length l.fields.rest.now
