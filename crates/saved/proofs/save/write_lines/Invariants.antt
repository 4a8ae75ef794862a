-- The fields of the lines passed are written, and the other lines are left.
use Rattle.std.proofs.Common.{◌≡◌, ◌≤◌, drop}
use Rattle.std.proofs.lemmas.List.Edits.{sets}
use Rattle.table.specs.Table.{stride, line_start}
use Rattle.saved.specs.Save.{saved_lines}
use Rattle.saved.proofs.save.write_lines.Given as goal

abbrev pub invariant-loop-i : goal.invariant-loop-i
invariant-loop-i l = record {
  size : l.i-iterator.iter.size ≡ stride l.table.n;
  most : l.i-iterator.count ≤ l.table.n;
  left : l.i-iterator.iter.rest.now ≡ drop (line_start l.table.n l.i-iterator.count) l.table.bytes.now;
  written : l.buffer ≡ sets l.initial.buffer 19 (saved_lines l.table.n l.table.bytes.now l.i-iterator.count);
}
