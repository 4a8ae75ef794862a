-- The lines passed so far are those of a fresh table.
use Rattle.std.proofs.Common.{◌≡◌, length}
use Rattle.std.proofs.lemmas.List.Edits.{sets}
use Rattle.lists.specs.Search.{list_of}
use Rattle.table.specs.Fresh.{fresh_byte}
use Rattle.table.specs.Table.{line_start}
use Rattle.table.proofs.fresh.write_fresh.Given as goal

abbrev pub invariant-loop-i : goal.invariant-loop-i
invariant-loop-i l = record {
  same_length : length l.table ≡ length l.initial.table;
  lines_written : l.table ≡ sets l.initial.table 0 (list_of (fresh_byte l.n) (line_start l.n l.i));
}
