-- The entries of the distances that were gone through stand at the front of the list.
use Rattle.std.proofs.Common.{◌≡◌, length, map}
use Rattle.std.specs.List.{filter}
use Rattle.std.proofs.lemmas.List.Edits.{sets}
use Rattle.station.specs.Tests.{due}
use Rattle.station.specs.Calls.{assignment_entries}
use Rattle.station.proofs.due.write_entries.Given as goal

abbrev pub invariant-loop-k : goal.invariant-loop-k
invariant-loop-k l = record {
  counted : l.due ≡ length (filter (due l.row l.fn.i.0) (map (λ p. p.1) l.yielded));
  written : l.list ≡ sets l.initial.list 0 (assignment_entries l.row l.fn.i.0 (map (λ p. p.1) l.yielded));
}
