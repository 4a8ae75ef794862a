-- The bytes passed so far are written.
use Rattle.std.proofs.Common.{◌≡◌}
use Rattle.std.proofs.lemmas.List.Edits.{sets}
use Rattle.lists.specs.Search.{list_of}
use Rattle.board.specs.Packed.{packed_byte}
use Rattle.board.proofs.packed.pack.Given as goal

abbrev pub invariant-loop-b : goal.invariant-loop-b
invariant-loop-b l = l.packed ≡ sets l.initial.packed 0 (list_of (packed_byte l.row) l.b)
