-- The bytes passed so far are the greater ones, the others are as they were.
use Rattle.std.proofs.Common.{◌≡◌}
use Rattle.std.proofs.lemmas.List.Edits.{sets}
use Rattle.lists.specs.Search.{list_of}
use Rattle.lists.specs.Bytes.{joined_byte}
use Rattle.lists.proofs.bytes.join_bytes.Given as goal

abbrev pub invariant-loop-k : goal.invariant-loop-k
invariant-loop-k l = l.list ≡ sets l.initial.list 0 (list_of (joined_byte l.initial.list l.other) l.k)
