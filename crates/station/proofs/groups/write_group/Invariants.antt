-- The members that were gone through stand at the front of the list.
use Rattle.std.proofs.Common.{◌≡◌, map}
use Rattle.std.proofs.lemmas.List.Edits.{sets}
use Rattle.station.proofs.groups.write_group.Given as goal

abbrev pub invariant-loop-k : goal.invariant-loop-k
invariant-loop-k l = l.list ≡ sets l.initial.list 0 (map (λ p. p.1) l.yielded)
