-- As long as no two bytes were apart, it is the question of those still to come, of which there are as many in both lists.
use Rattle.std.proofs.Common.{◌≡◌, ◌&&◌, nat_eq, length}
use Rattle.std.specs.Str.{bytes_eq}
use Rattle.lists.proofs.bytes.same_bytes.Given as goal

abbrev pub invariant-loop-x : goal.invariant-loop-x
invariant-loop-x l =
    (bytes_eq l.list l.other ≡ (nat_eq l.apart 0 && bytes_eq l.x-iterator.a.rest.now l.x-iterator.b.rest.now))
    × (length l.x-iterator.a.rest.now ≡ length l.x-iterator.b.rest.now)
