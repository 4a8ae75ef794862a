-- The lines passed so far have no doubt, nor has the part of the row.
use Rattle.std.proofs.Common.{◌≡◌, true}
use Rattle.lists.specs.Search.{every}
use Rattle.lamp.proofs.DoubtLaws.{undoubted, doubtless}
use Rattle.lamp.proofs.first_doubt.Given as goal

abbrev pub invariant-loop-k : goal.invariant-loop-k
invariant-loop-k l = every (undoubted l.table.n l.table.bytes.now l.by.0) l.k ≡ true

abbrev pub invariant-loop-i : goal.invariant-loop-i
invariant-loop-i l = every (doubtless l.table.n l.table.bytes.now) l.i ≡ true
