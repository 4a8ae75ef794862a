-- No words so far are apart just if the last eight bytes are the same, and all bytes passed.
use Rattle.std.proofs.Common.{◌*◌}
use Rattle.words.proofs.SameLaws.{Compared}
use Rattle.words.proofs.same_bytes.Given as goal

abbrev pub invariant-loop-k : goal.invariant-loop-k
invariant-loop-k l = Compared l.list l.other l.apart (l.k * 8)
