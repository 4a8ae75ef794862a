-- No word so far has a bit that a byte of 0 or 1 does not have, just if all bytes passed are 0 or 1.
use Rattle.std.proofs.Common.{◌*◌}
use Rattle.words.proofs.WordLaws.{Seen}
use Rattle.words.proofs.are_bits.Given as goal

abbrev pub invariant-loop-byte : goal.invariant-loop-byte
invariant-loop-byte l = Seen l.list l.all l.byte-index

abbrev pub invariant-loop-word : goal.invariant-loop-word
invariant-loop-word l = Seen l.list l.all (l.word-index * 8)
