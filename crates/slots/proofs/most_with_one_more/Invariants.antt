-- The greatest of those asked so far.
use Rattle.slots.specs.Slots.{most_tests}
use Rattle.slots.proofs.MostLaws.{GreatestSoFar}
use Rattle.slots.proofs.most_with_one_more.Given as goal

abbrev pub invariant-loop-i : goal.invariant-loop-i
invariant-loop-i l = GreatestSoFar (most_tests l.n) l.initial.row l.i l.most l.row
