-- The greatest of those asked so far.
use Rattle.slots.specs.Slots.{tests_with}
use Rattle.slots.proofs.MostLaws.{GreatestSoFar}
use Rattle.slots.proofs.most_tests.Given as goal

abbrev pub invariant-loop-j : goal.invariant-loop-j
invariant-loop-j l = GreatestSoFar (λ r. tests_with l.n r l.i.0) l.initial.row l.j l.most l.row
