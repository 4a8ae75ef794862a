-- The greatest of those asked so far.
use Rattle.slots.proofs.MostLaws.{GreatestSoFar}
use Rattle.latency.specs.Turns.{known_with}
use Rattle.latency.proofs.turns.most_until_known.Given as goal

abbrev pub invariant-loop-j : goal.invariant-loop-j
invariant-loop-j l = GreatestSoFar (known_with l.n) l.initial.row l.j l.most l.row
