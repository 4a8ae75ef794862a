-- Each division keeps the greatest common divisor, and the second number gets less.
use Rattle.std.proofs.Common.{◌≡◌}
use Rattle.figures.specs.Fractions.{gcd}
use Rattle.figures.proofs.fractions.gcd.Given as goal

abbrev pub invariant-loop-y : goal.invariant-loop-y
invariant-loop-y l = gcd l.x l.y ≡ gcd l.a l.b

abbrev pub decreases-loop-y : goal.decreases-loop-y
decreases-loop-y l = l.y
