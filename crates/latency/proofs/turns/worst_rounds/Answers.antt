-- A number of one byte has eight digits at most.
use Rattle.std.proofs.Common.{◌≤◌, ◌-◌, arith}
use native.Mathlib.Nat.{mul-le-mul}
use Rattle.latency.proofs.RowFigures.{dimension-most}
use Rattle.latency.proofs.turns.worst_rounds.Goals as goal

pub returns-clause-upper_bound : goal.returns-clause-upper_bound
returns-clause-upper_bound c =
    let d : c.dimension_of-d.result.0 ≤ 8 = omega (arith, c.dimension_of-d.ensures, dimension-most c.args.n c.ranges.n.fits) in
    let less : c.dimension_of-d.result.0 - 3 ≤ 5 = omega arith in
    omega (arith, mul-le-mul less less)
