-- The greatest of those asked so far.
use Rattle.std.proofs.Common.{arith}
use Rattle.slots.specs.Slots.{most_tests}
use Rattle.slots.proofs.MostLaws.{greatest-none, greatest-one, greatest-all}
use Rattle.slots.proofs.most_tests.Goals as goal

pub loop-j-init : goal.loop-j-init
loop-j-init c = greatest-none _ _

pub loop-j-preserved : goal.loop-j-preserved
loop-j-preserved c =
    let t = c.tests_with.ensures in
    greatest-one _ _ _ c.loop-j.invariant t.count t.row_unchanged c.max-most.ensures

pub returns : goal.returns
unfolding most_tests
returns c = let all = greatest-all c.args.n c.loop-j.invariant (omega arith) in record { most = all.greatest_is; row_unchanged = all.same }
