-- The greatest of those asked so far.
use Rattle.std.proofs.Common.{arith}
use Rattle.slots.specs.Slots.{most_of_boards}
use Rattle.slots.proofs.MostLaws.{greatest-none, greatest-one, greatest-all}
use Rattle.slots.proofs.most_with_one_more.Goals as goal

pub loop-i-init : goal.loop-i-init
loop-i-init c = greatest-none _ _

pub loop-i-preserved : goal.loop-i-preserved
loop-i-preserved c =
    let t = c.most_tests.ensures in
    greatest-one _ _ _ c.loop-i.invariant t.most t.row_unchanged c.max-most.ensures

pub returns : goal.returns
unfolding most_of_boards
returns c = let all = greatest-all c.args.n c.loop-i.invariant (omega arith) in record { most = all.greatest_is; row_unchanged = all.same }
