-- The greatest of those asked so far.
use Rattle.std.proofs.Common.{arith}
use Rattle.slots.proofs.MostLaws.{greatest-none, greatest-one, greatest-all}
use Rattle.latency.specs.Turns.{most_until_known}
use Rattle.latency.proofs.turns.most_until_known.Goals as goal

pub loop-j-init : goal.loop-j-init
loop-j-init c = greatest-none _ _

pub loop-j-preserved : goal.loop-j-preserved
loop-j-preserved c =
    let t = c.known_with.ensures in
    greatest-one _ _ _ c.loop-j.invariant t.turns t.row_unchanged c.max-most.ensures

pub returns : goal.returns
unfolding most_until_known
returns c = let all = greatest-all c.args.n c.loop-j.invariant (omega arith) in record { most = all.greatest_is; row_unchanged = all.same }
