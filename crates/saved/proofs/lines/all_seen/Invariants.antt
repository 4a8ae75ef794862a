-- Those passed are all seen.
use Rattle.std.proofs.Common.{◌≡◌, false, get_or}
use Rattle.lists.specs.Search.{every}
use Rattle.saved.proofs.lines.all_seen.Given as goal

abbrev pub invariant-loop-one : goal.invariant-loop-one
invariant-loop-one l = l.all ≡ every (λ i. get_or l.seen i false) l.one-index
