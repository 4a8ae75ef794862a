-- The stations passed so far are joined.
use Rattle.std.proofs.Common.{◌-◌, length}
use Rattle.board.specs.Packed.{heard}
use Rattle.board.proofs.JoinLaws.{Joined}
use Rattle.board.proofs.packed.Heard.join_into.Given as goal

abbrev pub invariant-loop-k : goal.invariant-loop-k
invariant-loop-k l = Joined l.initial.row (heard (length l.initial.row) l.self.from.0 l.self.packed.now) l.row l.own.0 l.k

abbrev pub decreases-loop-k : goal.decreases-loop-k
decreases-loop-k l = length l.row - l.k
