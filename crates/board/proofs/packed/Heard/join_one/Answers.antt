-- The byte stays, or is joined.
use Rattle.std.proofs.Common.{arith}
use Rattle.board.proofs.JoinLaws.{own-stays, unheard-stays, heard-joined, not-heard, is-heard}
use Rattle.board.proofs.packed.Heard.join_one.Goals as goal

pub returns-then-k-own : goal.returns-then-k-own
returns-then-k-own c = own-stays _ _ _ _ c.requires.inside (omega arith)

pub returns-then-not-suspects : goal.returns-then-not-suspects
returns-then-not-suspects c =
    unheard-stays _ _ _ _ c.requires.inside (not-heard _ _ _ _ _ c.requires.inside c.suspects.ensures c.if-not-suspects.true)

pub returns : goal.returns
returns c = heard-joined _ _ _ _ _ (λ e. omega arith) (is-heard _ _ _ _ _ c.requires.inside c.suspects.ensures c.if-not-suspects.false) c.max.ensures
