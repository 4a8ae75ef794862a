-- A byte's rest of 0 is passed at once; else one station is joined or passed.
use Rattle.std.proofs.Common.{◌∙◌, arith}
use Rattle.board.proofs.JoinLaws.{join-passed, join-next, join-done, join-start, rest-unheard, bit-unheard}
use Rattle.board.proofs.packed.Heard.join_into.Goals.{then-bits-eq1, else-bits-eq1}
use Rattle.board.proofs.packed.Heard.join_into.Goals as goal

pub loop-k-init : goal.loop-k-init
loop-k-init c = join-start _ _ _

pub loop-k-preserved-then-bits-eq0 : goal.loop-k-preserved-then-bits-eq0
loop-k-preserved-then-bits-eq0 c =
    let i = c.loop-k.invariant in
    let z = rw c.byte-byte.ensures at c.if-bits-eq0.true in
    join-passed _ _ _ _ _ i _ (λ k lo hi h. rest-unheard _ _ _ _ z k lo hi h) (omega arith)

pub loop-k-preserved : goal.loop-k-preserved
loop-k-preserved c =
    let i = c.loop-k.invariant in
    elim c.if-bits-eq1.branch [
      | then-bits-eq1 w ↦ join-next _ _ _ _ _ i _ (omega (arith, i.long, c.loop-k-test.true)) (w.row-is ∙ (rw i.long at w.join_one.ensures))
      | else-bits-eq1 w ↦
          let z = rw c.byte-byte.ensures at w.if-bits-eq1.false in
          rw w.row-is (join-passed _ _ _ _ _ i _ (λ k lo hi h. bit-unheard _ _ _ _ z k lo hi h) (omega arith))
    ]

pub returns : goal.returns
returns c = join-done _ _ _ _ _ c.loop-k.invariant (omega (arith, c.loop-k-test.false, c.loop-k.auto.row))
