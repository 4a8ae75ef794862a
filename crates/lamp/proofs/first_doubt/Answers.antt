-- Lines and bytes passed so far show no doubt; the byte at which the loops are left shows the first.
use Rattle.std.proofs.Common.{true, refl, sym, ◌∙◌, arith}
use Rattle.lists.proofs.Loops.{every-start, every-next, every-done}
use Rattle.lamp.proofs.DoubtLaws.{read-doubt, passed-dead, passed-line, passed-byte, passed-doubted, first-found, first-none}
use Rattle.lamp.proofs.first_doubt.Goals.{else-byte-eq1-via-then-byte-eq1+else-is_live, else-byte-eq1-via-else-byte-eq1}
use Rattle.lamp.proofs.first_doubt.Goals as goal

pub loop-i-init : goal.loop-i-init
loop-i-init c = every-start _

pub loop-k-init : goal.loop-k-init
loop-k-init c = every-start _

pub loop-i-preserved-then-not-is_live : goal.loop-i-preserved-then-not-is_live
loop-i-preserved-then-not-is_live c =
    every-next _ _ true c.loop-i.invariant (passed-dead _ _ c.loop-i.i _ c.is_live.ensures c.if-not-is_live.true) refl

pub loop-k-preserved : goal.loop-k-preserved
loop-k-preserved c =
    let row = c.row-byte-items in
    let e = row.ensures.row_of_line in
    let long = row.ensures.row_len in
    elim c.else-byte-eq1.branch [
      | else-byte-eq1-via-then-byte-eq1+else-is_live w ↦
          every-next _ _ true c.loop-k.invariant
          (passed-doubted _ _ _ c.loop-k.k row.result.now _ e long c.loop-k-test.true w.is_live-then-byte-eq1.ensures w.if-is_live.false) refl
      | else-byte-eq1-via-else-byte-eq1 w ↦
          every-next _ _ true c.loop-k.invariant (passed-byte _ _ _ c.loop-k.k row.result.now e long c.loop-k-test.true w.if-byte-eq1.false) refl
    ]

pub loop-i-preserved : goal.loop-i-preserved
loop-i-preserved c =
    let long = c.row-byte-items.ensures.row_len in
    let line = every-done _ _ _ c.loop-k.invariant (omega arith) (omega arith) in
    every-next _ _ true c.loop-i.invariant (passed-line _ _ c.loop-i.i line) refl

pub returns-then-is_live : goal.returns-then-is_live
returns-then-is_live c =
    let row = c.row-byte-items in
    let long = row.ensures.row_len in
    let read = read-doubt _ _ _ c.loop-k.k row.result.now _ row.ensures.row_of_line long c.loop-k-test.true c.is_live-then-byte-eq1.ensures in
    sym (first-found _ _ _ _ c.loop-i-test.true c.loop-i.invariant (sym c.is_live.ensures ∙ c.if-not-is_live.false)
    (omega (arith, c.loop-k-test.true)) c.loop-k.invariant (read ∙ rw (c.if-byte-eq1.true, c.if-is_live.true) refl))

pub returns-after-loop-i : goal.returns-after-loop-i
returns-after-loop-i c = sym (first-none _ _ (sym (every-done _ _ _ c.loop-i.invariant (omega arith) c.loop-i-test.false)))
