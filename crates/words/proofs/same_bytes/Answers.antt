-- The last word, then one word more of each list.
use Rattle.std.proofs.Common.{sym, arith}
use Rattle.words.proofs.WordLaws.{chunk-read, last-read}
use Rattle.words.proofs.SameLaws.{compared-last, compared-next, compared-done}
use Rattle.words.proofs.same_bytes.Goals as goal

pub loop-k-init : goal.loop-k-init
loop-k-init c =
    let l = c.in-Some-Some.ensures.cases in
    let o = c.in-Some-Some.ensures'.cases in
    compared-last _ _ c.type_inv.list c.type_inv.other _ _
    (last-read _ _ _ l.0 l.1.same c.from_le_bytes.ensures)
    (rw (sym c.if-list-other.false) at (last-read _ _ _ o.0 o.1.same c.from_le_bytes-2.ensures))

pub loop-k-preserved : goal.loop-k-preserved
loop-k-preserved c =
    let e = c.as_chunks.ensures in
    let f = c.as_chunks-2.ensures in
    let k = c.loop-k-test.true in
    compared-next _ _ c.type_inv.list c.type_inv.other _ _ _ _ c.loop-k.invariant
    (chunk-read _ _ _ _ e.front e.front_len k c.from_le_bytes-in-loop-k.ensures)
    (chunk-read _ _ _ _ f.front f.front_len (omega (arith, k, e.front_len, f.front_len, c.if-list-other.false)) c.from_le_bytes-in-loop-k-2.ensures)

pub returns : goal.returns
returns c =
    compared-done _ _ _ _ c.if-list-other.false (omega (arith, c.loop-k-test.false, c.as_chunks.ensures.front_len)) c.loop-k.invariant
