-- One word more, or one byte.
use Rattle.std.proofs.Common.{sym}
use Rattle.words.specs.Words.{is_bit_at}
use Rattle.lists.proofs.Loops.{every-start}
use Rattle.words.proofs.WordLaws.{word-next, byte-next, bits-done, last-done}
use Rattle.words.proofs.are_bits.Goals as goal

pub loop-byte-init : goal.loop-byte-init
loop-byte-init c = sym (every-start (is_bit_at c.args.list.now))

pub loop-byte-preserved : goal.loop-byte-preserved
loop-byte-preserved c = byte-next _ _ _ c.type_inv.list c.loop-byte.invariant

pub returns-in_default : goal.returns-in_default
returns-in_default c = bits-done _ _ _ c.loop-byte.auto.byte-index-end c.loop-byte-test.false c.loop-byte.invariant

pub loop-word-init : goal.loop-word-init
loop-word-init c = sym (every-start (is_bit_at c.args.list.now))

pub loop-word-preserved : goal.loop-word-preserved
loop-word-preserved c =
    let e = c.as_chunks.ensures in
    word-next _ _ _ _ _ c.type_inv.list e.front e.front_len c.loop-word-test.true c.loop-word.invariant c.from_le_bytes-all.ensures

pub returns : goal.returns
returns c =
    let e = c.as_chunks.ensures in
    let l = c.in-Some.ensures.cases in
    last-done _ _ _ _ _ _ c.type_inv.list l.0 l.1.same e.front_len c.loop-word-test.false c.loop-word.auto.word-index-end
    c.loop-word.invariant c.from_le_bytes-all-2.ensures
