-- Each bit finds room.
use Rattle.std.proofs.Common.{◌≡◌, ◌+◌, ◌*◌, ◌≤◌, refl, sym, ◌∙◌, arith}
use Rattle.board.specs.Packed.{bits, packed_byte}
use Rattle.words.proofs.WordLaws.{zeros-at}
use Rattle.board.proofs.PackedLaws.{room, one-more, bit-room, nobody-packed}
use Rattle.board.proofs.packed.packed_byte.Goals as goal

pub returns-then-eight_zeros : goal.returns-then-eight_zeros
returns-then-eight_zeros c = nobody-packed _ _ (λ j h. zeros-at _ _ j (sym c.eight_zeros.ensures ∙ c.if-eight_zeros.true) h)

pub loop-k-init : goal.loop-k-init
unfolding bits
loop-k-init c = record { within = omega arith; done = refl }

pub overflow_mul-byte : goal.overflow_mul-byte
overflow_mul-byte c =
    let p = room c.args.row.now (8 * c.args.b) c.loop-k.k c.loop-k.byte c.loop-k.invariant.done c.loop-k-test.true in omega arith

pub overflow_add-byte : goal.overflow_add-byte
overflow_add-byte c =
    let p = room c.args.row.now (8 * c.args.b) c.loop-k.k c.loop-k.byte c.loop-k.invariant.done c.loop-k-test.true in
    let v : c.suspicion.result ≤ 1 = rw c.suspicion.ensures (bit-room c.args.row.now _) in
    omega arith

pub loop-k-preserved : goal.loop-k-preserved
loop-k-preserved c = record {
  within = omega (arith, c.loop-k.invariant.within);
  done =
      one-more c.args.row.now
      (8 * c.args.b) c.loop-k.k c.loop-k.byte c.loop-k.invariant.done c.loop-k-test.true _ c.loop-k.invariant.within c.suspicion.ensures;
}

pub returns : goal.returns
unfolding packed_byte
returns c =
    let z : c.loop-k.k ≡ 0 = omega arith in
    let s : 8 * c.args.b + 0 ≡ 8 * c.args.b = omega arith in
    rw (z, s) at c.loop-k.invariant.done
