-- The bits from k on are there.
use Rattle.std.proofs.Common.{◌≡◌, ◌+◌, ◌*◌, ◌-◌, ◌≤◌}
use Rattle.board.specs.Packed.{bits, suspicion}
use Rattle.board.proofs.packed.packed_byte.Given as goal

abbrev pub invariant-loop-k : goal.invariant-loop-k
invariant-loop-k l = record {
  within : l.k ≤ 8;
  done : l.byte ≡ bits (suspicion l.row) (8 * l.b + l.k) (8 - l.k);
}

abbrev pub decreases-loop-k : goal.decreases-loop-k
decreases-loop-k l = l.k
