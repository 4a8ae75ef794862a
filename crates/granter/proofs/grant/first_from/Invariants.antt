-- The stations passed so far do not wait.
use Rattle.std.proofs.Common.{◌≡◌, ℕ, false, ◌≤◌, ◌<◌}
use Rattle.granter.specs.Grant.{waits}
use Rattle.granter.proofs.grant.first_from.Given as goal

abbrev pub invariant-loop-i : goal.invariant-loop-i
invariant-loop-i l = (y : ℕ) → y < l.i → l.fn.from.0 ≤ y → waits l.table.n l.table.bytes.now y ≡ false
