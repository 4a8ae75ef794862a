-- The distances passed so far are not due.
use Rattle.std.proofs.Common.{◌≡◌, ℕ, ◌-◌, ◌≤◌, ◌<◌, false}
use Rattle.station.specs.Tests.{due}
use Rattle.station.proofs.wired.scan.Given as goal

abbrev pub invariant-loop-m : goal.invariant-loop-m
invariant-loop-m l = record {
  above_0 : 0 < l.m;
  begun : l.from.0 ≤ l.m;
  passed : (y : ℕ) → y < l.m → l.from.0 ≤ y → due l.row l.i.0 y ≡ false;
}

abbrev pub decreases-loop-m : goal.decreases-loop-m
decreases-loop-m l = l.end - l.m
