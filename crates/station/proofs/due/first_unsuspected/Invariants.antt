-- The stations passed so far are all suspected.
use Rattle.std.proofs.Common.{◌≡◌, false, ℕ, ◌+◌, ◌<◌}
use Rattle.station.specs.Groups.{station_at}
use Rattle.station.specs.Tests.{unsuspected}
use Rattle.station.proofs.due.first_unsuspected.Given as goal

abbrev pub invariant-loop-k : goal.invariant-loop-k
invariant-loop-k l = (y : ℕ) → y < l.k → unsuspected l.row (station_at l.j.0 (l.w + y)) ≡ false
