-- The stations passed so far are suspected, but for the station itself.
use Rattle.std.proofs.Common.{◌≡◌, true}
use Rattle.std.specs.Prelude.{slice_index}
use Rattle.station.specs.Rows.{suspects_all}
use Rattle.station.proofs.rows.suspects_all.Given as goal

abbrev pub invariant-loop-k : goal.invariant-loop-k
invariant-loop-k l = suspects_all (slice_index l.row) l.own.0 l.k ≡ true
