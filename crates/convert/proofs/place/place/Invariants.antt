-- The bytes passed, and those before the fault in the rest.
use Rattle.std.proofs.Common.{◌≡◌, ◌+◌, length}
use Rattle.convert.specs.Place.{place}
use Rattle.convert.proofs.place.place.Given as goal

abbrev pub invariant-loop-field : goal.invariant-loop-field
invariant-loop-field l = record {
  passed : l.at + length l.fields.rest.now ≡ length l.file;
  left : l.at + place l.search l.fields.rest.now ≡ place l.fn.search l.file;
}

abbrev pub decreases-loop-field : goal.decreases-loop-field
decreases-loop-field l = length l.fields.rest.now
