-- The drive stands where the grants made so far lead, and has not stopped before.
use Rattle.std.proofs.Common.{◌≡◌, ◌<◌, ◌*◌, ◌-◌}
use Rattle.std.specs.Prelude.{IfSome}
use Rattle.table.specs.Lent.{IsSameLoan}
use Rattle.plant.specs.Entry.{state_with}
use Rattle.granter.specs.Grant.{last_number}
use Rattle.granter.specs.Drive.{stand_at, after_grants}
use Rattle.granter.proofs.DriveLaws.{Driving}
use Rattle.granter.proofs.drive.drive_on.Given as goal

abbrev pub invariant-loop-tally : goal.invariant-loop-tally
invariant-loop-tally l = record {
  loan : IsSameLoan l.initial.table l.table;
  below : IfSome l.before (λ i. i.0 < l.initial.table.n);
  led : stand_at (state_with l.table.bytes.now l.held) (last_number l.before)
      ≡ after_grants l.initial.table.wiring l.initial.table.n
      (stand_at (state_with l.initial.table.bytes.now l.fn.tally) (last_number l.fn.last)) l.grants;
  driving : Driving l.initial.table.wiring l.initial.table.n
      (stand_at (state_with l.initial.table.bytes.now l.fn.tally) (last_number l.fn.last)) l.grants;
}

abbrev pub decreases-loop-tally : goal.decreases-loop-tally
decreases-loop-tally l = l.initial.table.n * l.initial.table.n - l.grants
