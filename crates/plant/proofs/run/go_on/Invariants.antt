-- The rest of the run, from where it stands, gives what the whole gives, and the table obeys the rules.
use Rattle.std.proofs.Common.{◌≡◌, ◌*◌, length, drop}
use Rattle.std.specs.Prelude.{None}
use Rattle.table.specs.Lent.{IsSameLoan}
use Rattle.table.proofs.Accepting.{Accepted}
use Rattle.plant.specs.Entry.{state_with}
use Rattle.plant.specs.Run.{entries, go_on}
use Rattle.plant.proofs.run.go_on.Given as goal

abbrev pub invariant-loop-kind : goal.invariant-loop-kind
invariant-loop-kind l = record {
  loan : IsSameLoan l.initial.lent l.lent;
  twice : length l.sheet ≡ 2 * length l.schedule;
  rules : Accepted l.initial.lent.wiring l.initial.lent.n l.lent.bytes.now;
  count : l.ran.taken ≡ l.kind-index;
  going : l.ran.stopped ≡ None;
  goes : go_on l.initial.lent.wiring l.initial.lent.n l.kind-index (state_with l.lent.bytes.now l.ran.tally) l.sheet
      (drop l.kind-index (entries l.schedule))
      ≡ go_on l.initial.lent.wiring l.initial.lent.n 0 (state_with l.initial.lent.bytes.now l.fn.tally) l.initial.sheet (entries l.schedule);
}
