-- What the run leaves is what its definition says, and of that the laws of lists speak: on a wiring, and where 24 refuses its number.
use Rattle.std.proofs.Common.{Ok, Err, ◌∙◌, sym, ap, subst}
use Rattle.plant.specs.Entry.{state_of}
use Rattle.plant.specs.Run.{RunResult}
use Rattle.detection.specs.Runs.{call_of, taken_by}
use Rattle.detection.specs.Driven.{a_run}
use Rattle.detection.specs.InList.{DetectionInList}
use Rattle.detection.proofs.Chain.{taken_is}
use Rattle.detection.proofs.DetectionClaim.{run-detects}
use Rattle.accuracy.specs.Accurate.{AccurateAfter}
use Rattle.accuracy.proofs.Claims.{last-accurate}
use Rattle.vcube.specs.Exports.{run_out}
use Rattle.vcube.proofs.vcube_run.Goals as goal

pub returns-in_default-clause-counts_taken : goal.returns-in_default-clause-counts_taken
unfolding taken_by
returns-in_default-clause-counts_taken c = rw (← (sym c.in_default.is ∙ c.try_from.ensures))

pub returns-in_default-clause-detection : goal.returns-in_default-clause-detection
returns-in_default-clause-detection c =
    let e = sym c.in_default.is ∙ c.try_from.ensures in
    let before = state_of c.args.table.now c.args.rounds.now c.args.tests.now in
    rw (← e) (run-detects (call_of (Err _) c.args.n c.args.schedule.now c.args.sheet.now) before)

pub returns-in_default-clause-accurate : goal.returns-in_default-clause-accurate
returns-in_default-clause-accurate c =
    let e = sym c.in_default.is ∙ c.try_from.ensures in
    let before = state_of c.args.table.now c.args.rounds.now c.args.tests.now in
    rw (← e) (last-accurate (a_run (call_of (Err _) c.args.n c.args.schedule.now c.args.sheet.now)) before)

pub returns-clause-outcome : goal.returns-clause-outcome
returns-clause-outcome c =
    rw (← (sym c.in-Ok.is ∙ c.try_from.ensures), c.stop_refusal.ensures) (ap run_out c.run-ran.ensures)

pub returns-clause-counts_taken : goal.returns-clause-counts_taken
returns-clause-counts_taken c =
    let before = state_of c.args.table.now c.args.rounds.now c.args.tests.now in
    rw (← (sym c.in-Ok.is ∙ c.try_from.ensures))
    (rw (← c.run-ran.ensures) at (taken_is before (Ok c.in-Ok.wiring) c.args.n c.args.schedule.now c.args.sheet.now))

pub returns-clause-detection : goal.returns-clause-detection
returns-clause-detection c =
    let call = call_of (Ok c.in-Ok.wiring) c.args.n c.args.schedule.now c.args.sheet.now in
    let before = state_of c.args.table.now c.args.rounds.now c.args.tests.now in
    rw (← (sym c.in-Ok.is ∙ c.try_from.ensures))
    (subst (DetectionInList call before) (sym (ap (λ (o : RunResult). o.state) c.run-ran.ensures)) (run-detects call before))

pub returns-clause-accurate : goal.returns-clause-accurate
returns-clause-accurate c =
    let call = a_run (call_of (Ok c.in-Ok.wiring) c.args.n c.args.schedule.now c.args.sheet.now) in
    let before = state_of c.args.table.now c.args.rounds.now c.args.tests.now in
    rw (← (sym c.in-Ok.is ∙ c.try_from.ensures))
    (subst (AccurateAfter call before) (sym (ap (λ (o : RunResult). o.state) c.run-ran.ensures)) (last-accurate call before))
