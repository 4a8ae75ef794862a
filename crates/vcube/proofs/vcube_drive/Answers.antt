-- What the drive leaves is what its definition says, and of that the laws of lists speak: on a wiring, and where 24 refuses its number.
use Rattle.std.proofs.Common.{Ok, Err, ◌∙◌, sym, ap, subst}
use Rattle.plant.specs.Entry.{state_of}
use Rattle.granter.specs.Drive.{DriveResult}
use Rattle.detection.specs.Driven.{a_drive}
use Rattle.detection.proofs.DrivenDetection.{drive-detects}
use Rattle.accuracy.specs.Accurate.{AccurateAfter}
use Rattle.accuracy.proofs.Claims.{last-accurate}
use Rattle.vcube.specs.Exports.{driven_out}
use Rattle.vcube.proofs.OnWiring.{of_wiring}
use Rattle.vcube.proofs.vcube_drive.Goals as goal

pub returns-in_default-clause-accurate : goal.returns-in_default-clause-accurate
returns-in_default-clause-accurate c =
    let e = sym c.in_default.is ∙ c.try_from.ensures in
    let before = state_of c.args.table.now c.args.rounds.now c.args.tests.now in
    rw (← e) (last-accurate (a_drive (Err _) c.args.n c.args.last.now) before)

pub returns-clause-outcome : goal.returns-clause-outcome
returns-clause-outcome c =
    rw (← (sym c.in-Ok.is ∙ c.try_from.ensures), c.stop_refusal.ensures) (ap driven_out c.drive-driven.ensures.outcome)

pub returns-clause-detection : goal.returns-clause-detection
returns-clause-detection c =
    let before = state_of c.args.table.now c.args.rounds.now c.args.tests.now in
    of_wiring _ (sym c.in-Ok.is ∙ c.try_from.ensures)
    (rw (← c.drive-driven.ensures.outcome) at (drive-detects c.in-Ok.wiring c.args.n before c.args.last.now))

pub returns-clause-accurate : goal.returns-clause-accurate
returns-clause-accurate c =
    let call = a_drive (Ok c.in-Ok.wiring) c.args.n c.args.last.now in
    let before = state_of c.args.table.now c.args.rounds.now c.args.tests.now in
    rw (← (sym c.in-Ok.is ∙ c.try_from.ensures))
    (subst (AccurateAfter call before) (sym (ap (λ (o : DriveResult). o.state) c.drive-driven.ensures.outcome)) (last-accurate call before))
