-- The claims, each a law of proofs/.
use Rattle.mender.proofs.MendedLaws.{mended-passes, good-stays, mended-length, status-mended, suspects-mended, suspicion-was}
use Rattle.std.proofs.Common.{ap, ◌∙◌, sym, arith, length, refl}
use Rattle.table.proofs.Accepting.{table_ok}
use Rattle.mender.specs.Mended.{mended}
use Rattle.mender.specs.Report.{changes}
use Rattle.mender.proofs.ChangeLaws.{changes-none, changes-true, changes-all}
use Rattle.mender.proofs.Progress.{changes-few}
use borrow.Author.Tests.{le-leb}
use Rattle.table.specs.Table.{status}
use Rattle.mender.proofs.claims.mending.Goals as goal

-- A law of the mended table.
pub returns-clause-mended_passes : goal.returns-clause-mended_passes
returns-clause-mended_passes c w n t size long = mended-passes w n t size

-- The mended table passes, so it stays.
pub returns-clause-mended_once : goal.returns-clause-mended_once
returns-clause-mended_once c w n t size long =
    let u = mended w n t in
    let same = good-stays w n u (table_ok w n u _ (mended-passes w n t size)) in
    (same, ap (changes u) same ∙ changes-none u)

-- The mended table is the table, which has no changes against itself.
pub returns-clause-good_table_stays : goal.returns-clause-good_table_stays
returns-clause-good_table_stays c w n t ok = let same = good-stays w n t (table_ok w n t _ ok) in (same, ap (changes t) same ∙ changes-none t)

-- A law of the list of changes.
pub returns-clause-listed_is_true : goal.returns-clause-listed_is_true
returns-clause-listed_is_true c w n t size long = changes-true t (mended w n t)

-- A law of the list of changes.
pub returns-clause-unlisted_stays : goal.returns-clause-unlisted_stays
returns-clause-unlisted_stays c w n t size long p none = changes-all t (mended w n t) p (mended-length w n t ∙ sym long) none

-- There are no more changes than bytes.
pub returns-clause-report_has_room : goal.returns-clause-report_has_room
unfolding changes
returns-clause-report_has_room c w n t size long = let few = changes-few t (mended w n t) (length t) in omega arith

-- Only a status above 3 is mended.
pub returns-clause-status_stays : goal.returns-clause-status_stays
returns-clause-status_stays c w n t size long i h low = status-mended w n t i h ∙ rw (le-leb (status n t i) 3 low) refl

-- A mended byte of a row is what it was, or 0.
pub returns-clause-no_suspicion_invented : goal.returns-clause-no_suspicion_invented
returns-clause-no_suspicion_invented c w n t size long i k h hk one = suspicion-was i k _ (sym (suspects-mended w n t i k h hk) ∙ one)
