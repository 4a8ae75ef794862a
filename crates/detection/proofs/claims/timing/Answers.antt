-- The claims, each a law of proofs/.
use Rattle.detection.proofs.SheetTests.{tests-are-the-sheets}
use Rattle.detection.proofs.RoundTests.{tests-byte-counts, tests-within-due, slot-suffices}
use Rattle.detection.proofs.claims.timing.Goals as goal

pub returns-clause-tests_are_the_sheets : goal.returns-clause-tests_are_the_sheets
returns-clause-tests_are_the_sheets c = tests-are-the-sheets

pub returns-clause-tests_byte_counts : goal.returns-clause-tests_byte_counts
returns-clause-tests_byte_counts c = tests-byte-counts

pub returns-clause-tests_within_due : goal.returns-clause-tests_within_due
returns-clause-tests_within_due c = tests-within-due

pub returns-clause-slot_suffices : goal.returns-clause-slot_suffices
returns-clause-slot_suffices c = slot-suffices
