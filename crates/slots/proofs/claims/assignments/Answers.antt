-- The claims, each a law of proofs/.
use Rattle.slots.proofs.AssignmentLaws.{own-unsuspected, somebody-first, before-up-to, nothing-left-over, due-entries-are-marked}
use Rattle.slots.proofs.claims.assignments.Goals as goal

pub returns-clause-own_unsuspected : goal.returns-clause-own_unsuspected
returns-clause-own_unsuspected c = own-unsuspected

pub returns-clause-somebody_first : goal.returns-clause-somebody_first
returns-clause-somebody_first c = somebody-first

pub returns-clause-before_up_to : goal.returns-clause-before_up_to
returns-clause-before_up_to c = before-up-to

pub returns-clause-nothing_left_over : goal.returns-clause-nothing_left_over
returns-clause-nothing_left_over c = nothing-left-over

pub returns-clause-due_entries_are_marked : goal.returns-clause-due_entries_are_marked
returns-clause-due_entries_are_marked c = due-entries-are-marked
