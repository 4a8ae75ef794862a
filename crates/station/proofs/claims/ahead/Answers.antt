-- The claims, each a law of proofs/.
use Rattle.station.proofs.AheadLaws.{named-stands-before, due-if-nobody-before, before-by-digits, before-in-block, none-due-in-block}
use Rattle.station.proofs.claims.ahead.Goals as goal

pub returns-clause-named_stands_before : goal.returns-clause-named_stands_before
returns-clause-named_stands_before c = named-stands-before

pub returns-clause-due_if_nobody_before : goal.returns-clause-due_if_nobody_before
returns-clause-due_if_nobody_before c = due-if-nobody-before

pub returns-clause-before_by_digits : goal.returns-clause-before_by_digits
returns-clause-before_by_digits c = before-by-digits

pub returns-clause-before_in_block : goal.returns-clause-before_in_block
returns-clause-before_in_block c = before-in-block

pub returns-clause-none_due_in_block : goal.returns-clause-none_due_in_block
returns-clause-none_due_in_block c = none-due-in-block
