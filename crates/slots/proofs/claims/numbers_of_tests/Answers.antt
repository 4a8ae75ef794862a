-- The claims, each a law of proofs/.
use Rattle.slots.proofs.DigitLaws.{due-by-digits}
use Rattle.slots.proofs.UntestedLaws.{nobody-left-out, lists-counted}
use Rattle.slots.proofs.Counts.{tests-by-levels, tests-at-most}
use Rattle.slots.proofs.OneDead.{nobody-suspected, one-suspected, one-suspected-exactly}
use Rattle.slots.proofs.AllBoards.{most-of-powers}
use Rattle.slots.proofs.LastBoard.{last-tests-all}
use Rattle.slots.proofs.MoreTests.{never-fewer, most-is-no-less, most-covers}
use Rattle.slots.proofs.claims.numbers_of_tests.Goals as goal

pub returns-clause-due_by_digits : goal.returns-clause-due_by_digits
returns-clause-due_by_digits c = due-by-digits

pub returns-clause-nobody_left_out : goal.returns-clause-nobody_left_out
returns-clause-nobody_left_out c = nobody-left-out

pub returns-clause-lists_counted : goal.returns-clause-lists_counted
returns-clause-lists_counted c = lists-counted

pub returns-clause-tests_by_levels : goal.returns-clause-tests_by_levels
returns-clause-tests_by_levels c = tests-by-levels

pub returns-clause-tests_at_most : goal.returns-clause-tests_at_most
returns-clause-tests_at_most c = tests-at-most

pub returns-clause-nobody_suspected : goal.returns-clause-nobody_suspected
returns-clause-nobody_suspected c = nobody-suspected

pub returns-clause-one_suspected : goal.returns-clause-one_suspected
returns-clause-one_suspected c = one-suspected

pub returns-clause-one_suspected_exactly : goal.returns-clause-one_suspected_exactly
returns-clause-one_suspected_exactly c = one-suspected-exactly

pub returns-clause-most_of_powers : goal.returns-clause-most_of_powers
returns-clause-most_of_powers c = most-of-powers

pub returns-clause-last_tests_all : goal.returns-clause-last_tests_all
returns-clause-last_tests_all c = last-tests-all

pub returns-clause-never_fewer : goal.returns-clause-never_fewer
returns-clause-never_fewer c = never-fewer

pub returns-clause-most_is_no_less : goal.returns-clause-most_is_no_less
returns-clause-most_is_no_less c = most-is-no-less

pub returns-clause-most_covers : goal.returns-clause-most_covers
returns-clause-most_covers c = most-covers
