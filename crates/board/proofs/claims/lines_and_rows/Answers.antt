-- The claims, each a law of proofs/.
use Rattle.board.proofs.PackedLaws.{any-bytes}
use Rattle.board.proofs.KeepsLaws.{calls-keep, fresh-is-one}
use Rattle.board.proofs.claims.lines_and_rows.Goals as goal

-- The law itself.
pub returns-clause-any_bytes_are_a_row : goal.returns-clause-any_bytes_are_a_row
returns-clause-any_bytes_are_a_row c = any-bytes

-- The law itself.
pub returns-clause-calls_keep_the_rules : goal.returns-clause-calls_keep_the_rules
returns-clause-calls_keep_the_rules c = calls-keep

-- The law itself.
pub returns-clause-fresh_line_is_one : goal.returns-clause-fresh_line_is_one
returns-clause-fresh_line_is_one c = fresh-is-one
