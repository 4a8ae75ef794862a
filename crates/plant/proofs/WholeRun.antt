-- Runs that compute: the definitions that a run unfolds, under one name.
-- Assumes nothing.
use Rattle.lists.specs.Bytes.{joined_byte}
use Rattle.lists.specs.Search.{every, list_of, least}
use Rattle.lists.specs.Steps.{after_steps}
use Rattle.table.specs.Sizes.{is_size, level, dimension, distances}
use Rattle.table.specs.Wiring.{end_distance}
use Rattle.table.specs.Table.{table_length, line_start, cell, set_cell, row, set_row}
use Rattle.table.specs.Rules.{exit_rule, row_rule, line_rules, some_live, live_finished, shape_check, table_check}
use Rattle.table.specs.Fresh.{fresh_byte, fresh_table}
use Rattle.station.specs.Groups.{width, member, full_group, group}
use Rattle.station.specs.Rows.{union_byte, union, mark}
use Rattle.station.specs.Tests.{unsuspected, first_place, first, answer, due}
use Rattle.station.specs.Wired.{wired_station, wired_due, next_after}
use Rattle.plant.specs.Turn.{leave_told, next_test, makes_test, finish_pass, count_test, replies, is_told, exchange_rows, suspect, reply_outcome}
use Rattle.plant.specs.Turn.{test_outcome, after_outcome, self_or_suspected, is_alone, after_alone, after_test, testing, turn, turn_tested}
use Rattle.plant.specs.Turn.{turn_outcome, crash}
use Rattle.plant.specs.Round.{rounds_after, reset_line, reset_lines, after_round}
use Rattle.plant.specs.Entry.{entry_check, acted, after, tested_of, outcome_of, sheet_line}
use Rattle.plant.specs.Run.{entries, go_on, start_check, run}

-- who unfolds this name unfolds all the definitions on its line, and a run computes
unfoldable pub whole_run : Unit {0}
unfolding joined_byte every list_of least after_steps is_size level dimension distances end_distance table_length line_start cell set_cell row
    set_row exit_rule row_rule line_rules some_live live_finished shape_check table_check fresh_byte fresh_table width member full_group
    group union_byte union mark unsuspected first_place first answer due wired_station wired_due next_after leave_told next_test makes_test
    finish_pass count_test replies is_told exchange_rows suspect reply_outcome test_outcome after_outcome self_or_suspected is_alone after_alone
    after_test testing turn turn_tested turn_outcome crash rounds_after reset_line reset_lines after_round entry_check acted after tested_of
    outcome_of sheet_line entries go_on start_check run
whole_run = tt
