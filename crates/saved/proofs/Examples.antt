-- The examples of specs/Examples hold: they are computed.
-- Assumes nothing.
use mathlib.Core.Path.{refl}
use Rattle.saved.specs.Bytes.{bytes_value, bytes_of, concat_of}
use Rattle.saved.specs.Fields.{field_bytes, fields_up_to, fields, runs_past, fields_of, tagged}
use Rattle.saved.specs.Plant.{size_in, tally_rounds, tally_tests, size_and_tally, plant_check, of_station, all_fit, lines_right, table_in}
use Rattle.saved.specs.Order.{in_order, order_check}
use Rattle.saved.specs.Load.{size_check, rest_check, load_check}
use Rattle.saved.specs.Save.{line_of, front_fields, saved_lines, saved}
use Rattle.saved.specs.Edition1.{cell as old_cell, row_rule as old_row_rule, line_rules as old_line_rules, round_over as old_round_over}
use Rattle.saved.specs.Edition1.{rules_check, converted_line, line_of as old_line_of, converted_table}
use Rattle.saved.specs.Convert.{all_known, old_check, old_lines_check, converted, convert_check}
use Rattle.saved.specs.Examples.{two_boards, examples, all_hold, old_examples, all_old_hold, TwoBoards, ExamplesHold, Conversions, OldExamplesHold}
use Rattle.plant.proofs.WholeRun.{whole_run}

pub two-boards : TwoBoards
unfolding whole_run bytes_of concat_of field_bytes line_of front_fields saved_lines saved two_boards
two-boards = refl

pub examples-hold : ExamplesHold
unfolding whole_run bytes_value bytes_of concat_of fields_up_to fields runs_past fields_of tagged size_in size_and_tally plant_check of_station
    all_fit lines_right table_in in_order order_check size_check rest_check load_check two_boards examples all_hold
examples-hold = refl

pub conversions : Conversions
unfolding whole_run bytes_value bytes_of concat_of field_bytes fields_up_to fields fields_of tagged size_in tally_rounds tally_tests of_station
    table_in line_of front_fields saved_lines saved converted_line old_line_of converted_table converted two_boards
conversions = (refl, refl, refl)

pub old-examples-hold : OldExamplesHold
unfolding whole_run bytes_value bytes_of concat_of field_bytes fields_up_to fields runs_past fields_of tagged size_in tally_rounds tally_tests
    size_and_tally plant_check of_station all_fit lines_right table_in line_of front_fields saved_lines saved old_cell old_row_rule old_line_rules
    old_round_over rules_check converted_line old_line_of converted_table all_known old_check old_lines_check converted convert_check two_boards
    old_examples all_old_hold
old-examples-hold = refl
