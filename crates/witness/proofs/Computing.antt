-- Lists of runs that compute: the definitions that they unfold, under one name.
-- Assumes nothing.
use Rattle.lists.specs.Sums.{sum_below}
use Rattle.table.specs.Properties.{at_start, live_count, none_suspected}
use Rattle.plant.proofs.WholeRun.{whole_run}
use Rattle.detection.specs.Runs.{after_runs, taken_from, taken_by, taken_all}
use Rattle.detection.specs.Rounds.{any_taken, all_taken, count_taken, closes, cut}
use Rattle.detection.specs.Claim.{group_without_live, pairs_without_live}

-- who unfolds this name unfolds all the definitions on its line, and a list of runs computes
unfoldable pub whole_list : Unit {0}
unfolding whole_run sum_below at_start live_count none_suspected after_runs taken_from taken_by taken_all any_taken all_taken count_taken closes
    cut group_without_live pairs_without_live
whole_list = tt
