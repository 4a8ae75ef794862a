-- Examples of the plant's rules, in two tables: what the definitions compute, and what is expected. One statement covers each.
-- Assumes nothing.
use Rattle.std.specs.Prelude.{ℕ, ◌+◌, List, [], ◌∷◌, map, drop, replicate, refl}
use Rattle.station.specs.Groups.{group, station_at}
use Rattle.table.specs.Table.{head, line_start, set_cell, status_column, next_column, told_by_column, rounds_ago_column}
use Rattle.table.specs.Table.{told_by, row}
use Rattle.table.specs.Rules.{table_check}
use Rattle.station.specs.Tests.{due_distances}
use Rattle.table.specs.Fresh.{fresh_table}
use Rattle.station.specs.Calls.{other_distances, assignment_entries}
use Rattle.plant.specs.Turn.{finish_pass}
use Rattle.plant.specs.Entry.{state_of}
use Rattle.plant.specs.Run.{RunResult, stop_refusal, run}
use Rattle.lists.specs.Sums.{sum_below}
use Rattle.table.specs.declared.wiring.Wiring.TheVariants.{Cube}
use Rattle.detection.specs.Claim.{group_without_live, pairs_without_live, count_of}
use Rattle.examples.specs.Example.{Example, expect, AllHold}
use Rattle.plant.proofs.WholeRun.{whole_run}
use Rattle.lists.specs.Refusal.{number_of_result}

-- a row of eight stations in which nothing, and in which station 4 is suspected
abbrev pub nobody : List ℕ
nobody = replicate 8 0

abbrev pub only_four : List ℕ
only_four = 0 ∷ 0 ∷ 0 ∷ 0 ∷ 1 ∷ 0 ∷ 0 ∷ 0 ∷ []

-- the count of tests for n stations and a table, as the detection claim has it on the cube
abbrev pub counted : ℕ → List ℕ → List ℕ
counted n t = count_of Cube n t ∷ []

-- a table of eight with station 4 dead, and with 4 and 5 dead
unfoldable pub four_dead : List ℕ
four_dead = set_cell 8 (fresh_table 8) 4 status_column 1

unfoldable pub four_and_five_dead : List ℕ
four_and_five_dead = set_cell 8 four_dead 5 status_column 1

-- a table of eleven with station 4 dead
unfoldable pub four_dead_of_eleven : List ℕ
four_dead_of_eleven = set_cell 11 (fresh_table 11) 4 status_column 1

-- N = 4, fresh, entries (2, 0), (1, 0), (1, 0), (1, 1)
unfoldable pub four_boards : RunResult
four_boards = run Cube 4 (state_of (fresh_table 4) 0 0) (2 ∷ 0 ∷ 1 ∷ 0 ∷ 1 ∷ 0 ∷ 1 ∷ 1 ∷ []) (replicate 16 0)

-- one entry on a table, from a tally of zeros
abbrev pub one_entry : ℕ → List ℕ → ℕ → ℕ → RunResult
one_entry n t kind i = run Cube n (state_of t 0 0) (kind ∷ i ∷ []) (replicate 4 0)

-- the table in which station i also suspects k
abbrev pub also_suspects : ℕ → List ℕ → ℕ → ℕ → List ℕ
also_suspects n t i k = set_cell n t i (head + k) 1

-- n = 4: station 0 suspects 1, and 1 suspects 2
unfoldable pub zero_suspects_one : List ℕ
zero_suspects_one = also_suspects 4 (also_suspects 4 (fresh_table 4) 0 1) 1 2

-- n = 3: station 0 suspects 1 and 2, and 2 has finished its pass
unfoldable pub station_two_finished : List ℕ
station_two_finished = finish_pass Cube 3 (also_suspects 3 (also_suspects 3 (fresh_table 3) 0 1) 0 2) 2

unfoldable pub tested_told : RunResult
tested_told = one_entry 4 zero_suspects_one 1 0

unfoldable pub alone_of_two : RunResult
alone_of_two = one_entry 2 (also_suspects 2 (fresh_table 2) 0 1) 1 0

unfoldable pub alone_of_three : RunResult
alone_of_three = one_entry 3 station_two_finished 1 0

-- n = 3: line 2 after the next closing, where station 2 was told so many rounds ago, by whom was never recorded: 1 has finished, and 0
-- finishes with the entry
unfoldable pub after_closing : ℕ → List ℕ
after_closing ago =
    let gone = set_cell 3 (set_cell 3 (set_cell 3 (fresh_table 3) 2 status_column 2) 2 told_by_column 254) 2 rounds_ago_column ago in
    drop (line_start 3 2) (one_entry 3 (set_cell 3 (finish_pass Cube 3 gone 1) 0 next_column 4) 1 0).state.table

-- n = 3: the refusal of a table whose line 1 has this status, byte 5 and byte 4
unfoldable pub refusal_of : ℕ → ℕ → ℕ → ℕ
refusal_of status ago told =
    let line = set_cell 3 (set_cell 3 (fresh_table 3) 1 status_column status) 1 told_by_column told in
    number_of_result (table_check Cube 3 (set_cell 3 line 1 rounds_ago_column ago))

unfoldable pub base_rules : List Example
base_rules =
    -- groups of stations 0, 3, 5, 6 and 7 of eight
    expect (group 8 0 3) (4 ∷ 5 ∷ 6 ∷ 7 ∷ [])
    ∷ expect (group 8 3 2) (1 ∷ 0 ∷ [])
    ∷ expect (group 8 5 1) (4 ∷ [])
    ∷ expect (group 8 6 2) (4 ∷ 5 ∷ [])
    ∷ expect (group 8 7 3) (3 ∷ 2 ∷ 1 ∷ 0 ∷ [])
    -- n = 8, nobody suspected: station 5 has 1, 2, 4 due
    ∷ expect (due_distances nobody 5 8) (1 ∷ 2 ∷ 4 ∷ [])
    -- n = 8, station 5 suspects 4: it has 1, 2, 3, 4, 5 due; at 3 and 5 stand stations 6 and 0
    ∷ expect (due_distances only_four 5 8) (1 ∷ 2 ∷ 3 ∷ 4 ∷ 5 ∷ [])
    ∷ expect (station_at 5 3 ∷ station_at 5 5 ∷ []) (6 ∷ 0 ∷ [])
    -- the assignment of station 5: 3 and 5 are behind station 4, 6 behind 7, 7 behind 6; with 4 suspected, 6 and 7 as before
    ∷ expect (assignment_entries nobody 5 (other_distances 8 5))
    (1 ∷ 255 ∷ 2 ∷ 255 ∷ 3 ∷ 4 ∷ 4 ∷ 255 ∷ 5 ∷ 4 ∷ 6 ∷ 7 ∷ 7 ∷ 6 ∷ [])
    ∷ expect (assignment_entries only_four 5 (other_distances 8 5))
    (1 ∷ 255 ∷ 2 ∷ 255 ∷ 3 ∷ 255 ∷ 4 ∷ 255 ∷ 5 ∷ 255 ∷ 6 ∷ 7 ∷ 7 ∷ 6 ∷ [])
    -- n = 8, the count of tests: none dead 24; 4 dead 23; 4 and 5 dead 20
    ∷ expect (counted 8 (fresh_table 8)) (24 ∷ [])
    ∷ expect (counted 8 four_dead) (23 ∷ [])
    ∷ expect (counted 8 four_and_five_dead) (20 ∷ [])
    -- 0 suspects 1, exchanges with 2, then with 3; 1 tests 0, is told and leaves. The row of 1 stays empty
    ∷ expect (stop_refusal four_boards.stopped ∷ four_boards.taken ∷ []) (0 ∷ 4 ∷ [])
    ∷ expect four_boards.sheet (0 ∷ 1 ∷ 3 ∷ 0 ∷ 0 ∷ 2 ∷ 1 ∷ 0 ∷ 0 ∷ 3 ∷ 1 ∷ 0 ∷ 1 ∷ 0 ∷ 2 ∷ 2 ∷ [])
    ∷ expect (row 4 four_boards.state.table 0) (0 ∷ 1 ∷ 0 ∷ 0 ∷ [])
    ∷ expect (row 4 four_boards.state.table 1) (0 ∷ 0 ∷ 0 ∷ 0 ∷ [])
    ∷ expect (row 4 four_boards.state.table 2) (0 ∷ 1 ∷ 0 ∷ 0 ∷ [])
    ∷ expect (row 4 four_boards.state.table 3) (0 ∷ 1 ∷ 0 ∷ 0 ∷ [])
    ∷ []

-- of the rules for sizes that are no power of two, for assignments, for the tested station that is told, and for bytes 4 and 5
unfoldable pub later_rules : List Example
later_rules =
    -- n = 11: groups with the absent numbers left out
    expect (group 11 10 1) []
    ∷ expect (group 11 10 2) (8 ∷ 9 ∷ [])
    ∷ expect (group 11 2 4) (10 ∷ 8 ∷ 9 ∷ [])
    -- nothing suspected, station 10 has 2, 3, 8, 9, 12, 13 due, which are stations 8, 9, 2, 3, 6, 7
    ∷ expect (due_distances (replicate 11 0) 10 11) (2 ∷ 3 ∷ 8 ∷ 9 ∷ 12 ∷ 13 ∷ [])
    ∷ expect (map (station_at 10) (2 ∷ 3 ∷ 8 ∷ 9 ∷ 12 ∷ 13 ∷ [])) (8 ∷ 9 ∷ 2 ∷ 3 ∷ 6 ∷ 7 ∷ [])
    -- the others are stations 0, 1, 4 and 5, behind 8 and 9; the entries of station 4 of 5 are at distances 4 to 7
    ∷ expect (assignment_entries (replicate 11 0) 10 (other_distances 11 10))
    (2 ∷ 255 ∷ 3 ∷ 255 ∷ 8 ∷ 255 ∷ 9 ∷ 255 ∷ 10 ∷ 8 ∷ 11 ∷ 9 ∷ 12 ∷ 255 ∷ 13 ∷ 255 ∷ 14 ∷ 8 ∷ 15 ∷ 9 ∷ [])
    ∷ expect (assignment_entries (replicate 5 0) 4 (other_distances 5 4)) (4 ∷ 255 ∷ 5 ∷ 255 ∷ 6 ∷ 255 ∷ 7 ∷ 255 ∷ [])
    -- the count of tests: 3 boards, 5, 11, 11 with board 4 dead, and 19 (the program computes 63, too long for this table)
    ∷ expect (counted 3 (fresh_table 3)) (5 ∷ [])
    ∷ expect (counted 5 (fresh_table 5)) (13 ∷ [])
    ∷ expect (counted 11 (fresh_table 11)) (40 ∷ [])
    ∷ expect (counted 11 four_dead_of_eleven) (39 ∷ [])
    ∷ expect (counted 19 (fresh_table 19)) (88 ∷ [])
    -- 0 suspects 1 and tests it; 1 leaves, and no row changes
    ∷ expect tested_told.sheet (0 ∷ 1 ∷ 5 ∷ 0 ∷ [])
    ∷ expect tested_told.state.table
    (0 ∷ 2 ∷ 0 ∷ 1 ∷ 255 ∷ 0 ∷ 0 ∷ 1 ∷ 0 ∷ 0
    ∷ 2 ∷ 1 ∷ 0 ∷ 0 ∷ 0 ∷ 0 ∷ 0 ∷ 0 ∷ 1 ∷ 0
    ∷ 0 ∷ 1 ∷ 0 ∷ 0 ∷ 255 ∷ 0 ∷ 0 ∷ 0 ∷ 0 ∷ 0
    ∷ 0 ∷ 1 ∷ 0 ∷ 0 ∷ 255 ∷ 0 ∷ 0 ∷ 0 ∷ 0 ∷ 0 ∷ [])
    -- where the reply is late, or 1 suspects 0 too
    ∷ expect (one_entry 4 zero_suspects_one 2 0).sheet (0 ∷ 1 ∷ 3 ∷ 0 ∷ [])
    ∷ expect (one_entry 4 (also_suspects 4 zero_suspects_one 1 0) 1 0).sheet (0 ∷ 1 ∷ 2 ∷ 2 ∷ [])
    -- of two boards, 0 leaves as alone by the same entry: nobody is live, and no round closes
    ∷ expect alone_of_two.sheet (0 ∷ 1 ∷ 5 ∷ 3 ∷ [])
    ∷ expect alone_of_two.state.table (3 ∷ 2 ∷ 0 ∷ 1 ∷ 255 ∷ 0 ∷ 0 ∷ 1 ∷ 2 ∷ 1 ∷ 0 ∷ 0 ∷ 0 ∷ 0 ∷ 0 ∷ 0 ∷ [])
    ∷ expect (alone_of_two.state.rounds ∷ alone_of_two.state.tests ∷ []) (0 ∷ 1 ∷ [])
    -- of three, 2 is left live and has finished: the round closes, and it counts for both that ceased at this very entry
    ∷ expect alone_of_three.sheet (0 ∷ 1 ∷ 5 ∷ 3 ∷ [])
    ∷ expect alone_of_three.state.table
    (3 ∷ 1 ∷ 0 ∷ 0 ∷ 255 ∷ 1 ∷ 0 ∷ 1 ∷ 1
    ∷ 2 ∷ 1 ∷ 0 ∷ 0 ∷ 0 ∷ 1 ∷ 0 ∷ 0 ∷ 0
    ∷ 0 ∷ 1 ∷ 0 ∷ 0 ∷ 255 ∷ 0 ∷ 0 ∷ 0 ∷ 0 ∷ [])
    ∷ expect (alone_of_three.state.rounds ∷ alone_of_three.state.tests ∷ []) (1 ∷ 1 ∷ [])
    -- station 1 of the four boards above was told by 0
    ∷ expect (map (told_by 4 four_boards.state.table) (0 ∷ 1 ∷ 2 ∷ 3 ∷ [])) (255 ∷ 0 ∷ 255 ∷ 255 ∷ [])
    -- 1 has finished: the round closes when 0 crashes, and counts for 0, which ceased at this very entry
    ∷ expect (one_entry 2 (finish_pass Cube 2 (fresh_table 2) 1) 3 0).state.table
    (1 ∷ 1 ∷ 0 ∷ 0 ∷ 255 ∷ 1 ∷ 0 ∷ 0
    ∷ 0 ∷ 1 ∷ 0 ∷ 0 ∷ 255 ∷ 0 ∷ 0 ∷ 0 ∷ [])
    -- 2 was told, by whom was never recorded: 254 stays; byte 5 grows with each round that closes, to 255
    ∷ expect (after_closing 0) (2 ∷ 1 ∷ 0 ∷ 0 ∷ 254 ∷ 1 ∷ 0 ∷ 0 ∷ 0 ∷ [])
    ∷ expect (after_closing 254) (2 ∷ 1 ∷ 0 ∷ 0 ∷ 254 ∷ 255 ∷ 0 ∷ 0 ∷ 0 ∷ [])
    ∷ expect (after_closing 255) (2 ∷ 1 ∷ 0 ∷ 0 ∷ 254 ∷ 255 ∷ 0 ∷ 0 ∷ 0 ∷ [])
    -- the rules: a live line has 255 and 0; status 1 and 3 have 255; status 2 has 254 or another's number
    ∷ expect (map (refusal_of 0 0) (0 ∷ 2 ∷ 254 ∷ 255 ∷ [])) (3 ∷ 3 ∷ 3 ∷ 0 ∷ [])
    ∷ expect (refusal_of 0 1 255 ∷ refusal_of 1 1 255 ∷ refusal_of 2 255 254 ∷ []) (3 ∷ 0 ∷ 0 ∷ [])
    ∷ expect (map (refusal_of 1 0) (0 ∷ 254 ∷ 255 ∷ [])) (3 ∷ 3 ∷ 0 ∷ [])
    ∷ expect (map (refusal_of 3 0) (0 ∷ 254 ∷ 255 ∷ [])) (3 ∷ 3 ∷ 0 ∷ [])
    ∷ expect (map (refusal_of 2 0) (0 ∷ 1 ∷ 2 ∷ 3 ∷ 4 ∷ 253 ∷ 254 ∷ 255 ∷ [])) (0 ∷ 3 ∷ 0 ∷ 3 ∷ 3 ∷ 3 ∷ 0 ∷ 3 ∷ [])
    ∷ []

pub base-hold : AllHold base_rules
unfolding whole_run base_rules four_boards four_dead four_and_five_dead pairs_without_live group_without_live sum_below due_distances
    other_distances assignment_entries
base-hold = refl

pub later-hold : AllHold later_rules
unfolding whole_run later_rules after_closing refusal_of four_boards four_dead_of_eleven zero_suspects_one station_two_finished tested_told
    alone_of_two alone_of_three pairs_without_live group_without_live sum_below due_distances other_distances assignment_entries
later-hold = refl
