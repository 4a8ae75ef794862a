-- Examples of grants and of drives, in two tables: what the definitions compute, and what is expected. One statement covers each.
-- Assumes nothing.
use Rattle.std.specs.Prelude.{refl, List, [], ◌∷◌, map, ℕ, ◌+◌}
use Rattle.table.specs.Table.{head, set_cell, status_column}
use Rattle.table.specs.Fresh.{fresh_table}
use Rattle.table.specs.declared.wiring.Wiring.TheVariants.{Cube}
use Rattle.plant.specs.Turn.{finish_pass}
use Rattle.plant.specs.Entry.{state_of}
use Rattle.granter.specs.Grant.{waits, first_from, following, granted, grant_check, grant_answer, grant_station}
use Rattle.plant.specs.Run.{stop_refusal}
use Rattle.granter.specs.Drive.{DriveResult, grant_turn, after_grants, ended, stops, grants_made, outcome_after, drive}
use Rattle.examples.specs.Example.{Example, expect, AllHold}
use Rattle.plant.proofs.WholeRun.{whole_run}
use Rattle.lists.specs.Refusal.{number_of_result}

-- who is granted in a table of four after each of the last numbers 255, 0, 1, 2, 3
abbrev pub grants_of : List ℕ → List ℕ
grants_of t = map (granted 4 t) (255 ∷ 0 ∷ 1 ∷ 2 ∷ 3 ∷ [])

-- four boards: 2 is dead and 3 has finished its pass
unfoldable pub two_wait : List ℕ
two_wait = finish_pass Cube 4 (set_cell 4 (fresh_table 4) 2 status_column 1) 3

-- and so has 0
unfoldable pub one_waits : List ℕ
one_waits = finish_pass Cube 4 two_wait 0

-- four boards, none of them live
unfoldable pub all_dead : List ℕ
all_dead = set_cell 4 (set_cell 4 (set_cell 4 (set_cell 4 (fresh_table 4) 0 status_column 1) 1 status_column 1) 2 status_column 1) 3 status_column 1

-- what a drive answers
abbrev pub drive_figures : DriveResult → List ℕ
drive_figures d = stop_refusal d.stopped ∷ d.state.rounds ∷ d.state.tests ∷ d.last ∷ d.grants ∷ []

-- two boards, fresh, and two that suspect one another
unfoldable pub two_fresh : DriveResult
two_fresh = drive Cube 2 (state_of (fresh_table 2) 0 0) 255

unfoldable pub two_suspecting : DriveResult
two_suspecting = drive Cube 2 (state_of (set_cell 2 (set_cell 2 (fresh_table 2) 0 (head + 1) 1) 1 (head + 0) 1) 0 0) 255

unfoldable pub examples : List Example
examples =
    -- all wait: the next station behind the last granted one; from 255 the search begins at station 0
    expect (grants_of (fresh_table 4)) (0 ∷ 1 ∷ 2 ∷ 3 ∷ 0 ∷ [])
    -- only 0 and 1 are live and unfinished
    ∷ expect (grants_of two_wait) (0 ∷ 1 ∷ 0 ∷ 0 ∷ 0 ∷ [])
    -- the last granted station comes last: alone live and unfinished, it is granted again
    ∷ expect (grants_of one_waits) (1 ∷ 1 ∷ 1 ∷ 1 ∷ 1 ∷ [])
    -- refusal 16 for a last number of n or more that is not 255, then 17 when no station is live
    ∷ expect (map (λ last. number_of_result (grant_check Cube 4 (fresh_table 4) last)) (3 ∷ 4 ∷ 254 ∷ 255 ∷ 256 ∷ [])) (0 ∷ 16 ∷ 16 ∷ 0 ∷ 16 ∷ [])
    ∷ expect (map (λ last. number_of_result (grant_check Cube 4 all_dead last)) (3 ∷ 4 ∷ 255 ∷ [])) (17 ∷ 16 ∷ 17 ∷ [])
    ∷ expect (grant_station Cube 4 all_dead 3 ∷ grant_station Cube 4 (fresh_table 4) 4 ∷ []) (0 ∷ 0 ∷ [])
    ∷ []

-- of drives
unfoldable pub drives : List Example
drives =
    -- two boards, fresh: 0 and 1 test one another, then both finish: n times n grants, and the table is fresh again
    expect (drive_figures two_fresh) (0 ∷ 1 ∷ 2 ∷ 1 ∷ 4 ∷ [])
    ∷ expect two_fresh.state.table (fresh_table 2)
    -- one after the other: the second drive begins behind the last granted station
    ∷ expect (drive_figures (drive Cube 2 two_fresh.state two_fresh.last)) (0 ∷ 2 ∷ 4 ∷ 1 ∷ 4 ∷ [])
    -- a drive stops with 7 before a grant while a counter is full, and keeps the turns made
    ∷ expect (drive_figures (drive Cube 2 (state_of (fresh_table 2) 0 4294967295) 1)) (7 ∷ 0 ∷ 4294967295 ∷ 1 ∷ 0 ∷ [])
    ∷ expect (drive_figures (drive Cube 2 (state_of (fresh_table 2) 0 4294967294) 0)) (7 ∷ 0 ∷ 4294967295 ∷ 1 ∷ 1 ∷ [])
    -- the turn that brings the rounds to the top closes the round: 0
    ∷ expect (drive_figures (drive Cube 2 (state_of (fresh_table 2) 4294967294 0) 255)) (0 ∷ 4294967295 ∷ 2 ∷ 1 ∷ 4 ∷ [])
    -- 0 tests 1, is told and leaves; 1 tests 0, which is not live, and leaves as alone: nobody is left live, and no round closed
    ∷ expect (drive_figures two_suspecting) (0 ∷ 0 ∷ 2 ∷ 1 ∷ 2 ∷ [])
    ∷ expect (drive_figures (drive Cube 2 two_suspecting.state two_suspecting.last)) (17 ∷ 0 ∷ 2 ∷ 1 ∷ 0 ∷ [])
    ∷ []

pub grants-hold : AllHold examples
unfolding whole_run examples two_wait one_waits all_dead grant_check grant_answer granted following first_from waits
grants-hold = refl

pub drives-hold : AllHold drives
unfolding whole_run drives two_fresh two_suspecting drive outcome_after grants_made stops ended after_grants grant_turn grant_check granted following
    first_from waits
drives-hold = refl
