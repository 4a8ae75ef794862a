-- Examples of the doubt lamp, in a table: what the definitions compute, and what is expected. One statement covers it.
-- Assumes nothing.
use Rattle.std.specs.Prelude.{refl, List, [], ◌∷◌, ℕ, ◌+◌, Option, Some, None, Result, Ok, Err}
use Rattle.lists.specs.Refusal.{number_of}
use Rattle.lists.specs.declared.refusal.Refusal.{Refusal}
use Rattle.table.specs.Table.{head, set_cell, status_column, next_column}
use Rattle.table.specs.Fresh.{fresh_table}
use Rattle.table.specs.declared.wiring.Wiring.TheVariants.{Cube}
use Rattle.plant.specs.Turn.{finish_pass}
use Rattle.lamp.specs.declared.Doubt.{Doubt}
use Rattle.lamp.specs.Doubt.{doubts, first_doubt, doubt_lamp}
use Rattle.examples.specs.Example.{Example, expect, AllHold}
use Rattle.plant.proofs.WholeRun.{whole_run}

-- the pair, nothing where there is none, or the number of the refusal
abbrev pub lamp_figures : Result (Option Doubt) Refusal → List ℕ
lamp_figures (Ok (Some pair)) = pair.by.0 ∷ pair.of.0 ∷ []
lamp_figures (Ok None) = []
lamp_figures (Err refusal) = number_of refusal ∷ []

-- of four boards i comes to suspect k, and i crashes
abbrev pub suspecting : ℕ → ℕ → List ℕ → List ℕ
suspecting i k t = set_cell 4 t i (head + k) 1

abbrev pub crashed : ℕ → List ℕ → List ℕ
crashed i t = set_cell 4 t i status_column 1

-- four boards: 1 suspects 2 and 3, 2 suspects 0, 3 suspects 0
unfoldable pub four_doubts : List ℕ
four_doubts = suspecting 3 0 (suspecting 2 0 (suspecting 1 3 (suspecting 1 2 (fresh_table 4))))

-- two boards that have finished their passes: 0 suspects 1
abbrev pub all_finished : List ℕ
all_finished = finish_pass Cube 2 (finish_pass Cube 2 (set_cell 2 (fresh_table 2) 0 (head + 1) 1) 0) 1

unfoldable pub lamps : List Example
lamps =
    -- nobody suspects anybody
    expect (lamp_figures (doubt_lamp Cube 4 (fresh_table 4))) []
    -- the first and the last pair
    ∷ expect (lamp_figures (doubt_lamp Cube 4 (suspecting 0 1 (fresh_table 4)))) (0 ∷ 1 ∷ [])
    ∷ expect (lamp_figures (doubt_lamp Cube 4 (suspecting 3 2 (fresh_table 4)))) (3 ∷ 2 ∷ [])
    -- line before row: 1 suspects 2 comes before 2 suspects 0
    ∷ expect (lamp_figures (doubt_lamp Cube 4 four_doubts)) (1 ∷ 2 ∷ [])
    -- a board that is not live is suspected, or suspects, for nothing
    ∷ expect (lamp_figures (doubt_lamp Cube 4 (crashed 2 four_doubts))) (1 ∷ 3 ∷ [])
    ∷ expect (lamp_figures (doubt_lamp Cube 4 (crashed 1 four_doubts))) (2 ∷ 0 ∷ [])
    ∷ expect (lamp_figures (doubt_lamp Cube 4 (crashed 0 (crashed 1 four_doubts)))) []
    -- refusals 1 to 4, also where there is a pair in line 0: the last line has next distance 0; every board has finished its pass
    ∷ expect (lamp_figures (doubt_lamp Cube 65 (fresh_table 4))) (1 ∷ [])
    ∷ expect (lamp_figures (doubt_lamp Cube 3 (fresh_table 4))) (2 ∷ [])
    ∷ expect (lamp_figures (doubt_lamp Cube 4 (set_cell 4 (suspecting 0 1 (fresh_table 4)) 3 next_column 0))) (3 ∷ [])
    ∷ expect (lamp_figures (doubt_lamp Cube 2 all_finished)) (4 ∷ [])
    ∷ []

pub lamps-hold : AllHold lamps
unfolding whole_run lamps four_doubts doubt_lamp first_doubt doubts
lamps-hold = refl
