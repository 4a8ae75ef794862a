-- Examples of mending, in a table: what the definitions compute, and what is expected. One statement covers it. Plants of two boards: a line has
-- eight bytes, and the end distance is 2.
-- Assumes nothing.
use Rattle.std.specs.Prelude.{refl, List, [], ◌∷◌, ◌++◌, flat_map, replicate, ℕ, Result, Ok, Err}
use Rattle.lists.specs.Refusal.{number_of}
use Rattle.lists.specs.declared.refusal.Refusal.{Refusal}
use Rattle.table.specs.Fresh.{fresh_table}
use Rattle.table.specs.declared.wiring.Wiring.TheVariants.{Cube}
use Rattle.mender.specs.Mended.{line_byte, table_of, mended_byte, mended}
use Rattle.mender.specs.Report.{changes, change_bytes, report_of, mends, mend_check, mend, report_after}
use Rattle.examples.specs.Example.{Example, expect, AllHold}
use Rattle.plant.proofs.WholeRun.{whole_run}

-- the bytes of the listed changes
abbrev pub listed : List ℕ → List ℕ
listed t = flat_map change_bytes (mends Cube 2 t)

-- the number of changes behind a 0, or the number of the refusal
abbrev pub mend_figures : Result ℕ Refusal → List ℕ
mend_figures (Ok count) = 0 ∷ count ∷ []
mend_figures (Err refusal) = number_of refusal ∷ []

-- a line of two boards whose row is empty
abbrev pub line : ℕ → ℕ → ℕ → ℕ → ℕ → ℕ → List ℕ
line status next finished tests by ago = status ∷ next ∷ finished ∷ tests ∷ by ∷ ago ∷ 0 ∷ 0 ∷ []

abbrev pub fresh_line : List ℕ
fresh_line = line 0 1 0 0 255 0

-- the table of RULES: 0 has finished its pass; line 1 is damaged in six bytes
abbrev pub damaged : List ℕ
damaged = line 0 2 1 1 255 0 ++ (7 ∷ 2 ∷ 2 ∷ 0 ∷ 3 ∷ 9 ∷ 1 ∷ 1 ∷ [])

unfoldable pub mendings : List Example
mendings =
    -- a good table
    expect (listed (fresh_table 2)) []
    -- a status above 3 is a crash; the round goes on
    ∷ expect (listed (line 4 1 0 0 255 0 ++ fresh_line)) (0 ∷ 0 ∷ 4 ∷ 1 ∷ [])
    -- byte 4 by the mended status; byte 5 stays where that is not live
    ∷ expect (listed (line 2 1 0 0 0 7 ++ fresh_line)) (0 ∷ 4 ∷ 0 ∷ 254 ∷ [])
    ∷ expect (listed (line 2 1 0 0 1 7 ++ fresh_line)) []
    ∷ expect (listed (line 9 1 0 0 254 7 ++ fresh_line)) (0 ∷ 0 ∷ 9 ∷ 1 ∷ 0 ∷ 4 ∷ 254 ∷ 255 ∷ [])
    ∷ expect (listed (line 0 1 0 0 255 7 ++ fresh_line)) (0 ∷ 5 ∷ 7 ∷ 0 ∷ [])
    -- bytes 1 to 3 together: tests are not below the next distance
    ∷ expect (listed (line 0 2 0 2 255 0 ++ fresh_line)) (0 ∷ 1 ∷ 2 ∷ 1 ∷ 0 ∷ 3 ∷ 2 ∷ 0 ∷ [])
    -- a row byte of 3; a board's 1 about itself
    ∷ expect (listed (fresh_line ++ (0 ∷ 1 ∷ 0 ∷ 0 ∷ 255 ∷ 0 ∷ 3 ∷ 1 ∷ []))) (0 ∷ 14 ∷ 3 ∷ 0 ∷ 0 ∷ 15 ∷ 1 ∷ 0 ∷ [])
    -- once line 1 is mended the round is over: line 0 is begun anew too
    ∷ expect (mended Cube 2 damaged) (line 0 1 0 0 255 0 ++ (1 ∷ 1 ∷ 0 ∷ 0 ∷ 255 ∷ 9 ∷ 1 ∷ 0 ∷ []))
    ∷ expect (listed damaged)
    ((0 ∷ 1 ∷ 2 ∷ 1 ∷ []) ++ (0 ∷ 2 ∷ 1 ∷ 0 ∷ []) ++ (0 ∷ 3 ∷ 1 ∷ 0 ∷ []) ++ (0 ∷ 8 ∷ 7 ∷ 1 ∷ []) ++ (0 ∷ 9 ∷ 2 ∷ 1 ∷ [])
    ++ (0 ∷ 10 ∷ 2 ∷ 0 ∷ []) ++ (0 ∷ 12 ∷ 3 ∷ 255 ∷ []) ++ (0 ∷ 15 ∷ 1 ∷ 0 ∷ []))
    -- a line that is not live is begun anew too
    ∷ expect (listed (line 0 2 1 0 255 0 ++ line 1 2 0 0 255 4)) ((0 ∷ 1 ∷ 2 ∷ 1 ∷ []) ++ (0 ∷ 2 ∷ 1 ∷ 0 ∷ []) ++ (0 ∷ 9 ∷ 2 ∷ 1 ∷ []))
    -- zeros behind the changes, in a longer report too
    ∷ expect (report_after Cube 2 (line 4 1 0 0 255 0 ++ fresh_line) (replicate 65 170)) ((0 ∷ 0 ∷ 4 ∷ 1 ∷ []) ++ replicate 61 0)
    -- refusals 1, 2 and 23; the number of changes
    ∷ expect (mend_figures (mend Cube 65 damaged 64)) (1 ∷ [])
    ∷ expect (mend_figures (mend Cube 3 damaged 64)) (2 ∷ [])
    ∷ expect (mend_figures (mend Cube 2 damaged 63)) (23 ∷ [])
    ∷ expect (mend_figures (mend Cube 2 damaged 64)) (0 ∷ 8 ∷ [])
    ∷ []

pub mendings-hold : AllHold mendings
unfolding whole_run mendings mend report_after report_of changes mended mended_byte table_of line_byte
mendings-hold = refl
