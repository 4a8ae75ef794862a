-- A round on the ring, worked out by hand: four boards, of which board 1 is dead.
-- Assumes nothing.
use Rattle.std.specs.Prelude.{◌≡◌, ℕ, List, [], ◌∷◌, replicate, None}
use Rattle.table.specs.Fresh.{fresh_table}
use Rattle.table.specs.declared.wiring.Wiring.TheVariants.{Ring}
use Rattle.plant.specs.Turn.{crash}
use Rattle.plant.specs.Entry.{state_of}
use Rattle.plant.specs.Run.{RunResult, run}

-- the passes of boards 0, 2 and 3, turn by turn
abbrev pub ring_schedule : List ℕ
ring_schedule = 1 ∷ 0 ∷ 1 ∷ 0 ∷ 1 ∷ 0 ∷ 1 ∷ 2 ∷ 1 ∷ 2 ∷ 1 ∷ 3 ∷ 1 ∷ 3 ∷ []

-- run on a fresh table in which board 1 has crashed
abbrev pub ring_round : RunResult
ring_round = run Ring 4 (state_of (crash 4 (fresh_table 4) 1) 0 0) ring_schedule (replicate 28 0)

-- 1 does not reply to 0; 0 exchanges with 2, then finishes its pass; 2 exchanges with 3, and 3 with 0, and each finishes
abbrev pub ring_sheet : List ℕ
ring_sheet =
    0 ∷ 1 ∷ 3 ∷ 0
    ∷ 0 ∷ 2 ∷ 1 ∷ 0
    ∷ 0 ∷ 255 ∷ 0 ∷ 0
    ∷ 2 ∷ 3 ∷ 1 ∷ 0
    ∷ 2 ∷ 255 ∷ 0 ∷ 0
    ∷ 3 ∷ 0 ∷ 1 ∷ 0
    ∷ 3 ∷ 255 ∷ 0 ∷ 0 ∷ []

-- the round closes: each live board suspects board 1, and nobody else
abbrev pub ring_table : List ℕ
ring_table =
    0 ∷ 1 ∷ 0 ∷ 0 ∷ 255 ∷ 0 ∷ 0 ∷ 1 ∷ 0 ∷ 0
    ∷ 1 ∷ 1 ∷ 0 ∷ 0 ∷ 255 ∷ 1 ∷ 0 ∷ 0 ∷ 0 ∷ 0
    ∷ 0 ∷ 1 ∷ 0 ∷ 0 ∷ 255 ∷ 0 ∷ 0 ∷ 1 ∷ 0 ∷ 0
    ∷ 0 ∷ 1 ∷ 0 ∷ 0 ∷ 255 ∷ 0 ∷ 0 ∷ 1 ∷ 0 ∷ 0 ∷ []

-- so it is: one round, and a test for each board, the dead one too
abbrev pub RoundOnTheRing : Type 0
RoundOnTheRing = ring_round ≡ record { stopped = None; taken = 7; state = state_of ring_table 1 4; sheet = ring_sheet }
