-- The closing of a round.
-- Assumes nothing.
use Rattle.std.specs.Prelude.{ℕ, List, if◌then◌else◌}
use Rattle.table.specs.Table.{write_cells, rounds_ago, live}
use Rattle.table.specs.Rules.{round_over}
use Rattle.lists.specs.Steps.{after_steps}
use Rattle.station.specs.Step.{aged, reset_writes}

-- Rule Count the rounds ago: byte 5 of line i after a closing, one more if the station is not live, 255 at most. Of a live line it stays, 0 by
-- the line rules
unfoldable pub rounds_after : ℕ → List ℕ → ℕ → ℕ
rounds_after n t i = aged (live n t i) (rounds_ago n t i)

-- Rule Reset: bytes 1, 2 and 3 of a line, live or not, become 1, 0 and 0; and byte 5 counts the round
unfoldable pub reset_line : ℕ → ℕ → List ℕ → List ℕ
reset_line n i t = write_cells n i t (reset_writes (rounds_after n t i))

-- Rule Reset, of every line
unfoldable pub reset_lines : ℕ → List ℕ → List ℕ
reset_lines n t = after_steps (reset_line n) n t

-- Rule Round closes: if some station is live and every live one has finished its pass, all lines are reset
unfoldable pub after_round : ℕ → List ℕ → List ℕ
after_round n t = if round_over n t then reset_lines n t else t
