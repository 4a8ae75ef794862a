-- In which order the bus master grants the turns of a round, whatever the wiring and whoever suspects whom.
-- Assumes nothing.
use Rattle.std.specs.Prelude.{Ok, ◌≡◌, true, false, List, ℕ, ◌+◌, ◌≤◌, ◌<◌}
use Rattle.table.specs.Table.{finished, tests_made}
use Rattle.table.specs.Properties.{at_start}
use Rattle.table.specs.declared.wiring.Wiring.{Wiring}
use Rattle.granter.specs.Grant.{waits, following, granted, grant_check}
use Rattle.granter.specs.Fairness.{stations_before}
use Rattle.granter.specs.Drive.{Stand, after_grants, ended_after}

-- how many turns station i has made in the round: its tests, and the one that finished its pass
abbrev pub turns_made : ℕ → List ℕ → ℕ → ℕ
turns_made n t i = tests_made n t i + finished n t i

-- the granted station comes in its sweep: no other that waits has made fewer turns in the round; and of those that have made as many it comes first
-- in the going round behind `begun`, the last number with which the round began
pub record InTurn (n : ℕ) (t : List ℕ) (last begun : ℕ) : Type 0 where
  pub fewest : (i : ℕ) → i < n → waits n t i ≡ true → turns_made n t (granted n t last) ≤ turns_made n t i
  pub first : (i : ℕ) → i < n → waits n t i ≡ true → turns_made n t (granted n t last) ≡ turns_made n t i
      → stations_before n (following begun) (granted n t last) ≤ stations_before n (following begun) i

-- Rule Sweeps: grants, each with its turn, go round in sweeps, from the start of a round until it closes: each station's first turn comes before
-- any station's second, and so on, each time in the same order
abbrev pub GrantsGoInSweeps : Type 0
GrantsGoInSweeps =
    (w : Wiring) (n : ℕ) (p : Stand) (k : ℕ) → grant_check w n p.state.table p.last ≡ Ok tt → at_start n p.state.table ≡ true
    → ((j : ℕ) → j ≤ k → ended_after w n p j ≡ false)
    → InTurn n (after_grants w n p k).state.table (after_grants w n p k).last p.last
