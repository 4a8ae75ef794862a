-- The doubt lamp: the first live station that suspects a live one, and whom.
-- Assumes nothing.
use Rattle.std.specs.Prelude.{ℕ, ◌≡◌, ◌↔◌, Bool, true, ◌&&◌, List, map, Option, None, Result, Ok, ◌==◌}
use Rattle.std.specs.List.{flat_map, slice_get}
use Rattle.lists.specs.Search.{select}
use Rattle.lists.specs.declared.refusal.Refusal.{Refusal}
use Rattle.lists.specs.Refusal.{◌and◌}
use Rattle.table.specs.Table.{suspects, live}
use Rattle.table.specs.Rules.{table_check}
use Rattle.table.specs.Properties.{none_suspected}
use Rattle.table.specs.declared.wiring.Wiring.{Wiring}
use Rattle.lamp.specs.declared.Doubt.{Doubt}

-- the doubt of station i about station k
abbrev pub doubt_of : ℕ → ℕ → Doubt
doubt_of i k = record { by = record { 0 = i }; of = record { 0 = k } }

-- station i suspects station k, which is live
abbrev pub is_doubted : ℕ → List ℕ → ℕ → ℕ → Bool
is_doubted n t i k = suspects n t i k == 1 && live n t k

-- the doubts of station i, its row in rising order
abbrev pub doubts_of : ℕ → List ℕ → ℕ → List Doubt
doubts_of n t i = map (doubt_of i) (select (is_doubted n t i) n)

-- Rule Doubts: all pairs of a live station and a live one that it suspects: the live stations in rising order, each row in rising order
unfoldable pub doubts : ℕ → List ℕ → List Doubt
doubts n t = flat_map (doubts_of n t) (select (live n t) n)

-- Rule Lamp: the first of these, if there is one
unfoldable pub first_doubt : ℕ → List ℕ → Option Doubt
first_doubt n t = slice_get (doubts n t) 0

-- Rule Lamp call: the lamp's pair or none, on the wiring w; refusals 1 to 4
unfoldable pub doubt_lamp : Wiring → ℕ → List ℕ → Result (Option Doubt) Refusal
doubt_lamp w n t = table_check w n t and Ok (first_doubt n t)

-- the lamp is out: its call answers that there is no pair
abbrev pub IsOut : Wiring → ℕ → List ℕ → Type 0
IsOut w n t = doubt_lamp w n t ≡ Ok None

-- Rule Lamp is out: exactly if refusals 1 to 4 let the table through and no live station suspects a live one
abbrev pub OutIfAccurate : Type 0
OutIfAccurate = (w : Wiring) (n : ℕ) (t : List ℕ) → IsOut w n t ↔ ((table_check w n t ≡ Ok tt) × (none_suspected n t ≡ true))
