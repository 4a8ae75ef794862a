-- That grants are fair: which station is granted, and how many grants to others a station waits for at most.
-- Assumes nothing.
use Rattle.std.specs.Prelude.{Ok, ◌≡◌, true, List, ℕ, zero, suc, ◌+◌, ◌-◌, ◌≤◌, ◌<◌, if◌then◌else◌, nat_lt}
use Rattle.table.specs.Rules.{table_check}
use Rattle.lists.specs.Refusal.{unless_refused}
use Rattle.table.specs.declared.wiring.Wiring.{Wiring}
use Rattle.granter.specs.Grant.{waits, following, granted, last_check, grant_check, grant_station}

-- how many stations come before station i in the going round b, b + 1, .., n − 1, 0, 1, .., b − 1
unfoldable pub stations_before : ℕ → ℕ → ℕ → ℕ
stations_before n b i = if nat_lt i b then i + n - b else i - b

-- Rule Fair grants: the granted station is live and unfinished, and no other such station comes before it in the going round that begins behind the
-- last one
abbrev pub NextGoingRound : Type 0
NextGoingRound =
    (w : Wiring) (n : ℕ) (t : List ℕ) (last : ℕ) → grant_check w n t last ≡ Ok tt
    → (granted n t last < n) × (waits n t (granted n t last) ≡ true)
    × ((i : ℕ) → i < n → waits n t i ≡ true → stations_before n (following last) (granted n t last) ≤ stations_before n (following last) i)

-- grants are made from tables, one after the other, whatever happened between them, each from the last number that the one before left: the
-- last number before the grant from table k, counted from 0. A refused grant leaves it as it was
unfoldable pub last_before : Wiring → ℕ → (ℕ → List ℕ) → ℕ → ℕ → ℕ
last_before w n tables last zero = last
last_before w n tables last (suc k) =
    let before = last_before w n tables last k in
    unless_refused (grant_check w n (tables k) before) before (granted n (tables k) before)

-- the grant from table k is not refused, and it is station i's
abbrev pub Grants : Wiring → ℕ → (ℕ → List ℕ) → ℕ → ℕ → ℕ → Type 0
Grants w n tables last k i =
    (grant_check w n (tables k) (last_before w n tables last k) ≡ Ok tt) × (grant_station w n (tables k) (last_before w n tables last k) ≡ i)

-- Rule Fair grants: a station that is live and unfinished in n tables one behind the other, from table a on, is granted in one of these n, if
-- refusals 1 to 4 let them through: at most n − 1 grants to others come first. The tables before them may be any
abbrev pub BoundedWaiting : Type 0
BoundedWaiting =
    (w : Wiring) (n : ℕ) (tables : ℕ → List ℕ) (last a i : ℕ) → last_check n last ≡ Ok tt
    → i < n → ((k : ℕ) → a ≤ k → k < a + n → (table_check w n (tables k) ≡ Ok tt) × (waits n (tables k) i ≡ true))
    → (k : ℕ) × (a ≤ k) × (k < a + n) × Grants w n tables last k i
