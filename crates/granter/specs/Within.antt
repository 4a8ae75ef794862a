-- That n·n grants, each with its turn, are enough to close a round or to leave nobody live, on each wiring.
-- Assumes nothing.
use Rattle.std.specs.Prelude.{Ok, ◌≡◌, ◌⊎◌, Bool, true, false, ℕ, zero, suc, ◌*◌, ◌≤◌, ◌<◌}
use Rattle.plant.specs.Turn.{kind_turn, kind_late}
use Rattle.plant.specs.Entry.{State, entry_of, entry_check, after}
use Rattle.granter.specs.Grant.{grant_check}
use Rattle.granter.specs.Drive.{Stand, stand_at, granted_at, after_grants, ended, grants_made, Stopped}
use Rattle.table.specs.declared.wiring.Wiring.{Wiring}

-- the turns have kind 1, or kind 2, whose reply comes late. These are the kinds of the turns, counted from 0
abbrev pub TurnKinds : (ℕ → ℕ) → Type 0
TurnKinds kinds = (k : ℕ) → (kinds k ≡ kind_turn) ⊎ (kinds k ≡ kind_late)

-- where they stand after k grants, each followed by its turn
unfoldable pub after_turns : Wiring → ℕ → (ℕ → ℕ) → Stand → ℕ → Stand
after_turns w n kinds p zero = p
after_turns w n kinds p (suc k) =
    let q = after_turns w n kinds p k in
    stand_at (after w n q.state (entry_of (kinds k) (granted_at n q))) (granted_at n q)

-- whether a round has closed, or nobody is live, after k grants
abbrev pub over_after : Wiring → ℕ → (ℕ → ℕ) → Stand → ℕ → Bool
over_after w n kinds p k = ended n p.state.rounds (after_turns w n kinds p k).state

-- no turn is refused, as long as no round has closed and somebody is live. Of the grants only the first is asked not to be (below)
abbrev pub NoneRefused : Wiring → ℕ → (ℕ → ℕ) → Stand → Type 0
NoneRefused w n kinds p =
    (k : ℕ) → k < n * n → ((j : ℕ) → j ≤ k → over_after w n kinds p j ≡ false)
    → entry_check n (after_turns w n kinds p k).state (entry_of (kinds k) (granted_at n (after_turns w n kinds p k))) ≡ Ok tt

-- Rule Enough grants: from every table that refusals 1 to 4 let through, in the middle of a round too, with somebody live and a last number
-- that 16 lets through
abbrev pub RoundEndsInSquare : Type 0
RoundEndsInSquare =
    (w : Wiring) (n : ℕ) (kinds : ℕ → ℕ) (s : State) (last : ℕ)
    → TurnKinds kinds → grant_check w n s.table last ≡ Ok tt → NoneRefused w n kinds (stand_at s last)
    → (k : ℕ) × (k ≤ n * n) × (over_after w n kinds (stand_at s last) k ≡ true)

-- with turns of kind 1 only, grants and turns are those of the drive
abbrev pub KindOneIsDriven : Type 0
KindOneIsDriven = (w : Wiring) (n : ℕ) (p : Stand) (k : ℕ) → after_turns w n (λ _. kind_turn) p k ≡ after_grants w n p k

-- Rule Enough grants: every drive that is not refused at its start stops, for one of the three reasons
abbrev pub DriveStops : Type 0
DriveStops =
    (w : Wiring) (n : ℕ) (s : State) (last : ℕ) → grant_check w n s.table last ≡ Ok tt
    → Stopped w n (stand_at s last) (grants_made w n (stand_at s last))
