-- One board dies under the bus master: how many grants later, and how many rounds, each other board suspects it. w is the wiring, p where
-- the drive stands at first, and b the board that dies.
-- Assumes nothing.
use Rattle.std.specs.Prelude.{Ok, ◌≡◌, true, not, ℕ, ◌+◌, ◌≤◌, ◌<◌, ◌==◌, List}
use Rattle.table.specs.Sizes.{is_size}
use Rattle.table.specs.Table.{suspects, live}
use Rattle.table.specs.Fresh.{fresh_table}
use Rattle.table.specs.Properties.{at_start, ExactRows}
use Rattle.table.specs.declared.wiring.Wiring.{Wiring}
use Rattle.plant.specs.Turn.{kind_crash}
use Rattle.plant.specs.Entry.{state_of, entry_of, after}
use Rattle.granter.specs.Grant.{last_check, grant_check}
use Rattle.granter.specs.Drive.{Stand, stand_at, after_grants}

-- a sound plant at the start of a round: the grant is not refused, every board is live, and nobody suspects anybody. Tally and last granted number
-- may be any
pub record Sound (w : Wiring) (n : ℕ) (p : Stand) : Type 0 where
  pub granted : grant_check w n p.state.table p.last ≡ Ok tt
  pub start : at_start n p.state.table ≡ true
  pub all_live : (i : ℕ) → i < n → live n p.state.table i ≡ true
  pub nobody : (i j : ℕ) → i < n → j < n → suspects n p.state.table i j ≡ 0

-- Rule Conditions are met: a plant with a fresh table is sound, whatever the tally, and whatever the last granted number if 16 lets it through
abbrev pub FreshIsSound : Type 0
FreshIsSound =
    (w : Wiring) (n rounds tests last : ℕ) → is_size n ≡ true → last_check n last ≡ Ok tt
    → Sound w n (stand_at (state_of (fresh_table n) rounds tests) last)

-- board b crashes. The last granted number stays
unfoldable pub crash_at : Wiring → ℕ → Stand → ℕ → Stand
crash_at w n q b = stand_at (after w n q.state (entry_of kind_crash b)) q.last

-- where the drive stands when b has crashed behind k grants, each with its turn, and g more grants were made
abbrev pub behind_crash : Wiring → ℕ → Stand → ℕ → ℕ → ℕ → Stand
behind_crash w n p k b g = after_grants w n (crash_at w n (after_grants w n p k) b) g

-- so many rounds at least have closed since then, the one in which b crashed among them
abbrev pub RoundsSince : Wiring → ℕ → Stand → ℕ → ℕ → ℕ → ℕ → Type 0
RoundsSince w n p k b g rounds = (after_grants w n p k).state.rounds + rounds ≤ (behind_crash w n p k b g).state.rounds

-- b is known: every board but b is live, and suspects b and nobody else
pub record KnownDead (n : ℕ) (t : List ℕ) (b : ℕ) : Type 0 where
  pub others_live : (i : ℕ) → i < n → live n t i ≡ not (i == b)
  pub exact : ExactRows n t

-- Rule One dead board: b is known after so many grants behind the crash, whichever board it is and whenever it crashes
abbrev pub KnownInGrants : Wiring → ℕ → ℕ → Type 0
KnownInGrants w n grants =
    (p : Stand) (k b g : ℕ) → Sound w n p → b < n → grants ≤ g → KnownDead n (behind_crash w n p k b g).state.table b

-- Rule One dead board: and when so many rounds have closed
abbrev pub KnownInRounds : Wiring → ℕ → ℕ → Type 0
KnownInRounds w n rounds =
    (p : Stand) (k b g : ℕ) → Sound w n p → b < n → RoundsSince w n p k b g rounds → KnownDead n (behind_crash w n p k b g).state.table b
