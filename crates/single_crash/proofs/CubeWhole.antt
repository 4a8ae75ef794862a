-- On the cube of 2^d boards before the crash, where every board is live and nobody suspects anybody: each board stays on pace.
-- Assumes nothing.
use mathlib.Core.Path.{refl}
use Prim.Native.Nat.{ℕ, zero, suc, ◌<◌}
use Rattle.table.specs.declared.wiring.Wiring.TheVariants.{Cube}
use Rattle.granter.specs.Drive.{Stand, grant_turn, after_grants}
use Rattle.single_crash.proofs.SweepLaw.{grant_of}
use Rattle.single_crash.proofs.Running.{Running, chosen, going, heads, by_round}
use Rattle.single_crash.proofs.Crashing.{everyone}
use Rattle.single_crash.proofs.CubePace.{Cubic, few-none, beside-none, OnPace, pace-start, pace-own}
use Rattle.single_crash.proofs.CubeRun.{OthersLive, pace-turn}

-- before the crash: every board is live, suspects nobody and is on pace
pub record Whole (n d : ℕ) (p : Stand) : Type 0 where
  pub begins : ℕ
  pub running : Running Cube n everyone begins p
  pub pace : (i : ℕ) → i < n → OnPace n d p.state.table i

pub all_live : (n : ℕ) → OthersLive n n everyone
all_live n x h q = refl

module _ {n d : ℕ} (c : Cubic n d) where
  -- a turn keeps every board on pace
  module _ {begins : ℕ} {p : Stand} (r : Running Cube n everyone begins p) (pace : (i : ℕ) → i < n → OnPace n d p.state.table i) where
    open grant_of Cube n p use {before as t, board as g, turned as t'}

    pub whole-pace : (i : ℕ) → i < n → OnPace n d t' i
    whole-pace i h =
        let below = (chosen r).0 in
        let few = few-none c t r.plain.lines g below (λ x hx. r.plain.accurate g x below hx refl refl) in
        let own = pace-own c t g n few (going r) t' _ (heads r) (beside-none c g below) in
        pace-turn r own i (pace i h)

  whole-next : {p : Stand} → Whole n d p → Whole n d (grant_turn Cube n p)
  whole-next r =
      by_round r.running
      (λ over w. record { begins = _; running = w.running; pace = λ i h. pace-start d (w.fresh i h) })
      (λ on w. record { begins = _; running = w.running; pace = rw w.table (whole-pace r.running r.pace) })

  pub whole-after : {p : Stand} (k : ℕ) → Whole n d p → Whole n d (after_grants Cube n p k)
  unfolding after_grants
  whole-after zero r = r
  whole-after (suc k) r = whole-next (whole-after k r)
