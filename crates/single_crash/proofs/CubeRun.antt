-- On the cube of 2^d boards under the bus master, all live but perhaps b: what a grant with its turn does to passes, and that no other board that
-- waits has made fewer tests than the granted one.
-- Assumes nothing.
use mathlib.Core.Path.{◌≡◌, sym, ◌∙◌}
use mathlib.Core.Logic.{◌≢◌, by_cases}
use mathlib.Core.Bool.{Bool, true, false, true≢false}
use Prim.Native.Nat.{ℕ, ◌≤◌, ◌<◌}
use native.Mathlib.Decide.{ℕ_discrete}
use native.Mathlib.Omega.{arith}
use lib.Pow.{pow_mono}
use Rattle.table.specs.Table.{finished, tests_made}
use Rattle.table.specs.declared.wiring.Wiring.TheVariants.{Cube}
use Rattle.granter.specs.Drive.{Stand}
use Rattle.single_crash.specs.Sweeps.{turns_made}
use Rattle.single_crash.proofs.SweepLaw.{grant_of}
use Rattle.single_crash.proofs.Running.{Running, chosen, is_live, going, heads, grant-fewest, live-waits, others-same}
use Rattle.single_crash.proofs.CubePace.{Cubic, few-but, OnPace, Paced, pace-same, paced-same, paced-own}

pub four : {n d : ℕ} → Cubic n d → 4 ≤ n
four {d = d} c = omega (arith, c.power, pow_mono {i = 2} {j = d} c.levels)

-- all boards but b are live
abbrev pub OthersLive : ℕ → ℕ → (ℕ → Bool) → Type 0
OthersLive n b L = (x : ℕ) → x < n → x ≢ b → L x ≡ true

-- the next grant, with its turn
module _ {n : ℕ} {L : ℕ → Bool} {begins : ℕ} {p : Stand} (r : Running Cube n L begins p) where
  open grant_of Cube n p use {before as t, board as g, turned as t'}

  -- the passes of the other boards stay
  pub pace-turn : {d : ℕ} → (OnPace n d t g → OnPace n d t' g) → (i : ℕ) → OnPace n d t i → OnPace n d t' i
  pace-turn own i paced = by_cases (ℕ_discrete i g) (λ e. rw e (own (rw e at paced))) (λ q. pace-same (others-same r i q) paced)

  -- where b is dead another board is granted
  pub record Other (b : ℕ) : Type 0 where
    pub below : g < n
    pub apart : g ≢ b

  pub granted-other : (b : ℕ) → L b ≡ false → Other b
  granted-other b dead = record { below = (chosen r).0; apart = λ e. true≢false (sym (is_live r) ∙ rw e dead) }

  -- tests are made, and none taken back
  pub more-tests : (x : ℕ) → tests_made n t x ≤ tests_made n t' x
  more-tests x =
      by_cases (ℕ_discrete x g) (λ e. rw e (omega (arith, (heads r).tests))) (λ q. omega (arith, (others-same r x q).made))

  -- no other board that waits has made fewer turns, and so fewer tests
  module _ {d : ℕ} (b : ℕ) (c : Cubic n d) (others : OthersLive n b L) where
    pub fewest-turns : (x : ℕ) → x < n → x ≢ b → finished n t x ≡ 0 → turns_made n t g ≤ turns_made n t x
    fewest-turns x hx apart f = grant-fewest r x hx (live-waits r x hx (others x hx apart) f)

    pub fewest : (x : ℕ) → x < n → x ≢ b → finished n t x ≡ 0 → tests_made n t g ≤ tests_made n t x
    fewest x hx apart f = omega (arith, fewest-turns x hx apart f, f, going r)

    pub paced-turn : (i : ℕ) → i < n → i ≢ b → Paced n d b t i → Paced n d b t' i
    paced-turn i h apart paced =
        by_cases (ℕ_discrete i g)
        (λ e.
        let few = few-but b c others r.plain g (chosen r).0 (λ q. apart (e ∙ q)) in
        rw e (paced-own c t g b few (going r) t' _ (heads r) (rw e at paced)))
        (λ q. paced-same (others-same r i q) paced)
