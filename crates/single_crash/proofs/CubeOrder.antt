-- On the cube, in a round that the going round began behind board 4: board 4 makes its turns last in each sweep, and board 5 first.
-- Assumes nothing.
use mathlib.Core.Path.{◌≡◌, refl, sym, ap, ◌∙◌}
use mathlib.Core.Logic.{◌≢◌, by_cases}
use mathlib.Core.Bool.{Bool}
use Prim.Native.Nat.{ℕ, suc, ◌-◌, ◌≤◌, ◌<◌}
use native.Mathlib.Decide.{ℕ_discrete}
use native.Mathlib.Omega.{arith}
use Rattle.table.specs.Table.{finished}
use Rattle.table.specs.declared.wiring.Wiring.TheVariants.{Cube}
use Rattle.granter.specs.Fairness.{stations_before}
use Rattle.granter.specs.Drive.{Stand}
use Rattle.single_crash.specs.Sweeps.{turns_made}
use Rattle.single_crash.proofs.Sweeps.{place-below, place-one}
use Rattle.single_crash.proofs.SweepLaw.{grant_of}
use Rattle.single_crash.proofs.Running.{Running, chosen, going, moved, grant-first, live-waits, has-ended}
use Rattle.single_crash.proofs.CubePace.{Cubic, OnPace}
use Rattle.single_crash.proofs.CubeRun.{OthersLive, fewest-turns}

place-first : (n : ℕ) → stations_before n 5 5 ≡ 0
unfolding stations_before
place-first n = refl

pub place-last : (n : ℕ) → 5 ≤ n → stations_before n 5 4 ≡ n - 1
unfolding stations_before
place-last n h = omega arith

module _ {n d : ℕ} (b : ℕ) {L : ℕ → Bool} (c : Cubic n d) (others : OthersLive n b L) (five : 5 < n) {p : Stand} (r : Running Cube n L 5 p)
    (pace : (i : ℕ) → i < n → i ≢ b → OnPace n d p.state.table i) where
  open grant_of Cube n p use {before as t, board as g, turned as t'}

  below : g < n
  below = (chosen r).0

  -- a board that has finished has made d + 1 turns
  pub turns-ended : (i : ℕ) → i < n → i ≢ b → finished n t i ≢ 0 → turns_made n t i ≡ suc d
  turns-ended i h q f =
      let one = has-ended r i h f in
      omega (arith, one, (pace i h q).ended one)

  -- and the granted one fewer
  pub turns-granted : g ≢ b → turns_made n t g ≤ d
  turns-granted q =
      let zero = going r in
      omega (arith, zero, ((pace g below q).going zero).0)

  -- of those that have made as many as the granted one it comes first
  first-of : (i : ℕ) → i < n → i ≢ b → finished n t i ≡ 0 → turns_made n t g ≡ turns_made n t i → stations_before n 5 g ≤ stations_before n 5 i
  first-of i h q f e = grant-first r i h (live-waits r i h (others i h q) f) e

  own-turn : (i : ℕ) → g ≡ i → turns_made n t' i ≡ suc (turns_made n t i)
  own-turn i e =
      ap (turns_made n t') (sym e) ∙ ((moved r).own ∙ ap (λ (x : ℕ). suc (turns_made n t x)) e)

  -- nobody has made fewer turns than board 4
  pub last-turn : 4 ≢ b → ((i : ℕ) → i < n → i ≢ b → turns_made n t 4 ≤ turns_made n t i)
      → (i : ℕ) → i < n → i ≢ b → turns_made n t' 4 ≤ turns_made n t' i
  last-turn four lag i h q =
      let m = moved r in
      by_cases (ℕ_discrete i 4) (λ e. rw e (omega arith))
      (λ e.
      by_cases (ℕ_discrete g 4)
      (λ at.
      let own = own-turn 4 at in
      let same : turns_made n t' i ≡ turns_made n t i = m.others i h (λ f. e (f ∙ at)) in
      by_cases (ℕ_discrete (finished n t i) 0)
      (λ f.
      by_cases (ℕ_discrete (turns_made n t 4) (turns_made n t i))
      (λ eq.
      let first = first-of i h q f (ap (turns_made n t) at ∙ eq) in
      let place : stations_before n 5 4 ≤ stations_before n 5 i = rw at at first in
      let high = place-below n 5 i (omega arith) h in
      absurd (e (place-one n 5 i 4 (omega arith) h (omega arith) (omega (arith, place, high, place-last n (omega arith))))))
      (λ eq. omega (arith, own, same, lag i h q, eq)))
      (λ f. omega (arith, own, same, turns-ended i h q f, ap (turns_made n t) at, turns-granted (λ z. four (sym at ∙ z)))))
      (λ at.
      let same : turns_made n t' 4 ≡ turns_made n t 4 = m.others 4 (omega arith) (λ f. at (sym f)) in
      by_cases (ℕ_discrete i g) (λ f. omega (arith, same, own-turn i (sym f), lag i h q))
      (λ f. omega (arith, same, m.others i h f, lag i h q))))

  -- and more than board 5
  pub first-turn : 5 ≢ b → g ≢ b → ((i : ℕ) → i < n → i ≢ b → turns_made n t i ≤ turns_made n t 5)
      → (i : ℕ) → i < n → i ≢ b → turns_made n t' i ≤ turns_made n t' 5
  first-turn five_other g_other lead i h q =
      let m = moved r in
      by_cases (ℕ_discrete g 5)
      (λ at.
      by_cases (ℕ_discrete i 5) (λ e. rw e (omega arith))
      (λ e. omega (arith, own-turn 5 at, m.others i h (λ f. e (f ∙ at)), lead i h q)))
      (λ at.
      let same : turns_made n t' 5 ≡ turns_made n t 5 = m.others 5 five (λ f. at (sym f)) in
      by_cases (ℕ_discrete i g)
      (λ e.
      let fewer : turns_made n t g < turns_made n t 5 =
      by_cases (ℕ_discrete (finished n t 5) 0)
      (λ f.
      by_cases (ℕ_discrete (turns_made n t g) (turns_made n t 5))
      (λ eq.
      let first = first-of 5 five five_other f eq in
      absurd (at (place-one n 5 g 5 (omega arith) below five (omega (arith, first, place-first n)))))
      (λ eq. omega (arith, fewest-turns r b c others 5 five five_other f, eq)))
      (λ f. omega (arith, turns-ended 5 five five_other f, turns-granted g_other)) in
      omega (arith, own-turn i (sym e), same, fewer, ap (turns_made n t) e))
      (λ e. omega (arith, m.others i h e, same, lead i h q)))
