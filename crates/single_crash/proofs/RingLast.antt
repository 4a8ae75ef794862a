-- A round on the ring in which each live board makes one test: the board at the last place of the circle finishes last.
-- Assumes nothing.
use mathlib.Core.Path.{◌≡◌, refl, sym, ap, ◌∙◌}
use mathlib.Core.Logic.{by_cases}
use mathlib.Core.Bool.{Bool, true, false, true≢false}
use Prim.Native.Nat.{ℕ, ◌-◌, ◌<◌}
use native.Mathlib.Decide.{ℕ_discrete}
use native.Mathlib.Omega.{arith}
use Rattle.lists.proofs.BoolLaws.{by_bool}
use Rattle.lists.proofs.SearchLaws.{every-all}
use Rattle.table.specs.Table.{finished}
use Rattle.table.specs.Rules.{finished_if_live, live_finished, round_over}
use Rattle.table.specs.declared.wiring.Wiring.TheVariants.{Ring}
use Rattle.granter.specs.Fairness.{stations_before}
use Rattle.granter.specs.Drive.{Stand}
use Rattle.single_crash.specs.Sweeps.{turns_made}
use Rattle.single_crash.proofs.Sweeps.{place-one, place-below}
use Rattle.single_crash.proofs.SweepLaw.{grant_of}
use Rattle.single_crash.proofs.Running.{Running, some-live, chosen, kept, moved, grant-first, grant-fewest, live-waits, all-ended, others-same}
use Rattle.single_crash.proofs.Passes.{made-most}
use Rattle.single_crash.proofs.OnRing.{PassesOf, passes-on, one}

module _ {n : ℕ} {L : ℕ → Bool} {begins : ℕ} {p : Stand} (r : Running Ring n L begins p) (pass : PassesOf n L one p.state.table)
    (z : ℕ) (hz : z < n) (lz : L z ≡ true) (last : stations_before n begins z ≡ n - 1) (open-still : finished n p.state.table z ≡ 0) where
  open grant_of Ring n p use {before as t, board as g, turned as t'}

  -- it closes with z
  pub last-closes : round_over n t' ≡ true → g ≡ z
  last-closes over =
      by_cases (ℕ_discrete g z) (λ e. e)
      (λ k.
      let same = (others-same r z (λ e. k (sym e))).done in
      let ended = all-ended r over z hz lz in
      absurd (omega (arith, open-still)))

  -- where z finishes, all others have
  module _ (e : z ≡ g) (ended : finished n t' z ≡ 1) where
    twice : turns_made n t g ≡ 1
    twice =
        let now = passes-on r one pass in
        let made = (made-most now z hz lz).1 ended in
        omega (arith, (moved r).own, rw e at made, rw e at ended)

    others-ended : (i : ℕ) → i < n → L i ≡ true → finished n t' i ≡ 1
    others-ended i h l =
        by_cases (ℕ_discrete i g) (λ q. ap (λ (x : ℕ). finished n t' x) (q ∙ sym e) ∙ ended)
        (λ q.
        let same = (others-same r i q).done in
        by_cases (ℕ_discrete (finished n t i) 1) (λ x. same ∙ x)
        (λ x.
        let none : finished n t i ≡ 0 = omega (arith, pass.range i h) in
        let wait = live-waits r i h l none in
        let few = grant-fewest r i h wait in
        let most = (made-most pass i h l).0 in
        let first = grant-first r i h wait (omega (arith, twice)) in
        absurd (q (place-one n begins i g r.fits h (chosen r).0
        (omega (arith, rw e at last, place-below n begins i r.fits h))))))

    closing : round_over n t' ≡ true
    unfolding live_finished
    closing =
        let plain = (kept r).plain in
        rw (some-live r.crew plain)
        (every-all (finished_if_live n t') n (λ i h. by_bool (L i)
        (λ l. rw (plain.lives i h, l, others-ended i h l) refl) (λ l. rw (plain.lives i h, l) refl)))

  pub last-open : round_over n t' ≡ false → finished n t' z ≡ 0
  last-open unclosed =
      by_cases (ℕ_discrete z g)
      (λ e. by_cases (ℕ_discrete (finished n t' z) 1) (λ ended. absurd (true≢false (sym (closing e ended) ∙ unclosed)))
      (λ x. omega (arith, (passes-on r one pass).range z hz)))
      (λ k. (others-same r z k).done ∙ open-still)
