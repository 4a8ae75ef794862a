-- What a grant with its turn on the ring leaves: who does not suspect b before it, and exchanges with nobody who does, does not suspect b after it.
-- Assumes nothing.
use mathlib.Core.Path.{◌≡◌, refl, ap, ◌∙◌}
use mathlib.Core.Logic.{◌≢◌, by_cases}
use mathlib.Core.Bool.{Bool, true, false, cond, not, ◌&&◌, ◌||◌}
use Prim.Native.Nat.{ℕ, max, ◌+◌, ◌%◌, ◌≤◌, ◌<◌}
use native.Mathlib.Decide.{ℕ_discrete}
use native.Mathlib.Omega.{arith}
use borrow.Author.Tests.{lt-ltb, le-ltb, ne_eqb}
use lib.Dec.{eqb}
use Rattle.lists.proofs.BoolLaws.{choice}
use Rattle.table.specs.Table.{next_distance, suspects}
use Rattle.table.proofs.WiringLaws.{end_ring}
use Rattle.table.specs.declared.wiring.Wiring.TheVariants.{Ring}
use Rattle.station.specs.Wired.{wired_station}
use Rattle.station.proofs.WiredLaws.{ring-station}
use Rattle.plant.specs.Turn.{next_test, makes_test}
use Rattle.plant.proofs.NextTest.{ring-next}
use Rattle.granter.specs.Drive.{Stand}
use Rattle.witness.proofs.Moves.{byte_after}
use Rattle.single_crash.proofs.SweepLaw.{grant_of}
use Rattle.single_crash.proofs.Running.{Running, rows-same, rows-tested}

module _ {n : ℕ} {L : ℕ → Bool} {begins : ℕ} {p : Stand} (r : Running Ring n L begins p) (b : ℕ) (hb : b < n) where
  open grant_of Ring n p use {before as t, board as g, turned as t'}

  -- it finishes its pass
  makes-none : n ≤ next_distance n t g → makes_test Ring n t g ≡ false
  unfolding makes_test
  makes-none far = rw (ring-next Ring n t g refl, end_ring Ring n refl) (le-ltb (next_distance n t g) n far)

  pub rows-stay : n ≤ next_distance n t g → (k : ℕ) → suspects n t' k b ≡ suspects n t k b
  rows-stay far k = rows-same r (makes-none far) k b hb

  -- it tests the board m places on
  module _ (m : ℕ) (q : next_distance n t g ≡ m) (low : m < n) where
    abbrev y : ℕ
    y = (g + m) % n

    makes : makes_test Ring n t g ≡ true
    unfolding makes_test
    makes = rw (ring-next Ring n t g refl, end_ring Ring n refl, q) (lt-ltb m n low)

    station : wired_station Ring n g (next_test Ring n t g) ≡ y
    station = ring-station Ring n g (next_test Ring n t g) refl ∙ ap (λ (m : ℕ). (g + m) % n) (ring-next Ring n t g refl ∙ q)

    bytes : (k : ℕ) → k < n → suspects n t' k b ≡ byte_after (L y) (suspects n t) g y k b
    bytes k h = rw station at (rows-tested r makes k b h hb)

    -- which is live
    pub unaware-met : L y ≡ true → (k : ℕ) → k < n → suspects n t k b ≡ 0 → (k ≡ g → suspects n t y b ≡ 0) → (k ≡ y → suspects n t g b ≡ 0)
        → suspects n t' k b ≡ 0
    unaware-met l k h none mine its =
        let is : suspects n t' k b ≡ cond ((eqb k g || eqb k y) && not (eqb b k)) (max (suspects n t g b) (suspects n t y b)) (suspects n t k b) =
        rw l at (bytes k h) in
        is
        ∙ by_cases (ℕ_discrete k g)
        (λ e. choice (λ (v : ℕ). v ≡ 0) ((eqb k g || eqb k y) && not (eqb b k)) (omega (arith, rw e at none, mine e)) none)
        (λ d. by_cases (ℕ_discrete k y)
        (λ e. choice (λ (v : ℕ). v ≡ 0) ((eqb k g || eqb k y) && not (eqb b k)) (omega (arith, rw e at none, its e)) none)
        (λ f. rw (ne_eqb k g d, ne_eqb k y f) none))

    -- or dead
    pub unaware-other : L y ≡ false → (k : ℕ) → k < n → k ≢ g → suspects n t' k b ≡ suspects n t k b
    unaware-other l k h d =
        let is : suspects n t' k b ≡ cond (eqb k g && eqb b y) 1 (suspects n t k b) = rw l at (bytes k h) in
        is ∙ rw (ne_eqb k g d) refl
