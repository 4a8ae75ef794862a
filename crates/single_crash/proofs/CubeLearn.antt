-- On the cube of 2^d boards, of which all but b are live and suspect b at most: in a round each learns of b at the latest by the test at which it
-- is due to learn, where the board that it tests then is b, or was due to learn earlier.
-- Assumes nothing.
use mathlib.Core.Path.{◌≡◌, refl}
use mathlib.Core.Logic.{◌≢◌, by_cases}
use mathlib.Core.Bool.{Bool, true, false}
use mathlib.Core.List.{List}
use Prim.Native.Nat.{ℕ, suc, ◌^◌, ◌≤◌, ◌<◌}
use native.Mathlib.Decide.{ℕ_discrete, dec_le}
use native.Mathlib.Omega.{arith}
use lib.Bits.{xor_lt}
use lib.Pow.{pow_pos, pow_mono}
use Rattle.lists.proofs.BoolLaws.{by_bool}
use Rattle.table.specs.Table.{finished, tests_made, suspects, row}
use Rattle.table.specs.declared.wiring.Wiring.TheVariants.{Cube}
use Rattle.station.specs.Groups.{station_at}
use Rattle.station.proofs.WiredLaws.{cube-station}
use Rattle.plant.specs.Turn.{next_test, makes_test}
use Rattle.granter.specs.Drive.{Stand}
use Rattle.detection.proofs.TurnEffect.{Row, Tested}
use Rattle.single_crash.proofs.SweepLaw.{grant_of}
use Rattle.single_crash.proofs.Running.{Running, going, kept, heads, has-ended, others-same}
use Rattle.single_crash.proofs.CubeDue.{Few}
use Rattle.single_crash.proofs.CubePace.{Cubic, few-but, Paced, pace-test, first-test}
use Rattle.single_crash.proofs.CubeRun.{OthersLive, fewest, granted-other}

-- who is to learn of b, and by how many tests
pub record Way (n d b : ℕ) (Learns : ℕ → Type 0) (need : ℕ → ℕ) : Type 0 where
  -- whom a board tests then is b, or learns by fewer tests
  pub nearer : (x h : ℕ) → x < n → x ≢ b → Learns x → need x ≡ suc h → station_at x (2 ^ h) ≢ b
      → Learns (station_at x (2 ^ h)) × (need (station_at x (2 ^ h)) ≤ h)
  pub most : (x : ℕ) → x < n → x ≢ b → Learns x → need x ≤ d
  -- the board beside b learns by its first test
  pub beside : (x : ℕ) → station_at x 1 ≡ b → need x ≤ 1

-- who has made as many tests in the round knows b
abbrev pub Learned : ℕ → ℕ → (ℕ → Type 0) → (ℕ → ℕ) → List ℕ → Type 0
Learned n b Learns need t = (x : ℕ) → x < n → x ≢ b → Learns x → need x ≤ tests_made n t x → suspects n t x b ≡ 1

module _ {n d b : ℕ} {Learns : ℕ → Type 0} {need : ℕ → ℕ} (way : Way n d b Learns need) where
  -- who has finished its pass knows it
  pub learned-ended : (t : List ℕ) → ((x : ℕ) → x < n → x ≢ b → Paced n d b t x) → Learned n b Learns need t
      → (x : ℕ) → x < n → x ≢ b → Learns x → finished n t x ≡ 1 → suspects n t x b ≡ 1
  learned-ended t paced known x hx apart s f =
      let p = paced x hx apart in
      known x hx apart s
      (by_cases (ℕ_discrete (station_at x 1) b)
      (λ e. omega (arith, way.beside x e, p.begins.some f))
      (λ e. omega (arith, way.most x hx apart s, (p.far e).ended f)))

  -- a grant with its turn
  module _ {L : ℕ → Bool} (c : Cubic n d) (others : OthersLive n b L) (dead : L b ≡ false) (hb : b < n) {begins : ℕ} {p : Stand}
      (r : Running Cube n L begins p) (paced : (x : ℕ) → x < n → x ≢ b → Paced n d b p.state.table x) (known : Learned n b Learns need p.state.table)
    where
      open grant_of Cube n p use {before as t, board as g, turned as t'}
      open granted-other r b dead use {below, apart}

      abbrev made : ℕ
      made = tests_made n t g

      few : Few d (row n t g) g b
      few = few-but b c others r.plain g below apart

      -- who needs no more tests than the granted board has made knows b
      nearer-known : (x : ℕ) → x < n → x ≢ b → Learns x → need x ≤ made → suspects n t x b ≡ 1
      nearer-known x hx far s l =
          by_cases (ℕ_discrete (finished n t x) 0)
          (λ f. known x hx far s (omega (arith, fewest r b c others x hx far f)))
          (λ f. learned-ended t paced known x hx far s (has-ended r x hx f))

      -- the test at which it learns
      level-test : makes_test Cube n t g ≡ true → need g ≡ suc made → next_test Cube n t g ≡ 2 ^ made
      level-test e here =
          by_cases (ℕ_discrete (station_at g 1) b)
          (λ q.
          let none : made ≡ 0 = omega (arith, here, way.beside g q) in
          rw none (first-test c t g b few (going r) (paced g below apart).begins none))
          (λ q. (pace-test c t g b few (going r) q ((paced g below apart).far q) e).1)

      test-teaches : makes_test Cube n t g ≡ true → Learns g → need g ≡ suc made → suspects n t' g b ≡ 1
      test-teaches e s here =
          let y : ℕ = station_at g (2 ^ made) in
          let small : 2 ^ made < 2 ^ d =
          omega (arith, pow_pos made, pow_mono {i = suc made} {j = d} (omega (arith, way.most g below apart s))) in
          let hy : y < n = omega (arith, c.power, xor_lt d g (2 ^ made) (omega (arith, c.power, below)) small) in
          let at = level-test e here in
          let tested : Tested n L (Row n t g) (Row n t y) t' g y = rw (at, cube-station Cube n g (2 ^ made) refl) at ((kept r).tests e) in
          by_cases (ℕ_discrete y b)
          (λ q. rw q at (tested.finds (rw q dead)))
          (λ q.
          let near = way.nearer g made below apart s here q in
          tested.hears (others y hy q) b hb (nearer-known y hy q near.0 near.1))

      pub learned-next : Learned n b Learns need t'
      learned-next x hx far s l =
          by_cases (ℕ_discrete x g)
          (λ q. rw q (own (rw q at s) (rw q at l)))
          (λ q.
          let same = (others-same r x q).made in
          (kept r).grows x b hx hb (known x hx far s (omega (arith, same))))
        where
          own : Learns g → need g ≤ tests_made n t' g → suspects n t' g b ≡ 1
          own s l =
              by_cases (dec_le (need g) made)
              (λ m. (kept r).grows g b below hb (known g below apart s m))
              (λ m. by_bool (makes_test Cube n t g)
              (λ e. test-teaches e s (omega (arith, rw e at (heads r).tests)))
              (λ e. absurd (omega (arith, rw e at (heads r).tests))))
