-- On the cube, in the round in which b crashes: where the tests of b at the first s levels are made, only boards at multiples of 2^s from b learn of
-- it in that round, so that every board stays on pace.
-- Assumes nothing.
use mathlib.Core.Path.{◌≡◌, refl, sym, ap, ◌∙◌}
use mathlib.Core.Logic.{◌≢◌, by_cases}
use mathlib.Core.Bool.{Bool, true, false}
use mathlib.Core.List.{List}
use Prim.Native.Nat.{ℕ, suc, ◌^◌, ◌≤◌, ◌<◌}
use native.Mathlib.Nat.{mod-eq_of_lt}
use native.Mathlib.Decide.{ℕ_discrete, dec_lt}
use native.Mathlib.Omega.{arith}
use lib.Bits.{bit_xor, xor_mod}
use lib.Pow.{pow_mono}
use Rattle.lists.proofs.BoolLaws.{by_bool}
use Rattle.lists.proofs.Xor.{xor-cancel, xor-undo}
use Rattle.table.specs.Table.{finished, tests_made, suspects, row}
use Rattle.table.specs.declared.wiring.Wiring.TheVariants.{Cube}
use Rattle.station.specs.Groups.{distance, station_at}
use Rattle.station.specs.Wired.{wired_station}
use Rattle.station.proofs.WiredLaws.{cube-station}
use Rattle.plant.specs.Turn.{next_test, makes_test}
use Rattle.plant.proofs.NextTest.{test-station}
use Rattle.granter.specs.Drive.{Stand}
use Rattle.single_crash.proofs.SweepLaw.{grant_of}
use Rattle.single_crash.proofs.Running.{Running, going, heads, has-ended, rows-same, rows-tested}
use Rattle.single_crash.proofs.Heard.{Heard, had, found, told_by_tester, told_by_tested, heard}
use Rattle.single_crash.proofs.CubeDue.{Few}
use Rattle.single_crash.proofs.CubePace.{Cubic, few-none, few-but, beside-none, OnPace, pace-test, pace-own}
use Rattle.single_crash.proofs.CubeWays.{Multiple, turned, power-multiple, distance-beside}
use Rattle.single_crash.proofs.CubeRun.{OthersLive, fewest, pace-turn, granted-other, more-tests}

-- every board but b has made s tests
abbrev pub AllMade : ℕ → ℕ → ℕ → List ℕ → Type 0
AllMade n b s t = (z : ℕ) → z < n → z ≢ b → s ≤ tests_made n t z

-- the tests of b at the first s levels are made; and whoever suspects b is at a multiple of 2^s, and learned of it when all had made s tests
pub record NearUnaware (n b s : ℕ) (t : List ℕ) : Type 0 where
  pub behind : (z h : ℕ) → z < n → h < s → distance z b ≡ 2 ^ h → suc h ≤ tests_made n t z
  pub aware : (x : ℕ) → x < n → x ≢ b → suspects n t x b ≡ 1 → Multiple b s x × AllMade n b s t

module _ {n d : ℕ} (b : ℕ) {L : ℕ → Bool} (c : Cubic n d) (others : OthersLive n b L) (dead : L b ≡ false) (hb : b < n) {begins : ℕ} {p : Stand}
    (r : Running Cube n L begins p) (pace : (i : ℕ) → i < n → i ≢ b → OnPace n d p.state.table i) {s : ℕ} (some : 1 ≤ s) (le : s ≤ d)
    (near : NearUnaware n b s p.state.table) where
  open grant_of Cube n p use {before as t, board as g, turned as t'}
  open granted-other r b dead use {below, apart}

  abbrev made : ℕ
  made = tests_made n t g

  -- the board beside b does not suspect it
  beside-clear : station_at g 1 ≡ b → (x : ℕ) → x < n → suspects n t g x ≡ 0
  beside-clear e x hx = by_cases (ℕ_discrete x b) (λ q. rw q here)
      (λ q. r.plain.accurate g x below hx (others g below apart) (others x hx q))
    where
      here : suspects n t g b ≡ 0
      here =
          let one : 1 < 2 ^ s = omega (arith, pow_mono {i = 1} {j = s} some) in
          let unaware : suspects n t g b ≢ 1 =
          λ q. omega (arith, mod-eq_of_lt one, rw (distance-beside g b e) at (near.aware g below apart q).0) in
          omega (arith, unaware, (r.plain.lines.1 g below).range b hb)

  -- so that the granted board is on pace, whichever it is
  module _ (z : ℕ) (few : Few d (row n t g) g z) (far : station_at g 1 ≢ z) where
    own-pace : OnPace n d t g → OnPace n d t' g
    own-pace paced =
        pace-own c t g z few (going r) t' _ (heads r) far paced

    own-test : makes_test Cube n t g ≡ true → next_test Cube n t g ≡ 2 ^ made
    own-test e = (pace-test c t g z few (going r) far (pace g below apart) e).1

  -- by whether it is beside b
  by_place : (C : Type 0) → ((z : ℕ) → Few d (row n t g) g z → station_at g 1 ≢ z → C) → C
  by_place C f =
      by_cases (ℕ_discrete (station_at g 1) b)
      (λ e. f n (few-none c t r.plain.lines g below (beside-clear e)) (beside-none c g below))
      (λ e. f b (few-but b c others r.plain g below apart) e)

  pub near-pace : (i : ℕ) → i < n → i ≢ b → OnPace n d t' i
  near-pace i h q = pace-turn r (by_place (OnPace n d t g → OnPace n d t' g) own-pace) i (pace i h q)

  near-test : makes_test Cube n t g ≡ true → next_test Cube n t g ≡ 2 ^ made
  near-test = by_place (makes_test Cube n t g ≡ true → next_test Cube n t g ≡ 2 ^ made) own-test

  -- where the granted board has made s tests all have
  all-made : s ≤ made → AllMade n b s t
  all-made enough z hz q =
      by_cases (ℕ_discrete (finished n t z) 0)
      (λ f. omega (arith, fewest r b c others z hz q f))
      (λ f. omega (arith, (pace z hz q).ended (has-ended r z hz f)))

  made-on : AllMade n b s t → AllMade n b s t'
  made-on all z hz q = omega (arith, all z hz q, more-tests r z)

  -- where it has, it exchanges with a board at a multiple of 2^s if it is at one, and with another one if not
  multiple-across : s ≤ made → Multiple b s g → Multiple b s (station_at g (2 ^ made))
  multiple-across enough e =
      rw (turned g (2 ^ made) b) (xor_mod (distance g b) (2 ^ made) s ∙ rw (e, power-multiple s made enough) refl)

  multiple-back : s ≤ made → Multiple b s (station_at g (2 ^ made)) → Multiple b s g
  multiple-back enough e =
      let back : bit_xor (distance (station_at g (2 ^ made)) b) (2 ^ made) ≡ distance g b =
      rw (turned g (2 ^ made) b) (xor-undo (distance g b) (2 ^ made)) in
      rw (← back) (xor_mod (distance (station_at g (2 ^ made)) b) (2 ^ made) s ∙ rw (e, power-multiple s made enough) refl)

  heard-near : (y x : ℕ) → y ≡ station_at g (2 ^ made) → y < n → Heard n t g y x b → x < n → x ≢ b → Multiple b s x × AllMade n b s t
  heard-near y x e hy (had one) hx q = near.aware x hx q one
  heard-near y x e hy (found k z) hx q =
      let at : station_at g (2 ^ made) ≡ b = sym (z ∙ e) in
      let far : distance g b ≡ 2 ^ made = rw (← at) (xor-cancel g (2 ^ made)) in
      let enough : s ≤ made =
      by_cases (dec_lt made s) (λ l. absurd (omega (arith, near.behind g made below l far))) (λ l. omega arith) in
      (rw (k, far) (power-multiple s made enough), all-made enough)
  heard-near y x e hy (told_by_tester k one) hx q =
      let was = near.aware g below apart one in
      (rw (k, e) (multiple-across (was.1 g below apart) was.0), was.1)
  heard-near y x e hy (told_by_tested k one) hx q =
      let other : y ≢ b = λ f. omega (arith, rw f at one, (r.plain.lines.1 b hb).own) in
      let was = near.aware y hy other one in
      (rw k (multiple-back (was.1 g below apart) (rw e at was.0)), was.1)

  pub near-turn : NearUnaware n b s t'
  near-turn = record {
    behind = λ z h hz l e. omega (arith, near.behind z h hz l e, more-tests r z);
    aware = λ x hx q one. let was = by_turn x hx q one in (was.0, made-on was.1);
  }
    where
      by_turn : (x : ℕ) → x < n → x ≢ b → suspects n t' x b ≡ 1 → Multiple b s x × AllMade n b s t
      by_turn x hx q one =
          by_bool (makes_test Cube n t g)
          (λ e.
          let at : wired_station Cube n g (next_test Cube n t g) ≡ station_at g (2 ^ made) =
          cube-station Cube n g (next_test Cube n t g) refl ∙ ap (station_at g) (near-test e) in
          heard-near _ x at (test-station Cube n t g e r.plain.lines.0 below) (heard n t _ g _ x b (sym (rows-tested r e x b hx hb) ∙ one)) hx q)
          (λ e. near.aware x hx q (sym (rows-same r e x b hb) ∙ one))
