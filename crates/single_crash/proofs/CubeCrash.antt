-- On the cube, the crash of b: of its round the tests of the first s levels are made, and what is left until all know is at most (n − 1)(d + 2) − 1
-- grants.
-- Assumes nothing.
use mathlib.Core.Path.{◌≡◌, refl, sym, ap, ◌∙◌}
use mathlib.Core.Logic.{◌≢◌, by_cases}
use mathlib.Core.Bool.{true, cond}
use mathlib.Core.List.{List}
use Prim.Native.Nat.{ℕ, zero, suc, ◌+◌, ◌*◌, ◌-◌, ◌%◌, ◌^◌, ◌≤◌, ◌<◌}
use native.Mathlib.Nat.{mul-suc, suc-mul, mod-eq_of_lt, mod-eq-sub-mod}
use native.Mathlib.Decide.{ℕ_discrete, dec_lt, dec_le}
use native.Mathlib.Omega.{arith}
use borrow.Author.Tests.{eq-eqb, ne_eqb}
use lib.Bits.{bit_xor, xor_lt, xor_self, xor_comm}
use lib.Dec.{eqb}
use lib.Pow.{pow_pos, pow_mono}
use Rattle.lists.specs.Sums.{sum_below, bit}
use Rattle.lists.proofs.BoolLaws.{by_bool}
use Rattle.lists.proofs.SumLaws.{sum_by, sum-add, sum-single, sum-const}
use Rattle.lists.proofs.Xor.{xor-cancel}
use Rattle.table.specs.Sizes.{level}
use Rattle.table.specs.Table.{finished, tests_made}
use Rattle.table.proofs.Levels.{level-bounds, level-above}
use Rattle.table.specs.declared.wiring.Wiring.TheVariants.{Cube}
use Rattle.station.specs.Groups.{distance, station_at}
use Rattle.slots.proofs.Counts.{sum-le}
use Rattle.granter.specs.Grant.{waits}
use Rattle.granter.specs.Drive.{Stand, granted_at}
use Rattle.granter.specs.Fairness.{stations_before}
use Rattle.single_crash.specs.Sweeps.{turns_made}
use Rattle.single_crash.proofs.Running.{Running, chosen, going, live-waits}
use Rattle.single_crash.proofs.Crashing.{everyone, all_but, but-apart}
use Rattle.single_crash.proofs.Passes.{turns_left}
use Rattle.single_crash.proofs.CubePace.{Cubic, OnPace}
use Rattle.single_crash.proofs.CubeWays.{Multiple, by_distance, distance-some, distance-beside, multiple-above}
use Rattle.single_crash.proofs.CubeRun.{four}
use Rattle.single_crash.proofs.CubeStages.{left_with}

-- how many grants are enough
abbrev pub enough : ℕ → ℕ → ℕ
enough n d = (n - 1) * (d + 2) - 1

-- so many of each board but b
pub but-one : (n b m : ℕ) → b < n → sum_below (λ i. cond (all_but b i) m 0) n ≡ (n - 1) * m
but-one n b m hb =
    let f : ℕ → ℕ = λ i. cond (all_but b i) m 0 in
    let own : ℕ → ℕ = λ i. cond (eqb i b) m 0 in
    let term : (i : ℕ) → i < n → f i + own i ≡ m =
    λ i h. by_cases (ℕ_discrete i b) (λ e. rw (e, eq-eqb b b refl) (omega arith)) (λ e. rw (ne_eqb i b e) (omega arith)) in
    let single : sum_below own n ≡ m = sum-single own n b hb (λ i h q. rw (ne_eqb i b q) refl) ∙ rw (eq-eqb b b refl) refl in
    let all : sum_below (λ i. f i + own i) n ≡ n * m = sum_by n term ∙ sum-const m n in
    let e : suc (n - 1) ≡ n = omega arith in
    omega (arith, sum-add f own n, single, all, rw e at (suc-mul (n - 1) m))

-- a multiple of 2^h at level h + 1 is 2^h
only-power : (m h : ℕ) → level m ≡ suc h → m % 2 ^ h ≡ 0 → m ≡ 2 ^ h
only-power m h e whole =
    let bounds = level-bounds m h e in
    let rest : m % 2 ^ h ≡ m - 2 ^ h = mod-eq-sub-mod bounds.0 ∙ mod-eq_of_lt (omega (arith, bounds.1)) in
    omega (arith, bounds.0)

-- the tests of the first s levels are made, so that who is at a multiple of 2^s still is to test at the level of its distance
pub record Cut (n d b : ℕ) (t : List ℕ) : Type 0 where
  pub s : ℕ
  pub within : s ≤ d
  pub ahead : (x : ℕ) → x < n → x ≢ b → Multiple b s x → tests_made n t x < by_distance b x
  pub begun : 1 ≤ s → (z : ℕ) → z < n → station_at z 1 ≡ b → 1 ≤ tests_made n t z
  pub small : 1 ≤ s → left_with n d b s t ≤ enough n d

module _ {n d : ℕ} (b : ℕ) (c : Cubic n d) (hb : b < n) {begins : ℕ} {q : Stand} (r : Running Cube n everyone begins q)
    (pace : (i : ℕ) → i < n → OnPace n d q.state.table i) where
  abbrev t : List ℕ
  t = q.state.table

  abbrev sweep : ℕ
  sweep = r.sweep.sweep

  unfinished-tests : (i : ℕ) → i < n → finished n t i ≢ 1 → finished n t i ≡ 0
  unfinished-tests i h f = omega (arith, f, (r.plain.lines.1 i h).pass.finished_range)

  -- who waits has made its turn of the sweep, or is to make it
  waiting-turns : (i : ℕ) → i < n → waits n t i ≡ true → sweep ≤ suc (turns_made n t i)
  waiting-turns i h w =
      by_cases (dec_lt (stations_before n begins i) r.sweep.passed)
      (λ l. omega (arith, r.sweep.done i h w l))
      (λ l. omega (arith, r.sweep.to_come i h w (omega arith)))

  sweep-most : sweep ≤ suc d
  sweep-most =
      let at = chosen r in
      let zero = going r in
      omega (arith, waiting-turns (granted_at n q) at.0 at.1, zero, ((pace (granted_at n q) at.0).going zero).0)

  turns-low : (i : ℕ) → i < n → sweep ≤ suc (turns_made n t i)
  turns-low i h =
      by_cases (ℕ_discrete (finished n t i) 1)
      (λ f. omega (arith, sweep-most, f, (pace i h).ended f))
      (λ f. waiting-turns i h (live-waits r i h refl (unfinished-tests i h f)))

  -- who has made a turn has made a test
  some-test : (i : ℕ) → i < n → 1 ≤ turns_made n t i → 1 ≤ tests_made n t i
  some-test i h l =
      by_cases (ℕ_discrete (finished n t i) 1)
      (λ f. omega (arith, (pace i h).ended f, c.levels))
      (λ f. omega (arith, unfinished-tests i h f))

  -- who is at a multiple of 2^h has a level above h
  above : (h x : ℕ) → x ≢ b → Multiple b h x → suc h ≤ by_distance b x
  above h x q whole = level-above (distance x b) h (multiple-above h (distance x b) (distance-some x b q) whole)

  -- the board that tests b at level h + 1
  abbrev tester : ℕ → ℕ
  tester h = station_at b (2 ^ h)

  tester-below : (h : ℕ) → h < d → tester h < n
  tester-below h l =
      let small : 2 ^ h < 2 ^ d = omega (arith, pow_pos h, pow_mono {i = suc h} {j = d} l) in
      omega (arith, c.power, xor_lt d b (2 ^ h) (omega (arith, c.power)) small)

  tester-apart : (h : ℕ) → tester h ≢ b
  tester-apart h e =
      let z : 2 ^ h ≡ 0 = sym (xor-cancel b (2 ^ h)) ∙ (ap (bit_xor b) e ∙ xor_self b) in
      omega (arith, pow_pos h)

  tester-is : (h x : ℕ) → distance x b ≡ 2 ^ h → x ≡ tester h
  tester-is h x e =
      let turn : bit_xor b (bit_xor b x) ≡ x = xor-cancel b x in
      cc (xor_comm x b)

  -- the terms of what is left
  few-left : (s m : ℕ) → ((i : ℕ) → i < n → i ≢ b → suc (d + s) ≤ m + turns_made n t i) → left_with n d b s t ≤ (n - 1) * m
  unfolding turns_left
  few-left s m few =
      let each : (i : ℕ) → i < n → turns_left (all_but b) (λ i. d + s) (turns_made n t) i ≤ cond (all_but b i) m 0 =
      λ i h. by_bool (all_but b i) (λ l. rw l (omega (arith, few i h (but-apart b i l)))) (λ l. rw l (omega arith)) in
      omega (arith, sum-le n each, but-one n b m hb)

  -- with one less of board y
  one-fewer : (s m y : ℕ) → y < n → y ≢ b → ((i : ℕ) → i < n → i ≢ b → suc (d + s) ≤ m + turns_made n t i)
      → suc (suc (d + s)) ≤ m + turns_made n t y → 1 ≤ m → suc (left_with n d b s t) ≤ (n - 1) * m
  unfolding turns_left
  one-fewer s m y hy apart few fewer some =
      let one : ℕ → ℕ = λ i. bit (eqb i y) in
      let f : ℕ → ℕ = turns_left (all_but b) (λ i. d + s) (turns_made n t) in
      let single : sum_below one n ≡ 1 = sum-single one n y hy (λ i h e. rw (ne_eqb i y e) refl) ∙ rw (eq-eqb y y refl) refl in
      let each : (i : ℕ) → i < n → f i + one i ≤ cond (all_but b i) m 0 =
      λ i h. by_cases (ℕ_discrete i y)
      (λ e. rw (e, eq-eqb y y refl, ne_eqb y b apart) (omega (arith, fewer)))
      (λ e. rw (ne_eqb i y e) (by_bool (all_but b i) (λ l. rw l (omega (arith, few i h (but-apart b i l)))) (λ l. rw l (omega arith)))) in
      omega (arith, single, sum-add f one n, sum-le n each, but-one n b m hb)

  -- nothing is made yet
  cut-none : sweep ≡ 0 → Cut n d b t
  cut-none e = record {
    s = 0;
    within = omega arith;
    ahead = λ x h q whole. omega (arith, r.sweep.most x h, e, above 0 x q whole);
    begun = λ l. absurd (omega arith);
    small = λ l. absurd (omega arith);
  }

  -- in sweep h + 1: the board that tests b at this level has made its test
  cut-behind : (h : ℕ) → sweep ≡ suc h → h < d → suc h ≤ tests_made n t (tester h) → Cut n d b t
  cut-behind h e l made = record {
    s = suc h;
    within = l;
    ahead = λ x k q whole. omega (arith, r.sweep.most x k, e, above (suc h) x q whole);
    begun = λ _ z k beside. by_cases (ℕ_discrete h 0)
        (λ f.
        let is : z ≡ tester h = rw f (tester-is 0 z (distance-beside z b beside)) in
        rw is (omega (arith, made)))
        (λ f. some-test z k (omega (arith, turns-low z k, e)));
    small = λ _.
        let fewer =
        one-fewer (suc h) (d + 2) (tester h) (tester-below h l) (tester-apart h) (λ i k q. omega (arith, turns-low i k, e))
        (omega (arith, made)) (omega arith) in
        omega arith;
  }

  -- or is to make it, or there is none
  cut-before : (h : ℕ) → sweep ≡ suc h → h ≤ d → (h < d → tests_made n t (tester h) ≤ h) → Cut n d b t
  cut-before h e l unmade = record {
    s = h;
    within = l;
    ahead = λ x k q whole.
        let least = above h x q whole in
        by_cases (ℕ_discrete (by_distance b x) (suc h))
        (λ f.
        let at : distance x b ≡ 2 ^ h = only-power (distance x b) h f whole in
        let is : x ≡ tester h = tester-is h x at in
        let low : h < d =
        by_cases (dec_lt h d) (λ m. m)
        (λ m.
        absurd (omega (
          arith,
          at,
          xor_lt d x b (omega (arith, c.power)) (omega (arith, c.power)),
          pow_mono {i = d} {j = h} (omega arith),
        ))) in
        omega (arith, f, rw (← is) at (unmade low)))
        (λ f. omega (arith, r.sweep.most x k, e));
    begun = λ some z k beside. some-test z k (omega (arith, turns-low z k, e));
    small = λ _.
        let few = few-left h (d + 1) (λ i k q. omega (arith, turns-low i k, e)) in
        let more : (n - 1) * (d + 2) ≡ (n - 1) * (d + 1) + (n - 1) =
        let f : suc (d + 1) ≡ d + 2 = omega arith in rw f at (mul-suc (n - 1) (d + 1)) in
        omega (arith, four c);
  }

  pub cut : Cut n d b t
  cut = go sweep refl
    where
      go : (u : ℕ) → sweep ≡ u → Cut n d b t
      go zero e = cut-none e
      go (suc h) e =
          by_cases (dec_lt h d)
          (λ l. by_cases (dec_le (suc h) (tests_made n t (tester h)))
          (cut-behind h e l) (λ f. cut-before h e (omega arith) (λ _. omega arith)))
          (λ l. cut-before h e (omega (arith, sweep-most)) (λ m. absurd (l m)))
