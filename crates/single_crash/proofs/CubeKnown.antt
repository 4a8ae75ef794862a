-- The cube: a sound plant of 2^d boards in which one crashes, from its start until the board is known everywhere.
-- Assumes nothing.
use mathlib.Core.Path.{◌≡◌, refl, sym, ◌∙◌}
use mathlib.Core.Logic.{◌≢◌, by_cases}
use mathlib.Core.Bool.{true, cond}
use mathlib.Core.List.{List}
use Prim.Native.Nat.{ℕ, zero, suc, ◌+◌, ◌*◌, ◌-◌, ◌^◌, ◌≤◌, ◌<◌}
use native.Mathlib.Nat.{mul-suc, mod-one}
use native.Mathlib.Decide.{ℕ_discrete, dec_lt}
use native.Mathlib.Omega.{arith}
use Rattle.lists.proofs.BoolLaws.{by_bool}
use Rattle.lists.proofs.SumLaws.{sum_by}
use Rattle.table.specs.Table.{head, tests_made, suspects}
use Rattle.table.specs.Rules.{round_over}
use Rattle.table.specs.declared.wiring.Wiring.TheVariants.{Cube}
use Rattle.table.proofs.Levels.{level-above}
use Rattle.plant.specs.Turn.{crash}
use Rattle.station.specs.Groups.{distance}
use Rattle.slots.proofs.Counts.{sum-le}
use Rattle.granter.specs.Grant.{waits}
use Rattle.granter.specs.Drive.{Stand, granted_at, grant_turn, after_grants}
use Rattle.granter.proofs.GrantLaws.{waits-parts}
use Rattle.single_crash.specs.Sweeps.{turns_made}
use Rattle.single_crash.specs.Setting.{Sound, crash_at, behind_crash, KnownDead}
use Rattle.single_crash.specs.Cube.{CubeInGrants, CubeInRounds}
use Rattle.single_crash.proofs.Running.{Running, SamePass, by_round}
use Rattle.single_crash.proofs.Crashing.{all_but, sound-fresh, sound-run, crash-same, crash-closes, crash-goes_on, known-dead, crash-pass}
use Rattle.single_crash.proofs.Passes.{turns_left}
use Rattle.single_crash.proofs.CubePace.{Cubic, OnPace, pace-start, pace-same, pace-paced}
use Rattle.single_crash.proofs.CubeWays.{by_distance, distance-some, beside-of, digits-all}
use Rattle.single_crash.proofs.CubeRun.{four}
use Rattle.single_crash.proofs.CubeWhole.{Whole, whole-after}
use Rattle.single_crash.proofs.CubeStages.{turns_to, left_to, left_with, but-crew, Spread, Gather, AllAware, spread-less, spread-on}
use Rattle.single_crash.proofs.CubeStages.{spread-over, spread-left, gather-less, gather-on, gather-over, gather-aware, aware-on}
use Rattle.single_crash.proofs.CubeCrash.{enough, but-one, Cut, cut}

-- k grants behind the crash of b, in a round that had number `round`: how far the plant is
pub data Phase (n d b round k : ℕ) (p : Stand) : Type 0 where
  same_round : (s : ℕ) → s ≤ d → Spread n d b s p → p.state.rounds ≡ round → k + left_with n d b s p.state.table ≤ enough n d
      → Phase n d b round k p
  next_round : (s : ℕ) → s ≤ d → Gather n d b s p → p.state.rounds ≤ suc round → k + left_to n s p.state.table ≤ enough n d → Phase n d b round k p
  all_know : AllAware n b p → Phase n d b round k p

module _ {n d b : ℕ} (c : Cubic n d) (hb : b < n) (round : ℕ) where
  phase-next : (k : ℕ) (p : Stand) → Phase n d b round k p → Phase n d b round (suc k) (grant_turn Cube n p)
  phase-next k p (same_round s le r e few) =
      let less = spread-less c hb r in
      by_round r.running
      (λ over w.
      let left = spread-left c hb r over in
      next_round s le (spread-over c hb r over) (omega (arith, w.rounds)) (omega (arith, less, left)))
      (λ on w.
      same_round s le (spread-on c hb r on) (w.rounds ∙ e) (rw w.table (omega (arith, less))))
  phase-next k p (next_round s le r e few) =
      by_cases (dec_lt (turns_made n p.state.table (granted_at n p)) s)
      (λ l.
      let less = gather-less c hb le r l in
      by_round r.running
      (λ over w. all_know (gather-over c hb le r over))
      (λ on w.
      next_round s le (gather-on c hb le r on) (omega (arith, w.rounds)) (rw w.table (omega (arith, less)))))
      (λ l. all_know (aware-on (gather-aware c hb le r (omega arith))))
  phase-next k p (all_know r) = all_know (aware-on r)

  phase-after : (p : Stand) (g : ℕ) → Phase n d b round 0 p → Phase n d b round g (after_grants Cube n p g)
  unfolding after_grants
  phase-after p zero f = f
  phase-after p (suc g) f = phase-next g _ (phase-after p g f)

  aware-dead : (p : Stand) → AllAware n b p → KnownDead n p.state.table b
  aware-dead p r = known-dead Cube n b p.state.table r.running.plain r.exact

  -- after so many grants, and so many rounds
  phase-grants : (k : ℕ) (p : Stand) → enough n d ≤ k → Phase n d b round k p → KnownDead n p.state.table b
  phase-grants k p far (same_round s le r e few) = absurd (omega (arith, spread-less c hb r))
  phase-grants k p far (next_round s le r e few) =
      by_cases (dec_lt (turns_made n p.state.table (granted_at n p)) s)
      (λ l. absurd (omega (arith, gather-less c hb le r l)))
      (λ l. aware-dead p (gather-aware c hb le r (omega arith)))
  phase-grants k p far (all_know r) = aware-dead p r

  phase-rounds : (k : ℕ) (p : Stand) → round + 2 ≤ p.state.rounds → Phase n d b round k p → KnownDead n p.state.table b
  phase-rounds k p far (same_round s le r e few) = absurd (omega (arith, e))
  phase-rounds k p far (next_round s le r e few) = absurd (omega (arith, e))
  phase-rounds k p far (all_know r) = aware-dead p r

  -- in a round of which nothing helps d sweeps are enough
  from-now : (p : Stand) (begins : ℕ) → Running Cube n (all_but b) begins p → ((i : ℕ) → i < n → i ≢ b → OnPace n d p.state.table i)
      → ((x : ℕ) → x < n → x ≢ b → tests_made n p.state.table x < by_distance b x) → p.state.rounds ≤ suc round → Phase n d b round 0 p
  unfolding turns_to
  from-now p begins run pace ahead e =
      let t : List ℕ = p.state.table in
      let learns : Gather n d b d p =
      record {
        begins = begins;
        running = run;
        paced = λ i h q. pace-paced b c (pace i h q);
        learned = λ x h q all few. absurd (omega (arith, few, digits-all b c hb x h, ahead x h q));
      } in
      let each : (i : ℕ) → i < n → turns_to (waits n t) d (turns_made n t) i ≤ cond (all_but b i) d 0 =
      λ i h. by_bool (waits n t i)
      (λ w. let live : all_but b i ≡ true = sym (run.plain.lives i h) ∙ (waits-parts n t i w).0 in rw (w, live) (omega arith))
      (λ w. rw w (omega arith)) in
      let e₂ : suc (suc d) ≡ d + 2 = omega arith in
      let more : (n - 1) * (d + 2) ≡ (n - 1) * d + (n - 1) + (n - 1) = rw (← e₂, mul-suc, mul-suc) refl in
      next_round d (omega arith) learns e (omega (arith, sum-le n each, but-one n b d hb, more, four c))

  -- the crash
  module _ (q : Stand) (w : Whole n d q) (same : q.state.rounds ≡ round) where
    abbrev v : List ℕ
    v = crash n q.state.table b

    abbrev q' : Stand
    q' = crash_at Cube n q b

    same-pass : (i : ℕ) → SamePass n q.state.table v i
    same-pass = crash-pass b (but-crew b c) hb w.running

    crash-pace : (i : ℕ) → i < n → i ≢ b → OnPace n d v i
    crash-pace i h e = pace-same (same-pass i) (w.pace i h)

    nobody : (x : ℕ) → x < n → suspects n v x b ≡ 0
    nobody x h = crash-same b (but-crew b c) hb w.running x (head + b) (omega arith) (omega arith) ∙ w.running.plain.accurate x b h hb refl refl

    found : Cut n d b q.state.table
    found = cut b c hb w.running w.pace

    abbrev s : ℕ
    s = found.s

    ahead : (x : ℕ) → x < n → x ≢ b → s ≡ 0 → tests_made n v x < by_distance b x
    ahead x h e z = omega (arith, (same-pass x).made, found.ahead x h e (rw z (mod-one _)))

    spread : (begins : ℕ) → Running Cube n (all_but b) begins q' → q'.state.table ≡ v → 1 ≤ s → Spread n d b s q'
    spread begins run is some = record {
      begins = begins;
      running = run;
      pace = rw is crash-pace;
      near = rw is (record {
        behind = λ z h hz l e.
            let zero : h ≡ 0 = omega arith in
            omega (arith, zero, (same-pass z).made, found.begun some z hz (beside-of z b (rw zero at e)));
        aware = λ x h e one. absurd (omega (arith, nobody x h));
      });
      learned = rw is (λ x h e whole few. absurd (omega (arith, (same-pass x).made, found.ahead x h e whole)));
    }

    left-same : left_with n d b s v ≡ left_with n d b s q.state.table
    unfolding turns_left
    left-same = sum_by n (λ i h. rw ((same-pass i).made, (same-pass i).done) refl)

    phase-crash : Phase n d b round 0 q'
    phase-crash =
        by_bool (round_over n v)
        (λ over.
        let z = crash-closes b (but-crew b c) hb w.running over in
        from-now q' _ z.running (λ i h e. pace-start d (z.fresh i h))
        (λ x h e. omega (arith, (z.fresh x h).untested, level-above (distance x b) 0 (distance-some x b e))) (omega (arith, z.rounds)))
        (λ on.
        let z = crash-goes_on b (but-crew b c) hb w.running on in
        by_cases (ℕ_discrete s 0)
        (λ none. from-now q' _ z.running (rw z.table crash-pace) (rw z.table (λ x h e. ahead x h e none)) (omega (arith, z.rounds)))
        (λ some.
        same_round s found.within (spread _ z.running z.table (omega arith)) (z.rounds ∙ same)
        (rw z.table (omega (arith, left-same, found.small (omega arith))))))

-- a sound plant
module _ {n : ℕ} (d : ℕ) (levels : 2 ≤ d) (power : n ≡ 2 ^ d) {p : Stand} (sound : Sound Cube n p) where
  pub sound-cubic : Cubic n d
  sound-cubic = record { size = (sound-run sound).crew.size; power = power; levels = levels }

  sound-whole : Whole n d p
  sound-whole = record {
    begins = _;
    running = sound-run sound;
    pace = λ i h. pace-start d (sound-fresh sound i h);
  }

  module _ (k b g : ℕ) (hb : b < n) where
    abbrev before : Stand
    before = after_grants Cube n p k

    sound-phase : Phase n d b before.state.rounds g (behind_crash Cube n p k b g)
    sound-phase =
        phase-after sound-cubic hb before.state.rounds (crash_at Cube n before b) g
        (phase-crash sound-cubic hb before.state.rounds before (whole-after sound-cubic k sound-whole) refl)

-- the claims, ends in themselves
pub cube-in-grants : CubeInGrants
cube-in-grants n d levels power p k b g sound hb far =
    phase-grants (sound-cubic d levels power sound) hb _ g _ far (sound-phase d levels power sound k b g hb)

pub cube-in-rounds : CubeInRounds
cube-in-rounds n d levels power p k b g sound hb far =
    phase-rounds (sound-cubic d levels power sound) hb _ g _ far (sound-phase d levels power sound k b g hb)
