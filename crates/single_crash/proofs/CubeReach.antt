-- On the cube the bound is reached at every size from 8 boards on: in a fresh plant with last granted number 4 board 1 crashes behind 2n + 1 grants,
-- and board 4 learns of it with the last grant of the bound.
-- Assumes nothing.
use mathlib.Core.Path.{◌≡◌, refl, sym, ap, subst, ◌∙◌}
use mathlib.Core.Logic.{◌≢◌, by_cases}
use mathlib.Core.Bool.{true, false}
use mathlib.Core.List.{List}
use Prim.Native.Nat.{ℕ, zero, suc, ◌+◌, ◌*◌, ◌-◌, ◌%◌, ◌^◌, ◌≤◌, ◌<◌}
use native.Mathlib.Nat.{mul-suc, suc-mul}
use native.Mathlib.Decide.{ℕ_discrete}
use native.Mathlib.Omega.{arith}
use borrow.Author.Tests.{ne_eqb}
use lib.Bits.{bit_xor}
use lib.Pow.{pow_mono}
use Rattle.lists.proofs.BoolLaws.{by_bool}
use Rattle.lists.proofs.SumLaws.{sum_by, sum-add, sum-const}
use Rattle.lists.proofs.Xor.{xor-undo}
use Rattle.table.specs.Sizes.{is_size}
use Rattle.table.specs.declared.wiring.Wiring.TheVariants.{Cube}
use Rattle.table.specs.Table.{head, finished, tests_made, suspects}
use Rattle.table.specs.Rules.{round_over}
use Rattle.table.specs.Fresh.{fresh_table}
use Rattle.station.specs.Groups.{distance}
use Rattle.plant.specs.Turn.{crash}
use Rattle.plant.specs.Entry.{state_of}
use Rattle.plant.proofs.RoundLaws.{reset-other}
use Rattle.slots.proofs.Counts.{sum-le}
use Rattle.granter.specs.Grant.{following}
use Rattle.granter.specs.Drive.{Stand, stand_at, grant_turn, after_grants}
use Rattle.granter.proofs.GrantLaws.{station-fits}
use Rattle.single_crash.specs.Sweeps.{turns_made}
use Rattle.single_crash.specs.Setting.{Sound, crash_at, behind_crash, KnownDead}
use Rattle.single_crash.specs.Cube.{CubeNoFewerGrants, CubeNoFewerRounds}
use Rattle.single_crash.proofs.SweepLaw.{grant_of}
use Rattle.single_crash.proofs.Running.{Crew, Running, closes, goes_on, turn-less, has-ended, all-ended, others-same, by_round, SamePass}
use Rattle.single_crash.proofs.Crashing.{everyone, but-dead, but-apart, sound-fresh, sound-run, crash-same, crash-goes_on, crash-turns, stays-open}
use Rattle.single_crash.proofs.Crashing.{not-known, crash-pass}
use Rattle.single_crash.proofs.Passes.{turns_left, at_place, sum-at}
use Rattle.single_crash.proofs.FreshSound.{fresh-is-sound}
use Rattle.single_crash.proofs.CubePace.{Cubic, OnPace, pace-start, pace-same, pace-paced}
use Rattle.single_crash.proofs.CubeRun.{OthersLive, granted-other}
use Rattle.single_crash.proofs.CubeNear.{NearUnaware, near-pace, near-turn}
use Rattle.single_crash.proofs.CubeStages.{but-others, but-crew, left_with}
use Rattle.single_crash.proofs.CubeCrash.{enough}
use Rattle.single_crash.proofs.CubeKnown.{sound-cubic}
use Rattle.single_crash.proofs.CubeOrder.{turns-ended, turns-granted, last-turn}
use Rattle.single_crash.proofs.CubeOpening.{Opening, opening-after, last-two, first-three, dying-two}
use Rattle.single_crash.proofs.CubeLate.{L, Late, left_of_three, few-turns, late-less, late-open, late-next, late-unaware}

-- in the rest of the round of the crash: who suspects board 1 is at a multiple of 8 from it, and nobody has made fewer turns than board 4
pub record Rest (n d : ℕ) (p : Stand) : Type 0 where
  pub running : Running Cube n L 5 p
  pub pace : (i : ℕ) → i < n → i ≢ 1 → OnPace n d p.state.table i
  pub near : NearUnaware n 1 3 p.state.table
  pub lag : (i : ℕ) → i < n → i ≢ 1 → turns_made n p.state.table 4 ≤ turns_made n p.state.table i

-- m grants before the last one of the bound
pub data Slow (n d round m : ℕ) (p : Stand) : Type 0 where
  resting : Rest n d p → p.state.rounds ≡ round → left_with n d 1 3 p.state.table ≡ m → Slow n d round m p
  late : Late n d p → p.state.rounds ≡ suc round → left_of_three n p.state.table ≡ m → Slow n d round m p

-- the going round behind board 4 begins at board 5
behind-four : following 4 ≡ 5
unfolding following
behind-four = refl

module _ {n d : ℕ} (c : Cubic n d) (three : 3 ≤ d) (eight : 8 ≤ n) where
  abbrev others : OthersLive n 1 L
  others = but-others n 1

  module _ {p : Stand} (o : Rest n d p) where
    open grant_of Cube n p use {before as t, board as g, turned as t', stand as p'}
    open granted-other o.running 1 (but-dead 1) use {below, apart}

    granted-most : turns_made n t g ≤ d
    granted-most = turns-granted 1 c others (omega arith) o.running o.pace apart

    rest-less : suc (left_with n d 1 3 t') ≡ left_with n d 1 3 t
    rest-less = turn-less o.running (λ i. d + 3) (omega (arith, granted-most))

    pace' : (i : ℕ) → i < n → i ≢ 1 → OnPace n d t' i
    pace' = near-pace 1 c others (but-dead 1) (omega arith) o.running o.pace (omega arith) three o.near

    near' : NearUnaware n 1 3 t'
    near' = near-turn 1 c others (but-dead 1) (omega arith) o.running o.pace (omega arith) three o.near

    lag' : (i : ℕ) → i < n → i ≢ 1 → turns_made n t' 4 ≤ turns_made n t' i
    lag' = last-turn 1 c others (omega arith) o.running o.pace (λ q. omega arith) o.lag

    rest-on : round_over n t' ≡ false → Rest n d p'
    rest-on on =
        let w = goes_on o.running on in
        record { running = w.running; pace = rw w.table pace'; near = rw w.table near'; lag = rw w.table lag' }

    module _ (over : round_over n t' ≡ true) where
      ended : (i : ℕ) → i < n → i ≢ 1 → finished n t' i ≡ 1
      ended i h q = all-ended o.running over i h (others i h q)

      -- the round closes with a turn of board 4
      closer : g ≡ 4
      closer =
          by_cases (ℕ_discrete g 4) (λ e. e)
          (λ e.
          let same = (others-same o.running 4 (λ q. e (sym q))).done in
          let last = ended 4 (omega arith) (λ q. omega arith) in
          let going_not : finished n t 4 ≢ 0 = λ z. omega (arith, z, same, last) in
          let all = turns-ended 1 c others (omega arith) o.running o.pace 4 (omega arith) (λ q. omega arith) going_not in
          absurd (omega (arith, all, o.lag g below apart, granted-most)))

      row-same : (x : ℕ) → suspects n p'.state.table x 1 ≡ suspects n t' x 1
      row-same x =
          rw (closes o.running over).table
          (reset-other n t' x (head + 1) (omega arith) (λ q. omega arith))

      unaware' : (x : ℕ) → x < n → x ≢ 1 → suspects n p'.state.table x 1 ≡ 1 → distance x 1 % 2 ^ 3 ≡ 0
      unaware' x hx q one = (near'.aware x hx q (sym (row-same x) ∙ one)).0

      rest-over : Late n d p'
      rest-over =
          let w = closes o.running over in
          let run : Running Cube n L (following 4) p' = subst (λ (x : ℕ). Running Cube n L (following x) p') closer w.running in
          let zero = w.fresh 0 (omega arith) in
          let not_one : suspects n p'.state.table 4 1 ≢ 1 = λ one. omega (arith, unaware' 4 (omega arith) (λ q. omega arith) one) in
          record {
            running = rw behind-four at run;
            paced = λ i h q. pace-paced 1 c (pace-start d (w.fresh i h));
            early = record {
              going = λ l. zero.unfinished;
              next = λ l. omega (arith, zero.next, zero.untested, zero.unfinished);
              aware = λ l. absurd (omega (arith, zero.untested, zero.unfinished));
            };
            near = λ z hz q few x hx a one. omega (arith, unaware' x hx a one);
            unaware = λ l. omega (arith, not_one, (w.running.plain.lines.1 4 (omega arith)).range 1 (omega arith));
          }

      rest-left : left_of_three n p'.state.table ≡ left_with n d 1 3 t'
      unfolding turns_left
      rest-left =
          let w = closes o.running over in
          sum_by n (λ i h. by_bool (L i)
          (λ l.
          let q = but-apart 1 i l in
          let f = w.fresh i h in
          rw l (omega (arith, f.untested, f.unfinished, ended i h q, (pace' i h q).ended (ended i h q))))
          (λ l. rw l refl))

  slow-next : (round m : ℕ) → 1 ≤ m → (p : Stand) → Slow n d round (suc m) p → Slow n d round m (grant_turn Cube n p)
  slow-next round m some p (resting o e left) =
      by_round o.running
      (λ over w.
      late (rest-over o over) (omega (arith, w.rounds, e)) (omega (arith, rest-left o over, rest-less o, left)))
      (λ on w.
      resting (rest-on o on) (w.rounds ∙ e) (rw w.table (omega (arith, rest-less o, left))))
  slow-next round m some p (late o e left) =
      let few = few-turns c three eight o (omega (arith, left)) in
      let less = late-less c three eight o few in
      let on = late-open c three eight o (omega (arith, less, left)) in
      let w = goes_on o.running on in
      late (late-next c three eight o on) (w.rounds ∙ e) (rw w.table (omega (arith, less, left)))

  slow-after : (round m k : ℕ) → 1 ≤ m → (p : Stand) → Slow n d round (m + k) p → Slow n d round m (after_grants Cube n p k)
  unfolding after_grants
  slow-after round m zero some p s = let e : m + 0 ≡ m = omega arith in rw e at s
  slow-after round m (suc k) some p s =
      let e : m + suc k ≡ suc m + k = omega arith in
      slow-next round m some _ (slow-after round (suc m) k (omega arith) p (rw e at s))

  -- one grant before the last one board 4 does not know it, and the second round has begun
  slow-end : (round : ℕ) (p : Stand) → Slow n d round 1 p → (suspects n p.state.table 4 1 ≡ 0) × (suc round ≤ p.state.rounds)
  unfolding turns_left
  slow-end round p (resting o e left) =
      let each : (i : ℕ) → i < n → at_place 4 3 i ≤ turns_left L (λ i. d + 3) (turns_made n p.state.table) i =
      λ i h. by_cases (ℕ_discrete i 4)
      (λ q.
      let paced = o.pace 4 (omega arith) (λ z. omega arith) in
      let most : turns_made n p.state.table 4 ≤ suc d =
      by_cases (ℕ_discrete (finished n p.state.table 4) 0) (λ f. omega (arith, f, (paced.going f).0))
      (λ f.
      let one = has-ended o.running 4 (omega arith) f in
      omega (arith, one, paced.ended one)) in
      rw q (omega (arith, most)))
      (λ q. rw (ne_eqb i 4 q) (omega arith)) in
      absurd (omega (arith, left, sum-le n each, sum-at n 4 3 (omega arith)))
  slow-end round p (late o e left) = (late-unaware c three eight o (omega (arith, left)), omega (arith, e))

-- the crash behind 2n + 1 grants
module _ {n d : ℕ} (c : Cubic n d) (three : 3 ≤ d) (eight : 8 ≤ n) {q : Stand} (o : Opening n d (2 * n + 1) q) where
  abbrev u : List ℕ
  u = q.state.table

  abbrev v : List ℕ
  v = crash n u 1

  abbrev q' : Stand
  q' = crash_at Cube n q 1

  team : Crew Cube n L
  team = but-crew 1 c

  two : turns_made n u 4 ≡ 2
  two = last-two c three eight o

  same-pass : (i : ℕ) → SamePass n u v i
  same-pass = crash-pass 1 team (omega arith) o.running

  -- boards that have made two turns, or three, have made as many tests
  made-tests : (i m : ℕ) → i < n → m ≤ 3 → m ≤ turns_made n u i → m ≤ tests_made n u i
  made-tests i m h few l =
      by_cases (ℕ_discrete (finished n u i) 0) (λ f. omega (arith, f))
      (λ f.
      let one = has-ended o.running i h f in
      omega (arith, (o.pace i h).ended one))

  -- the round does not close
  crash-on : round_over n v ≡ false
  crash-on = stays-open 1 team (omega arith) o.running 4 (omega arith) (omega arith) (λ e. omega (arith, e, two, (o.pace 4 (omega arith)).ended e))

  turns-same : (i : ℕ) → turns_made n q'.state.table i ≡ turns_made n u i
  turns-same = crash-turns 1 team (omega arith) o.running crash-on

  crash-near : NearUnaware n 1 3 v
  crash-near = record {
    behind = λ z h hz l e.
        by_cases (ℕ_discrete h 2)
        (λ f.
        let far : distance z 1 ≡ 4 = rw f at e in
        let five : z ≡ 5 = sym (xor-undo z 1) ∙ ap (λ (x : ℕ). bit_xor x 1) far in
        let made : 3 ≤ tests_made n u z = made-tests z 3 hz (omega arith) (rw five (omega (arith, first-three c three eight o))) in
        omega (arith, f, made, (same-pass z).made))
        (λ f.
        let made = made-tests z 2 hz (omega arith) (omega (arith, o.lag z hz, two)) in
        omega (arith, f, made, (same-pass z).made));
    aware = λ x hx e one.
        let none : suspects n v x 1 ≡ 0 =
        crash-same 1 team (omega arith) o.running x (head + 1) (omega arith) (omega arith)
        ∙ o.running.plain.accurate x 1 hx (omega arith) refl refl in
        absurd (omega (arith, one, none));
  }

  crash-rest : Rest n d q'
  crash-rest =
      let w = crash-goes_on 1 team (omega arith) o.running crash-on in
      record {
        running = w.running;
        pace = rw w.table (λ i h e.
            pace-same (same-pass i) (o.pace i h));
        near = rw w.table crash-near;
        lag = λ i h e. omega (arith, turns-same i, turns-same 4, o.lag i h);
      }

  -- just so many turns are left
  crash-left : left_with n d 1 3 q'.state.table ≡ enough n d
  unfolding turns_left
  crash-left =
      let f : ℕ → ℕ = turns_left L (λ i. d + 3) (turns_made n q'.state.table) in
      let most : ℕ → ℕ = turns_left everyone (λ i. d) (turns_made n u) in
      let each : (i : ℕ) → i < n → f i + at_place 1 (d + 2) i ≡ most i + 3 =
      λ i h. by_cases (ℕ_discrete i 1)
      (λ e. rw e (omega (arith, dying-two c three eight o)))
      (λ e.
      rw (ne_eqb i 1 e) (omega (arith, turns-same i, o.lead i h, first-three c three eight o))) in
      let less : suc (n - 1) ≡ n = omega arith in
      let more : suc (suc d) ≡ d + 2 = omega arith in
      omega (
        arith,
        sum_by {f = λ i. f i + at_place 1 (d + 2) i} {g = λ i. most i + 3} n each,
        sum-add f (at_place 1 (d + 2)) n,
        sum-at n 1 (d + 2) (omega arith),
        sum-add most (λ i. 3) n,
        sum-const 3 n,
        o.counted,
        rw less at (suc-mul (n - 1) (d + 2)),
        rw more at (mul-suc n (suc d)),
      )

  slow-crash : Slow n d q.state.rounds (enough n d) q'
  slow-crash =
      let w = crash-goes_on 1 team (omega arith) o.running crash-on in
      resting crash-rest w.rounds crash-left

-- a fresh plant
module _ (n d : ℕ) (size : is_size n ≡ true) (three : 3 ≤ d) (power : n ≡ 2 ^ d) where
  eight : 8 ≤ n
  eight = omega (arith, power, pow_mono {i = 3} {j = d} three)

  abbrev start : Stand
  start = stand_at (state_of (fresh_table n) 0 0) 4

  sound : Sound Cube n start
  sound = fresh-is-sound Cube n 0 0 4 size (station-fits n 4 (omega (arith, eight)))

  cubic : Cubic n d
  cubic = sound-cubic d (omega arith) power sound

  opening-start : Opening n d 0 start
  unfolding turns_left
  opening-start =
      let fresh = sound-fresh sound in
      let run : Running Cube n everyone (following 4) start = sound-run sound in
      let none : (i : ℕ) → i < n → turns_made n start.state.table i ≡ 0 = λ i h. omega (arith, (fresh i h).untested, (fresh i h).unfinished) in
      let each : (i : ℕ) → i < n → turns_left everyone (λ i. d) (turns_made n start.state.table) i ≡ suc d = λ i h. omega (arith, none i h) in
      record {
        running = rw behind-four at run;
        pace = λ i h. pace-start d (fresh i h);
        lag = λ i h. omega (arith, none 4 (omega (arith, eight)));
        lead = λ i h. omega (arith, none i h);
        counted = omega (arith, sum_by {g = λ i. suc d} n each, sum-const (suc d) n);
      }

  abbrev crashed : Stand
  crashed = crash_at Cube n (after_grants Cube n start (2 * n + 1)) 1

  abbrev end : Stand
  end = behind_crash Cube n start (2 * n + 1) 1 (enough n d - 1)

  many : 2 ≤ enough n d
  many =
      let e : suc (suc d) ≡ d + 2 = omega arith in
      let more : (n - 1) * (d + 2) ≡ (n - 1) * suc d + (n - 1) = rw e at (mul-suc (n - 1) (suc d)) in
      omega (arith, more, eight)

  slow : Slow n d (after_grants Cube n start (2 * n + 1)).state.rounds 1 end
  slow =
      let few : 2 * n + 1 < n * suc d =
      let e : suc (suc (suc (d - 3 + 1))) ≡ suc d = omega arith in
      omega (
        arith,
        rw e at (mul-suc n (suc (suc (d - 3 + 1)))),
        mul-suc n (suc (d - 3 + 1)),
        mul-suc n (d - 3 + 1),
        eight,
      ) in
      let opened = opening-after cubic three eight (2 * n + 1) few opening-start in
      let first = slow-crash cubic three eight opened in
      let all : 1 + (enough n d - 1) ≡ enough n d = omega (arith, many) in
      slow-after cubic three eight _ 1 (enough n d - 1) (omega arith) crashed (rw all first)

  unknown : ¬ (KnownDead n end.state.table 1)
  unknown =
      not-known n 4 1 end.state.table (omega (arith, eight)) (omega (arith, eight)) (omega arith) (slow-end cubic three eight _ _ slow).0

-- so one grant fewer is not enough, nor is one round: ends in themselves
pub cube-no-fewer-grants : CubeNoFewerGrants
cube-no-fewer-grants n d size three power claim =
    let big = eight n d size three power in
    unknown n d size three power
    (claim (start n d size three power) (2 * n + 1) 1 (enough n d - 1) (sound n d size three power) (omega arith) (omega arith))

pub cube-no-fewer-rounds : CubeNoFewerRounds
cube-no-fewer-rounds n d size three power claim =
    let big = eight n d size three power in
    let rounds = (slow-end (cubic n d size three power) three big _ _ (slow n d size three power)).1 in
    unknown n d size three power
    (claim (start n d size three power) (2 * n + 1) 1 (enough n d - 1) (sound n d size three power) (omega arith) (omega (arith, rounds)))
