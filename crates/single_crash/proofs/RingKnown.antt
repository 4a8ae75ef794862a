-- On the ring all boards know the dead one within 5n − 8 grants, and in the third round.
-- Assumes nothing.
use mathlib.Core.Path.{◌≡◌, refl, sym}
use mathlib.Core.Logic.{by_cases}
use mathlib.Core.Bool.{true, false}
use mathlib.Core.List.{List}
use Prim.Native.Nat.{ℕ, zero, suc, ◌+◌, ◌-◌, ◌*◌, ◌≤◌, ◌<◌}
use native.Mathlib.Decide.{dec_lt}
use native.Mathlib.Omega.{arith}
use Rattle.lists.proofs.BoolLaws.{by_bool}
use Rattle.table.specs.Sizes.{is_size}
use Rattle.table.specs.Table.{tests_made}
use Rattle.table.specs.Rules.{round_over}
use Rattle.table.specs.declared.wiring.Wiring.TheVariants.{Ring}
use Rattle.plant.specs.Turn.{crash}
use Rattle.granter.specs.Drive.{Stand, grant_turn, after_grants}
use Rattle.granter.specs.Grant.{following}
use Rattle.granter.proofs.GrantLaws.{grantable}
use Rattle.detection.proofs.TurnEffect.{Plain, Exact}
use Rattle.single_crash.specs.Sweeps.{turns_made}
use Rattle.single_crash.specs.Setting.{Sound, crash_at, behind_crash, RoundsSince, KnownDead}
use Rattle.single_crash.specs.Ring.{RingInGrants, RingInRounds}
use Rattle.single_crash.proofs.Running.{Running, goes_on, stays_known, runs_on, left_of, by_round}
use Rattle.single_crash.proofs.Crashing.{all_but, sound-fresh, sound-run, crash-closes, crash-goes_on, crash-turns, known-dead}
use Rattle.single_crash.proofs.OnRing.{one, one-less, Before, before-fresh, before-all}
use Rattle.single_crash.proofs.RingStages.{Board, Waiting, Finding, Spread, circle, ahead, crew, two_before, left-most, left-made, finding-fresh}
use Rattle.single_crash.proofs.RingStages.{waiting-on}
use Rattle.single_crash.proofs.RingFirst.{WaitingFirst, FindingFirst, SpreadFirst, waiting-first-on, waiting-first-closes}
use Rattle.single_crash.proofs.RingFirst.{finding-first-on, finding-first-closes, spread-first-on, spread-first-known, crash-first}
use Rattle.single_crash.proofs.RingStages.{finding-on, finding-closes, spread-on, spread-open, spread-known, crash-finding, crash-waiting}

module _ {n b : ℕ} (board : Board n b) where
  open circle n b use {others as L, first as a, second as d}
  open ahead board use {a<n, d<n, d-apart, live-a, live-d}

  -- where the drive stands after the crash, in a round of which `first` had closed before: it knows within m grants
  pub data Stage (first m : ℕ) (p : Stand) : Type 0 where
    all_know : (begins : ℕ) → Running Ring n L begins p → Exact n L p.state.table → Stage first m p
    spreading : (begins j : ℕ) → Spread board begins j p → j + 3 < n → p.state.rounds ≤ first + 2 → n ≤ j + m + 3 → Stage first m p
    finding : (begins : ℕ) → Finding board begins p → p.state.rounds ≤ first + 1
        → left_of n L (two_before board) p.state.table + n ≤ m + 3 → Stage first m p
    waiting : (begins : ℕ) → Waiting board begins p → p.state.rounds ≤ first
        → left_of n L one p.state.table + (n + n + n) ≤ m + 4 → Stage first m p
    spreading_first : (begins j : ℕ) → SpreadFirst board begins j p → j + 4 < n → p.state.rounds ≤ first + 2 → n ≤ j + m + 4
        → Stage first m p
    finding_first : (begins : ℕ) → FindingFirst board begins p → p.state.rounds ≤ first + 1
        → left_of n L (two_before board) p.state.table + n ≤ m + 4 → Stage first m p
    waiting_first : (begins : ℕ) → WaitingFirst board begins p → p.state.rounds ≤ first
        → left_of n L one p.state.table + (n + n + n) ≤ m + 5 → Stage first m p

  -- with no grant left, and when three rounds have closed, all know
  stage-done : (first : ℕ) (p : Stand) → Stage first 0 p → Exact n L p.state.table
  stage-done first p (all_know begins r know) = know
  stage-done first p (spreading begins j s low rounds most) = absurd (omega arith)
  stage-done first p (finding begins s rounds most) = absurd (omega arith)
  stage-done first p (waiting begins s rounds most) = absurd (omega arith)
  stage-done first p (spreading_first begins j s low rounds most) = absurd (omega arith)
  stage-done first p (finding_first begins s rounds most) =
      let r = s.finding.run in
      absurd (omega (arith, one-less r (two_before board) s.finding.passes))
  stage-done first p (waiting_first begins s rounds most) = absurd (omega arith)

  stage-closed : (first m : ℕ) (p : Stand) → Stage first m p → first + 3 ≤ p.state.rounds → Exact n L p.state.table
  stage-closed first m p (all_know begins r know) three = know
  stage-closed first m p (spreading begins j s low rounds most) three = absurd (omega arith)
  stage-closed first m p (finding begins s rounds most) three = absurd (omega arith)
  stage-closed first m p (waiting begins s rounds most) three = absurd (omega arith)
  stage-closed first m p (spreading_first begins j s low rounds most) three = absurd (omega arith)
  stage-closed first m p (finding_first begins s rounds most) three = absurd (omega arith)
  stage-closed first m p (waiting_first begins s rounds most) three = absurd (omega arith)

  stage-plain : (first m : ℕ) (p : Stand) → Stage first m p → Plain Ring n L p.state.table
  stage-plain first m p (all_know begins r know) = r.plain
  stage-plain first m p (spreading begins j s low rounds most) = s.run.plain
  stage-plain first m p (finding begins s rounds most) = s.run.plain
  stage-plain first m p (waiting begins s rounds most) = s.run.plain
  stage-plain first m p (spreading_first begins j s low rounds most) = s.spread.run.plain
  stage-plain first m p (finding_first begins s rounds most) = s.finding.run.plain
  stage-plain first m p (waiting_first begins s rounds most) = s.waiting.run.plain

  -- a grant takes one
  stage-step : (first m : ℕ) (p : Stand) → Stage first m p → Stage first (m - 1) (grant_turn Ring n p)
  stage-step first m p (all_know begins r know) =
      let on = runs_on r in
      all_know on.0 on.1 (stays_known r know)
  stage-step first m p (spreading begins j s low rounds most) =
      let on = spread-on board s low in
      let o = goes_on s.run (spread-open board s low) in
      by_cases (dec_lt (suc j + 3) n) (λ l. spreading begins (suc j) on l (omega (arith, o.rounds)) (omega arith))
      (λ l. all_know begins on.run (spread-known board on (omega arith)))
  stage-step first m p (finding begins s rounds most) =
      let reach = two_before board in
      let less = one-less s.run reach s.passes in
      by_round s.run
      (λ over z.
      let on = finding-closes board s over in
      spreading on.0 0 on.1 (omega arith) (omega (arith, z.rounds)) (omega (arith, less)))
      (λ unclosed o.
      finding begins (finding-on board s unclosed) (omega (arith, o.rounds)) (rw o.table (omega (arith, less))))
  stage-step first m p (waiting begins s rounds most) =
      let less = one-less s.run one s.passes in
      by_round s.run
      (λ over z.
      let fresh = finding-fresh board z.fresh z.running in
      finding _ fresh (omega (arith, z.rounds)) (omega (arith, less, left-most board (grant_turn Ring n p).state.table)))
      (λ unclosed o.
      waiting begins (waiting-on board s unclosed) (omega (arith, o.rounds)) (rw o.table (omega (arith, less))))
  stage-step first m p (spreading_first begins j s low rounds most) =
      let on = spread-first-on board s (omega arith) in
      let o = goes_on s.spread.run (spread-open board s.spread (omega arith)) in
      by_cases (dec_lt (suc j + 4) n) (λ l. spreading_first begins (suc j) on l (omega (arith, o.rounds)) (omega arith))
      (λ l. all_know begins on.spread.run (spread-first-known board on (omega arith)))
  stage-step first m p (finding_first begins s rounds most) =
      let reach = two_before board in
      let r = s.finding.run in
      let less = one-less r reach s.finding.passes in
      by_round r
      (λ over z.
      let on = finding-first-closes board s over in
      by_cases (dec_lt 4 n) (λ l. spreading_first on.0 0 on.1 l (omega (arith, z.rounds)) (omega (arith, less)))
      (λ l. all_know on.0 on.1.spread.run (spread-first-known board on.1 (omega arith))))
      (λ unclosed o.
      finding_first begins (finding-first-on board s unclosed) (omega (arith, o.rounds)) (rw o.table (omega (arith, less))))
  stage-step first m p (waiting_first begins s rounds most) =
      let r = s.waiting.run in
      let less = one-less r one s.waiting.passes in
      by_round r
      (λ over z.
      let on = waiting-first-closes board s over in
      finding_first on.0 on.1 (omega (arith, z.rounds)) (omega (arith, less, left-most board (grant_turn Ring n p).state.table)))
      (λ unclosed o.
      waiting_first begins (waiting-first-on board s unclosed) (omega (arith, o.rounds)) (rw o.table (omega (arith, less))))

  stage-after : (first m : ℕ) (p : Stand) → Stage first m p → (g : ℕ) → Stage first (m - g) (after_grants Ring n p g)
  unfolding after_grants
  stage-after first m p s zero = let e : m - 0 ≡ m = omega arith in rw e s
  stage-after first m p s (suc g) =
      let e : m - suc g ≡ m - g - 1 = omega arith in
      rw e (stage-step first (m - g) (after_grants Ring n p g) (stage-after first m p s g))

  -- where it stands when b has crashed, and the round goes on
  module _ {begins : ℕ} {q : Stand} (s : Before n begins q) (unclosed : round_over n (crash n q.state.table b) ≡ false) where
    abbrev v : List ℕ
    v = q.state.table

    abbrev p : Stand
    p = crash_at Ring n q b

    rounds : p.state.rounds ≡ q.state.rounds
    rounds = (crash-goes_on b (crew board) board.hb s.run unclosed).rounds

    -- a has made no test, and tests b
    none-made : tests_made n v a ≡ 0 → Stage q.state.rounds (5 * n - 8) p
    none-made none =
        finding begins (crash-finding board s unclosed none) (omega (arith, rounds))
        (omega (arith, left-most board p.state.table))

    -- a has made its test: how many turns are left by those of a and d
    left-by : (x y : ℕ) → x ≤ 2 → y ≤ 2 → x ≤ turns_made n v a → y ≤ turns_made n v d → left_of n L one p.state.table + (2 + x + y) ≤ n + n
    left-by x y two two' made made' =
        let same = crash-turns b (crew board) board.hb s.run unclosed in
        left-made board p.state.table a x d y a<n d<n (λ e. d-apart (sym e)) live-a live-d (omega (arith, same a)) (omega (arith, same d)) two two'

    -- 2n − 4 at the most, where a has finished, or d has made a turn
    some-made : (x y : ℕ) → 1 ≤ tests_made n v a → x + y ≡ 2 → x ≤ turns_made n v a → y ≤ turns_made n v d → Stage q.state.rounds (5 * n - 8) p
    some-made x y had two made made' =
        waiting begins (crash-waiting board s unclosed had) (omega (arith, rounds))
        (omega (arith, left-by x y (omega arith) (omega arith) made made'))

    -- or the round began with a
    first-made : 1 ≤ tests_made n v a → turns_made n v a ≤ 1 → turns_made n v d ≡ 0 → Stage q.state.rounds (5 * n - 8) p
    first-made had once none =
        waiting_first begins (crash-first board s had once none unclosed) (omega (arith, rounds))
        (omega (arith, left-by 1 0 (omega arith) (omega arith) (omega arith) (omega arith)))

    stage-open : Stage q.state.rounds (5 * n - 8) p
    stage-open =
        by_cases (dec_lt 0 (tests_made n v a))
        (λ had.
        by_cases (dec_lt 1 (turns_made n v a)) (λ l. some-made 2 0 had refl (omega arith) (omega arith))
        (λ l. by_cases (dec_lt 0 (turns_made n v d)) (λ m. some-made 1 1 had refl (omega arith) (omega arith))
        (λ m. first-made had (omega arith) (omega arith))))
        (λ l. none-made (omega arith))

  -- where it stands when b has crashed
  stage-crash : {begins : ℕ} {q : Stand} → Before n begins q → Stage q.state.rounds (5 * n - 8) (crash_at Ring n q b)
  stage-crash {q = q} s =
      by_bool (round_over n (crash n q.state.table b))
      (λ over.
      let z = crash-closes b (crew board) board.hb s.run over in
      let fresh = finding-fresh board z.fresh z.running in
      finding _ fresh (omega (arith, z.rounds)) (omega (arith, left-most board (crash_at Ring n q b).state.table)))
      (stage-open s)

-- a sound plant
pub sound-before : {n : ℕ} {p : Stand} → Sound Ring n p → Before n (following p.last) p
sound-before given = before-fresh (sound-fresh given) (sound-run given)

-- where the drive stands g grants behind the crash
module _ (n : ℕ) (four : 4 ≤ n) (p : Stand) (k b g : ℕ) (given : Sound Ring n p) (hb : b < n) where
  size : is_size n ≡ true
  size = (grantable Ring n p.state.table p.last given.granted).ok.size

  board : Board n b
  board = record { size = size; four = four; hb = hb }

  reached : Stage board (after_grants Ring n p k).state.rounds (5 * n - 8 - g) (behind_crash Ring n p k b g)
  reached =
      let q : Stand = after_grants Ring n p k in
      let s = before-all (sound-before given) k in
      stage-after board _ (5 * n - 8) (crash_at Ring n q b) (stage-crash board s.1) g

  known-in : Exact n (all_but b) (behind_crash Ring n p k b g).state.table → KnownDead n (behind_crash Ring n p k b g).state.table b
  known-in exact = known-dead Ring n b (behind_crash Ring n p k b g).state.table (stage-plain board _ _ _ reached) exact

  grants-known : 5 * n - 8 ≤ g → KnownDead n (behind_crash Ring n p k b g).state.table b
  grants-known far = let e : 5 * n - 8 - g ≡ 0 = omega arith in known-in (stage-done board _ _ (rw e at reached))

  rounds-known : RoundsSince Ring n p k b g 3 → KnownDead n (behind_crash Ring n p k b g).state.table b
  rounds-known far = known-in (stage-closed board _ _ _ reached far)

-- the claims, ends in themselves
pub ring-in-grants : RingInGrants
ring-in-grants n four p k b g given hb far = grants-known n four p k b g given hb far

pub ring-in-rounds : RingInRounds
ring-in-rounds n four p k b g given hb far = rounds-known n four p k b g given hb far
