-- The drive on the ring: what a grant does to the passes, and the plant in which nothing is wrong.
-- Assumes nothing.
use mathlib.Core.Path.{◌≡◌, refl}
use mathlib.Core.Bool.{Bool, true, false}
use mathlib.Core.List.{List}
use Prim.Native.Nat.{ℕ, zero, suc, ◌+◌, ◌%◌, ◌≤◌, ◌<◌}
use native.Mathlib.Omega.{arith}
use Rattle.lists.proofs.BoolLaws.{by_bool}
use Rattle.lists.proofs.SumLaws.{sum-zero}
use Rattle.table.specs.Table.{next_distance, finished, tests_made, suspects}
use Rattle.table.specs.Rules.{round_over}
use Rattle.table.proofs.SizeLaws.{size-bounds}
use Rattle.table.specs.declared.wiring.Wiring.TheVariants.{Ring}
use Rattle.plant.specs.Turn.{makes_test}
use Rattle.plant.proofs.RoundLaws.{Reset}
use Rattle.granter.specs.Drive.{Stand, after_grants}
use Rattle.detection.proofs.TurnEffect.{Row}
use Rattle.detection.proofs.RingPass.{RingTurn}
use Rattle.detection.proofs.RingTurns.{ring-turns}
use Rattle.single_crash.specs.Sweeps.{turns_made}
use Rattle.single_crash.proofs.SweepLaw.{grant_of}
use Rattle.single_crash.proofs.Running.{Running, chosen, is_live, going, kept, heads, goes_on, turn-less, all-ended, left_of, others-same, by_round}
use Rattle.single_crash.proofs.Crashing.{everyone}
use Rattle.single_crash.proofs.Passes.{Reaches, Passing, made-most, passing-start, PassTurn, passing-turn, turn-left, turns_left}

-- the passes of a table, where each live board has so many tests to make
abbrev pub PassesOf : ℕ → (ℕ → Bool) → (ℕ → ℕ) → List ℕ → Type 0
PassesOf n L reach t = Passing n L reach (next_distance n t) (tests_made n t) (finished n t)

-- where a round begins
pub passes-fresh : (n : ℕ) (L : ℕ → Bool) (reach : ℕ → ℕ) (t : List ℕ) → ((i : ℕ) → i < n → Reset n t i)
    → ((i : ℕ) → i < n → L i ≡ true → (1 ≤ reach i) × Reaches n L (reach i) i) → PassesOf n L reach t
passes-fresh n L reach t fresh far =
    passing-start n L reach (next_distance n t) (tests_made n t) (finished n t)
    (λ i h. ((fresh i h).next, (fresh i h).untested, (fresh i h).unfinished)) far

-- a grant with its turn
module _ {n : ℕ} {L : ℕ → Bool} {begins : ℕ} {p : Stand} (r : Running Ring n L begins p) where
  open grant_of Ring n p use {before as t, board as g, turned as t', outcome}

  pub ring-turn : RingTurn n L (Row n t) (Row n t') (next_distance n t) (next_distance n t') (tests_made n t) (tests_made n t') g
  ring-turn = ring-turns Ring n L t t' g outcome refl (kept r) (heads r)

  -- what it does to the granted board i, where its next distance is m
  module _ (i m : ℕ) (e : i ≡ g) (q : next_distance n t i ≡ m) (low : m < n) where
    turn-at : RingTurn n L (Row n t) (Row n t') (next_distance n t) (next_distance n t') (tests_made n t) (tests_made n t') i
    turn-at = rw e ring-turn

    pub counts-at : tests_made n t' i ≡ suc (tests_made n t i)
    counts-at = turn-at.tests (omega arith)

    pub finds-at : L ((i + m) % n) ≡ false → suspects n t' i ((i + m) % n) ≡ 1
    finds-at d = ((rw q at turn-at.finds) low d).1

    pub meets-at : L ((i + m) % n) ≡ true → (j : ℕ) → j < n
        → (Row n t i j → Row n t' ((i + m) % n) j) × (Row n t ((i + m) % n) j → Row n t' i j)
    meets-at l j h = ((rw q at turn-at.exchanges) low l).1 j h

  pass-turn : PassTurn n L (Row n t) (Row n t') (next_distance n t) (next_distance n t') (tests_made n t) (tests_made n t') (finished n t)
      (finished n t') g
  pass-turn =
      let own = heads r in
      let zero = going r in
      record {
        below = (chosen r).0;
        is_live = is_live r;
        going = zero;
        turn = ring-turn;
        other-done = λ i d. (others-same r i d).done;
        tests = λ h. by_bool (makes_test Ring n t g) (λ e. omega (arith, zero, rw e at own.finish))
            (λ e. absurd (omega (arith, ring-turn.tests h, rw e at own.tests)));
        ends = λ h. by_bool (makes_test Ring n t g) (λ e. absurd (omega (arith, (ring-turn.finishes h).1, rw e at own.tests)))
            (λ e. rw e at own.finish);
      }

  module _ (reach : ℕ → ℕ) (pass : PassesOf n L reach t) where
    pub passes-on : PassesOf n L reach t'
    passes-on =
        passing-turn pass-turn pass

    -- it had a turn left, and has one less
    pub had-left : turns_made n t g ≤ reach g
    had-left =
        turn-left pass-turn pass

    pub one-less : suc (left_of n L reach t') ≡ left_of n L reach t
    one-less = turn-less r reach had-left

    -- where the round closes with it, it had the last one
    pub none-left : round_over n t' ≡ true → left_of n L reach t' ≡ 0
    unfolding turns_left
    none-left over =
        sum-zero n (λ i h.
        by_bool (L i)
        (λ l.
        let done = all-ended r over i h l in
        let made = (made-most passes-on i h l).1 done in
        rw l (omega arith))
        (λ l. rw l))

-- a plant in which every board is live: each makes one test a round
abbrev pub one : ℕ → ℕ
one i = 1

pub reach-one : (n : ℕ) (L : ℕ → Bool) (i : ℕ) → 2 ≤ n → L ((i + 1) % n) ≡ true → Reaches n L 1 i
reach-one n L i two l = record {
  below = omega arith;
  dead = λ m h. absurd (omega arith);
  last = λ m e. let z : suc m ≡ 1 = omega arith in rw z l;
}

-- where the drive stands before the crash
pub record Before (n begins : ℕ) (q : Stand) : Type 0 where
  pub run : Running Ring n everyone begins q
  pub passes : PassesOf n everyone one q.state.table

pub before-fresh : {n begins : ℕ} {q : Stand} → ((i : ℕ) → i < n → Reset n q.state.table i) → Running Ring n everyone begins q → Before n begins q
before-fresh {n = n} {q = q} fresh run =
    let two = (size-bounds n run.crew.size).0 in
    record {
      run = run;
      passes = passes-fresh n everyone one q.state.table fresh (λ i h l. (omega arith, reach-one n everyone i two refl));
    }

-- a grant with its turn keeps it so, where the round goes on and where it closes
module _ {n begins : ℕ} {q : Stand} (before : Before n begins q) where
  open grant_of Ring n q use {turned, stand}

  pub before-on : round_over n turned ≡ false → Before n begins stand
  before-on unclosed =
      let c = goes_on before.run unclosed in
      record { run = c.running; passes = rw c.table (passes-on before.run one before.passes) }

  before-step : (c : ℕ) × Before n c stand
  before-step =
      by_round before.run (λ over c. (_, before-fresh c.fresh c.running)) (λ unclosed c. (begins, before-on unclosed))

pub before-all : {n begins : ℕ} {p : Stand} → Before n begins p → (k : ℕ) → (c : ℕ) × Before n c (after_grants Ring n p k)
unfolding after_grants
before-all before zero = (_, before)
before-all before (suc k) = before-step (before-all before k).1
