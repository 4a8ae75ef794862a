-- On the cube, the slowest plant before the crash: behind last granted number 4 board 5 has made three turns after 2n + 1 grants, and boards 1 and 4
-- two, with nobody behind them.
-- Assumes nothing.
use mathlib.Core.Path.{◌≡◌, refl}
use mathlib.Core.Logic.{◌≢◌, by_cases}
use mathlib.Core.Bool.{true}
use mathlib.Core.List.{List}
use Prim.Native.Nat.{ℕ, zero, suc, ◌+◌, ◌*◌, ◌-◌, ◌≤◌, ◌<◌}
use native.Mathlib.Nat.{mul-suc, suc-mul}
use native.Mathlib.Decide.{ℕ_discrete, dec_lt}
use native.Mathlib.Omega.{arith}
use borrow.Author.Tests.{ne_eqb}
use Rattle.lists.specs.Sums.{sum_below}
use Rattle.lists.proofs.SumLaws.{sum-zero, sum-add, sum-const}
use Rattle.table.specs.declared.wiring.Wiring.TheVariants.{Cube}
use Rattle.table.specs.Table.{finished}
use Rattle.table.specs.Rules.{round_over}
use Rattle.slots.proofs.Counts.{sum-le}
use Rattle.granter.specs.Grant.{waits}
use Rattle.granter.specs.Fairness.{stations_before}
use Rattle.granter.specs.Drive.{Stand, grant_turn, after_grants}
use Rattle.single_crash.specs.Sweeps.{turns_made}
use Rattle.single_crash.proofs.SweepLaw.{grant_of}
use Rattle.single_crash.proofs.Running.{Running, chosen, turn-less, live-waits, has-ended, all-ended, left_of, by_round}
use Rattle.single_crash.proofs.Crashing.{everyone}
use Rattle.single_crash.proofs.Passes.{turns_left, at_place, sum-at}
use Rattle.single_crash.proofs.Running.{left_of}
use Rattle.single_crash.proofs.CubePace.{Cubic, OnPace}
use Rattle.single_crash.proofs.CubeWhole.{all_live, whole-pace}
use Rattle.single_crash.proofs.CubeOrder.{turns-granted, last-turn, first-turn}

-- after k grants of the first round: nobody has made fewer turns than board 4, or more than board 5
pub record Opening (n d k : ℕ) (p : Stand) : Type 0 where
  pub running : Running Cube n everyone 5 p
  pub pace : (i : ℕ) → i < n → OnPace n d p.state.table i
  pub lag : (i : ℕ) → i < n → turns_made n p.state.table 4 ≤ turns_made n p.state.table i
  pub lead : (i : ℕ) → i < n → turns_made n p.state.table i ≤ turns_made n p.state.table 5
  pub counted : k + left_of n everyone (λ i. d) p.state.table ≡ n * suc d

module _ {n d : ℕ} (c : Cubic n d) (three : 3 ≤ d) (eight : 8 ≤ n) where
  module _ {k : ℕ} {p : Stand} (o : Opening n d k p) where
    open grant_of Cube n p use {before as t, board as g, turned as t'}

    below : g < n
    below = (chosen o.running).0

    present : (i : ℕ) → i < n → i ≢ n
    present i h e = omega arith

    pace' : (i : ℕ) → i < n → OnPace n d t' i
    pace' = whole-pace c o.running o.pace

    one-less : suc (left_of n everyone (λ i. d) t') ≡ left_of n everyone (λ i. d) t
    one-less =
        turn-less o.running (λ i. d)
        (turns-granted n c (all_live n) (omega arith) o.running (λ i h q. o.pace i h) (present g below))

    -- a round that closes has no turn left
    none-left : round_over n t' ≡ true → left_of n everyone (λ i. d) t' ≡ 0
    unfolding turns_left
    none-left over =
        sum-zero n (λ i h. let f = all-ended o.running over i h refl in omega (arith, f, (pace' i h).ended f))

    opening-next : suc k < n * suc d → Opening n d (suc k) (grant_turn Cube n p)
    opening-next more =
        by_round o.running
        (λ over w. absurd (omega (arith, none-left over, one-less, o.counted)))
        (λ on w.
        let five : 5 < n = omega arith in
        let pace : (i : ℕ) → i < n → i ≢ n → OnPace n d t i = λ i h q. o.pace i h in
        let apart = present g below in
        record {
          running = w.running;
          pace = rw w.table pace';
          lag = rw w.table (λ i h.
              last-turn n c (all_live n) five o.running pace (present 4 (omega arith)) (λ i h q. o.lag i h) i h (present i h));
          lead = rw w.table (λ i h.
              first-turn n c (all_live n) five o.running pace (present 5 five) apart (λ i h q. o.lead i h) i h (present i h));
          counted = rw w.table (omega (arith, one-less, o.counted));
        })

  pub opening-after : {p : Stand} (k : ℕ) → k < n * suc d → Opening n d 0 p → Opening n d k (after_grants Cube n p k)
  unfolding after_grants
  opening-after zero more o = o
  opening-after (suc k) more o = opening-next (opening-after k (omega arith) o) more

  -- after 2n + 1 grants
  module _ {p : Stand} (o : Opening n d (2 * n + 1) p) where
    abbrev u : List ℕ
    u = p.state.table

    abbrev most : ℕ → ℕ
    most i = turns_left everyone (λ i. d) (turns_made n u) i

    -- n·(d − 3), of which n·(d + 1) is 4n more
    rest : ℕ
    rest = n * (d - 3)

    whole : n * suc d ≡ rest + 4 * n
    unfolding rest
    whole =
        let e : suc (suc (suc (d - 3))) ≡ d = omega arith in
        omega (arith, mul-suc n d, rw e at (mul-suc n (suc (suc (d - 3)))), mul-suc n (suc (d - 3)), mul-suc n (d - 3))

    times : (k : ℕ) → k ≤ 3 → n * (d - 3 + k) ≡ rest + k * n
    unfolding rest
    times zero l = let e : d - 3 + 0 ≡ d - 3 = omega arith in rw e (omega arith)
    times (suc k) l =
        let e : d - 3 + suc k ≡ suc (d - 3 + k) = omega arith in
        rw e (omega (arith, mul-suc n (d - 3 + k), times k (omega arith), suc-mul k n))

    total : sum_below most n + 2 * n + 1 ≡ rest + 4 * n
    total = omega (arith, o.counted, whole)

    at-least : (k : ℕ) → k ≤ 3 → ((i : ℕ) → i < n → d - 3 + k ≤ most i) → rest + k * n ≤ sum_below most n
    at-least k l each = omega (arith, sum-le {f = λ i. d - 3 + k} {g = most} n each, sum-const (d - 3 + k) n, times k l)

    at-most : (k : ℕ) → k ≤ 3 → ((i : ℕ) → i < n → most i ≤ d - 3 + k) → sum_below most n ≤ rest + k * n
    at-most k l each = omega (arith, sum-le {f = most} {g = λ i. d - 3 + k} n each, sum-const (d - 3 + k) n, times k l)

    low : turns_made n u 4 < 3
    unfolding turns_left
    low =
        by_cases (dec_lt (turns_made n u 4) 3) (λ l. l)
        (λ l. absurd (omega (arith, total, at-most 1 (omega arith) (λ i h. omega (arith, o.lag i h)))))

    -- board 4 has not finished, so that the others have made a turn more at the most
    last-waits : waits n u 4 ≡ true
    last-waits = live-waits o.running 4 (omega arith) refl
        (by_cases (ℕ_discrete (finished n u 4) 0) (λ f. f)
        (λ f. let one = has-ended o.running 4 (omega arith) f in absurd (omega (arith, low, one, (o.pace 4 (omega arith)).ended one))))

    high : (i : ℕ) → i < n → turns_made n u i ≤ suc (turns_made n u 4)
    high i h =
        let s = o.running.sweep in
        by_cases (dec_lt (stations_before n 5 4) s.passed)
        (λ l. omega (arith, s.most i h, s.done 4 (omega arith) last-waits l))
        (λ l. omega (arith, s.most i h, s.to_come 4 (omega arith) last-waits (omega arith)))

    pub last-two : turns_made n u 4 ≡ 2
    unfolding turns_left
    last-two =
        by_cases (ℕ_discrete (turns_made n u 4) 0)
        (λ z. absurd (omega (arith, total, at-least 3 (omega arith) (λ i h. omega (arith, high i h, z)))))
        (λ z. by_cases (ℕ_discrete (turns_made n u 4) 1)
        (λ e. absurd (omega (arith, total, at-least 2 (omega arith) (λ i h. omega (arith, high i h, e)))))
        (λ e. omega (arith, low, z, e)))

    pub first-three : turns_made n u 5 ≡ 3
    unfolding turns_left
    first-three =
        by_cases (dec_lt (turns_made n u 5) 3)
        (λ l. absurd (omega (arith, total, at-least 2 (omega arith) (λ i h. omega (arith, o.lead i h)))))
        (λ l. omega (arith, high 5 (omega arith), last-two))

    -- board 5 is the only one that has made three
    pub dying-two : turns_made n u 1 ≡ 2
    unfolding turns_left
    dying-two =
        by_cases (dec_lt (turns_made n u 1) 3)
        (λ l. omega (arith, o.lag 1 (omega arith), last-two))
        (λ l.
        let extra : ℕ → ℕ = λ i. at_place 5 1 i + at_place 1 1 i in
        let each : (i : ℕ) → i < n → most i + extra i ≤ d - 3 + 2 =
        λ i h. by_cases (ℕ_discrete i 5) (λ e. rw e (omega (arith, first-three)))
        (λ e. by_cases (ℕ_discrete i 1) (λ f. rw f (omega (arith, l)))
        (λ f. rw (ne_eqb i 5 e, ne_eqb i 1 f) (omega (arith, o.lag i h, last-two)))) in
        absurd (omega (
          arith,
          total,
          sum-le {f = λ i. most i + extra i} {g = λ i. d - 3 + 2} n each,
          sum-const (d - 3 + 2) n,
          times 2 (omega arith),
          sum-add most extra n,
          sum-add (at_place 5 1) (at_place 1 1) n,
          sum-at n 5 1 (omega arith),
          sum-at n 1 1 (omega arith),
        )))
