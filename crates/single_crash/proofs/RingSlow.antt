-- On the ring the bound is reached: where the crash's round began with d, the second board before b, and only d and a, the one before b, have made a
-- turn in it, d comes to know b last of all, in the first sweep of the third round.
-- Assumes nothing.
use mathlib.Core.Path.{◌≡◌, sym, ap, ◌∙◌}
use mathlib.Core.Logic.{◌≢◌, by_cases}
use mathlib.Core.Bool.{true, false}
use mathlib.Core.List.{List}
use Prim.Native.Nat.{ℕ, zero, suc, ◌+◌, ◌-◌, ◌%◌, ◌≤◌, ◌<◌}
use native.Mathlib.Decide.{dec_lt, ℕ_discrete}
use native.Mathlib.Omega.{arith}
use Rattle.table.specs.Table.{head, next_distance, finished, tests_made, suspects}
use Rattle.table.specs.Rules.{round_over}
use Rattle.table.proofs.SizeLaws.{size-bounds}
use Rattle.table.specs.declared.wiring.Wiring.TheVariants.{Ring}
use Rattle.plant.specs.Round.{reset_lines}
use Rattle.plant.proofs.RoundLaws.{reset-other}
use Rattle.granter.specs.Grant.{following}
use Rattle.granter.specs.Fairness.{stations_before}
use Rattle.granter.specs.Drive.{Stand, granted_at, grant_turn, after_grants}
use Rattle.single_crash.proofs.Sweeps.{place-one, place-below}
use Rattle.single_crash.proofs.SweepLaw.{grant_of}
use Rattle.single_crash.proofs.Running.{Running, chosen, is_live, going, closes, goes_on, grant-most, live-waits, left_of, others-same}
use Rattle.single_crash.proofs.Running.{by_round}
use Rattle.single_crash.proofs.Passes.{made-most}
use Rattle.single_crash.proofs.Around.{BeginsAt, board-below, begins-fits, place-of, place-zero, place-next, before-below, before-next}
use Rattle.single_crash.proofs.Around.{before-second, both-apart, other-next, next-one, begins-at}
use Rattle.single_crash.proofs.OnRing.{ring-turn, counts-at, one, one-less, none-left}
use Rattle.single_crash.proofs.RingStages.{Board, Waiting, Finding, Spread, circle, ahead, two_before, c-below, c-lives}
use Rattle.single_crash.proofs.Crashing.{other-lives, but-dead, but-apart}
use Rattle.single_crash.proofs.RingStages.{two-at, one-at, left-fresh, finding-fresh, waiting-on, finding-on, finding-closes, spread-on, spread-open}
use Rattle.single_crash.proofs.RingStages.{e-place, y-place, y-lives}
use Rattle.single_crash.proofs.RingLast.{last-closes, last-open}
use Rattle.single_crash.proofs.Unaware.{rows-stay, unaware-met, unaware-other}

module _ {n b : ℕ} (board : Board n b) where
  -- the boards before b, one after the other, and the one behind it
  open circle n b use {others as L, first as a, second as d, third as z, next as c}
  open ahead board use {a<n, d<n, d-next, d-apart, live-a, live-d}

  z<n : z < n
  z<n = before-below n d d<n (omega arith)

  -- their places in a round that begins with d
  module _ (begins : ℕ) (from : BeginsAt n d begins) where
    place-d : stations_before n begins d ≡ 0
    place-d = place-zero from

    place-a : stations_before n begins a ≡ 1
    place-a = omega (arith, rw d-next at (place-next from d d<n (omega (arith, place-d))), place-d)

    place-b : stations_before n begins b ≡ 2
    place-b =
        let at = rw (before-next n b board.hb (omega arith)) at (place-next from a a<n (omega (arith, place-a))) in
        omega (arith, at, place-a)

    place-z : stations_before n begins z ≡ n - 1
    place-z = place-of from (n - 1) (omega arith)

    z-apart : z ≢ b
    z-apart e = omega (arith, place-b, rw e at place-z)

  -- and in one that begins with b
  d-place : (begins : ℕ) → BeginsAt n b begins → stations_before n begins d ≡ n - 2
  d-place begins from =
      let fits = begins-fits from in
      let last = place-of from (n - 1) (omega arith) in
      by_cases (dec_lt (suc (stations_before n begins d)) n)
      (λ l. omega (arith, rw d-next at (place-next from d d<n l), last))
      (λ l. absurd (d-apart (place-one n begins d a fits d<n a<n
      (omega (arith, last, place-below n begins d fits d<n)))))

  z-lives : L z ≡ true
  z-lives = other-lives b z (z-apart (following z) (begins-at n d d<n (omega arith) (size-bounds n board.size).1))

  d-other : d ≢ c
  d-other e =
      let from = begins-at n b board.hb (omega arith) (size-bounds n board.size).1 in
      let begins : ℕ = following a in
      omega (arith, d-place begins from, place-of from 1 (omega arith), ap (λ (x : ℕ). stations_before n begins x) e)

  -- the rest of the crash's round: nobody suspects b
  pub record WaitingSlow (begins : ℕ) (p : Stand) : Type 0 where
    pub waiting : Waiting board begins p
    pub from : BeginsAt n d begins
    pub unfinished : finished n p.state.table z ≡ 0
    pub unaware : (k : ℕ) → k < n → L k ≡ true → suspects n p.state.table k b ≡ 0

  -- the next one: a comes to, and then c
  pub record FindingSlow (begins : ℕ) (p : Stand) : Type 0 where
    pub finding : Finding board begins p
    pub from : BeginsAt n d begins
    pub a_unaware : tests_made n p.state.table a ≡ 0 → suspects n p.state.table a b ≡ 0
    pub c_unaware : tests_made n p.state.table a ≤ 1 → suspects n p.state.table c b ≡ 0
    pub unaware : (k : ℕ) → k < n → L k ≡ true → k ≢ a → k ≢ c → suspects n p.state.table k b ≡ 0

  -- and the one behind that: a grant brings one more
  pub record SpreadSlow (begins j : ℕ) (p : Stand) : Type 0 where
    pub spread : Spread board begins j p
    pub unaware : (k : ℕ) → k < n → L k ≡ true → k ≢ a → suc j < stations_before n begins k → suspects n p.state.table k b ≡ 0

  -- the rows are those before a closing
  closed-row : (t : List ℕ) (k : ℕ) → suspects n (reset_lines n t) k b ≡ suspects n t k b
  closed-row t k = reset-other n t k (head + b) (omega arith) (λ x. omega arith)

  -- a grant in the rest of the crash's round
  module _ {begins : ℕ} {p : Stand} (s : WaitingSlow begins p) where
    open grant_of Ring n p use {before as t, board as g, turned as t'}

    abbrev r : Running Ring n L begins p
    r = s.waiting.run

    stays-unaware : (k : ℕ) → k < n → L k ≡ true → suspects n t' k b ≡ 0
    stays-unaware k h l =
        let below = (chosen r).0 in
        let alive = is_live r in
        by_cases (dec_lt (tests_made n t g) 1)
        (λ m.
        let at = (s.waiting.passes.testing g below alive m).0 in
        let other : g ≢ a = λ e. omega (arith, s.waiting.tested, ap (tests_made n t) e) in
        let y-alive = other-lives b _ (other-next n b board.hb (omega arith) g below other) in
        unaware-met r b board.hb 1 (omega arith) (omega arith) y-alive k h (s.unaware k h l)
        (λ e. s.unaware _ (board-below n g 1 below (omega arith)) y-alive) (λ e. s.unaware g below alive))
        (λ m.
        let at = (s.waiting.passes.tested g below alive (omega arith)).0 in
        rows-stay r b board.hb (omega arith) k ∙ s.unaware k h l)

    waiting-slow-on : round_over n t' ≡ false → WaitingSlow begins (grant_turn Ring n p)
    waiting-slow-on unclosed =
        let o = goes_on r unclosed in
        record {
          waiting = waiting-on board s.waiting unclosed;
          from = s.from;
          unfinished = rw o.table (last-open r s.waiting.passes z z<n z-lives (place-z begins s.from) s.unfinished unclosed);
          unaware = λ k h l. rw o.table (stays-unaware k h l);
        }

    waiting-slow-closes : round_over n t' ≡ true → (begins' : ℕ) × FindingSlow begins' (grant_turn Ring n p)
    waiting-slow-closes over =
        let q = closes r over in
        let last = last-closes r s.waiting.passes z z<n z-lives (place-z begins s.from) s.unfinished over in
        let none : (k : ℕ) → k < n → L k ≡ true → suspects n (grant_turn Ring n p).state.table k b ≡ 0 =
        λ k h l. rw q.table (closed-row t' k ∙ stays-unaware k h l) in (
          following g,
          record {
            finding = finding-fresh board q.fresh q.running;
            from = rw last (begins-at n d d<n (omega arith) (size-bounds n board.size).1);
            a_unaware = λ e. none a a<n live-a;
            c_unaware = λ e. none c (c-below board) (c-lives board);
            unaware = λ k h l x y. none k h l;
          },
        )

  -- a grant in the round in which a tests b
  module _ {begins : ℕ} {p : Stand} (s : FindingSlow begins p) where
    open grant_of Ring n p use {before as u, board as x, turned as u'}

    abbrev run : Running Ring n L begins p
    run = s.finding.run

    x<n : x < n
    x<n = (chosen run).0

    x-lives : L x ≡ true
    x-lives = is_live run

    x-going : finished n u x ≡ 0
    x-going = going run

    -- d makes its test before a does
    d-first : x ≡ d → tests_made n u x ≡ 0 → tests_made n u a ≡ 0
    d-first e none =
        let sweep = run.sweep in
        let wait = (chosen run).1 in
        let at : stations_before n begins x ≡ 0 = ap (λ (x : ℕ). stations_before n begins x) e ∙ place-d begins s.from in
        by_cases (dec_lt 0 sweep.passed)
        (λ l. omega (arith, sweep.most a a<n, sweep.done x x<n wait (omega arith), x-going))
        (λ l.
        let first : sweep.sweep ≡ 1 = omega (arith, sweep.to_come x x<n wait (omega arith), x-going) in
        by_cases (ℕ_discrete (finished n u a) 0)
        (λ f.
        omega (arith, sweep.to_come a a<n (live-waits run a a<n live-a f) (omega arith)))
        (λ f.
        let made = made-most s.finding.passes a a<n live-a in
        absurd (omega (arith, sweep.most a a<n, made.1 (omega (arith, s.finding.passes.range a a<n)), two-at board))))

    -- c makes its test before a makes its second one
    c-first : tests_made n u x ≡ 0 → tests_made n u a ≤ 1
    c-first none =
        let most = grant-most run a a<n in
        omega (arith, x-going)

    tests-a : x ≢ a → tests_made n u' a ≡ tests_made n u a
    tests-a k = (others-same run a (λ e. k (sym e))).made

    -- what a turn leaves
    record Left : Type 0 where
      pub a_unaware : tests_made n u' a ≡ 0 → suspects n u' a b ≡ 0
      pub c_unaware : tests_made n u' a ≤ 1 → suspects n u' c b ≡ 0
      pub unaware : (k : ℕ) → k < n → L k ≡ true → k ≢ a → k ≢ c → suspects n u' k b ≡ 0

    -- one that finishes a pass
    finishes : n ≤ next_distance n u x → tests_made n u' a ≡ tests_made n u a → Left
    finishes far same =
        let stay = rows-stay run b board.hb far in
        record {
          a_unaware = λ e. stay a ∙ s.a_unaware (omega arith);
          c_unaware = λ l. stay c ∙ s.c_unaware (omega arith);
          unaware = λ k h l q v. stay k ∙ s.unaware k h l q v;
        }

    -- the test of another board
    other-tests : x ≢ a → tests_made n u x ≡ 0 → Left
    other-tests k none =
        let at = (s.finding.passes.testing x x<n x-lives (omega (arith, one-at board x k))).0 in
        let y : ℕ = (x + 1) % n in
        let y<n : y < n = board-below n x 1 x<n (omega arith) in
        let y-alive : L y ≡ true = other-lives b y (other-next n b board.hb (omega arith) x x<n k) in
        let y-other : y ≢ c = λ e. but-apart b x x-lives (next-one n x b x<n board.hb e) in
        let hers : suspects n u y b ≡ 0 =
        by_cases (ℕ_discrete y a)
        (λ e.
        let first = d-first (next-one n x d x<n d<n (e ∙ sym d-next)) none in
        ap (λ (i : ℕ). suspects n u i b) e ∙ s.a_unaware first)
        (λ e. s.unaware y y<n y-alive e y-other) in
        let mine : suspects n u x b ≡ 0 =
        by_cases (ℕ_discrete x c) (λ e. ap (λ (i : ℕ). suspects n u i b) e ∙ s.c_unaware (c-first none))
        (λ e. s.unaware x x<n x-lives k e) in
        let met : (i : ℕ) → i < n → suspects n u i b ≡ 0 → suspects n u' i b ≡ 0 =
        λ i h e. unaware-met run b board.hb 1 (omega arith) (omega arith) y-alive i h e (λ _. hers) (λ _. mine) in
        record {
          a_unaware = λ e. met a a<n (s.a_unaware (omega (arith, tests-a k)));
          c_unaware = λ l. met c (c-below board) (s.c_unaware (omega (arith, tests-a k)));
          unaware = λ i h l q v. met i h (s.unaware i h l q v);
        }

    -- the tests of a: first of b, then of c
    tests-before : x ≡ a → tests_made n u a ≡ 0 → Left
    tests-before e none =
        let at = (s.finding.passes.testing a a<n live-a (omega (arith, two-at board))).0 in
        let q : next_distance n u x ≡ 1 = ap (λ (i : ℕ). next_distance n u i) e ∙ omega arith in
        let dead : L ((x + 1) % n) ≡ false =
        ap (λ (i : ℕ). L ((i + 1) % n)) e ∙ rw (before-next n b board.hb (omega arith)) (but-dead b) in
        let once = counts-at run a 1 (sym e) (omega arith) (omega arith) in
        let stay : (k : ℕ) → k < n → k ≢ a → suspects n u' k b ≡ suspects n u k b =
        λ k h v. unaware-other run b board.hb 1 q (omega arith) dead k h (λ f. v (f ∙ e)) in
        record {
          a_unaware = λ f. absurd (omega arith);
          c_unaware = λ l. stay c (c-below board) (λ f. both-apart n b board.hb (omega arith) (sym f)) ∙ s.c_unaware (omega arith);
          unaware = λ k h l v m. stay k h v ∙ s.unaware k h l v m;
        }

    tests-behind : x ≡ a → tests_made n u a ≡ 1 → Left
    tests-behind e once =
        let at = (s.finding.passes.testing a a<n live-a (omega (arith, two-at board))).0 in
        let q : next_distance n u x ≡ 2 = ap (λ (i : ℕ). next_distance n u i) e ∙ omega arith in
        let is : (x + 2) % n ≡ c = ap (λ (i : ℕ). (i + 2) % n) e ∙ before-second n b board.hb (omega arith) in
        let alive : L ((x + 2) % n) ≡ true = rw is (c-lives board) in
        let twice = counts-at run a 2 (sym e) (omega arith) (omega arith) in
        record {
          a_unaware = λ f. absurd (omega arith);
          c_unaware = λ l. absurd (omega arith);
          unaware = λ k h l v m.
              unaware-met run b board.hb 2 q (omega arith) alive k h (s.unaware k h l v m) (λ f. absurd (v (f ∙ e)))
              (λ f. absurd (m (f ∙ is)));
        }

    left-by : Left
    left-by =
        by_cases (ℕ_discrete x a)
        (λ e. by_cases (ℕ_discrete (tests_made n u a) 0) (tests-before e)
        (λ k. by_cases (ℕ_discrete (tests_made n u a) 1) (tests-behind e)
        (λ m.
        let at = s.finding.passes.tested a a<n live-a (omega (arith, two-at board)) in
        let far : n ≤ next_distance n u x = omega (arith, ap (λ (i : ℕ). next_distance n u i) e, at.0) in
        finishes far (rw (← e) ((ring-turn run).finishes far).1))))
        (λ k. by_cases (ℕ_discrete (tests_made n u x) 0) (other-tests k)
        (λ m.
        let at = s.finding.passes.tested x x<n x-lives (omega (arith, one-at board x k)) in
        finishes (omega (arith, at.0)) (tests-a k)))

    finding-slow-on : round_over n u' ≡ false → FindingSlow begins (grant_turn Ring n p)
    finding-slow-on unclosed =
        let o = goes_on run unclosed in
        record {
          finding = finding-on board s.finding unclosed;
          from = s.from;
          a_unaware = rw o.table left-by.a_unaware;
          c_unaware = rw o.table left-by.c_unaware;
          unaware = rw o.table left-by.unaware;
        }

    finding-slow-closes : round_over n u' ≡ true → (begins' : ℕ) × SpreadSlow begins' 0 (grant_turn Ring n p)
    finding-slow-closes over =
        let on = finding-closes board s.finding over in
        let q = closes run over in (
          on.0,
          record {
            spread = on.1;
            unaware = λ k h l v m.
                let second = place-of on.1.from 1 (omega arith) in
                let other : k ≢ c = λ e. omega (arith, ap (λ (i : ℕ). stations_before n on.0 i) e) in
                rw q.table (closed-row u' k ∙ left-by.unaware k h l v other);
          },
        )

  -- a grant in the round behind that
  spread-slow-on : {begins j : ℕ} {p : Stand} → SpreadSlow begins j p → (more : j + 3 < n) → SpreadSlow begins (suc j) (grant_turn Ring n p)
  spread-slow-on {begins = begins} {p = p} s more =
      let run = s.spread.run in
      let o = goes_on run (spread-open board s.spread more) in
      let x : ℕ = granted_at n p in
      let at = e-place board s.spread more in
      let to = y-place board s.spread more in
      let place : ℕ → ℕ = λ i. stations_before n begins i in
      let q = (s.spread.fresh x (chosen run).0 (is_live run) (omega arith)).0 in
      record {
        spread = spread-on board s.spread more;
        unaware = λ k h l v m.
            rw o.table (unaware-met run b board.hb 1 q (omega arith) (y-lives board s.spread more) k h
            (s.unaware k h l v (omega arith)) (λ e. absurd (omega (arith, ap place e))) (λ e. absurd (omega (arith, ap place e))));
      }

  -- after just so many grants d comes to know b next, in the third round, where `first` rounds had closed before the crash
  pub data Slow (first m : ℕ) (p : Stand) : Type 0 where
    slow_waiting : (begins : ℕ) → WaitingSlow begins p → p.state.rounds ≡ first → m + 5 ≡ left_of n L one p.state.table + (n + n + n)
        → Slow first m p
    slow_finding : (begins : ℕ) → FindingSlow begins p → p.state.rounds ≡ first + 1
        → m + 4 ≡ left_of n L (two_before board) p.state.table + n → Slow first m p
    slow_spread : (begins j : ℕ) → SpreadSlow begins j p → p.state.rounds ≡ first + 2 → j + m + 4 ≡ n → Slow first m p

  pub slow-unaware : (first m : ℕ) (p : Stand) → Slow first m p → suspects n p.state.table d b ≡ 0
  slow-unaware first m p (slow_waiting begins s rounds most) = s.unaware d d<n live-d
  slow-unaware first m p (slow_finding begins s rounds most) = s.unaware d d<n live-d d-apart d-other
  slow-unaware first m p (slow_spread begins j s rounds most) =
      s.unaware d d<n live-d d-apart (omega (arith, d-place begins s.spread.from))

  pub slow-rounds : (first : ℕ) (p : Stand) → Slow first 0 p → p.state.rounds ≡ first + 2
  slow-rounds first p (slow_waiting begins s rounds most) = absurd (omega arith)
  slow-rounds first p (slow_finding begins s rounds most) =
      absurd (omega (arith, one-less s.finding.run (two_before board) s.finding.passes))
  slow-rounds first p (slow_spread begins j s rounds most) = rounds

  slow-step : (first m : ℕ) (p : Stand) → Slow first (suc m) p → Slow first m (grant_turn Ring n p)
  slow-step first m p (slow_waiting begins s rounds most) =
      let r = s.waiting.run in
      let less = one-less r one s.waiting.passes in
      by_round r
      (λ over q.
      let on = waiting-slow-closes s over in
      let none = none-left r one s.waiting.passes over in
      let fresh =
      left-fresh board (grant_turn Ring n p).state.table (λ i h. omega (arith, (q.fresh i h).untested, (q.fresh i h).unfinished)) in
      slow_finding on.0 on.1 (omega (arith, q.rounds)) (omega arith))
      (λ unclosed o.
      slow_waiting begins (waiting-slow-on s unclosed) (omega (arith, o.rounds)) (rw o.table (omega (arith, less))))
  slow-step first m p (slow_finding begins s rounds most) =
      let r = s.finding.run in
      let reach = two_before board in
      let less = one-less r reach s.finding.passes in
      by_round r
      (λ over q.
      let on = finding-slow-closes s over in
      slow_spread on.0 0 on.1 (omega (arith, q.rounds)) (omega (arith, less, none-left r reach s.finding.passes over)))
      (λ unclosed o.
      slow_finding begins (finding-slow-on s unclosed) (omega (arith, o.rounds)) (rw o.table (omega (arith, less))))
  slow-step first m p (slow_spread begins j s rounds most) =
      let more : j + 3 < n = omega arith in
      let o = goes_on s.spread.run (spread-open board s.spread more) in
      slow_spread begins (suc j) (spread-slow-on s more) (omega (arith, o.rounds)) (omega arith)

  pub slow-after : (first m g : ℕ) (p : Stand) → Slow first (m + g) p → Slow first m (after_grants Ring n p g)
  unfolding after_grants
  slow-after first m zero p s = let e : m + 0 ≡ m = omega arith in rw e at s
  slow-after first m (suc g) p s =
      let e : m + suc g ≡ suc m + g = omega arith in
      slow-step first m (after_grants Ring n p g) (slow-after first (suc m) g p (rw e at s))
