-- On the ring no round has more than n tests: a live station makes at most as many as there are places to the next live one.
-- Assumes nothing.
use mathlib.Core.Path.{◌≡◌, sym, ◌∙◌}
use mathlib.Core.Logic.{◌⊎◌, inl, inr, by_cases}
use mathlib.Core.Bool.{Bool, true, false, cond, true≢false}
use mathlib.Core.List.{List}
use Prim.Native.Nat.{ℕ, suc, ◌+◌, ◌-◌, ◌%◌, ◌≤◌, ◌<◌}
use native.Mathlib.Nat.{mod-lt, mod-eq_of_lt, add-mod_right}
use native.Mathlib.Decide.{dec_lt, ℕ_discrete}
use native.Mathlib.Omega.{arith}
use Rattle.lists.specs.Search.{least}
use Rattle.lists.specs.Sums.{sum_below}
use Rattle.lists.proofs.BoolLaws.{by_bool}
use Rattle.lists.proofs.SearchLaws.{least-between, least-passes, least-before, least-is}
use Rattle.slots.proofs.Counts.{sum-le}
use Rattle.table.specs.Wiring.{is_ring}
use Rattle.table.specs.Table.{next_distance, tests_made, live}
use Rattle.table.specs.declared.wiring.Wiring.{Wiring}
use Rattle.detection.specs.Claim.{count_of}
use Rattle.detection.proofs.Circle.{at_position, NextLive}
use Rattle.detection.proofs.RingCount.{all-tests}
use Rattle.detection.proofs.RingPass.{RingTurn}
use Rattle.detection.proofs.RingTurns.{ring-turns}
use Rattle.detection.proofs.TurnEffect.{Row}
use Rattle.detection.proofs.DetectionClaim.{someone}
use Rattle.latency.proofs.Rounds.{TestsBound}

-- by numbers only, as in RingPass
module _ (n : ℕ) (live : ℕ → Bool) where
  -- the first live position after i
  abbrev pub after : ℕ → ℕ
  after i = least (at_position n live) n (suc i)

  -- how many places it is to the next live station; none from a dead one
  abbrev places : ℕ → ℕ
  places i = cond (live i) (after i - i) 0

  -- a station comes again n places on
  again : (i : ℕ) → i < n → live i ≡ true → live ((i + n) % n) ≡ true
  again i h l = rw (add-mod_right i n, mod-eq_of_lt h) l

  after-is : (i b : ℕ) → i < n → live i ≡ true → NextLive n live i b → after i ≡ b
  after-is i b h l next =
      let near : b ≤ i + n =
      by_cases (dec_lt (i + n) b) (λ far. absurd (true≢false (sym (again i h l) ∙ next.between (i + n) (omega arith) far))) (λ m. omega arith) in
      least-is (at_position n live) n (suc i) b (omega (arith, next.later)) (omega arith) next.to (λ y a c. next.between y (omega arith) c)

  after-far : (i q : ℕ) → q ≤ n → ((k : ℕ) → i < k → k < i + q → live (k % n) ≡ false) → i < after i → i + q ≤ after i
  after-far i q high dead low =
      by_cases (dec_lt (after i) (i + q))
      (λ l. absurd (true≢false (sym (least-passes (at_position n live) n (suc i) (omega arith)) ∙ dead (after i) low l))) (λ m. omega arith)

  low : (i : ℕ) → i < after i
  low i = let between = least-between (at_position n live) n (suc i) in omega (arith, between.0)

  -- station i has come to next distance q with so many tests: nobody before it is live, or it has tested the next live one
  pub record Searching (i q made : ℕ) : Type 0 where
    pub tests : suc made ≡ q
    pub high : q ≤ n
    pub dead : (k : ℕ) → i < k → k < i + q → live (k % n) ≡ false

  abbrev pub Fit : ℕ → ℕ → ℕ → Type 0
  Fit i q made = Searching i q made ⊎ ((q ≡ n) × (made ≤ after i - i))

  fit-few : (i q made : ℕ) → Fit i q made → made ≤ after i - i
  fit-few i q made (inl w) = omega (arith, w.tests, after-far i q w.high w.dead (low i))
  fit-few i q made (inr e) = e.1

  -- so it is of every live station
  abbrev pub Fitting : (ℕ → ℕ) → (ℕ → ℕ) → Type 0
  Fitting next made = (i : ℕ) → i < n → live i ≡ true → Fit i (next i) (made i)

  pub few-tests : (next made : ℕ → ℕ) → Fitting next made → (z : ℕ) → z < n → live z ≡ true → sum_below (λ i. cond (live i) (made i) 0) n ≤ n
  few-tests next made fit z hz lz =
      let few : (i : ℕ) → i < n → cond (live i) (made i) 0 ≤ places i =
      λ i h. by_bool (live i) (λ l. rw l (fit-few i (next i) (made i) (fit i h l))) (λ l. rw l (omega arith)) in
      let gaps : (a b : ℕ) → a < n → NextLive n live a b → places a ≡ b - a =
      λ a b h next.
      let la : live a ≡ true = rw (mod-eq_of_lt h) at next.from in
      rw (la, after-is a b h la next) in
      let none : (a : ℕ) → a < n → live a ≡ false → places a ≡ 0 = λ a h f. rw f in
      omega (arith, sum-le n few, all-tests n live z hz lz places gaps none)

  -- a turn keeps it
  module _ (row row' : ℕ → ℕ → Type 0) (next next' made made' : ℕ → ℕ) (i : ℕ) (hi : i < n) (alive : live i ≡ true)
      (turn : RingTurn n live row row' next next' made made' i) (fit : Fitting next made) where
    abbrev q : ℕ
    q = next i

    searched : Searching i q (made i) → Fit i (next' i) (made' i)
    searched w =
        by_cases (dec_lt q n)
        (λ below.
        by_bool (live ((i + q) % n))
        (λ l.
        let found : NextLive n live i (i + q) =
        record { later = omega (arith, w.tests); from = rw (mod-eq_of_lt hi) alive; to = l; between = w.dead } in
        inr ((turn.exchanges below l).0, omega (arith, turn.tests below, w.tests, after-is i (i + q) hi alive found)))
        (λ f.
        let up : next' i ≡ suc q = (turn.finds below f).0 in
        inl (record {
          tests = omega (arith, turn.tests below, w.tests);
          high = omega arith;
          dead = λ k a b. by_cases (ℕ_discrete k (i + q)) (λ e. rw e f) (λ e. w.dead k a (omega arith));
        })))
        (λ over.
        let ended = turn.finishes (omega arith) in
        let same : next' i ≡ q = omega (arith, w.high) in
        inl (rw (same, ended.1) w))

    own : Fit i q (made i) → Fit i (next' i) (made' i)
    own (inl w) = searched w
    own (inr e) =
        let ended = turn.finishes (omega (arith, e.0)) in
        inr (ended.0, omega (arith, e.1, ended.1))

    pub turn-fits : Fitting next' made'
    turn-fits k h l =
        by_cases (ℕ_discrete k i) (λ e. rw e (own (fit i hi alive)))
        (λ e. let same = turn.others k e in rw (same.0, same.1) (fit k h l))

-- where fewer are live
module _ (n : ℕ) (live live' : ℕ → Bool) (fewer : (x : ℕ) → x < n → live' x ≡ true → live x ≡ true) (pos : 0 < n) where
  dead-still : (k : ℕ) → live (k % n) ≡ false → live' (k % n) ≡ false
  dead-still k f =
      by_bool (live' (k % n)) (λ l. absurd (true≢false (sym (fewer (k % n) (mod-lt k pos) l) ∙ f))) (λ l. l)

  after-grows : (i : ℕ) → after n live i ≤ after n live' i
  after-grows i =
      by_cases (dec_lt (after n live' i) (after n live i))
      (λ l.
      let high = least-between (at_position n live) n (suc i) in
      let found = least-passes (at_position n live') n (suc i) (omega (arith, high.1)) in
      let none = least-before (at_position n live) n (suc i) (after n live' i) (least-between (at_position n live') n (suc i)).0 l in
      absurd (true≢false (sym found ∙ dead-still (after n live' i) none)))
      (λ m. omega arith)

  fit-narrow : (i q made : ℕ) → Fit n live i q made → Fit n live' i q made
  fit-narrow i q made (inl w) = inl (record { tests = w.tests; high = w.high; dead = λ k a b. dead-still k (w.dead k a b) })
  fit-narrow i q made (inr e) = inr (e.0, omega (arith, e.1, after-grows i))

  pub narrow-fits : (next next' made made' : ℕ → ℕ) → ((i : ℕ) → i < n → (next' i ≡ next i) × (made' i ≡ made i)) → Fitting n live next made
      → Fitting n live' next' made'
  narrow-fits next next' made made' same fit i h l =
      let s = same i h in rw (s.0, s.1) (fit-narrow i (next i) (made i) (fit i h (fewer i h l)))

-- what bounds the tests on the ring
abbrev pub ring-tests : (w : Wiring) (n : ℕ) → is_ring w ≡ true → 2 ≤ n → ((T : List ℕ) → count_of w n T ≡ n) → TestsBound w n
ring-tests w n ring two count = record {
  Fits = λ L t. Fitting n L (next_distance n t) (tests_made n t);
  starts = λ L t fresh i h l.
      inl (record {
        tests = omega (arith, (fresh i h).next, (fresh i h).untested);
        high = omega (arith, (fresh i h).next);
        dead = λ k a b. absurd (omega (arith, (fresh i h).next));
      });
  turns = λ L t' s e plain turn fit.
      turn-fits n L (Row n s.table) (Row n t') (next_distance n s.table) (next_distance n t') (tests_made n s.table) (tests_made n t')
      e.station turn.below turn.is_live (ring-turns w n L s.table t' e.station turn.outcome ring turn.kept turn.heads) fit;
  narrows = λ L L' t t' fewer same fit.
      narrow-fits n L L' fewer (omega arith) (next_distance n t) (next_distance n t') (tests_made n t) (tests_made n t') same fit;
  within = λ T t two plain fit.
      let z = someone n T (omega (arith, two)) in
      rw (count T) (few-tests n (live n T) (next_distance n t) (tests_made n t) fit z.0 z.1 z.2);
}
