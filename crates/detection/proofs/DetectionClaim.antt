-- Detection, proved: the chain of taken entries is cut into rounds, and what closed rounds give bounds the rounds after which all is known. The
-- wiring is a parameter (`RoundKnowledge`); with the cube's and the ring's the claim holds within the worst case and the greater bounds.
-- Assumes nothing.
use mathlib.Core.Path.{◌≡◌, refl, sym, ap, ◌∙◌}
use mathlib.Core.Logic.{◌⊎◌, inl, inr, ◌≢◌}
use mathlib.Core.Bool.{Bool, true, false, not, ◌&&◌}
use mathlib.Core.List.{List, [], ◌∷◌, ◌++◌}
use Prim.Native.Nat.{ℕ, ◌≤◌, ◌<◌}
use native.Mathlib.Nat.{le_trans}
use native.Mathlib.Omega.{arith}
use borrow.Author.Tests.{ltb-true, ltb-false, eqb-true, eqb-false, ne_eqb, not-true}
use lib.ListN.{length}
use lib.Dec.{ltb, eqb}
use Rattle.lists.specs.Search.{least, every}
use Rattle.table.specs.Sizes.{dimension}
use Rattle.table.specs.Table.{suspects, live}
use Rattle.lists.proofs.SearchLaws.{both, every-at, least-passes, least-before}
use Rattle.table.proofs.Accepting.{Accepted}
use Rattle.table.proofs.CellLaws.{accepted-line}
use Rattle.table.proofs.SizeLaws.{size-bounds}
use Rattle.plant.specs.Entry.{State}
use Rattle.plant.proofs.RoundLaws.{Reset}
use Rattle.lists.specs.Sums.{bit}
use Rattle.detection.specs.Runs.{Call, taken_all, after_run, after_runs}
use Rattle.detection.specs.Rounds.{count_taken, cut, tests_of_all}
use Rattle.table.specs.Properties.{line_at_start, at_start, live_count, no_live_suspicion, none_suspected}
use Rattle.detection.specs.Claim.{rounds_of, count_of, counted_from, DetectionPremises, DetectionConclusion}
use Rattle.detection.specs.Claim.{DetectionAt, Detection, DetectionAfter, square_rounds, DetectionInSquare}
use Rattle.detection.specs.Claim.{triangle_rounds, DetectionInTriangle, worst_latency, ring_latency, worst_rounds}
use Rattle.detection.specs.InList.{DetectionInList}
use Rattle.lists.proofs.BoolLaws.{by_bool}
use Rattle.lists.proofs.SumLaws.{sum-single, sum-zero}
use Rattle.table.specs.Wiring.{is_ring}
use Rattle.table.specs.declared.wiring.Wiring.{Wiring}
use Rattle.table.specs.declared.wiring.Wiring.TheVariants.{Cube, Ring}
use Rattle.detection.proofs.Latency.{latency-le-triangle, latency-le-square}
use Rattle.detection.proofs.Chain.{on-wiring, chain-all, chain_first}
use Rattle.detection.proofs.TurnEffect.{Plain, Company}
use Rattle.detection.proofs.RoundKnowledge.{InRound, round-start, RoundKnowledge}
use Rattle.detection.proofs.Course.{Course, Tallied, course}
use Rattle.detection.proofs.Closing.{CubeRound}
use Rattle.detection.proofs.Cube.{cube}
use Rattle.detection.proofs.RingKnowledge.{ring}

-- no live station suspects a live one: the byte is 0, where rows hold 0 and 1 only
pub trusts : (w : Wiring) (n : ℕ) (t : List ℕ) → Accepted w n t → none_suspected n t ≡ true → (i j : ℕ) → i < n → j < n → live n t i ≡ true
    → live n t j ≡ true
    → suspects n t i j ≡ 0
unfolding none_suspected
trusts w n t ok none i j h g a b =
    let mine = every-at (λ k. every (no_live_suspicion n t k) n) n i none h in
    let all : no_live_suspicion n t i j ≡ true = every-at (no_live_suspicion n t i) n j mine g in
    let not_one = eqb-false (suspects n t i j) 1 (not-true _ (rw (a, b) at all)) in
    omega (arith, (accepted-line w n t ok i h).range j g)

-- where two stations are live each live one has another
pub company-of : (n : ℕ) (t : List ℕ) → 2 ≤ live_count n t → Company n (live n t)
unfolding live_count
company-of n t two i h l =
    by_bool (ltb p n)
    (λ e.
    let below = ltb-true p n e in
    let q = both (not (eqb p i)) (live n t p) (least-passes other n 0 (omega arith)) in
    (p, below, λ f. eqb-false p i (not-true (eqb p i) q.0) (sym f), q.1))
    (λ e.
    let dead : (k : ℕ) → k < n → k ≢ i → live n t k ≡ false = λ k g ne.
    rw (ne_eqb k i ne) at (least-before other n 0 k (omega arith) (omega (arith, ltb-false p n e))) in
    absurd (omega (arith, sum-single (λ k. bit (live n t k)) n i h (λ k g ne. ap bit (dead k g ne)), ap bit l)))
  where
    other : ℕ → Bool
    other k = not (eqb k i) && live n t k

    p : ℕ
    p = least other n 0

-- an accepted table in which no live station suspects a live one
pub plain-at : (w : Wiring) (n : ℕ) (t : List ℕ) → Accepted w n t
    → ((i j : ℕ) → i < n → j < n → live n t i ≡ true → live n t j ≡ true → suspects n t i j ≡ 0)
    → Plain w n (live n t) t
plain-at w n t ok clean = record { lines = (ok.long, accepted-line w n t ok); lives = λ i h. refl; accurate = clean }

-- such a table at the start of a round
pub first_round : (w : Wiring) (n : ℕ) (t : List ℕ) → Accepted w n t → at_start n t ≡ true
    → ((i j : ℕ) → i < n → j < n → live n t i ≡ true → live n t j ≡ true → suspects n t i j ≡ 0) → InRound w n (live n t) t [] t
unfolding at_start
first_round w n t ok start clean = round-start w n (live n t) t (plain-at w n t ok clean) fresh
  where
    fresh : (i : ℕ) → i < n → Reset n t i
    fresh i h =
        let all = both _ _ (every-at (line_at_start n t) n i start h) in
        let head = both _ _ all.0 in
        record { next = eqb-true _ 1 head.0; unfinished = eqb-true _ 0 head.1; untested = eqb-true _ 0 all.1 }

-- the rounds of a list of runs, from a table that refusals let through, on any wiring
pub rounds-from : (w : Wiring) (n : ℕ) (s : State) (calls : List Call) → DetectionPremises w n s calls → Accepted w n s.table
    → (K : RoundKnowledge w n (live n s.table))
    → Course w n (live n s.table) K.Gives s.table (rounds_of s calls) (after_runs s calls).table
    × Tallied [] s (rounds_of s calls) (after_runs s calls)
rounds-from w n s calls given ok K =
    let first = first_round w n s.table ok given.start (trusts w n s.table ok given.accurate) in
    let company = company-of n s.table given.two_live in
    let chain = on-wiring (chain-all n s calls given.long) given.one_wiring in
    course w n (live n s.table) K given.size company chain given.no_crash given.no_late s.table [] first (K.starts s.table first)

-- the claim, on a wiring on which `enough` rounds are enough, and after so many the closed ones have the count of tests
module _ (w : Wiring) (n : ℕ) (s : State) (calls : List Call) (given : DetectionPremises w n s calls) (K : RoundKnowledge w n (live n s.table))
    (enough : ℕ)
    (known : K.enough ≤ enough) (from : K.counted_from ≤ counted_from w enough) (count : K.count ≡ count_of w n s.table) where
  abbrev L : ℕ → Bool
  L = live n s.table

  detection-accepted : Accepted w n s.table → DetectionConclusion enough w n s calls (after_runs s calls)
  unfolding count_taken
  detection-accepted ok =
      let rounds = rounds-from w n s calls given ok K in
      let c = rounds.0 in
      record {
        same_live = c.plain.lives;
        turns = λ k i h g l. c.turns k i h g;
        exact_rows = λ far i j h g l.
            let exact = K.exact c.start _ _ c.gave (length (rounds_of s calls).closed) (omega arith) (omega arith) i j h g l in
            by_bool (L j) (λ e. rw e (c.plain.accurate i j h g l e)) (λ e. rw e (c.grown i j h g (exact e)));
        tests = λ k far h. K.counted c.start _ _ c.gave k (omega arith) h ∙ count;
        rounds_tally = rounds.1.rounds;
        tests_tally = omega (arith, rounds.1.tests);
      }

  -- no entry is taken, as on a table that the refusals turn away
  detection-none : taken_all s calls ≡ [] → after_runs s calls ≡ s → DetectionConclusion enough w n s calls (after_runs s calls)
  unfolding cut count_taken tests_of_all
  detection-none none stays =
      rw stays (record {
        same_live = λ i h. refl;
        turns = λ k i h g l.
            let first : k ≡ 0 = omega (arith, closed) in
            rw (first, none) (omega arith, λ e. absurd (omega (arith, size-bounds n given.size)));
        exact_rows = λ far. absurd (omega (arith, K.some_round, closed));
        tests = λ k far h. absurd (omega (arith, closed));
        rounds_tally = omega (arith, closed);
        tests_tally = rw none (omega arith);
      })
    where
      closed : length (rounds_of s calls).closed ≡ 0
      closed = rw none

  detection-by : DetectionConclusion enough w n s calls (after_runs s calls)
  detection-by = go (chain_first (on-wiring (chain-all n s calls given.long) given.one_wiring))
    where
      go : ((taken_all s calls ≡ []) × (after_runs s calls ≡ s)) ⊎ Accepted w n s.table
          → DetectionConclusion enough w n s calls (after_runs s calls)
      go (inl e) = detection-none e.0 e.1
      go (inr ok) = detection-accepted ok

-- the rounds on the cube
pub history : (n : ℕ) (s : State) (calls : List Call) → DetectionPremises Cube n s calls → Accepted Cube n s.table
    → Course Cube n (live n s.table) (CubeRound n s.table) s.table (rounds_of s calls) (after_runs s calls).table
    × Tallied [] s (rounds_of s calls) (after_runs s calls)
history n s calls given ok = rounds-from Cube n s calls given ok (cube n s.table given.size)

-- some station is live
pub someone : (n : ℕ) (t : List ℕ) → 1 ≤ live_count n t → (z : ℕ) × (z < n) × (live n t z ≡ true)
unfolding live_count
someone n t one =
    by_bool (ltb p n) (λ e. let below = ltb-true p n e in (p, below, least-passes (live n t) n 0 (omega arith)))
    (λ e.
    let none : (k : ℕ) → k < n → live n t k ≡ false = λ k h. least-before (live n t) n 0 k (omega arith) (omega (arith, ltb-false p n e)) in
    absurd (omega (arith, sum-zero {f = λ k. bit (live n t k)} n (λ k h. ap bit (none k h)))))
  where
    p : ℕ
    p = least (live n t) n 0

-- the claim on the cube
on-cube : (n : ℕ) → DetectionAt Cube n (worst_latency (dimension n))
on-cube n s calls given =
    detection-by Cube n s calls given (cube n s.table given.size) (worst_latency (dimension n)) (omega arith) (omega arith) refl

-- what the claim takes of the ring
abbrev pub ring-of : (n : ℕ) (s : State) (calls : List Call) → DetectionPremises Ring n s calls → RoundKnowledge Ring n (live n s.table)
ring-of n s calls given =
    let z = someone n s.table (omega (arith, given.two_live)) in
    ring Ring n (live n s.table) refl (omega (arith, size-bounds n given.size)) (company-of n s.table given.two_live) z.0 z.1 z.2

-- the claim on the ring
on-ring : (n : ℕ) → DetectionAt Ring n (ring_latency n)
on-ring n s calls given = detection-by Ring n s calls given (ring-of n s calls given) (ring_latency n) (omega arith) (omega arith) refl

-- the claim within the worst case, an end in itself
pub detection-in-worst-case : Detection worst_rounds
detection-in-worst-case Cube n = on-cube n
detection-in-worst-case Ring n = on-ring n

-- the rounds from which on the tests are counted grow with those that are enough
counted-later : (w : Wiring) (a b : ℕ) → a ≤ b → counted_from w a ≤ counted_from w b
counted-later w a b h = by_bool (is_ring w) (λ e. rw e (omega arith)) (λ e. rw e h)

-- and so within any number of rounds that is not less
pub within : (rounds : Wiring → ℕ → ℕ) → ((w : Wiring) (n : ℕ) → 2 ≤ n → worst_rounds w n ≤ rounds w n) → Detection rounds
within rounds enough w n s calls given =
    let c = detection-in-worst-case w n s calls given in
    let fewer : worst_rounds w n ≤ rounds w n = enough w n (omega (arith, size-bounds n given.size)) in
    record {
      same_live = c.same_live;
      turns = c.turns;
      exact_rows = λ far. c.exact_rows (le_trans fewer far);
      tests = λ k far. c.tests k (le_trans (counted-later w (worst_rounds w n) (rounds w n) fewer) far);
      rounds_tally = c.rounds_tally;
      tests_tally = c.tests_tally;
    }

-- within 1 + d(d − 1)/2 rounds on the cube and n − 1 on the ring, an end in itself
pub detection-in-triangle : DetectionInTriangle
detection-in-triangle =
    within triangle_rounds (λ w n h. by_bool (is_ring w) (λ e. rw e (omega arith)) (λ e. rw e (omega (arith, latency-le-triangle (dimension n)))))

-- within d·d rounds on the cube and n − 1 on the ring, an end in itself
pub detection-in-square : DetectionInSquare
detection-in-square =
    within square_rounds (λ w n h. by_bool (is_ring w) (λ e. rw e (omega arith)) (λ e. rw e (omega (arith, latency-le-square (dimension n)))))

-- the runs of a list and one more
after-one-more : (s : State) (calls : List Call) (c : Call) → after_runs s (calls ++ (c ∷ [])) ≡ after_run (after_runs s calls) c
unfolding after_runs
after-one-more s [] c = refl
after-one-more s (b ∷ calls) c = after-one-more (after_run s b) calls c

-- a claim about lists, of the last run of a list
last-run : (rounds : Wiring → ℕ → ℕ) → Detection rounds → (c : Call) (before : State) → DetectionAfter rounds c before (after_run before c)
last-run rounds claim c before w n s calls e given = rw (after-one-more s calls c, e) at (claim w n s (calls ++ (c ∷ [])) given)

-- a run promises the claim, wherever it stands in a list
pub run-detects : (c : Call) (s : State) → DetectionInList c s (after_run s c)
run-detects c s = record {
  in_square = last-run square_rounds detection-in-square c s;
  in_triangle = last-run triangle_rounds detection-in-triangle c s;
  in_worst_case = last-run worst_rounds detection-in-worst-case c s;
}
