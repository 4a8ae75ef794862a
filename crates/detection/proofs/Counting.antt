-- What bytes 2 and 3 of the lines count: turns and tests since a round's start, or since any table within it. It is not supposed here that no live
-- station suspects a live one.
-- Assumes nothing.
use mathlib.Core.Path.{◌≡◌, refl, sym, ap, ap₂, ◌∙◌}
use mathlib.Core.Logic.{by_cases}
use mathlib.Core.Bool.{Bool, true, false, not, ◌&&◌, ◌||◌, and-false}
use mathlib.Core.List.{List, [], ◌∷◌, ◌++◌}
use Prim.Native.Nat.{ℕ, suc, ◌+◌, ◌≤◌, ◌<◌}
use native.Mathlib.Decide.{ℕ_discrete}
use native.Mathlib.Omega.{arith}
use borrow.Author.Tests.{eq-eqb, ne_eqb, eqb-true}
use lib.Dec.{eqb}
use Rattle.table.specs.Sizes.{is_size}
use Rattle.table.specs.Wiring.{end_distance}
use Rattle.table.specs.Table.{cell, status_column, next_column, finished_column, tests_column, next_distance, finished, tests_made, live}
use Rattle.station.proofs.Presence.{standing, standing-all, standing-more, standing-grows, standing-own}
use Rattle.table.specs.Rules.{not_live, some_live, finished_if_live, live_finished, round_over}
use Rattle.plant.specs.Turn.{next_test, makes_test}
use Rattle.station.specs.Wired.{next_after}
use Rattle.plant.specs.Round.{after_round}
use Rattle.plant.proofs.NextTest.{next_test-low, test_below, test-station}
use Rattle.plant.specs.Entry.{Entry, State, is_crash, acted, after}
use Rattle.table.proofs.CellLaws.{TurnCounts}
use Rattle.plant.proofs.RoundLaws.{Reset, reset-other}
use Rattle.station.proofs.WiredLaws.{next_after-between}
use Rattle.plant.proofs.StepLines.{Lines}
use Rattle.lists.specs.Sums.{sum_below, bit}
use Rattle.detection.specs.Runs.{Taken, table_after, is_turn_of, taken_test}
use Rattle.detection.specs.Rounds.{any_taken, count_taken, closes, finishes_of, finished_or_not_live, tests_in, turns_in, nth_turn_finishes}
use Rattle.lists.proofs.BoolLaws.{by_bool, choice, bit-split, every-same}
use Rattle.lists.proofs.SumLaws.{sum_by, sum-add, sum-single}
use Rattle.table.specs.declared.wiring.Wiring.{Wiring}
use Rattle.detection.specs.Claim.{TurnsOk}
use Rattle.detection.specs.Boards.{is_test_of}
use Rattle.detection.proofs.TakenLaws.{taken_at, any-one, count-snoc, nth-snoc-turn, nth-snoc-other}
use Rattle.plant.proofs.TurnHeads.{Heads}

-- from t₀ to t, by the entries `cur`
pub record Counts (n : ℕ) (t₀ : List ℕ) (cur : List Taken) (t : List ℕ) : Type 0 where
  pub turns : (i : ℕ) → i < n → tests_made n t i + finished n t i ≡ tests_made n t₀ i + finished n t₀ i + turns_in i cur
  pub ended : (i : ℕ) → i < n → finished n t i ≡ finished n t₀ i + count_taken (finishes_of i) cur
  pub last_ends : (i : ℕ) → i < n → 1 ≤ count_taken (finishes_of i) cur → nth_turn_finishes i (turns_in i cur) cur ≡ true
  pub tests : sum_below (tests_made n t) n ≡ sum_below (tests_made n t₀) n + tests_in cur

pub counts_start : (n : ℕ) (t : List ℕ) → Counts n t [] t
unfolding count_taken
counts_start n t =
    record { turns = λ i h. omega arith; ended = λ i h. omega arith; last_ends = λ i h e. absurd (omega arith); tests = omega arith }

-- a taken turn keeps it
module _ (w : Wiring) (n : ℕ) (s : State) (e : Entry) (o : ℕ) (t₀ t' : List ℕ) (cur : List Taken) (no_crash : is_crash e ≡ false)
    (below : e.station < n)
    (unfinished : finished n s.table e.station ≡ 0) (heads : Heads w n s.table t' e.station o (makes_test w n s.table e.station))
    (c : Counts n t₀ cur s.table) where
  abbrev t : List ℕ
  t = s.table

  abbrev i : ℕ
  i = e.station

  abbrev b : Bool
  b = makes_test w n t i

  abbrev x : Taken
  x = taken_at w n s e

  abbrev here : List Taken
  here = cur ++ (x ∷ [])

  -- bytes 2 and 3 of any line
  tests-of : (k : ℕ) → tests_made n t' k ≡ tests_made n t k + bit (eqb i k && b)
  tests-of k =
      by_cases (ℕ_discrete k i) (λ p. rw (p, eq-eqb i i refl) heads.tests)
      (λ p. rw (ne_eqb i k (λ q. p (sym q))) (omega (arith, heads.others k tests_column p (omega arith))))

  finish-of : (k : ℕ) → finished n t' k ≡ finished n t k + bit (eqb i k && not b)
  finish-of k =
      by_cases (ℕ_discrete k i) (λ p. rw (p, eq-eqb i i refl, heads.finish, unfinished) (by_bool b (λ q. rw q) (λ q. rw q)))
      (λ p. rw (ne_eqb i k (λ q. p (sym q))) (omega (arith, heads.others k finished_column p (omega arith))))

  -- what the entry counts
  turn-of : (k : ℕ) → is_turn_of k x ≡ eqb i k
  turn-of k = rw no_crash

  end_of : (k : ℕ) → finishes_of k x ≡ (eqb i k && not b)
  end_of k = rw no_crash

  turns-of : (k : ℕ) → turns_in k here ≡ turns_in k cur + bit (eqb i k)
  turns-of k = count-snoc (is_turn_of k) cur x ∙ rw (turn-of k)

  ends_of : (k : ℕ) → count_taken (finishes_of k) here ≡ count_taken (finishes_of k) cur + bit (eqb i k && not b)
  ends_of k = count-snoc (finishes_of k) cur x ∙ rw (end_of k)

  last : (k : ℕ) → k < n → 1 ≤ count_taken (finishes_of k) here → nth_turn_finishes k (turns_in k here) here ≡ true
  last k h some =
      by_bool (eqb i k)
      (λ q.
      let more : turns_in k here ≡ suc (turns_in k cur) = omega (arith, rw q at (turns-of k)) in
      let none : count_taken (finishes_of k) cur ≡ 0 = let k=i = eqb-true i k q in omega (arith, c.ended k h, rw k=i at unfinished) in
      rw more (nth-snoc-turn k cur x (turn-of k ∙ q)
      ∙ by_bool b (λ p. absurd (omega (arith, rw (q, p) at (ends_of k)))) (λ p. rw (no_crash, p))))
      (λ q.
      let same : turns_in k here ≡ turns_in k cur = omega (arith, rw q at (turns-of k)) in
      rw same (nth-snoc-other k (turns_in k cur) cur x (turn-of k ∙ q) ∙ c.last_ends k h (omega (arith, rw q at (ends_of k)))))

  pub turn-counts : Counts n t₀ here t'
  turn-counts = record {
    turns = λ k h. omega (arith, c.turns k h, tests-of k, finish-of k, bit-split (eqb i k) b, turns-of k);
    ended = λ k h. omega (arith, c.ended k h, finish-of k, ends_of k);
    last_ends = last;
    tests =
        let one : bit (taken_test x) ≡ bit b = rw no_crash in
        let f : ℕ → ℕ = λ k. bit (eqb i k && b) in
        let mine : sum_below f n ≡ f i = sum-single f n i below (λ k h p. rw (ne_eqb i k (λ q. p (sym q)))) in
        let whole : bit (eqb i i && b) ≡ bit b = rw (eq-eqb i i refl) in
        omega (arith, sum_by n (λ k h. tests-of k), sum-add (tests_made n t) f n, c.tests, count-snoc taken_test cur x);
  }

-- and so does a crash, which is no turn and leaves bytes 2 and 3
pub crash-counts : (w : Wiring) (n : ℕ) (s : State) (e : Entry) (t₀ t' : List ℕ) (cur : List Taken) → is_crash e ≡ true
    → ((k c : ℕ) → TurnCounts c → cell n t' k c ≡ cell n s.table k c) → Counts n t₀ cur s.table → Counts n t₀ (cur ++ (taken_at w n s e ∷ [])) t'
crash-counts w n s e t₀ t' cur crashed same c = record {
  turns = λ k h. omega (arith, tests_same k, finish-same k, c.turns k h, no-turn k);
  ended = λ k h. omega (arith, finish-same k, c.ended k h, no_end k);
  last_ends = λ k h some.
      rw (no-turn k) (nth-snoc-other k (turns_in k cur) cur x (rw crashed) ∙ c.last_ends k h (omega (arith, no_end k)));
  tests = omega (arith, sum_by n (λ k h. tests_same k), c.tests, count-snoc taken_test cur x, rw crashed at (count-snoc taken_test cur x));
}
  where
    x : Taken
    x = taken_at w n s e

    tests_same : (k : ℕ) → tests_made n t' k ≡ tests_made n s.table k
    tests_same k = same k tests_column (omega arith)

    finish-same : (k : ℕ) → finished n t' k ≡ finished n s.table k
    finish-same k = same k finished_column (omega arith)

    no-turn : (k : ℕ) → turns_in k (cur ++ (x ∷ [])) ≡ turns_in k cur
    no-turn k = omega (arith, rw crashed at (count-snoc (is_turn_of k) cur x))

    no_end : (k : ℕ) → count_taken (finishes_of k) (cur ++ (x ∷ [])) ≡ count_taken (finishes_of k) cur
    no_end k = omega (arith, rw (crashed, and-false) at (count-snoc (finishes_of k) cur x))

-- a turn makes a test or finishes the pass
pub turns-split : (i : ℕ) (xs : List Taken) → turns_in i xs ≡ count_taken (is_test_of i) xs + count_taken (finishes_of i) xs
unfolding count_taken
turns-split i [] = omega arith
turns-split i (x ∷ xs) =
    omega (arith, turns-split i xs, bits (eqb x.entry.station i) (is_crash x.entry) (makes_test x.wiring x.size x.before.table x.entry.station))
  where
    bits : (own crashed tests : Bool)
        → bit (not crashed && own) ≡ bit (own && (not crashed && tests)) + bit (own && (not crashed && not (not crashed && tests)))
    bits own true tests = rw and-false
    bits true false true = refl
    bits true false false = refl
    bits false false tests = refl

-- fewer tests are made in a round than stations stand at the distances passed, for the station itself stands at 0
abbrev pub Roomy : Wiring → ℕ → List ℕ → Type 0
Roomy w n t = (i : ℕ) → i < n → suc (tests_made n t i) ≤ standing w n i (next_distance n t i)

-- where a round starts
pub roomy-start : (w : Wiring) (n : ℕ) (t : List ℕ) → ((i : ℕ) → i < n → Reset n t i) → Roomy w n t
roomy-start w n t fresh i h = rw ((fresh i h).untested, (fresh i h).next) (omega (arith, standing-own w n i h))

-- a turn keeps it
pub turn-roomy : (w : Wiring) (n : ℕ) (t t' : List ℕ) (i o : ℕ) → Lines w n t → i < n → Heads w n t t' i o (makes_test w n t i) → Roomy w n t
    → Roomy w n t'
turn-roomy w n t t' i o lines below heads roomy k h = by_cases (ℕ_discrete k i) (λ e. rw e own) other
  where
    own : suc (tests_made n t' i) ≤ standing w n i (next_distance n t' i)
    own =
        by_bool (makes_test w n t i)
        (λ e.
        let m : ℕ = next_test w n t i in
        let more = standing-more w n i m (test-station w n t i e lines.0 below) in
        let up = standing-grows w n i (next_distance n t i) m (next_test-low w n t i) in
        let on = standing-grows w n i (suc m) (next_after w n m o) (next_after-between w n m o (test_below w n t i e)).0 in
        rw (heads.next, heads.tests, e) (omega (arith, roomy i below)))
        (λ e.
        let up = standing-grows w n i (next_distance n t i) (end_distance w n) (lines.1 i below).pass.next_high in
        rw (heads.next, heads.tests, e) (omega (arith, roomy i below)))

    other : ¬ (k ≡ i) → suc (tests_made n t' k) ≤ standing w n k (next_distance n t' k)
    other e =
        rw (heads.others k tests_column e (omega arith), heads.others k next_column e (omega arith)) (roomy k h)

-- in a round, from its start on
module _ (w : Wiring) (n : ℕ) (t₀ t : List ℕ) (cur : List Taken) (fresh : (i : ℕ) → i < n → Reset n t₀ i) (lines : Lines w n t)
    (c : Counts n t₀ cur t) where
  pub turns-ok : is_size n ≡ true → Roomy w n t → (i : ℕ) → i < n → TurnsOk n i cur
  turns-ok size roomy i h =
      let line = lines.1 i h in
      let up = standing-grows w n i (next_distance n t i) (end_distance w n) line.pass.next_high in
      let room : suc (tests_made n t i) ≤ n = omega (arith, roomy i h, up, standing-all w n i size h) in
      let spent : finished n t i + tests_made n t i ≡ turns_in i cur = omega (arith, c.turns i h, fresh i h) in (
        omega arith,
        λ e.
            let all : turns_in i cur ≡ n = omega arith in
            rw all at (c.last_ends i h (omega (arith, c.ended i h, fresh i h))),
      )

  any-finished : (i : ℕ) → i < n → any_taken (finishes_of i) cur ≡ eqb (finished n t i) 1
  any-finished i h =
      let same : finished n t i ≡ count_taken (finishes_of i) cur = omega (arith, c.ended i h, fresh i h) in
      rw same (any-one (finishes_of i) cur (omega (arith, (lines.1 i h).pass.finished_range)))

  -- a round of entries closes exactly where the table's round does
  pub closes-is : (s : State) (e : Entry) → acted w n s.table e ≡ t → closes cur (taken_at w n s e) ≡ round_over n t
  unfolding closes some_live live_finished after after_round
  closes-is s e acts =
      ap₂ ◌&&◌ (ap not (every-same (not_live n (table_after x)) (not_live n t) n (λ k h. ap not (alike k))))
      (every-same (finished_or_not_live cur x) (finished_if_live n t) n (λ k h. ap₂ ◌||◌ (ap not (alike k)) (any-finished k h)))
    where
      x : Taken
      x = taken_at w n s e

      alike : (k : ℕ) → live n (table_after x) k ≡ live n t k
      alike k =
          let reset = reset-other n t k status_column (omega arith) (λ p. omega arith) in
          rw acts (choice (λ u. live n u k ≡ live n t k) (round_over n t) (rw reset) refl)
