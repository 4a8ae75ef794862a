-- What every turn of any station in an accepted table does to the columns that it counts in, whoever suspects whom and whatever its outcome.
-- Assumes nothing.
use mathlib.Core.Path.{◌≡◌, refl, sym, ◌∙◌, ap, ap₂}
use mathlib.Core.Logic.{◌≢◌}
use mathlib.Core.Bool.{Bool, true, false, cond}
use mathlib.Core.List.{List, [], ◌∷◌, ◌++◌, append-nil}
use Prim.Native.Nat.{ℕ, ◌+◌, ◌≤◌, ◌<◌}
use native.Mathlib.Numerals.{add-one}
use native.Mathlib.Omega.{arith}
use lib.ListN.{length, length-append}
use lib.Dec.{eqb}
use Rattle.lists.specs.Search.{select}
use Rattle.table.specs.Wiring.{end_distance}
use Rattle.station.specs.Wired.{wired_station, wired_due}
use Rattle.table.specs.Table.{table_length, cell, status_column, next_column, finished_column, tests_column, next_distance, finished, tests_made}
use Rattle.table.specs.Table.{row, status_alone}
use Rattle.table.proofs.CellLaws.{TurnCounts, cell_other}
use Rattle.plant.specs.Turn.{set_status, leave_told, next_test, makes_test, count_test, after_outcome, after_test, is_alone, after_alone}
use Rattle.plant.specs.Turn.{outcome_at, testing, turn}
use Rattle.station.specs.Outcome.{outcome_exchanged, outcome_told, outcome_tested_told}
use Rattle.station.specs.Wired.{next_after}
use Rattle.plant.proofs.NextTest.{next_test-low, not-due-before, test_below, test-station, test-due, none-due}
use Rattle.plant.proofs.StepCells.{leave_told-other, finish_pass-other, finish_pass-next, finish_pass-finished, count_test-length, count_test-other}
use Rattle.plant.proofs.StepCells.{count_test-next, count_test-tests, suspect-other, exchange-other}
use Rattle.station.specs.Tests.{due}
use Rattle.station.proofs.WiredLaws.{cube_due, station-apart}
use Rattle.plant.proofs.StepLines.{Lines}
use Rattle.lists.specs.Sums.{sum_below, bit}
use Rattle.lists.proofs.BoolLaws.{by_bool, choice}
use Rattle.lists.proofs.FilterLaws.{select-suc, select-stays, select-sum}
use Rattle.table.specs.declared.wiring.Wiring.{Wiring}
use Rattle.table.specs.declared.wiring.Wiring.TheVariants.{Cube}

-- the columns that a turn counts in are as before, in all lines
abbrev SameCounts : ℕ → List ℕ → List ℕ → Type 0
SameCounts n t t' = (k c : ℕ) → TurnCounts c → cell n t' k c ≡ cell n t k c

-- what comes of a test leaves bytes 1 to 3
left-counts : (n : ℕ) (t : List ℕ) (i s : ℕ) → SameCounts n t (set_status n t i s)
left-counts n t i s k c counts = cell_other n t i status_column s k c (omega arith) (omega arith) (λ _. omega arith)

told-counts : (n : ℕ) (t : List ℕ) (a b : ℕ) → SameCounts n t (leave_told n t a b)
told-counts n t a b k c counts = leave_told-other n t a b k c (omega arith) (λ _. omega arith)

module _ (n : ℕ) (t : List ℕ) (i : ℕ) where
  alone-counts : SameCounts n t (after_alone n t i)
  unfolding after_alone
  alone-counts = choice (SameCounts n t) (is_alone n t i) (left-counts n t i status_alone) (λ k c counts. refl)

  outcome-counts : (o j : ℕ) → length t ≡ table_length n → i < n → j < n → i ≢ j → SameCounts n t (after_outcome n t i j o)
  unfolding after_outcome
  outcome-counts o j long hi hj apart =
      choice (SameCounts n t) (eqb o outcome_told) (told-counts n t i j)
      (choice (SameCounts n t) (eqb o outcome_tested_told) (told-counts n t j i)
      (choice (SameCounts n t) (eqb o outcome_exchanged)
      (λ k c counts. exchange-other n t i long hi j hj apart k c (omega arith) (λ _. omega arith) (λ _. omega arith))
      (λ k c counts. suspect-other n t i long hi j k c (omega arith) (λ _. omega arith))))

-- what a turn of i does to them, where b says whether it makes a test, and o what comes of that
pub record Heads (w : Wiring) (n : ℕ) (t t' : List ℕ) (i o : ℕ) (b : Bool) : Type 0 where
  pub others : (k c : ℕ) → k ≢ i → TurnCounts c → cell n t' k c ≡ cell n t k c
  pub next : next_distance n t' i ≡ cond b (next_after w n (next_test w n t i) o) (end_distance w n)
  pub finish : finished n t' i ≡ cond b (finished n t i) 1
  pub tests : tests_made n t' i ≡ tests_made n t i + bit b

pub turn-heads : (w : Wiring) (n : ℕ) (t : List ℕ) (kind i : ℕ) → Lines w n t → i < n
    → Heads w n t (turn w n t kind i) i (outcome_at w n t kind i (next_test w n t i)) (makes_test w n t i)
unfolding turn testing after_test
turn-heads w n t kind i lines h =
    by_bool (makes_test w n t i) (λ e. rw e (makes e)) (λ e. rw e (record {
      others = λ k c other counts. finish_pass-other n t i w k c (omega arith) (λ p. omega arith);
      next = finish_pass-next n t i lines.0 h w;
      finish = finish_pass-finished n t i lines.0 h w;
      tests = omega (arith, finish_pass-other n t i w i tests_column (omega arith) (λ p. omega arith));
    }))
  where
    m : ℕ
    m = next_test w n t i

    o : ℕ
    o = outcome_at w n t kind i m

    makes : makes_test w n t i ≡ true → Heads w n t (testing w n t kind i m) i o true
    makes e =
        let j : ℕ = wired_station w n i m in
        let t₁ : List ℕ = count_test w n t i m o in
        let x<n = test-station w n t i e lines.0 h in
        let apart = station-apart w n i m h (omega (arith, (lines.1 i h).pass.next_low, next_test-low w n t i)) (test_below w n t i e) in
        let same : (k c : ℕ) → TurnCounts c → cell n (testing w n t kind i m) k c ≡ cell n t₁ k c =
        λ k c counts. alone-counts n (after_outcome n t₁ i j o) i k c counts
        ∙ outcome-counts n t₁ i o j (count_test-length n t i w m o ∙ lines.0) h x<n apart k c counts in
        record {
          others = λ k c other counts. same k c counts ∙ count_test-other n t i w m o k c (omega arith) (λ p. omega arith);
          next = same i next_column (omega arith) ∙ count_test-next n t i lines.0 h w m o;
          finish =
              same i finished_column (omega arith)
              ∙ count_test-other n t i w m o i finished_column (omega arith) (λ p. omega arith);
          tests = same i tests_column (omega arith) ∙ count_test-tests n t i lines.0 h w m o;
        }

-- on the cube: of the distances that a turn passes one is due if it makes a test, and none if it makes none
module _ (n : ℕ) (t t' : List ℕ) (i o : ℕ) (heads : Heads Cube n t t' i o (makes_test Cube n t i))
    (high : next_distance n t i ≤ end_distance Cube n) where
  abbrev q : ℕ → Bool
  q = due (row n t i) i

  abbrev m : ℕ
  m = next_test Cube n t i

  -- what is asked on the cube is whether the distance is due
  asked : (y : ℕ) (b : Bool) → wired_due Cube (row n t i) i y ≡ b → q y ≡ b
  asked y b e = sym (cube_due Cube (row n t i) i y refl) ∙ e

  stays : next_after Cube n m o ≡ m + 1
  unfolding next_after
  stays = refl

  pub passed-list : select q (next_distance n t' i) ≡ select q (next_distance n t i) ++ cond (makes_test Cube n t i) (m ∷ []) []
  passed-list =
      by_bool (makes_test Cube n t i)
      (λ e.
      let stay =
      select-stays q (next_distance n t i) m (next_test-low Cube n t i)
      (λ y a b. asked y false (not-due-before Cube n t i y a b)) in
      rw (heads.next, e, stays, add-one m, select-suc q m, asked m true (test-due Cube n t i e), stay))
      (λ e.
      let stay =
      select-stays q (next_distance n t i) (end_distance Cube n) high (λ y a b. asked y false (none-due Cube n t i e high y a b)) in
      rw (heads.next, e, append-nil) stay)

  pub passed-dues : sum_below (λ x. bit (q x)) (next_distance n t' i) ≡ sum_below (λ x. bit (q x)) (next_distance n t i) + bit
      (makes_test Cube n t i)
  passed-dues =
      sym (select-sum q (next_distance n t' i))
      ∙ (ap length passed-list ∙ length-append (select q (next_distance n t i)) (cond (makes_test Cube n t i) (m ∷ []) []))
      ∙ ap₂ ◌+◌ (select-sum q (next_distance n t i)) (by_bool (makes_test Cube n t i) (λ e. rw e) (λ e. rw e))
