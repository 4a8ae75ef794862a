-- No entry takes a suspicion back, whatever its kind and outcome.
-- Assumes nothing.
use mathlib.Core.Path.{◌≡◌, ◌∙◌}
use mathlib.Core.Logic.{◌≢◌}
use mathlib.Core.Bool.{true}
use mathlib.Core.List.{List}
use Prim.Native.Nat.{ℕ, ◌+◌, ◌≤◌, ◌<◌}
use native.Mathlib.Decide.{ℕ_discrete}
use native.Mathlib.Omega.{arith}
use lib.Dec.{eqb}
use lib.ListN.{length}
use Rattle.table.specs.Table.{head, table_length, status_column, suspects, status_alone, status_crashed}
use Rattle.lists.proofs.BoolLaws.{by_bool, choice}
use Rattle.table.proofs.CellLaws.{cell_other}
use Rattle.table.specs.declared.wiring.Wiring.{Wiring}
use Rattle.plant.specs.Turn.{outcome_at, set_status, leave_told, next_test, makes_test, finish_pass, count_test}
use Rattle.plant.specs.Turn.{suspect, after_outcome, after_test, is_alone, after_alone, testing, turn, crash}
use Rattle.station.specs.Outcome.{outcome_exchanged, outcome_told, outcome_tested_told}
use Rattle.plant.specs.Entry.{Entry, is_crash, acted}
use Rattle.plant.proofs.NextTest.{test_below, next_test-low, test-station}
use Rattle.station.specs.Wired.{wired_station}
use Rattle.station.proofs.WiredLaws.{station-apart}
use Rattle.plant.proofs.StepCells.{leave_told-other, finish_pass-other, count_test-length, count_test-other, suspect-same, suspect-other}
use Rattle.plant.proofs.StepLines.{Lines}
use Rattle.detection.proofs.TurnEffect.{exchange-between}

-- each row suspects after it whom it suspected before
abbrev pub Grows : ℕ → List ℕ → List ℕ → Type 0
Grows n t t' = (k y : ℕ) → k < n → y < n → suspects n t k y ≤ suspects n t' k y

-- where no row changes
abbrev RowsStay : ℕ → List ℕ → List ℕ → Type 0
RowsStay n t t' = (k y : ℕ) → y < n → suspects n t' k y ≡ suspects n t k y

left-rows : (n : ℕ) (t : List ℕ) (i s : ℕ) → RowsStay n t (set_status n t i s)
left-rows n t i s k y h = cell_other n t i status_column s k (head + y) (omega arith) (omega arith) (λ _. omega arith)

told-rows : (n : ℕ) (t : List ℕ) (a b : ℕ) → RowsStay n t (leave_told n t a b)
told-rows n t a b k y h = leave_told-other n t a b k (head + y) (omega arith) (λ _. omega arith)

same_grows : (n : ℕ) (t t' : List ℕ) → RowsStay n t t' → Grows n t t'
same_grows n t t' same k y hk hy = omega (arith, same k y hy)

-- the test of j; a row has bytes of at most 1
test-grows : (n : ℕ) (t : List ℕ) (o i j : ℕ) → length t ≡ table_length n → i < n → j < n → i ≢ j
    → ((k y : ℕ) → k < n → y < n → suspects n t k y ≤ 1) → Grows n t (after_outcome n t i j o)
unfolding after_outcome
test-grows n t o i j long hi hj apart small =
    choice (Grows n t) (eqb o outcome_told) (same_grows n t _ (told-rows n t i j))
    (choice (Grows n t) (eqb o outcome_tested_told) (same_grows n t _ (told-rows n t j i))
    (choice (Grows n t) (eqb o outcome_exchanged)
    (λ k y hk hy. (exchange-between n t i j long hi hj apart k y hy).0) suspected))
  where
    suspected : Grows n t (suspect n t i j)
    suspected k y hk hy = pick (ℕ_discrete i k) (ℕ_discrete y j)
      where
        pick : Dec (i ≡ k) → Dec (y ≡ j) → suspects n t k y ≤ suspects n (suspect n t i j) k y
        pick (yes e) (yes f) = rw (← e, f) (omega (arith, suspect-same n t i long hi j hj, small i j hi hj))
        pick (yes e) (no f) = omega (arith, suspect-other n t i long hi j k (head + y) (omega arith) (λ q. omega arith))
        pick (no e) f = omega (arith, suspect-other n t i long hi j k (head + y) (omega arith) (λ q. absurd (e q)))

turn-grows : (w : Wiring) (n : ℕ) (t : List ℕ) (kind i : ℕ) → Lines w n t → i < n → Grows n t (turn w n t kind i)
unfolding turn testing after_test after_alone
turn-grows w n t kind i lines h =
    by_bool (makes_test w n t i) (λ e. rw e (tests e))
    (λ e. rw e (same_grows n t (finish_pass w n t i) (λ k y hy. finish_pass-other n t i w k (head + y) (omega arith) (λ q. omega arith))))
  where
    m : ℕ
    m = next_test w n t i

    j : ℕ
    j = wired_station w n i m

    o : ℕ
    o = outcome_at w n t kind i m

    t₁ : List ℕ
    t₁ = count_test w n t i m o

    counted : RowsStay n t t₁
    counted k y hy = count_test-other n t i w m o k (head + y) (omega arith) (λ q. omega arith)

    tests : makes_test w n t i ≡ true → Grows n t (testing w n t kind i m)
    tests e k y hk hy =
        let x<n = test-station w n t i e lines.0 h in
        let apart = station-apart w n i m h (omega (arith, (lines.1 i h).pass.next_low, next_test-low w n t i)) (test_below w n t i e) in
        let long : length t₁ ≡ table_length n = count_test-length n t i w m o ∙ lines.0 in
        let small : (a b : ℕ) → a < n → b < n → suspects n t₁ a b ≤ 1 = λ a b ha hb. omega (arith, counted a b hb, (lines.1 a ha).range b hb) in
        let t₂ : List ℕ = after_outcome n t₁ i j o in
        let grown = test-grows n t₁ o i j long h x<n apart small k y hk hy in
        let last : suspects n t₂ k y ≤ suspects n (after_alone n t₂ i) k y =
        choice (λ u. suspects n t₂ k y ≤ suspects n u k y) (is_alone n t₂ i) (omega (arith, left-rows n t₂ i status_alone k y hy)) (omega arith) in
        omega (arith, counted k y hy, grown, last)

pub acted-grows : (w : Wiring) (n : ℕ) (t : List ℕ) (e : Entry) → Lines w n t → e.station < n → Grows n t (acted w n t e)
unfolding acted crash
acted-grows w n t e lines h =
    choice (Grows n t) (is_crash e) (same_grows n t _ (left-rows n t e.station status_crashed)) (turn-grows w n t e.kind e.station lines h)
