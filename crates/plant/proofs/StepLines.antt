-- Each part of a turn keeps the line rules of every line.
-- Assumes nothing.
use mathlib.Core.Path.{◌≡◌, refl, sym, ◌∙◌}
use mathlib.Core.Logic.{◌≢◌}
use mathlib.Core.Bool.{Bool, true, false, cond}
use mathlib.Core.List.{List}
use Prim.Native.Nat.{ℕ, ◌+◌, ◌≤◌, ◌<◌}
use native.Mathlib.Decide.{ℕ_discrete}
use native.Mathlib.Omega.{arith}
use borrow.Author.Tests.{eqb-true}
use lib.Dec.{eqb}
use lib.ListN.{length}
use Rattle.table.specs.Wiring.{end_distance}
use Rattle.station.specs.Wired.{wired_station}
use Rattle.table.specs.Table.{head, stride, table_length, cell, status_column, next_column, finished_column, tests_column, told_by_column}
use Rattle.table.specs.Table.{rounds_ago_column, status, status_told, status_alone, next_distance, finished, told_by, rounds_ago, suspects, live}
use Rattle.lists.proofs.BoolLaws.{by_bool, choice}
use Rattle.lists.proofs.SearchLaws.{both}
use Rattle.station.proofs.WiredLaws.{station-apart, next_after-between}
use Rattle.table.specs.Rules.{exit_rule}
use Rattle.table.proofs.CellLaws.{Line, live_exit, told-exit, none-exit, cell_same, cell_other, set_cell-length}
use Rattle.table.specs.declared.wiring.Wiring.{Wiring}
use Rattle.plant.specs.Turn.{set_status, leave_told, makes_test, next_test, finish_pass, count_test, exchange_rows, suspect, after_outcome}
use Rattle.plant.specs.Turn.{after_test, is_alone, after_alone, outcome_at, testing, turn}
use Rattle.station.specs.Outcome.{outcome_exchanged, outcome_told, outcome_tested_told}
use Rattle.plant.proofs.NextTest.{next_test-low, test_below, test-station}
use Rattle.plant.proofs.StepCells.{leave_told-length, leave_told-other, leave_told-status, leave_told-teller, finish_pass-length, finish_pass-other}
use Rattle.plant.proofs.StepCells.{finish_pass-next, finish_pass-finished, count_test-length, count_test-other, count_test-next, count_test-tests}
use Rattle.plant.proofs.StepCells.{suspect-length, suspect-same, suspect-other, exchange-length, exchange-other, exchange-tester, exchange-tested}
use Rattle.plant.proofs.StepCells.{exchange-tester-own, exchange-tested-own}

-- the table has its length, and each line obeys the rules
abbrev pub Lines : Wiring → ℕ → List ℕ → Type 0
Lines w n t = (length t ≡ table_length n) × ((i : ℕ) → i < n → Line w n t i)

-- a line whose head is as before
line_row : (w : Wiring) (n : ℕ) (t t' : List ℕ) (k : ℕ) → Line w n t k → ((c : ℕ) → c < head → cell n t' k c ≡ cell n t k c)
    → suspects n t' k k ≡ 0 → ((x : ℕ) → x < n → suspects n t' k x ≤ 1) → Line w n t' k
line_row w n t t' k l same own range =
    record {
      status_range = rw (same status_column (omega arith)) l.status_range;
      pass = rw (same next_column (omega arith), same finished_column (omega arith), same tests_column (omega arith)) l.pass;
      exits = rw (same status_column (omega arith), same told_by_column (omega arith), same rounds_ago_column (omega arith)) l.exits;
      own = own;
      range = range;
    }

-- all lines obey the rules where line i does and no other is written
one_line : (w : Wiring) (n : ℕ) (t t' : List ℕ) (i : ℕ) → length t' ≡ length t → ((k c : ℕ) → c < stride n → i ≢ k → cell n t' k c ≡ cell n t k c)
    → Line w n t' i → Lines w n t → Lines w n t'
one_line w n t t' i len same here old = (len ∙ old.0, λ k h. pick k h (ℕ_discrete i k))
  where
    pick : (k : ℕ) → k < n → Dec (i ≡ k) → Line w n t' k
    pick k h (yes e) = rw (← e) here
    pick k h (no d) =
        let l = old.1 k h in
        line_row w n t t' k l (λ c hc. same k c (omega arith) d) (same k (head + k) (omega arith) d ∙ l.own)
        (λ x hx. rw (same k (head + x) (omega arith) d) (l.range x hx))

-- a line of which only bytes 0 and 4 are written
line-exit : (w : Wiring) (n : ℕ) (t t' : List ℕ) (k : ℕ) → Line w n t k
    → ((c : ℕ) → c < stride n → (c ≢ status_column) × (c ≢ told_by_column) → cell n t' k c ≡ cell n t k c)
    → (s : ℕ) → status n t' k ≡ s → s ≤ 3 → exit_rule n k s (told_by n t' k) (rounds_ago n t k) ≡ true → k < n → Line w n t' k
line-exit w n t t' k l same s e hs exits h =
    let pass : (c : ℕ) → (c ≢ status_column) × (c < told_by_column) → cell n t' k c ≡ cell n t k c = λ c p. same c (omega arith) (omega arith) in
    record {
      status_range = omega arith;
      pass = rw (pass next_column (omega arith), pass finished_column (omega arith), pass tests_column (omega arith)) l.pass;
      exits = rw (e, same rounds_ago_column (omega arith) (omega arith)) exits;
      own = same (head + k) (omega arith) (omega arith) ∙ l.own;
      range = λ x hx. rw (same (head + x) (omega arith) (omega arith)) (l.range x hx);
    }

-- alone or crashed: the status of a live station, not because told
pub leave-lines : (w : Wiring) (n : ℕ) (t : List ℕ) (i : ℕ) → Lines w n t → i < n → live n t i ≡ true
    → (s : ℕ) → 1 ≤ s → s ≤ 3 → s ≢ status_told → Lines w n (set_status n t i s)
leave-lines w n t i lines h alive s low high untold =
    let other : (c : ℕ) → c < stride n → (c ≢ status_column) × (c ≢ told_by_column) → cell n (set_status n t i s) i c ≡ cell n t i c =
    λ c hc d. cell_other n t i status_column s i c (omega arith) hc (omega arith) in
    let none : told_by n t i ≡ 255 =
    (live_exit n i (told_by n t i) (rounds_ago n t i) (rw (eqb-true (status n t i) 0 alive) at (lines.1 i h).exits)).0 in
    one_line w n t (set_status n t i s) i (set_cell-length n t i status_column s)
    (λ k c hc d. cell_other n t i status_column s k c (omega arith) hc (λ f. absurd (d f)))
    (line-exit w n t (set_status n t i s) i (lines.1 i h) other s (cell_same n t i status_column s lines.0 h (omega arith)) high
    (none-exit n i s _ _ low untold (cell_other n t i status_column s i told_by_column (omega arith) (omega arith) (omega arith) ∙ none)) h) lines

-- a station that is told by another
told-lines : (w : Wiring) (n : ℕ) (t : List ℕ) (a b : ℕ) → Lines w n t → a < n → b < n → b ≢ a → Lines w n (leave_told n t a b)
told-lines w n t a b lines h hb apart =
    one_line w n t (leave_told n t a b) a (leave_told-length n t a b) (λ k c hc d. leave_told-other n t a b k c hc (λ f. absurd (d f)))
    (line-exit w n t (leave_told n t a b) a (lines.1 a h) (λ c hc d. leave_told-other n t a b a c hc (λ _. d)) status_told
    (leave_told-status n t a lines.0 h b) (omega arith) (rw (leave_told-teller n t a lines.0 h b) (told-exit n a b _ hb apart)) h) lines

module _ (w : Wiring) (n : ℕ) (t : List ℕ) (i : ℕ) (lines : Lines w n t) (h : i < n) where
  -- the end of a pass
  pub finish_pass-lines : Lines w n (finish_pass w n t i)
  finish_pass-lines =
      let l = lines.1 i h in
      let e = finish_pass-next n t i lines.0 h w in
      let f = finish_pass-finished n t i lines.0 h w in
      let other = finish_pass-other n t i w i in
      one_line w n t (finish_pass w n t i) i (finish_pass-length n t i w) (λ k c hc d. finish_pass-other n t i w k c hc (λ f. absurd (d f)))
      (record {
        status_range = rw (other status_column (omega arith) (omega arith)) l.status_range;
        pass = record {
          next_low = omega arith;
          next_high = omega arith;
          finished_range = omega arith;
          tests_bound = omega (arith, other tests_column (omega arith) (omega arith), l.pass.tests_bound, l.pass.next_high);
          finished_next = λ p. e;
        };
        exits =
            let told = other told_by_column (omega arith) (omega arith) in
            rw (other status_column (omega arith) (omega arith), told, other rounds_ago_column (omega arith) (omega arith)) l.exits;
        own = other (head + i) (omega arith) (omega arith) ∙ l.own;
        range = λ x hx. rw (other (head + x) (omega arith) (omega arith)) (l.range x hx);
      }) lines

  -- the test is counted
  pub count_test-lines : (m o : ℕ) → (finished n t i ≡ 1 → ⊥) → next_distance n t i ≤ m → m < end_distance w n → Lines w n (count_test w n t i m o)
  count_test-lines m o going lo hi =
      let l = lines.1 i h in
      let e = count_test-next n t i lines.0 h w m o in
      let f = count_test-tests n t i lines.0 h w m o in
      let b = next_after-between w n m o hi in
      let other = count_test-other n t i w m o i in
      one_line w n t (count_test w n t i m o) i (count_test-length n t i w m o) (λ k c hc d. count_test-other n t i w m o k c hc (λ f. absurd (d f)))
      (record {
        status_range = rw (other status_column (omega arith) (omega arith)) l.status_range;
        pass = record {
          next_low = omega arith;
          next_high = omega arith;
          finished_range = rw (other finished_column (omega arith) (omega arith)) l.pass.finished_range;
          tests_bound = omega (arith, l.pass.tests_bound, l.pass.next_low);
          finished_next = λ p. absurd (going (sym (other finished_column (omega arith) (omega arith)) ∙ p));
        };
        exits =
            let told = other told_by_column (omega arith) (omega arith) in
            rw (other status_column (omega arith) (omega arith), told, other rounds_ago_column (omega arith) (omega arith)) l.exits;
        own = other (head + i) (omega arith) (omega arith) ∙ l.own;
        range = λ x hx. rw (other (head + x) (omega arith) (omega arith)) (l.range x hx);
      }) lines

  module _ (j : ℕ) (hj : j < n) (apart : i ≢ j) where
    -- no reply
    pub suspect-lines : Lines w n (suspect n t i j)
    suspect-lines = (
      suspect-length n t i lines.0 h j ∙ lines.0,
      λ k hk.
          let l = lines.1 k hk in
          line_row w n t (suspect n t i j) k l (λ c hc. other k c (omega arith) (omega arith))
          (other k (head + k) (omega arith) (omega arith) ∙ l.own)
          (λ x hx. pick k x hx (l.range x hx) (ℕ_discrete i k) (ℕ_discrete x j)),
    )
      where
        other : (k c : ℕ) → c < stride n → (i ≡ k → c ≢ head + j) → cell n (suspect n t i j) k c ≡ cell n t k c
        other = suspect-other n t i lines.0 h j

        pick : (k x : ℕ) → x < n → suspects n t k x ≤ 1 → Dec (i ≡ k) → Dec (x ≡ j) → suspects n (suspect n t i j) k x ≤ 1
        pick k x hx old (yes e) (yes f) = rw (← e, f, suspect-same n t i lines.0 h j hj) (omega arith)
        pick k x hx old (yes e) (no f) = rw (other k (head + x) (omega arith) (omega arith)) old
        pick k x hx old (no e) f = rw (other k (head + x) (omega arith) (λ g. absurd (e g))) old

    -- an exchange
    pub exchange-lines : Lines w n (exchange_rows n t i j)
    exchange-lines = (
      exchange-length n t i lines.0 h j hj apart ∙ lines.0,
      λ k hk.
          line_row w n t (exchange_rows n t i j) k (lines.1 k hk) (λ c hc. other k c (omega arith) (λ _. hc) (λ _. hc))
          (own k hk (ℕ_discrete i k) (ℕ_discrete j k))
          (λ x hx. byte k hk x hx (ℕ_discrete i k) (ℕ_discrete j k) (ℕ_discrete x k)),
    )
      where
        other : (k c : ℕ) → c < stride n → (i ≡ k → c < head) → (j ≡ k → c < head) → cell n (exchange_rows n t i j) k c ≡ cell n t k c
        other = exchange-other n t i lines.0 h j hj apart

        own : (k : ℕ) → k < n → Dec (i ≡ k) → Dec (j ≡ k) → suspects n (exchange_rows n t i j) k k ≡ 0
        own k hk (yes e) f = rw (← e) (exchange-tester-own n t i lines.0 h j hj apart ∙ (lines.1 i h).own)
        own k hk (no e) (yes f) = rw (← f) (exchange-tested-own n t i lines.0 h j hj apart ∙ (lines.1 j hj).own)
        own k hk (no e) (no f) = other k (head + k) (omega arith) (λ g. absurd (e g)) (λ g. absurd (f g)) ∙ (lines.1 k hk).own

        byte : (k : ℕ) → k < n → (x : ℕ) → x < n → Dec (i ≡ k) → Dec (j ≡ k) → Dec (x ≡ k) → suspects n (exchange_rows n t i j) k x ≤ 1
        byte k hk x hx e f (yes g) = rw (g, own k hk e f) (omega arith)
        byte k hk x hx (yes e) f (no g) =
            rw (← e, exchange-tester n t i lines.0 h j hj apart x hx (omega arith))
            (omega (arith, (lines.1 i h).range x hx, (lines.1 j hj).range x hx))
        byte k hk x hx (no e) (yes f) (no g) =
            rw (← f, exchange-tested n t i lines.0 h j hj apart x hx (omega arith))
            (omega (arith, (lines.1 i h).range x hx, (lines.1 j hj).range x hx))
        byte k hk x hx (no e) (no f) (no g) =
            rw (other k (head + x) (omega arith) (λ g. absurd (e g)) (λ g. absurd (f g))) ((lines.1 k hk).range x hx)

    -- a test, whatever comes of it
    pub after_outcome-lines : (o : ℕ) → Lines w n (after_outcome n t i j o)
    unfolding after_outcome
    after_outcome-lines o =
        choice (Lines w n) (eqb o outcome_told) (told-lines w n t i j lines h hj (λ e. apart (sym e)))
        (choice (Lines w n) (eqb o outcome_tested_told) (told-lines w n t j i lines hj h apart)
        (choice (Lines w n) (eqb o outcome_exchanged) exchange-lines suspect-lines))

  after_alone-lines : Lines w n (after_alone n t i)
  unfolding after_alone is_alone
  after_alone-lines =
      by_bool (is_alone n t i) (λ e. rw e (leave-lines w n t i lines h (both _ _ e).0 status_alone (omega arith) (omega arith) (omega arith)))
      (λ e. rw e lines)

-- a whole turn
pub turn_lines : (w : Wiring) (n : ℕ) (t : List ℕ) (kind i : ℕ) → Lines w n t → i < n → (finished n t i ≡ 1 → ⊥) → Lines w n (turn w n t kind i)
unfolding turn testing after_test
turn_lines w n t kind i lines h going = pick (makes_test w n t i) refl
  where
    m : ℕ
    m = next_test w n t i

    j : ℕ
    j = wired_station w n i m

    o : ℕ
    o = outcome_at w n t kind i m

    pick : (b : Bool) → makes_test w n t i ≡ b → Lines w n (cond b (testing w n t kind i m) (finish_pass w n t i))
    pick true e =
        let hm : m < end_distance w n = test_below w n t i e in
        let lo : next_distance n t i ≤ m = next_test-low w n t i in
        let counted = count_test-lines w n t i lines h m o going lo hm in
        let apart = station-apart w n i m h (omega (arith, (lines.1 i h).pass.next_low)) hm in
        let tested = after_outcome-lines w n (count_test w n t i m o) i counted h j (test-station w n t i e lines.0 h) apart o in
        after_alone-lines w n (after_outcome n (count_test w n t i m o) i j o) i tested h
    pick false e = finish_pass-lines w n t i lines h
