-- What one taken entry does: whom a live station suspects after it, and what becomes of each live station.
-- Assumes nothing.
use mathlib.Core.Path.{◌≡◌, refl, sym, ap₂, ◌∙◌}
use mathlib.Core.Logic.{◌≢◌, ◌⊎◌, inl, inr, by_cases}
use mathlib.Core.Bool.{true, false, ◌&&◌}
use mathlib.Core.List.{List}
use Prim.Native.Nat.{ℕ, ◌+◌, ◌≤◌, ◌<◌}
use native.Mathlib.Decide.{ℕ_discrete}
use native.Mathlib.Omega.{arith}
use borrow.Author.Tests.{eqb-true, eqb-false, eq-eqb, ne_eqb}
use lib.Dec.{eqb}
use lib.ListN.{length}
use Rattle.table.specs.Table.{head, stride, table_length, cell, status_column, status, status_told, status_alone, status_crashed, suspects, live}
use Rattle.table.specs.Rules.{round_over}
use Rattle.lists.proofs.BoolLaws.{by_bool, choice}
use Rattle.lists.proofs.SearchLaws.{both, every-at}
use Rattle.table.proofs.Accepting.{Accepted}
use Rattle.table.proofs.CellLaws.{ClosingChanges, cell_same, cell_other}
use Rattle.table.specs.declared.wiring.Wiring.{Wiring}
use Rattle.plant.specs.Turn.{kind_turn, kind_late, leave_told, makes_test, replies, is_told, exchange_rows, suspect, reply_outcome, test_outcome}
use Rattle.plant.specs.Turn.{after_outcome, self_or_suspected, is_alone, after_alone, after_test, testing, turn, turn_tested, crash}
use Rattle.station.specs.Outcome.{outcome_exchanged, outcome_told, outcome_tested_told}
use Rattle.plant.specs.Round.{after_round}
use Rattle.plant.specs.Entry.{Entry, State, is_crash, entry_check, acted, after, tested_of}
use Rattle.plant.proofs.StepCells.{leave_told-other, leave_told-status, finish_pass-other, suspect-other, exchange-other}
use Rattle.plant.proofs.StepLines.{after_outcome-lines}
use Rattle.plant.proofs.RoundLaws.{reset-other}
use Rattle.plant.proofs.RulesKept.{Takes, entry-facts}
use Rattle.detection.specs.Runs.{is_late}
use Rattle.detection.proofs.TakenLaws.{taken_at}
use Rattle.detection.proofs.TestingPair.{Pair, parts_of, testing-pair}
use Rattle.detection.proofs.TurnEffect.{exchange-between}
use Rattle.detection.proofs.Fates.{Fate, stays, leaves, hears, after-fate}
use Rattle.accuracy.specs.Cause.{IsSuspected, late_of, crash_of}
use Rattle.std.specs.Prelude.{Ok}

-- a cause in the table, or in the entry itself
abbrev pub CauseAt : Wiring → ℕ → State → Entry → ℕ → Type 0
CauseAt w n s e x = IsSuspected n s.table x ⊎ (late_of x (taken_at w n s e) ≡ true)

-- what became of station k, which was live: it is live; it crashed; it was told by a live one that suspected it; or it was the tester, and alone
pub data Fared (w : Wiring) (n : ℕ) (s : State) (e : Entry) (k : ℕ) : Type 0 where
  lives : live n (after w n s e).table k ≡ true → Fared w n s e k
  crashed : crash_of k (taken_at w n s e) ≡ true → status n (after w n s e).table k ≡ status_crashed → Fared w n s e k
  told : status n (after w n s e).table k ≡ status_told → IsSuspected n s.table k → Fared w n s e k
  alone : k ≡ e.station → status n (after w n s e).table k ≡ status_alone
      → ((x : ℕ) → x < n → x ≢ k → suspects n (after w n s e).table k x ≡ 1) → Fared w n s e k

module _ (w : Wiring) (n : ℕ) (s : State) (e : Entry) (ok : Accepted w n s.table) (z : entry_check n s e ≡ Ok tt) where
  open parts_of w n s e use {before as t, tester as i, distance as m, tested as j, outcome as o, counted as u}

  abbrev t' : List ℕ
  t' = (after w n s e).table

  -- the table with the outcome of the test, where there is one
  abbrev v : List ℕ
  v = after_outcome n u i j o

  facts : Takes n s e
  facts = entry-facts n s e z

  -- a closing leaves status and rows
  closed : (k c : ℕ) → c < stride n → ¬ (ClosingChanges c) → cell n t' k c ≡ cell n (acted w n t e) k c
  unfolding after after_round
  closed k c h out =
      choice (λ (y : List ℕ). cell n y k c ≡ cell n (acted w n t e) k c) (round_over n (acted w n t e)) (reset-other n (acted w n t e) k c h out) refl

  -- where station k, which was live, suspected the live x before
  had : (k x : ℕ) → k < n → live n t k ≡ true → live n t x ≡ true → suspects n t k x ≡ 1 → CauseAt w n s e x
  had k x hk lk lx one = inl (k, hk, record { by_live = lk; of_live = lx; suspected = one })

  -- a crash, and the end of a pass
  crash-row : is_crash e ≡ true → (k x : ℕ) → x < n → suspects n t' k x ≡ suspects n t k x
  unfolding acted crash
  crash-row c k x hx =
      closed k (head + x) (omega arith) (λ p. omega arith)
      ∙ rw c (cell_other n t i status_column status_crashed k (head + x) (omega arith) (omega arith) (λ _. omega arith))

  crash-status : is_crash e ≡ true → status n t' i ≡ status_crashed
  unfolding acted crash
  crash-status c =
      closed i status_column (omega arith) (λ p. omega arith)
      ∙ rw c (cell_same n t i status_column status_crashed ok.long facts.below (omega arith))

  crash-other : is_crash e ≡ true → (k : ℕ) → k ≢ i → status n t' k ≡ status n t k
  unfolding acted crash
  crash-other c k d =
      closed k status_column (omega arith) (λ p. omega arith)
      ∙ rw c (cell_other n t i status_column status_crashed k status_column (omega arith) (omega arith) (λ q. absurd (d (sym q))))

  finish-cell : is_crash e ≡ false → makes_test w n t i ≡ false → (k c : ℕ) → c < stride n → c ≡ status_column ⊎ (head ≤ c)
      → cell n t' k c ≡ cell n t k c
  unfolding acted turn
  finish-cell f b k c h which =
      closed k c h (not-closing which) ∙ rw (f, b) (finish_pass-other n t i w k c h (λ _. not-counted which))
    where
      not-closing : c ≡ status_column ⊎ (head ≤ c) → ¬ (ClosingChanges c)
      not-closing (inl q) p = omega arith
      not-closing (inr q) p = omega arith

      not-counted : c ≡ status_column ⊎ (head ≤ c) → (c ≢ 1) × (c ≢ 2)
      not-counted (inl q) = (λ p. omega arith, λ p. omega arith)
      not-counted (inr q) = (λ p. omega arith, λ p. omega arith)

  -- an entry that makes a test
  module _ (c : is_crash e ≡ false) (b : makes_test w n t i ≡ true) where
    pair : Pair w n t u i j
    pair = testing-pair w n s e ok z c b

    open pair use {lines as lines₀, below as hi, tested_below as hj, apart, is_live, counted_lines as lines, others}

    -- rule Alone writes no row, and only the status of the tester
    test-row : (k x : ℕ) → x < n → suspects n t' k x ≡ suspects n v k x
    unfolding acted turn testing after_test after_alone
    test-row k x hx =
        closed k (head + x) (omega arith) (λ p. omega arith)
        ∙ rw (c, b) (choice (λ (y : List ℕ). cell n y k (head + x) ≡ cell n v k (head + x)) (is_alone n v i)
        (cell_other n v i status_column status_alone k (head + x) (omega arith) (omega arith) (λ _. omega arith)) refl)

    test-status : (k : ℕ) → (i ≡ k → is_alone n v i ≡ false) → status n t' k ≡ status n v k
    unfolding acted turn testing after_test after_alone
    test-status k off =
        closed k status_column (omega arith) (λ p. omega arith)
        ∙ rw (c, b) (by_cases (ℕ_discrete i k) (λ q. rw (off q))
        (λ d. choice (λ (y : List ℕ). cell n y k status_column ≡ cell n v k status_column) (is_alone n v i)
        (cell_other n v i status_column status_alone k status_column (omega arith) (omega arith) (λ q. absurd (d q))) refl))

    alone-status : is_alone n v i ≡ true → status n t' i ≡ status_alone
    unfolding acted turn testing after_test after_alone
    alone-status a =
        let long : length v ≡ table_length n = (after_outcome-lines w n u i lines hi j hj apart o).0 in
        closed i status_column (omega arith) (λ p. omega arith)
        ∙ rw (c, b, a) (cell_same n v i status_column status_alone long hi (omega arith))

    alone-row : is_alone n v i ≡ true → (x : ℕ) → x < n → x ≢ i → suspects n t' i x ≡ 1
    unfolding is_alone self_or_suspected
    alone-row a x hx d =
        let all = (both _ _ a).1 in
        test-row i x hx ∙ eqb-true (suspects n v i x) 1 (rw (ne_eqb x i d) at (every-at (self_or_suspected n v i) n x all hx))

    -- by the outcome: an exchange has a reply, and where nobody is told and nothing exchanged there is none
    exchanged-live : o ≡ outcome_exchanged → live n t j ≡ true
    unfolding test_outcome replies
    exchanged-live q = by_bool (replies n t e.kind j) (λ r. (both _ _ r).0) (λ r. absurd (omega (arith, rw r at q)))

    silent : o ≢ outcome_told → o ≢ outcome_tested_told → o ≢ outcome_exchanged → replies n t e.kind j ≡ false
    unfolding test_outcome reply_outcome
    silent p q r =
        by_bool (replies n t e.kind j)
        (λ a. by_bool (is_told n t i j) (λ f. absurd (p (rw (a, f))))
        (λ f. by_bool (is_told n t j i) (λ g. absurd (q (rw (a, f, g)))) (λ g. absurd (r (rw (a, f, g))))))
        (λ a. a)

    -- a live station that does not reply is late
    late : live n t j ≡ true → replies n t e.kind j ≡ false → late_of j (taken_at w n s e) ≡ true
    unfolding late_of replies tested_of turn_tested
    late l r =
        let not_one = eqb-false e.kind kind_turn (rw l at r) in
        let not_three = eqb-false e.kind 3 c in
        let two : e.kind ≡ kind_late = omega (arith, facts.kind_low, facts.kind_high) in
        let same : tested_of w n t e ≡ j = rw (c, b) in
        let is : is_late (taken_at w n s e) ≡ true = rw (eq-eqb e.kind kind_late two, c, b, l) in
        ap₂ ◌&&◌ is (eq-eqb (tested_of w n t e) j same)

    counted-row : (k x : ℕ) → x < n → suspects n u k x ≡ suspects n t k x
    counted-row k x hx = others k (head + x) (omega arith) (omega arith)

    -- whom station k suspects with the outcome
    outcome-cause : (k x : ℕ) → k < n → x < n → live n t k ≡ true → live n t x ≡ true → suspects n v k x ≡ 1 → CauseAt w n s e x
    unfolding after_outcome
    outcome-cause k x hk hx lk lx one =
        by_bool (eqb o outcome_told)
        (λ p. had k x hk lk lx
        (sym (leave_told-other n u i j k (head + x) (omega arith) (λ _. omega arith) ∙ counted-row k x hx) ∙ (rw p at one)))
        (λ p. by_bool (eqb o outcome_tested_told)
        (λ q. had k x hk lk lx
        (sym (leave_told-other n u j i k (head + x) (omega arith) (λ _. omega arith) ∙ counted-row k x hx) ∙ (rw (p, q) at one)))
        (λ q. by_bool (eqb o outcome_exchanged)
        (λ r. joined (eqb-true o outcome_exchanged r) (rw (p, q, r) at one))
        (λ r. marked (silent (eqb-false o _ p) (eqb-false o _ q) (eqb-false o _ r)) (rw (p, q, r) at one))))
      where
        joined : o ≡ outcome_exchanged → suspects n (exchange_rows n u i j) k x ≡ 1 → CauseAt w n s e x
        joined q one =
            let most = (exchange-between n u i j lines.0 hi hj apart k x hx).1 in
            by_cases (ℕ_discrete (suspects n t k x) 1) (had k x hk lk lx)
            (λ p. by_cases (ℕ_discrete (suspects n t i x) 1) (had i x hi is_live lx)
            (λ f. by_cases (ℕ_discrete (suspects n t j x) 1) (had j x hj (exchanged-live q) lx)
            (λ g. absurd (omega (
              arith,
              most,
              counted-row k x hx,
              counted-row i x hx,
              counted-row j x hx,
              (lines₀.1 k hk).range x hx,
              (lines₀.1 i hi).range x hx,
              (lines₀.1 j hj).range x hx,
            )))))

        marked : replies n t e.kind j ≡ false → suspects n (suspect n u i j) k x ≡ 1 → CauseAt w n s e x
        marked r one =
            by_cases (ℕ_discrete x j) (λ q. inr (rw q (late (rw q at lx) r)))
            (λ d. had k x hk lk lx
            (sym (suspect-other n u i lines.0 hi j k (head + x) (omega arith) (λ _. omega arith) ∙ counted-row k x hx) ∙ one))

    -- a station that is not told keeps its status in the outcome
    outcome-status : (k : ℕ) → k < n → status n v k ≢ status_told → status n v k ≡ status n t k
    unfolding after_outcome
    outcome-status k hk =
        by_bool (eqb o outcome_told) (λ p. rw p (left i j hi))
        (λ p. by_bool (eqb o outcome_tested_told) (λ q. rw (p, q) (left j i hj))
        (λ q. by_bool (eqb o outcome_exchanged)
        (λ r. rw (p, q, r) (λ _.
        exchange-other n u i lines.0 hi j hj apart k status_column (omega arith) (λ _. omega arith) (λ _. omega arith)
        ∙ counted))
        (λ r. rw (p, q, r) (λ _.
        suspect-other n u i lines.0 hi j k status_column (omega arith) (λ _. omega arith) ∙ counted))))
      where
        counted : status n u k ≡ status n t k
        counted = others k status_column (omega arith) (omega arith)

        left : (a b : ℕ) → a < n → status n (leave_told n u a b) k ≢ status_told → status n (leave_told n u a b) k ≡ status n t k
        left a b ha not_told =
            by_cases (ℕ_discrete a k)
            (λ q. absurd (not_told (rw (← q) (leave_told-status n u a lines.0 ha b))))
            (λ d. leave_told-other n u a b k status_column (omega arith) (λ q. absurd (d q)) ∙ counted)

  -- each suspicion of a live station by a live one after the entry has its cause before it, or in it
  pub new-suspicion : (k x : ℕ) → k < n → x < n → live n t k ≡ true → live n t x ≡ true → suspects n t' k x ≡ 1 → CauseAt w n s e x
  new-suspicion k x hk hx lk lx one =
      by_bool (is_crash e) (λ c. had k x hk lk lx (sym (crash-row c k x hx) ∙ one))
      (λ c. by_bool (makes_test w n t i) (λ b. outcome-cause c b k x hk hx lk lx (sym (test-row c b k x hx) ∙ one))
      (λ b. had k x hk lk lx (sym (finish-cell c b k (head + x) (omega arith) (inr (omega arith))) ∙ one)))

  -- what becomes of a live station
  pub fared : (k : ℕ) → k < n → live n t k ≡ true → Fared w n s e k
  unfolding crash_of
  fared k hk l = by-fate (after-fate w n s e ok z k hk)
    where
      zero : status n t k ≡ 0
      zero = eqb-true (status n t k) 0 l

      untold : 1 ≤ status n t' k → status n t' k ≢ status_told → Fared w n s e k
      untold low p =
          by_bool (is_crash e)
          (λ c. by_cases (ℕ_discrete k i) (λ q. rw q (crashed (rw (c, eq-eqb i i refl)) (crash-status c)))
          (λ d. absurd (omega (arith, zero, crash-other c k d))))
          (λ c. by_bool (makes_test w n t i) (λ b. by_cases (ℕ_discrete k i)
          (λ q. by_bool (is_alone n v i) (λ a. rw q (alone refl (alone-status c b a) (alone-row c b a)))
          (λ a. absurd (same c b (λ _. a))))
          (λ d. absurd (same c b (λ q. absurd (d (sym q))))))
          (λ b. absurd (omega (arith, zero, finish-cell c b k status_column (omega arith) (inl refl)))))
        where
          same : is_crash e ≡ false → makes_test w n t i ≡ true → (i ≡ k → is_alone n v i ≡ false) → ⊥
          same c b off =
              let e' = test-status c b k off in
              omega (arith, zero, e', outcome-status c b k hk (λ q. p (e' ∙ q)))

      by-fate : Fate n t t' k → Fared w n s e k
      by-fate (stays p) = lives (rw p.0 l)
      by-fate (leaves a low p q) = untold low p
      by-fate (hears b hb f) = told f.left (b, hb, record { by_live = f.teller_live; of_live = f.was_live; suspected = f.suspected })
