-- What a taken entry does to the status and to byte 4 of each line, and the claim about one entry.
-- Assumes nothing.
use mathlib.Core.Path.{◌≡◌, refl, sym, ◌∙◌}
use mathlib.Core.Logic.{◌≢◌, by_cases}
use mathlib.Core.Bool.{true, false}
use mathlib.Core.List.{List}
use Prim.Native.Nat.{ℕ, ◌+◌, ◌≤◌, ◌<◌}
use native.Mathlib.Decide.{ℕ_discrete}
use native.Mathlib.Omega.{arith}
use borrow.Author.Tests.{eqb-true, eqb-false}
use lib.Dec.{eqb}
use lib.ListN.{length}
use Rattle.table.specs.Table.{head, table_length, cell, status_column, next_column, finished_column, told_by_column}
use Rattle.table.specs.Table.{rounds_ago_column, status, status_told, status_alone, status_crashed, told_by, rounds_ago, live}
use Rattle.table.specs.Rules.{round_over}
use Rattle.lists.proofs.BoolLaws.{by_bool, choice}
use Rattle.lists.proofs.SearchLaws.{both}
use Rattle.table.proofs.Accepting.{Accepted, accepted}
use Rattle.table.proofs.CellLaws.{TurnCounts, cell_same, cell_other}
use Rattle.table.specs.declared.wiring.Wiring.{Wiring}
use Rattle.plant.specs.Turn.{set_status, leave_told, makes_test, replies, is_told, exchange_rows, suspect, reply_outcome, test_outcome}
use Rattle.plant.specs.Turn.{after_outcome, after_test, is_alone, after_alone, testing, turn, turn_tested, turn_outcome, crash, finish_pass}
use Rattle.station.specs.Outcome.{outcome_exchanged, outcome_told, outcome_tested_told}
use Rattle.plant.specs.Round.{after_round}
use Rattle.plant.specs.Entry.{Entry, State, is_crash, entry_check, acted, after, tested_of, outcome_of}
use Rattle.plant.proofs.StepCells.{leave_told-other, leave_told-status, leave_told-teller, finish_pass-other, suspect-other, exchange-other}
use Rattle.plant.proofs.StepLines.{after_outcome-lines}
use Rattle.plant.proofs.RoundLaws.{reset-other}
use Rattle.plant.proofs.RulesKept.{Takes, entry-facts}
use Rattle.detection.specs.Ceased.{LeftTold, TellerIsNamed}
use Rattle.detection.proofs.TestingPair.{Counted, Pair, parts_of, count-others, testing-pair}
use Rattle.std.specs.Prelude.{Ok}

-- status and byte 4 of line k are the same in both tables
abbrev pub SameExit : ℕ → List ℕ → List ℕ → ℕ → Type 0
SameExit n t t' k = (status n t' k ≡ status n t k) × (told_by n t' k ≡ told_by n t k)

-- by the columns of the head that a turn does not count in
same-exit : (n : ℕ) (t t' : List ℕ) (k : ℕ) → ((c : ℕ) → c < head → ¬ (TurnCounts c) → cell n t' k c ≡ cell n t k c) → SameExit n t t' k
same-exit n t t' k same = (same status_column (omega arith) (λ p. omega arith), same told_by_column (omega arith) (λ p. omega arith))

-- what happened to line k between two tables: nothing; the station left, but not because told; or it was told, by b
pub data Fate (n : ℕ) (t t' : List ℕ) (k : ℕ) : Type 0 where
  stays : SameExit n t t' k → Fate n t t' k
  leaves : live n t k ≡ true → 1 ≤ status n t' k → status n t' k ≢ status_told → told_by n t' k ≡ told_by n t k → Fate n t t' k
  hears : (b : ℕ) → b < n → LeftTold n t t' k b → Fate n t t' k

-- what comes later leaves the line's status and byte 4
left-later : (n : ℕ) (t v w : List ℕ) (a b : ℕ) → SameExit n v w a → LeftTold n t v a b → LeftTold n t w a b
left-later n t v w a b same l =
    record { was_live = l.was_live; left = same.0 ∙ l.left; named = same.1 ∙ l.named; teller_live = l.teller_live; suspected = l.suspected }

fate-later : (n : ℕ) (t v w : List ℕ) (k : ℕ) → SameExit n v w k → Fate n t v k → Fate n t w k
fate-later n t v w k same (stays p) = stays (same.0 ∙ p.0, same.1 ∙ p.1)
fate-later n t v w k same (leaves l low untold p) = leaves l (omega (arith, same.0)) (λ q. untold (sym same.0 ∙ q)) (same.1 ∙ p)
fate-later n t v w k same (hears b h l) = hears b h (left-later n t v w k b same l)

-- what comes before counts a test only
left-earlier : (n : ℕ) (t u v : List ℕ) (a b : ℕ) → Counted n t u → a < n → LeftTold n u v a b → LeftTold n t v a b
left-earlier n t u v a b same h l = record {
  was_live = rw (same a status_column (omega arith) (omega arith)) at l.was_live;
  left = l.left;
  named = l.named;
  teller_live = rw (same b status_column (omega arith) (omega arith)) at l.teller_live;
  suspected = sym (same b (head + a) (omega arith) (omega arith)) ∙ l.suspected;
}

fate-earlier : (n : ℕ) (t u v : List ℕ) (k : ℕ) → Counted n t u → k < n → Fate n u v k → Fate n t v k
fate-earlier n t u v k same h (stays p) =
    stays (p.0 ∙ same k status_column (omega arith) (omega arith), p.1 ∙ same k told_by_column (omega arith) (omega arith))
fate-earlier n t u v k same h (leaves l low untold p) =
    leaves (rw (same k status_column (omega arith) (omega arith)) at l) low untold (p ∙ same k told_by_column (omega arith) (omega arith))
fate-earlier n t u v k same h (hears b hb l) = hears b hb (left-earlier n t u v k b same h l)

-- station i, which may leave as alone
module _ (n : ℕ) (v : List ℕ) (i : ℕ) where
  alone-other : (k : ℕ) → (i ≡ k → live n v k ≡ false) → SameExit n v (after_alone n v i) k
  unfolding after_alone is_alone
  alone-other k out =
      by_bool (is_alone n v i)
      (λ e.
      let apart : i ≢ k = λ q. gone q (both _ _ e).0 in
      rw e (same-exit n v (set_status n v i status_alone) k
      (λ c hc _. cell_other n v i status_column status_alone k c (omega arith) (omega arith) (λ q. absurd (apart q)))))
      (λ e. rw e (refl, refl))
    where
      gone : i ≡ k → live n v i ≡ true → ⊥
      gone q l = omega (arith, eqb-true (status n v i) 0 l, eqb-false (status n v i) 0 (rw (← q) at (out q)))

  alone-fate : (t : List ℕ) (k : ℕ) → length v ≡ table_length n → i < n → Fate n t v k → Fate n t (after_alone n v i) k
  unfolding after_alone is_alone
  alone-fate t k long h f =
      by_bool (is_alone n v i) (λ e. rw e (by_cases (ℕ_discrete i k) (λ q. rw (← q) (here (both _ _ e).0 (rw (← q) at f))) (λ d. other d)))
      (λ e. rw e f)
    where
      w : List ℕ
      w = set_status n v i status_alone

      other : i ≢ k → Fate n t w k
      other d =
          fate-later n t v w k
          (same-exit n v w k (λ c hc _. cell_other n v i status_column status_alone k c (omega arith) (omega arith) (λ q. absurd (d q)))) f

      three : status n w i ≡ status_alone
      three = cell_same n v i status_column status_alone long h (omega arith)

      here : live n v i ≡ true → Fate n t v i → Fate n t w i
      here l (stays p) =
          leaves (rw p.0 at l) (omega (arith, three)) (λ q. omega (arith, three))
          (cell_other n v i status_column status_alone i told_by_column (omega arith) (omega arith) (omega arith) ∙ p.1)
      here l (leaves a low untold p) = absurd (omega (arith, eqb-true (status n v i) 0 l))
      here l (hears b hb p) = absurd (omega (arith, eqb-true (status n v i) 0 l, p.left))

-- station i, which is live, tests j
module _ (n : ℕ) (u : List ℕ) (kind i j : ℕ) (long : length u ≡ table_length n) (hi : i < n) (hj : j < n) (apart : i ≢ j)
    (alive : live n u i ≡ true) where
  left-tester : replies n u kind j ≡ true → is_told n u i j ≡ true → LeftTold n u (leave_told n u i j) i j
  unfolding replies is_told
  left-tester r q = record {
    was_live = alive;
    left = leave_told-status n u i long hi j;
    named = leave_told-teller n u i long hi j;
    teller_live = (both _ _ r).0;
    suspected = eqb-true _ _ q;
  }

  left-tested : replies n u kind j ≡ true → is_told n u j i ≡ true → LeftTold n u (leave_told n u j i) j i
  unfolding replies is_told
  left-tested r q = record {
    was_live = (both _ _ r).0;
    left = leave_told-status n u j long hj i;
    named = leave_told-teller n u j long hj i;
    teller_live = alive;
    suspected = eqb-true _ _ q;
  }

  left-fate : (a b k : ℕ) → b < n → LeftTold n u (leave_told n u a b) a b → Fate n u (leave_told n u a b) k
  left-fate a b k hb l =
      by_cases (ℕ_discrete a k) (λ e. rw (← e) (hears b hb l))
      (λ d. stays (same-exit n u (leave_told n u a b) k (λ c hc _. leave_told-other n u a b k c (omega arith) (λ q. absurd (d q)))))

  test-fate : (k o : ℕ) → o ≡ test_outcome n u kind i j → Fate n u (after_outcome n u i j o) k
  unfolding after_outcome test_outcome reply_outcome
  test-fate k o same =
      rw same (by_bool (replies n u kind j)
      (λ r.
      by_bool (is_told n u i j) (λ q. rw (r, q) (left-fate i j k hj (left-tester r q)))
      (λ q. by_bool (is_told n u j i) (λ p. rw (r, q, p) (left-fate j i k hi (left-tested r p))) (λ p. rw (r, q, p) exchanged)))
      (λ r. rw r suspected))
    where
      exchanged : Fate n u (exchange_rows n u i j) k
      exchanged =
          stays (same-exit n u (exchange_rows n u i j) k
          (λ c hc _. exchange-other n u i long hi j hj apart k c (omega arith) (λ _. hc) (λ _. hc)))

      suspected : Fate n u (suspect n u i j) k
      suspected =
          stays (same-exit n u (suspect n u i j) k (λ c hc _. suspect-other n u i long hi j k c (omega arith) (λ _. omega arith)))

  -- bytes 4 and 5 stay, but for byte 4 of a station that leaves by the test
  test-record : (o k c : ℕ) → told_by_column ≤ c → c ≤ rounds_ago_column → (o ≡ outcome_told → i ≡ k → c ≢ told_by_column)
      → (o ≡ outcome_tested_told → j ≡ k → c ≢ told_by_column) → cell n (after_outcome n u i j o) k c ≡ cell n u k c
  unfolding after_outcome
  test-record o k c low high p q =
      by_bool (eqb o outcome_told)
      (λ x. rw x (leave_told-other n u i j k c (omega arith) (λ same. (omega arith, p (eqb-true o outcome_told x) same))))
      (λ x.
      by_bool (eqb o outcome_tested_told)
      (λ y. rw (x, y) (leave_told-other n u j i k c (omega arith) (λ same. (omega arith, q (eqb-true o outcome_tested_told y) same))))
      (λ y.
      by_bool (eqb o outcome_exchanged)
      (λ z. rw (x, y, z) (exchange-other n u i long hi j hj apart k c (omega arith) (λ _. omega arith) (λ _. omega arith)))
      (λ z. rw (x, y, z) (suspect-other n u i long hi j k c (omega arith) (λ _. omega arith)))))

  -- who is told by an outcome
  told-tester : (o : ℕ) → o ≡ test_outcome n u kind i j → o ≡ outcome_told → LeftTold n u (after_outcome n u i j o) i j
  unfolding after_outcome test_outcome reply_outcome
  told-tester o same told =
      by_bool (replies n u kind j)
      (λ r. by_bool (is_told n u i j) (λ q. rw told (left-tester r q))
      (λ q. by_bool (is_told n u j i) (λ p. absurd (omega (arith, rw (r, q, p) at same))) (λ p. absurd (omega (arith, rw (r, q, p) at same)))))
      (λ r. absurd (omega (arith, rw r at same)))

  told-tested : (o : ℕ) → o ≡ test_outcome n u kind i j → o ≡ outcome_tested_told → LeftTold n u (after_outcome n u i j o) j i
  unfolding after_outcome test_outcome reply_outcome
  told-tested o same told =
      by_bool (replies n u kind j)
      (λ r. by_bool (is_told n u i j) (λ q. absurd (omega (arith, rw (r, q) at same)))
      (λ q. by_bool (is_told n u j i) (λ p. rw told (left-tested r p)) (λ p. absurd (omega (arith, rw (r, q, p) at same)))))
      (λ r. absurd (omega (arith, rw r at same)))

-- the outcome reads no byte that is counted
outcome-counted : (n : ℕ) (t u : List ℕ) (kind i j : ℕ) → Counted n t u → i < n → j < n → test_outcome n t kind i j ≡ test_outcome n u kind i j
unfolding test_outcome replies reply_outcome is_told
outcome-counted n t u kind i j same hi hj =
    let told = same j (head + i) (omega arith) (omega arith) in
    rw (same j status_column (omega arith) (omega arith), told, same i (head + j) (omega arith) (omega arith))

-- a taken entry
module _ (w : Wiring) (n : ℕ) (s : State) (e : Entry) (ok : Accepted w n s.table) (z : entry_check n s e ≡ Ok tt) where
  open parts_of w n s e use {before as t, tester as i, distance as m, tested as j, outcome as o, counted as u}

  facts : Takes n s e
  facts = entry-facts n s e z

  -- where it makes a test
  module _ (no-crash : is_crash e ≡ false) (makes : makes_test w n t i ≡ true) where
    pair : Pair w n t u i j
    pair = testing-pair w n s e ok z no-crash makes

    alive : live n u i ≡ true
    alive = rw (pair.others i status_column (omega arith) (omega arith)) pair.is_live

    same-outcome : o ≡ test_outcome n u e.kind i j
    same-outcome = outcome-counted n t u e.kind i j pair.others pair.below pair.tested_below

    abbrev v : List ℕ
    v = after_outcome n u i j o

    long-tested : length v ≡ table_length n
    long-tested = (after_outcome-lines w n u i pair.counted_lines pair.below j pair.tested_below pair.apart o).0

    testing-fate : (k : ℕ) → k < n → Fate n t (testing w n t e.kind i m) k
    unfolding testing after_test
    testing-fate k h =
        fate-earlier n t u _ k pair.others h
        (alone-fate n v i u k long-tested facts.below
        (test-fate n u e.kind i j pair.counted_lines.0 facts.below pair.tested_below pair.apart alive k o same-outcome))

  acted-fate : (k : ℕ) → k < n → Fate n t (acted w n t e) k
  unfolding acted crash turn
  acted-fate k h =
      by_bool (is_crash e)
      (λ c. rw c (by_cases (ℕ_discrete i k) (λ q. rw (← q) crashed) (λ d. stays (same-exit n t (set_status n t i status_crashed) k (other d)))))
      (λ c.
      by_bool (makes_test w n t i) (λ b. rw (c, b) (testing-fate c b k h)) (λ b. rw (c, b) finished))
    where
      other : i ≢ k → (c : ℕ) → c < head → ¬ (TurnCounts c) → cell n (set_status n t i status_crashed) k c ≡ cell n t k c
      other d c hc _ = cell_other n t i status_column status_crashed k c (omega arith) (omega arith) (λ q. absurd (d q))

      not-counted : (c : ℕ) → ¬ (TurnCounts c) → (c ≢ next_column) × (c ≢ finished_column)
      not-counted c out = (λ q. out (omega arith), λ q. out (omega arith))

      finished : Fate n t (finish_pass w n t i) k
      finished =
          stays (same-exit n t (finish_pass w n t i) k
          (λ c hc out. finish_pass-other n t i w k c (omega arith) (λ _. not-counted c out)))

      crashed : Fate n t (set_status n t i status_crashed) i
      crashed =
          let one = cell_same n t i status_column status_crashed ok.long facts.below (omega arith) in
          leaves facts.is_live (omega (arith, one)) (λ q. omega (arith, one))
          (cell_other n t i status_column status_crashed i told_by_column (omega arith) (omega arith) (omega arith))

  -- what an entry does before the round is looked at leaves bytes 4 and 5, but for byte 4 of a station that is told to leave
  acted-record : (k c : ℕ) → told_by_column ≤ c → c ≤ rounds_ago_column
      → (outcome_of w n t e ≡ outcome_told → i ≡ k → c ≢ told_by_column)
      → (outcome_of w n t e ≡ outcome_tested_told → tested_of w n t e ≡ k → c ≢ told_by_column) → cell n (acted w n t e) k c ≡ cell n t k c
  unfolding outcome_of turn_outcome tested_of turn_tested acted crash turn testing after_test after_alone
  acted-record k c low high p q =
      by_bool (is_crash e) (λ x. rw x (status-only t status_crashed))
      (λ x.
      by_bool (makes_test w n t i)
      (λ b. rw (x, b) (alone (after_outcome n u i j o) ∙ (test x b ∙ count-others w n s e k c (omega arith) (omega arith))))
      (λ b. rw (x, b) (finish_pass-other n t i w k c (omega arith) (λ _. omega arith))))
    where
      status-only : (a : List ℕ) (x : ℕ) → cell n (set_status n a i x) k c ≡ cell n a k c
      status-only a x = cell_other n a i status_column x k c (omega arith) (omega arith) (λ _. omega arith)

      alone : (a : List ℕ) → cell n (after_alone n a i) k c ≡ cell n a k c
      alone a = choice (λ (v : List ℕ). cell n v k c ≡ cell n a k c) (is_alone n a i) (status-only a status_alone) refl

      test : (x : is_crash e ≡ false) (b : makes_test w n t i ≡ true) → cell n (after_outcome n u i j o) k c ≡ cell n u k c
      test x b =
          let y = pair x b in
          test-record n u e.kind i j y.counted_lines.0 y.below y.tested_below y.apart (alive x b) o k c low high (rw (x, b) at p) (rw (x, b) at q)

  pub acted-ago : (k : ℕ) → rounds_ago n (acted w n t e) k ≡ rounds_ago n t k
  acted-ago k = acted-record k rounds_ago_column (omega arith) (omega arith) (λ _ _. omega arith) (λ _ _. omega arith)

  -- the closing of a round leaves status and byte 4
  closing_same : (k : ℕ) → SameExit n (acted w n t e) (after w n s e).table k
  unfolding after after_round
  closing_same k =
      let other = reset-other n (acted w n t e) k in
      choice (λ (v : List ℕ). SameExit n (acted w n t e) v k) (round_over n (acted w n t e))
      (other status_column (omega arith) (λ p. omega arith), other told_by_column (omega arith) (λ p. omega arith)) (refl, refl)

  pub after-fate : (k : ℕ) → k < n → Fate n t (after w n s e).table k
  after-fate k h = fate-later n t (acted w n t e) (after w n s e).table k (closing_same k) (acted-fate k h)

  -- a station that is live after the entry was live before it
  pub was-live : (k : ℕ) → k < n → live n (after w n s e).table k ≡ true → live n t k ≡ true
  was-live k h l = by-fate (after-fate k h)
    where
      by-fate : Fate n t (after w n s e).table k → live n t k ≡ true
      by-fate (stays p) = rw (← p.0) l
      by-fate (leaves a low untold p) = a
      by-fate (hears b hb f) = f.was_live

  -- where the test of j makes station a leave because told by x
  module _ (no-crash : is_crash e ≡ false) (makes : makes_test w n t i ≡ true) where
    after-left : (a x : ℕ) → a < n → (i ≡ a → live n (v no-crash makes) a ≡ false) → LeftTold n u (v no-crash makes) a x
        → LeftTold n t (after w n s e).table a x
    unfolding acted turn testing after_test
    after-left a x h out l = left-later n t (acted w n t e) (after w n s e).table a x (closing_same a) acted-left
      where
        acted-left : LeftTold n t (acted w n t e) a x
        acted-left =
            rw (no-crash, makes)
            (left-earlier n t u (after_alone n (v no-crash makes) i) a x (count-others w n s e) h
            (left-later n u (v no-crash makes) (after_alone n (v no-crash makes) i) a x (alone-other n (v no-crash makes) i a out) l))

    tester-left : o ≡ outcome_told → LeftTold n t (after w n s e).table i j
    tester-left told =
        let y = pair no-crash makes in
        let same = same-outcome no-crash makes in
        let l = told-tester n u e.kind i j y.counted_lines.0 y.below y.tested_below y.apart (alive no-crash makes) o same told in
        after-left i j y.below (λ _. rw l.left) l

    tested-left : o ≡ outcome_tested_told → LeftTold n t (after w n s e).table j i
    tested-left told =
        let y = pair no-crash makes in
        let same = same-outcome no-crash makes in
        let l = told-tested n u e.kind i j y.counted_lines.0 y.below y.tested_below y.apart (alive no-crash makes) o same told in
        after-left j i y.tested_below (λ same. absurd (y.apart same)) l

  others-told : (k : ℕ) → (outcome_of w n t e ≡ outcome_told → k ≢ i) → (outcome_of w n t e ≡ outcome_tested_told → k ≢ tested_of w n t e)
      → told_by n (after w n s e).table k ≡ told_by n t k
  others-told k p q =
      (closing_same k).1
      ∙ acted-record k told_by_column (omega arith) (omega arith) (λ a same. absurd (p a (sym same))) (λ a same. absurd (q a (sym same)))

  -- by the outcome
  tester-told : outcome_of w n t e ≡ outcome_told → LeftTold n t (after w n s e).table i (tested_of w n t e)
  unfolding outcome_of turn_outcome tested_of turn_tested
  tester-told told =
      by_bool (is_crash e) (λ c. absurd (omega (arith, rw c at told)))
      (λ c. by_bool (makes_test w n t i) (λ b. rw (c, b) (tester-left c b (rw (c, b) at told))) (λ b. absurd (omega (arith, rw (c, b) at told))))

  tested-told : outcome_of w n t e ≡ outcome_tested_told → LeftTold n t (after w n s e).table (tested_of w n t e) i
  unfolding outcome_of turn_outcome tested_of turn_tested
  tested-told told =
      by_bool (is_crash e) (λ c. absurd (omega (arith, rw c at told)))
      (λ c. by_bool (makes_test w n t i) (λ b. rw (c, b) (tested-left c b (rw (c, b) at told))) (λ b. absurd (omega (arith, rw (c, b) at told))))

-- the claim about one entry, an end in itself
pub teller-is-named : TellerIsNamed
teller-is-named w n s e shape z =
    let ok = accepted w n s.table shape in
    record {
      tester = tester-told w n s e ok z;
      tested = tested-told w n s e ok z;
      others = λ k h p q. others-told w n s e ok z k p q;
    }
