-- A turn, and a crash, of a live station in two twin tables: the same test with the same outcome, and the same writes.
-- Assumes nothing.
use mathlib.Core.Path.{◌≡◌, refl, ap, ap₂, ◌∙◌}
use mathlib.Core.Bool.{Bool, true, not, ◌&&◌, ◌||◌}
use mathlib.Core.List.{List}
use Prim.Native.Nat.{ℕ, ◌+◌, ◌≤◌, ◌<◌}
use native.Mathlib.Omega.{arith}
use borrow.Author.Tests.{eqb-true}
use lib.Dec.{eqb}
use lib.ListN.{length}
use Rattle.lists.proofs.BoolLaws.{by_bool, every-same}
use Rattle.lists.proofs.SearchLaws.{both}
use Rattle.table.specs.Wiring.{end_distance}
use Rattle.table.specs.Table.{head, table_length, status_column, next_column, finished_column, tests_column}
use Rattle.table.specs.Table.{told_by_column, tests_made, live, row, status_told, status_alone, status_crashed}
use Rattle.table.specs.Rules.{not_live, some_live, finished_if_live, live_finished, round_over}
use Rattle.table.proofs.CellLaws.{row_same, row-length}
use Rattle.table.specs.declared.wiring.Wiring.{Wiring}
use Rattle.station.specs.Wired.{wired_station}
use Rattle.station.specs.Rows.{union, mark}
use Rattle.station.proofs.UnionLaws.{union-length, mark-length}
use Rattle.plant.specs.Turn.{set_status, leave_told, next_test, makes_test, finish_pass, count_test, replies, is_told}
use Rattle.plant.specs.Turn.{exchange_rows, suspect, reply_outcome, test_outcome, after_outcome, after_test, self_or_suspected}
use Rattle.plant.specs.Turn.{is_alone, after_alone, outcome_at, testing, turn, turn_tested, turn_outcome, crash}
use Rattle.station.specs.Outcome.{outcome_exchanged, outcome_told, outcome_tested_told}
use Rattle.station.specs.Wired.{next_after}
use Rattle.plant.specs.Entry.{Entry, is_crash, is_test, acted, tested_of, outcome_of}
use Rattle.plant.proofs.NextTest.{test-station}
use Rattle.plant.proofs.StepCells.{count_test-other}
use Rattle.dead_lines.specs.Alike.{SameLine}
use Rattle.dead_lines.proofs.Writes.{Twins, Step, then, twins-after, line-after, write-cell, write-row}

-- the row of a line that is the same
same-row : (n : ℕ) (t u : List ℕ) (i : ℕ) → length t ≡ table_length n → length u ≡ table_length n → i < n → SameLine n t u i → row n t i ≡ row n u i
same-row n t u i long other_long h line = row_same n t u i long other_long h (λ k hk. line (head + k) (omega arith))

-- a line that is the same says the same of Alone
alone-same : (n : ℕ) (t u : List ℕ) (i : ℕ) → SameLine n t u i → is_alone n t i ≡ is_alone n u i
unfolding is_alone self_or_suspected
alone-same n t u i line =
    ap₂ ◌&&◌ (ap (λ (x : ℕ). eqb x 0) (line status_column (omega arith)))
    (every-same (self_or_suspected n t i) (self_or_suspected n u i) n
    (λ k h. ap (λ (x : ℕ). eqb k i || eqb x 1) (line (head + k) (omega arith))))

-- round rules go by the statuses and the live lines
module _ (n : ℕ) (t u : List ℕ) (tw : Twins n t u) where
  pub live-same : (i : ℕ) → i < n → live n t i ≡ live n u i
  live-same i h = ap (λ (x : ℕ). eqb x 0) (tw.statuses i h)

  pub some-live-same : some_live n t ≡ some_live n u
  unfolding some_live
  some-live-same = ap not (every-same (not_live n t) (not_live n u) n (λ i h. ap not (live-same i h)))

  pub finished-same : (i : ℕ) → i < n → finished_if_live n t i ≡ finished_if_live n u i
  finished-same i h =
      by_bool (live n t i) (λ l. rw (tw.statuses i h, tw.live_lines i h l finished_column (omega arith)))
      (λ l. rw (← live-same i h, l))

  pub over-same : round_over n t ≡ round_over n u
  unfolding live_finished
  over-same = ap₂ ◌&&◌ some-live-same (every-same (finished_if_live n t) (finished_if_live n u) n finished-same)

-- station i tests station j, or ends its pass
module _ (w : Wiring) (n : ℕ) (t u : List ℕ) (tw : Twins n t u) (i : ℕ) (h : i < n) (alive : live n t i ≡ true) where
  line : SameLine n t u i
  line = tw.live_lines i h alive

  pub next-same : next_test w n t i ≡ next_test w n u i
  unfolding next_test
  next-same = rw (same-row n t u i tw.long tw.other_long h line, line next_column (omega arith))

  pub makes-same : makes_test w n t i ≡ makes_test w n u i
  unfolding makes_test
  makes-same = rw next-same

  finishing : Step n t u (finish_pass w n t i) (finish_pass w n u i)
  unfolding finish_pass
  finishing =
      let one = write-cell n t u tw.long tw.other_long i h next_column (end_distance w n) (end_distance w n) (omega arith) refl (λ p. omega arith) in
      then one (write-cell n _ _ (one.long ∙ tw.long) (one.other_long ∙ tw.other_long) i h finished_column 1 1 (omega arith) refl (λ p. omega arith))

  counting : (m o : ℕ) → Step n t u (count_test w n t i m o) (count_test w n u i m o)
  unfolding count_test
  counting m o =
      let next : ℕ = next_after w n m o in
      let one = write-cell n t u tw.long tw.other_long i h next_column next next (omega arith) refl (λ p. omega arith) in
      then one (write-cell n _ _ (one.long ∙ tw.long) (one.other_long ∙ tw.other_long) i h tests_column (tests_made n t i + 1) (tests_made n u i + 1)
      (omega arith) (ap (λ (x : ℕ). x + 1) (line tests_column (omega arith))) (λ p. omega arith))

  leaving : (s : ℕ) → 1 ≤ s → Step n t u (set_status n t i s) (set_status n u i s)
  leaving s low = write-cell n t u tw.long tw.other_long i h status_column s s (omega arith) refl (λ _. low)

-- station a is told by b
telling : (n : ℕ) (t u : List ℕ) → Twins n t u → (a b : ℕ) → a < n → Step n t u (leave_told n t a b) (leave_told n u a b)
unfolding leave_told
telling n t u tw a b h =
    let one = write-cell n t u tw.long tw.other_long a h status_column status_told status_told (omega arith) refl (λ _. omega arith) in
    then one (write-cell n _ _ (one.long ∙ tw.long) (one.other_long ∙ tw.other_long) a h told_by_column b b (omega arith) refl (λ p. omega arith))

-- the test of j, which may be live or not
module _ (n : ℕ) (t u : List ℕ) (tw : Twins n t u) (i j : ℕ) (h : i < n) (hj : j < n) (alive : live n t i ≡ true) where
  tester : row n t i ≡ row n u i
  tester = same-row n t u i tw.long tw.other_long h (tw.live_lines i h alive)

  tested : live n t j ≡ true → row n t j ≡ row n u j
  tested l = same-row n t u j tw.long tw.other_long hj (tw.live_lines j hj l)

  reply-same : (kind : ℕ) → replies n t kind j ≡ replies n u kind j
  unfolding replies
  reply-same kind = ap (λ (b : Bool). b && eqb kind 1) (live-same n t u tw j hj)

  replied : (kind : ℕ) → replies n t kind j ≡ true → live n t j ≡ true
  unfolding replies
  replied kind r = (both _ _ r).0

  -- the bytes by which the outcome goes
  told-same : live n t j ≡ true → (is_told n t i j ≡ is_told n u i j) × (is_told n t j i ≡ is_told n u j i)
  unfolding is_told
  told-same l = (
    ap (λ (x : ℕ). eqb x 1) (tw.live_lines j hj l (head + i) (omega arith)),
    ap (λ (x : ℕ). eqb x 1) (tw.live_lines i h alive (head + j) (omega arith)),
  )

  pub outcome-same : (kind : ℕ) → test_outcome n t kind i j ≡ test_outcome n u kind i j
  unfolding test_outcome reply_outcome
  outcome-same kind =
      by_bool (replies n t kind j)
      (λ r. let told = told-same (replied kind r) in rw (← reply-same kind, r, told.0, told.1))
      (λ r. rw (← reply-same kind, r))

  exchanging : live n t j ≡ true → Step n t u (exchange_rows n t i j) (exchange_rows n u i j)
  unfolding exchange_rows
  exchanging l =
      let mine : length (union (row n u i) (row n u j) i) ≡ n = union-length (row n u i) (row n u j) i ∙ row-length n u i tw.other_long h in
      let its : length (union (row n u j) (row n u i) j) ≡ n = union-length (row n u j) (row n u i) j ∙ row-length n u j tw.other_long hj in
      let one = write-row n t u tw.long tw.other_long i h (union (row n u i) (row n u j) i) mine in
      let two = write-row n _ _ (one.long ∙ tw.long) (one.other_long ∙ tw.other_long) j hj (union (row n u j) (row n u i) j) its in
      rw (tester, tested l) (then one two)

  suspecting : Step n t u (suspect n t i j) (suspect n u i j)
  unfolding suspect
  suspecting =
      let long = mark-length (row n u i) j ∙ row-length n u i tw.other_long h in
      rw tester (write-row n t u tw.long tw.other_long i h (mark (row n u i) j) long)

  -- by its outcome
  by-outcome : (o : ℕ) → (o ≡ outcome_exchanged → live n t j ≡ true) → Step n t u (after_outcome n t i j o) (after_outcome n u i j o)
  unfolding after_outcome
  by-outcome o replies =
      by_bool (eqb o outcome_told) (λ a. rw a (telling n t u tw i j h))
      (λ a.
      by_bool (eqb o outcome_tested_told) (λ b. rw (a, b) (telling n t u tw j i hj))
      (λ b.
      by_bool (eqb o outcome_exchanged) (λ c. rw (a, b, c) (exchanging (replies (eqb-true o outcome_exchanged c)))) (λ c. rw (a, b, c) suspecting)))

  -- an exchange is made only with a station that replies
  exchanged : (kind : ℕ) → test_outcome n t kind i j ≡ outcome_exchanged → live n t j ≡ true
  unfolding test_outcome
  exchanged kind e = by_bool (replies n t kind j) (replied kind) (λ r. let z : ◌≡◌ {A = ℕ} 3 1 = rw r at e in absurd (omega arith))

-- a whole turn of i
module _ (w : Wiring) (n : ℕ) (t u : List ℕ) (tw : Twins n t u) (i : ℕ) (h : i < n) (alive : live n t i ≡ true) (kind : ℕ) where
  module _ (makes : makes_test w n t i ≡ true) where
    abbrev m : ℕ
    m = next_test w n t i

    abbrev j : ℕ
    j = wired_station w n i m

    j<n : j < n
    j<n = test-station w n t i makes tw.long h

    abbrev o : ℕ
    o = outcome_at w n t kind i m

    counted : Step n t u (count_test w n t i m o) (count_test w n u i m o)
    counted = counting w n t u tw i h alive m o

    tested-outcome : outcome_at w n t kind i m ≡ outcome_at w n u kind i m
    tested-outcome = outcome-same n t u tw i j h j<n alive kind

    -- who was live is so after the count
    counted-live : (k : ℕ) → live n t k ≡ true → live n (count_test w n t i m o) k ≡ true
    counted-live k l = rw (count_test-other n t i w m o k status_column (omega arith) (λ _. omega arith)) l

    tested-step : Step n t u (after_outcome n (count_test w n t i m o) i j o) (after_outcome n (count_test w n u i m o) i j o)
    tested-step =
        then counted
        (by-outcome n (count_test w n t i m o) (count_test w n u i m o) (twins-after tw counted) i j h j<n (counted-live i alive) o
        (λ e. counted-live j (exchanged n t u tw i j h j<n alive kind e)))

    testing-step : Step n t u (testing w n t kind i m) (testing w n u kind i m)
    unfolding testing after_test after_alone
    testing-step =
        let v : List ℕ = after_outcome n (count_test w n t i m o) i j o in
        let v' : List ℕ = after_outcome n (count_test w n u i m o) i j o in
        let x : Twins n v v' = twins-after tw tested-step in
        let same = alone-same n v v' i (line-after tested-step i h (line w n t u tw i h alive)) in
        by_bool (is_alone n v i)
        (λ e.
        let leaves = write-cell n v v' x.long x.other_long i h status_column status_alone status_alone (omega arith) refl (λ _. omega arith) in
        rw (← tested-outcome, ← same, e) (then tested-step leaves))
        (λ e. rw (← tested-outcome, ← same, e) tested-step)

  turn-step : Step n t u (turn w n t kind i) (turn w n u kind i)
  unfolding turn
  turn-step =
      by_bool (makes_test w n t i) (λ e. rw (← makes-same w n t u tw i h alive, e, ← next-same w n t u tw i h alive) (testing-step e))
      (λ e. rw (← makes-same w n t u tw i h alive, e) (finishing w n t u tw i h alive))

  turn-outcome-same : turn_outcome w n t kind i ≡ turn_outcome w n u kind i
  unfolding turn_outcome
  turn-outcome-same =
      by_bool (makes_test w n t i) (λ e. rw (← makes-same w n t u tw i h alive, e, ← next-same w n t u tw i h alive) (tested-outcome e))
      (λ e. rw (← makes-same w n t u tw i h alive, e))

-- what an entry of a live station does
module _ (w : Wiring) (n : ℕ) (t u : List ℕ) (tw : Twins n t u) (e : Entry) (h : e.station < n) (alive : live n t e.station ≡ true) where
  pub acted-step : Step n t u (acted w n t e) (acted w n u e)
  unfolding acted crash
  acted-step =
      by_bool (is_crash e) (λ c. rw c (leaving w n t u tw e.station h alive status_crashed (omega arith)))
      (λ c. rw c (turn-step w n t u tw e.station h alive e.kind))

  pub test-same : is_test w n t e ≡ is_test w n u e
  test-same = ap (λ (b : Bool). not (is_crash e) && b) (makes-same w n t u tw e.station h alive)

  pub tested-same : tested_of w n t e ≡ tested_of w n u e
  unfolding tested_of turn_tested
  tested-same = rw (makes-same w n t u tw e.station h alive, next-same w n t u tw e.station h alive)

  pub outcome-of-same : outcome_of w n t e ≡ outcome_of w n u e
  unfolding outcome_of
  outcome-of-same = rw (turn-outcome-same w n t u tw e.station h alive e.kind)
