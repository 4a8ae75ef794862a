-- A turn by lines: each part of it on the tester's line, on the tested station's, and on the others.
-- Assumes nothing.
use mathlib.Core.Path.{◌≡◌, sym, ap, ◌∙◌}
use mathlib.Core.Logic.{◌≢◌}
use mathlib.Core.Bool.{Bool, true, false, ◌&&◌, ◌||◌}
use mathlib.Core.List.{List}
use Prim.Native.Nat.{ℕ, ◌+◌, ◌≤◌, ◌<◌}
use native.Mathlib.Omega.{arith}
use borrow.Author.Tests.{eqb-true}
use lib.Dec.{eqb}
use lib.ListN.{length, set, length-set}
use Rattle.std.specs.Prelude.{Option}
use Rattle.lists.proofs.BoolLaws.{by_bool, every-same}
use Rattle.table.specs.Wiring.{end_distance}
use Rattle.table.specs.Table.{head, stride, table_length, cell, set_cell, status_column, next_column, finished_column, tests_column, told_by_column}
use Rattle.table.specs.Table.{next_distance, tests_made, row, set_row, status_told, status_alone}
use Rattle.table.proofs.Accepting.{accepted}
use Rattle.table.proofs.SizeLaws.{size_top}
use Rattle.table.proofs.CellLaws.{row_same, row-length, row_at, set_cell-length, set_row-length, accepted-line}
use Rattle.station.specs.Wired.{wired_station, next_after}
use Rattle.station.specs.Rows.{union, mark}
use Rattle.station.specs.Outcome.{outcome_exchanged, outcome_told, outcome_tested_told}
use Rattle.station.proofs.UnionLaws.{union-length}
use Rattle.station.proofs.WiredLaws.{station-apart}
use Rattle.plant.specs.Turn.{leave_told, next_test, makes_test, finish_pass, count_test, replies, is_told, exchange_rows, suspect, reply_outcome}
use Rattle.plant.specs.Turn.{test_outcome, after_test, self_or_suspected, is_alone, outcome_at, testing, turn, turn_tested, turn_outcome}
use Rattle.plant.specs.Turn.{after_outcome as table_outcome, after_alone as table_alone}
use Rattle.plant.proofs.NextTest.{next_test-low, test_below, test-station}
use Rattle.plant.proofs.StepCells.{count_test-length, count_test-other, finish_pass-length, leave_told-length, suspect-length, exchange-length}
use Rattle.table.specs.Line.{line, with_row}
use Rattle.board.specs.Board.{next_of, tests, tested, pass_finished, counted, left_told, joined, suspecting, alone, after_alone, outcome_of}
use Rattle.board.specs.Board.{row_given, after_outcome, tested_at, turn_of, outcome, message, received}
use Rattle.cable.specs.Claims.{answered, reply_to, SameTurn, BoardsDoTheTurn}
use Rattle.table.proofs.LineLaws.{line_at, line-row, line-set, line-set-other, line-set_row, line-set_row-other}
use Rattle.table.specs.declared.wiring.Wiring.{Wiring}

module _ (n : ℕ) (t : List ℕ) (i : ℕ) (long : length t ≡ table_length n) (h : i < n) where
  -- whom the station tests next
  pub next-line : (w : Wiring) → next_of w n i (line n t i) ≡ next_test w n t i
  unfolding next_of next_test
  next-line w = rw (line-row n t i long h, line_at n t i next_column (omega arith))

  pub tests-line : (w : Wiring) → tests w n i (line n t i) ≡ makes_test w n t i
  unfolding tests makes_test
  tests-line w = rw (next-line w)

  pub tested-is : (w : Wiring) → turn_tested w n t i ≡ tested w n i (line n t i)
  unfolding tested turn_tested
  tested-is w = rw (tests-line w, next-line w)

  -- two bytes written
  two : (c v d x : ℕ) → c < stride n → d < stride n → line n (set_cell n (set_cell n t i c v) i d x) i ≡ set (set (line n t i) c v) d x
  two c v d x hc hd =
      line-set n (set_cell n t i c v) i d x (set_cell-length n t i c v ∙ long) h hd ∙ ap (λ (l : List ℕ). set l d x) (line-set n t i c v long h hc)

  two-other : (c v d x k : ℕ) → c < stride n → d < stride n → k < n → i ≢ k → line n (set_cell n (set_cell n t i c v) i d x) k ≡ line n t k
  two-other c v d x k hc hd hk apart =
      line-set-other n (set_cell n t i c v) i d x k (set_cell-length n t i c v ∙ long) hk hd apart ∙ line-set-other n t i c v k long hk hc apart

  -- the end of a pass
  pub finish-line : (w : Wiring) → line n (finish_pass w n t i) i ≡ pass_finished w n (line n t i)
  unfolding finish_pass pass_finished
  finish-line w = two next_column (end_distance w n) finished_column 1 (omega arith) (omega arith)

  pub finish-others : (w : Wiring) (k : ℕ) → k < n → i ≢ k → line n (finish_pass w n t i) k ≡ line n t k
  unfolding finish_pass
  finish-others w k hk apart = two-other next_column (end_distance w n) finished_column 1 k (omega arith) (omega arith) hk apart

  -- the test is counted
  pub count-line : (w : Wiring) (m o : ℕ) → line n (count_test w n t i m o) i ≡ counted w n (line n t i) m o
  unfolding count_test counted
  count-line w m o =
      rw (line_at n t i tests_column (omega arith))
      (two next_column (next_after w n m o) tests_column (tests_made n t i + 1) (omega arith) (omega arith))

  pub count-others : (w : Wiring) (m o k : ℕ) → k < n → i ≢ k → line n (count_test w n t i m o) k ≡ line n t k
  unfolding count_test
  count-others w m o k hk apart =
      two-other next_column (next_after w n m o) tests_column (tests_made n t i + 1) k (omega arith) (omega arith) hk apart

  -- a station is told
  pub told-line : (b : ℕ) → line n (leave_told n t i b) i ≡ left_told (line n t i) b
  unfolding leave_told left_told
  told-line b = two status_column status_told told_by_column b (omega arith) (omega arith)

  pub told-others : (b k : ℕ) → k < n → i ≢ k → line n (leave_told n t i b) k ≡ line n t k
  unfolding leave_told
  told-others b k hk apart = two-other status_column status_told told_by_column b k (omega arith) (omega arith) hk apart

  -- a station leaves if it is alone
  pub alone-is : alone n i (line n t i) ≡ is_alone n t i
  unfolding alone is_alone self_or_suspected
  alone-is =
      rw (line_at n t i status_column (omega arith))
      (ap (λ (b : Bool). eqb (cell n t i status_column) 0 && b)
      (every-same _ _ n (λ k hk. ap (λ (x : ℕ). eqb k i || eqb x 1) (line_at n t i (head + k) (omega arith)))))

  pub alone-line : line n (table_alone n t i) i ≡ after_alone n i (line n t i)
  unfolding table_alone after_alone
  alone-line =
      by_bool (is_alone n t i)
      (λ e. rw (alone-is, e) (line-set n t i status_column status_alone long h (omega arith)))
      (λ e. rw (alone-is, e))

  pub alone-length : length (table_alone n t i) ≡ length t
  unfolding table_alone
  alone-length = by_bool (is_alone n t i) (λ e. rw e (set_cell-length n t i status_column status_alone)) (λ e. rw e)

  pub alone-others : (k : ℕ) → k < n → i ≢ k → line n (table_alone n t i) k ≡ line n t k
  unfolding table_alone
  alone-others k hk apart =
      by_bool (is_alone n t i) (λ e. rw e (line-set-other n t i status_column status_alone k long hk (omega arith) apart)) (λ e. rw e)

-- whom a turn tests that makes a test
pub tested-below : (w : Wiring) (n : ℕ) (t : List ℕ) (i : ℕ) → length t ≡ table_length n → i < n → makes_test w n t i ≡ true → turn_tested w n t i < n
unfolding turn_tested
tested-below w n t i long h makes = rw makes (test-station w n t i makes long h)

pub tested-apart : (w : Wiring) (n : ℕ) (t : List ℕ) (i : ℕ) → length t ≡ table_length n → i < n → makes_test w n t i ≡ true → 1 ≤ next_distance n t i
    → i ≢ turn_tested w n t i
unfolding turn_tested
tested-apart w n t i long h makes low =
    rw makes (station-apart w n i (next_test w n t i) h (omega (arith, low, next_test-low w n t i)) (test_below w n t i makes))

-- a test of j by i: its outcome
module _ (n : ℕ) (t : List ℕ) (i j : ℕ) (long : length t ≡ table_length n) (hi : i < n) (hj : j < n) where
  pub outcome-line : (kind : ℕ) → test_outcome n t kind i j ≡ outcome_of i j (line n t i) (answered n t kind j)
  unfolding test_outcome answered reply_outcome is_told outcome_of
  outcome-line kind =
      by_bool (replies n t kind j)
      (λ r. rw (r, row_at n t j i hi, line_at n t i (head + j) (omega arith)))
      (λ r. rw r)

  -- who exchanges has replied
  pub exchanged-row : (kind : ℕ) → test_outcome n t kind i j ≡ outcome_exchanged → row_given (answered n t kind j) ≡ row n t j
  unfolding test_outcome answered
  exchanged-row kind e =
      by_bool (replies n t kind j) (λ r. rw r) (λ r. let z : ◌≡◌ {A = ℕ} 3 1 = rw r at e in absurd (omega arith))

  module _ (apart : i ≢ j) where
    mine : List ℕ
    mine = union (row n t i) (row n t j) i

    its : List ℕ
    its = union (row n t j) (row n t i) j

    mine-long : length mine ≡ n
    unfolding mine
    mine-long = union-length (row n t i) (row n t j) i ∙ row-length n t i long hi

    its-long : length its ≡ n
    unfolding its
    its-long = union-length (row n t j) (row n t i) j ∙ row-length n t j long hj

    first-long : length (set_row n t i mine) ≡ table_length n
    first-long = set_row-length n t i mine long hi mine-long ∙ long

    tester-joins : line n (exchange_rows n t i j) i ≡ joined n i (line n t i) (row n t j)
    unfolding exchange_rows joined mine its
    tester-joins =
        rw (line-row n t i long hi)
        (line-set_row-other n (set_row n t i mine) j its i first-long hj hi its-long (λ e. apart (sym e))
        ∙ line-set_row n t i mine long hi mine-long)

    tested-joins : line n (exchange_rows n t i j) j ≡ joined n j (line n t j) (row n t i)
    unfolding exchange_rows joined mine its
    tested-joins =
        rw (line-row n t j long hj)
        (line-set_row n (set_row n t i mine) j its first-long hj its-long
        ∙ ap (λ (l : List ℕ). with_row n l its) (line-set_row-other n t i mine j long hi hj mine-long apart))

    others-keep : (k : ℕ) → k < n → k ≢ i → k ≢ j → line n (exchange_rows n t i j) k ≡ line n t k
    unfolding exchange_rows mine its
    others-keep k hk ni nj =
        line-set_row-other n (set_row n t i mine) j its k first-long hj hk its-long (λ e. nj (sym e))
        ∙ line-set_row-other n t i mine k long hi hk mine-long (λ e. ni (sym e))

    marked-long : length (mark (row n t i) j) ≡ n
    unfolding mark
    marked-long = length-set (row n t i) j 1 ∙ row-length n t i long hi

    suspect-line : line n (suspect n t i j) i ≡ suspecting n (line n t i) j
    unfolding suspect suspecting
    suspect-line = rw (line-row n t i long hi) (line-set_row n t i (mark (row n t i) j) long hi marked-long)

    suspect-others : (k : ℕ) → k < n → i ≢ k → line n (suspect n t i j) k ≡ line n t k
    unfolding suspect
    suspect-others k hk ne = line-set_row-other n t i (mark (row n t i) j) k long hi hk marked-long ne

    pub outcome-length : (o : ℕ) → length (table_outcome n t i j o) ≡ length t
    unfolding table_outcome
    outcome-length o =
        by_bool (eqb o outcome_told) (λ a. rw a (leave_told-length n t i j))
        (λ a.
        by_bool (eqb o outcome_tested_told) (λ b. rw (a, b) (leave_told-length n t j i))
        (λ b.
        by_bool (eqb o outcome_exchanged) (λ c. rw (a, b, c) (exchange-length n t i long hi j hj apart))
        (λ c. rw (a, b, c) (suspect-length n t i long hi j))))

    -- what comes of it, by its outcome o
    pub tester-outcome : (o : ℕ) (r : List ℕ) → (o ≡ outcome_exchanged → r ≡ row n t j)
        → line n (table_outcome n t i j o) i ≡ after_outcome n i j (line n t i) r o
    unfolding table_outcome after_outcome
    tester-outcome o r given =
        by_bool (eqb o outcome_told) (λ a. rw a (told-line n t i long hi j))
        (λ a.
        by_bool (eqb o outcome_tested_told) (λ b. rw (a, b) (told-others n t j long hj i i hi (λ e. apart (sym e))))
        (λ b.
        by_bool (eqb o outcome_exchanged) (λ c. rw (a, b, c, given (eqb-true o outcome_exchanged c)) tester-joins) (λ c. rw (a, b, c) suspect-line)))

    pub tested-outcome : (o : ℕ) → line n (table_outcome n t i j o) j ≡ received n j i (line n t j) (message (row n t i) o)
    unfolding table_outcome received message
    tested-outcome o =
        by_bool (eqb o outcome_told) (λ a. rw (eqb-true o outcome_told a) (told-others n t i long hi j j hj apart))
        (λ a.
        by_bool (eqb o outcome_tested_told) (λ b. rw (a, b) (told-line n t j long hj i))
        (λ b.
        by_bool (eqb o outcome_exchanged) (λ c. rw (a, b, c) tested-joins) (λ c. rw (a, b, c) (suspect-others j hj apart))))

    pub others-outcome : (o k : ℕ) → k < n → k ≢ i → k ≢ j → line n (table_outcome n t i j o) k ≡ line n t k
    unfolding table_outcome
    others-outcome o k hk ni nj =
        by_bool (eqb o outcome_told) (λ a. rw a (told-others n t i long hi j k hk (λ e. ni (sym e))))
        (λ a.
        by_bool (eqb o outcome_tested_told) (λ b. rw (a, b) (told-others n t j long hj i k hk (λ e. nj (sym e))))
        (λ b.
        by_bool (eqb o outcome_exchanged) (λ c. rw (a, b, c) (others-keep k hk ni nj)) (λ c. rw (a, b, c) (suspect-others k hk (λ e. ni (sym e))))))

-- a turn that tests
module _ (w : Wiring) (n : ℕ) (t : List ℕ) (kind i : ℕ) (long : length t ≡ table_length n) (h : i < n) (makes : makes_test w n t i ≡ true)
    (low : 1 ≤ next_distance n t i) where
  abbrev m : ℕ
  m = next_test w n t i

  abbrev j : ℕ
  j = wired_station w n i m

  abbrev o : ℕ
  o = outcome_at w n t kind i m

  abbrev t₁ : List ℕ
  t₁ = count_test w n t i m o

  abbrev t₂ : List ℕ
  t₂ = table_outcome n t₁ i j o

  j<n : j < n
  j<n = test-station w n t i makes long h

  apart : i ≢ j
  apart = station-apart w n i m h (omega (arith, low, next_test-low w n t i)) (test_below w n t i makes)

  long₁ : length t₁ ≡ table_length n
  long₁ = count_test-length n t i w m o ∙ long

  long₂ : length t₂ ≡ table_length n
  long₂ = outcome-length n t₁ i j long₁ h j<n apart o ∙ long₁

  -- rows are as before the count
  row₁ : (k : ℕ) → k < n → row n t₁ k ≡ row n t k
  row₁ k hk = row_same n t₁ t k long₁ long hk (λ x hx. count_test-other n t i w m o k (head + x) (omega arith) (λ _. omega arith))

  tester-part : line n (testing w n t kind i m) i ≡ tested_at w n i (line n t i) (row_given (answered n t kind j)) m j o
  unfolding testing after_test tested_at
  tester-part =
      let given : o ≡ outcome_exchanged → row_given (answered n t kind j) ≡ row n t₁ j =
      λ e. exchanged-row n t i j long h j<n kind e ∙ sym (row₁ j j<n) in
      alone-line n t₂ i long₂ h
      ∙ rw (tester-outcome n t₁ i j long₁ h j<n apart o (row_given (answered n t kind j)) given, count-line n t i long h w m o)

  tested-part : line n (testing w n t kind i m) j ≡ received n j i (line n t j) (message (row n t i) o)
  unfolding testing after_test
  tested-part =
      alone-others n t₂ i long₂ h j j<n apart
      ∙ (tested-outcome n t₁ i j long₁ h j<n apart o ∙ rw (row₁ i h, count-others n t i long h w m o j j<n apart))

  others-part : (k : ℕ) → k < n → k ≢ i → k ≢ j → line n (testing w n t kind i m) k ≡ line n t k
  unfolding testing after_test
  others-part k hk ni nj =
      alone-others n t₂ i long₂ h k hk (λ e. ni (sym e))
      ∙ (others-outcome n t₁ i j long₁ h j<n apart o k hk ni nj ∙ count-others n t i long h w m o k hk (λ e. ni (sym e)))

  -- the tested station by the line
  tested-here : tested w n i (line n t i) ≡ j
  unfolding tested
  tested-here = rw (tests-line n t i long h w, makes, next-line n t i long h w)

  outcome-here : o ≡ outcome_of i j (line n t i) (answered n t kind j)
  outcome-here = outcome-line n t i j long h j<n kind

  reply-here : reply_to w n t kind i ≡ answered n t kind j
  reply-here = ap (answered n t kind) tested-here

  board-outcome : outcome w n i (line n t i) (reply_to w n t kind i) ≡ o
  unfolding outcome
  board-outcome = rw (reply-here, tests-line n t i long h w, makes, next-line n t i long h w) (sym outcome-here)

  board-turn : line n (turn w n t kind i) i ≡ turn_of w n i (line n t i) (reply_to w n t kind i)
  unfolding turn turn_of
  board-turn = rw (reply-here, tests-line n t i long h w, makes, next-line n t i long h w, ← outcome-here) tester-part

  turns : turn w n t kind i ≡ testing w n t kind i m
  unfolding turn
  turns = rw makes

  tests-j : turn_tested w n t i ≡ j
  unfolding turn_tested
  tests-j = rw makes

  pub same-testing : SameTurn w n t kind i
  unfolding turn_outcome
  same-testing = record {
    tested_station = tested-is n t i long h w;
    outcome_number = rw (board-outcome, makes);
    tester = board-turn;
    tested_line = λ k hk e. rw (e, tests-j, turns, board-outcome, line-row n t i long h) tested-part;
    others = λ k hk ni nj. rw turns (others-part k hk ni (λ e. nj (e ∙ sym tests-j)));
  }

-- a turn that finishes the pass
module _ (w : Wiring) (n : ℕ) (t : List ℕ) (kind i : ℕ) (long : length t ≡ table_length n) (h : i < n) (makes : makes_test w n t i ≡ false) where
  finishes : turn w n t kind i ≡ finish_pass w n t i
  unfolding turn
  finishes = rw makes

  pub none-tested : turn_tested w n t i ≡ 255
  unfolding turn_tested
  none-tested = rw makes

  pub finish-outcome : (reply : Option (List ℕ)) → outcome w n i (line n t i) reply ≡ 0
  unfolding outcome
  finish-outcome reply = rw (tests-line n t i long h w, makes)

  pub finish-turn : (reply : Option (List ℕ)) → turn_of w n i (line n t i) reply ≡ pass_finished w n (line n t i)
  unfolding turn_of
  finish-turn reply = rw (tests-line n t i long h w, makes)

  pub same-finish : n ≤ 64 → SameTurn w n t kind i
  unfolding turn_outcome
  same-finish top = record {
    tested_station = tested-is n t i long h w;
    outcome_number = rw (finish-outcome (reply_to w n t kind i), makes);
    tester = rw (finishes, finish-turn (reply_to w n t kind i)) (finish-line n t i long h w);
    tested_line = λ k hk e. absurd (omega (arith, none-tested));
    others = λ k hk ni nj. rw finishes (finish-others n t i long h w k hk (λ e. ni (sym e)));
  }

pub turn-length : (w : Wiring) (n : ℕ) (t : List ℕ) (kind i : ℕ) → length t ≡ table_length n → i < n → 1 ≤ next_distance n t i
    → length (turn w n t kind i) ≡ length t
unfolding turn testing after_test
turn-length w n t kind i long h low =
    by_bool (makes_test w n t i)
    (λ m. rw m (alone-length n _ i (long₂ w n t kind i long h m low) h ∙ (long₂ w n t kind i long h m low ∙ sym long)))
    (λ m. rw m (finish_pass-length n t i w))

pub same-turn : BoardsDoTheTurn
same-turn w n t kind i z h =
    let a = accepted w n t z in
    by_bool (makes_test w n t i)
    (λ e. same-testing w n t kind i a.long h e (accepted-line w n t a i h).pass.next_low)
    (λ e. same-finish w n t kind i a.long h e (size_top n a.size))
