-- The line of a tester after an exchange: its row is the union, and it is live.
-- Assumes nothing.
use mathlib.Core.Path.{◌≡◌, ap, ◌∙◌}
use mathlib.Core.Logic.{◌≢◌}
use mathlib.Core.Bool.{true, false, and-false}
use mathlib.Core.List.{List}
use Prim.Native.Nat.{ℕ, ◌+◌, max, ◌≤◌, ◌<◌}
use native.Mathlib.Omega.{arith}
use borrow.Author.Tests.{eq-eqb, ne_eqb}
use lib.Dec.{eqb}
use lib.ListN.{length, get_or, set, length-set}
use lib.Seq.{get_or-set_other}
use Rattle.std.specs.Prelude.{Some}
use Rattle.lists.specs.Search.{every}
use Rattle.lists.specs.Bytes.{joined_byte}
use Rattle.lists.proofs.BoolLaws.{by_bool}
use Rattle.lists.proofs.SearchLaws.{every-not}
use Rattle.table.specs.Table.{head, stride, status_column, next_column, tests_column, status_alone}
use Rattle.table.specs.Line.{row_of, with_row}
use Rattle.table.proofs.LineLaws.{row_of-length, row_of-at, with_row-head, with_row-in, with_row-length}
use Rattle.table.specs.declared.wiring.Wiring.{Wiring}
use Rattle.station.specs.Outcome.{outcome_exchanged}
use Rattle.station.specs.Wired.{wired_station, next_after}
use Rattle.station.specs.Rows.{union, self_or_suspected_by}
use Rattle.station.proofs.UnionLaws.{union-length, union-at, union-others}
use Rattle.board.specs.Board.{suspicion_of, next_of, tests, tested, turn_of, outcome, outcome_of, counted, joined, tested_at, after_outcome}
use Rattle.board.specs.Board.{after_alone, alone}
use Rattle.cable.proofs.RowsSent.{row_of-set, row_of-with}

-- a turn that exchanges leaves the union as the tester's row, and leaves it live where neither suspects the other and the tested board not itself
module _ (w : Wiring) (n i : ℕ) (l r : List ℕ) (m j : ℕ) (long : length l ≡ stride n) where
  one : List ℕ
  one = set l next_column (next_after w n m outcome_exchanged)

  count : List ℕ
  count = counted w n l m outcome_exchanged

  count-long : length count ≡ stride n
  unfolding count counted
  count-long = length-set _ tests_column _ ∙ (length-set l next_column _ ∙ long)

  count-row : row_of n count ≡ row_of n l
  unfolding count counted
  count-row = row_of-set n _ tests_column _ (length-set l next_column _ ∙ long) (omega arith) ∙ row_of-set n l next_column _ long (omega arith)

  count-status : get_or count status_column 0 ≡ get_or l status_column 0
  unfolding one count counted
  count-status =
      get_or-set_other one tests_column status_column (get_or l tests_column 0 + 1) 0 (λ e. omega arith)
      ∙ get_or-set_other l next_column status_column (next_after w n m outcome_exchanged) 0 (λ e. omega arith)

  new_row : List ℕ
  new_row = union (row_of n count) r i

  row-long : length new_row ≡ n
  unfolding new_row
  row-long = union-length (row_of n count) r i ∙ row_of-length n count count-long

  new_line : List ℕ
  new_line = with_row n count new_row

  line-row : row_of n new_line ≡ union (row_of n l) r i
  unfolding new_line new_row
  line-row = row_of-with n count (union (row_of n count) r i) count-long row-long ∙ ap (λ (x : List ℕ). union x r i) count-row

  joins : row_of n (tested_at w n i l r m j outcome_exchanged) ≡ union (row_of n l) r i
  unfolding tested_at after_outcome after_alone joined count new_row new_line
  joins =
      by_bool (alone n i new_line)
      (λ a. rw a (row_of-set n new_line status_column status_alone (with_row-length n count new_row count-long row-long) (omega arith) ∙ line-row))
      (λ a. rw a line-row)

  stays-live : j < n → j ≢ i → get_or l (head + j) 0 ≡ 0 → get_or r j 0 ≡ 0 → get_or l status_column 0 ≡ 0
      → get_or (tested_at w n i l r m j outcome_exchanged) status_column 0 ≡ 0
  unfolding tested_at after_outcome after_alone alone joined joined_byte count new_row new_line
  stays-live hj apart clear own alive =
      let rl : length (row_of n count) ≡ n = row_of-length n count count-long in
      let x : get_or (row_of n count) j 0 ≡ 0 = ap (λ (y : List ℕ). get_or y j 0) count-row ∙ (row_of-at n l j hj ∙ clear) in
      let y : get_or new_row j 0 ≡ max (get_or (row_of n count) j 0) (get_or r j 0) =
      union-at (row_of n count) r i j (omega (arith, rl)) ∙ union-others (row_of n count) r i j apart in
      let z : get_or new_line (head + j) 0 ≡ 0 = with_row-in n count new_row count-long row-long j hj ∙ omega (arith, x, y, own) in
      let q : self_or_suspected_by (suspicion_of new_line) i j ≡ false = rw (ne_eqb j i apart, z) in
      let a : every (self_or_suspected_by (suspicion_of new_line) i) n ≡ false =
      every-not (self_or_suspected_by (suspicion_of new_line) i) n j hj q in
      let s : get_or new_line status_column 0 ≡ 0 =
      with_row-head n count new_row count-long row-long status_column (omega arith) ∙ (count-status ∙ alive) in
      rw (a, and-false (eqb (get_or new_line status_column 0) 0)) s

-- an exchange is made where neither suspects the other
clear-of : (i j : ℕ) (l r : List ℕ) → outcome_of i j l (Some r) ≡ outcome_exchanged → get_or l (head + j) 0 ≡ 1 → ⊥
unfolding outcome_of
clear-of i j l r e one =
    by_bool (eqb (get_or r i 0) 1) (λ a. let z : ◌≡◌ {A = ℕ} 2 1 = rw a at e in omega arith)
    (λ a. let z : ◌≡◌ {A = ℕ} 5 1 = rw (a, eq-eqb (get_or l (head + j) 0) 1 one) at e in omega arith)

pub live-after : (w : Wiring) (n i : ℕ) (l r : List ℕ) (j : ℕ) → length l ≡ stride n → j < n → j ≢ i → tests w n i l ≡ true → tested w n i l ≡ j
    → outcome w n i l (Some r) ≡ outcome_exchanged → get_or l (head + j) 0 ≤ 1 → get_or r j 0 ≡ 0
    → get_or l status_column 0 ≡ 0 → get_or (turn_of w n i l (Some r)) status_column 0 ≡ 0
unfolding turn_of outcome tested
live-after w n i l r j long hj apart makes is e low own alive =
    let k : wired_station w n i (next_of w n i l) ≡ j = rw makes at is in
    let o : outcome_of i j l (Some r) ≡ outcome_exchanged = rw (makes, k) at e in
    let clear : get_or l (head + j) 0 ≡ 0 = let c = clear-of i j l r o in omega arith in
    rw (makes, k, o) (stays-live w n i l r (next_of w n i l) j long hj apart clear own alive)

pub row-after : (w : Wiring) (n i : ℕ) (l r : List ℕ) → length l ≡ stride n → tests w n i l ≡ true → outcome w n i l (Some r) ≡ outcome_exchanged
    → row_of n (turn_of w n i l (Some r)) ≡ union (row_of n l) r i
unfolding turn_of outcome
row-after w n i l r long makes e =
    let o = rw makes at e in
    rw (makes, o) (joins w n i l r (next_of w n i l) _ long)
