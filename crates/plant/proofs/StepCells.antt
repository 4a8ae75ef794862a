-- What each cell of the table is after each part of a turn.
-- Assumes nothing.
use mathlib.Core.Path.{◌≡◌, sym, ◌∙◌}
use mathlib.Core.Logic.{◌≢◌}
use mathlib.Core.List.{List}
use Prim.Native.Nat.{ℕ, ◌+◌, ◌-◌, max, ◌<◌}
use native.Mathlib.Decide.{dec_lt, ℕ_discrete}
use native.Mathlib.Omega.{arith}
use lib.ListN.{length}
use Rattle.table.specs.Wiring.{end_distance}
use Rattle.table.specs.Table.{head, stride, table_length, cell, status_column, next_column, finished_column, tests_column, told_by_column, status}
use Rattle.table.specs.Table.{status_told, next_distance, finished, tests_made, told_by, suspects, row, set_row}
use Rattle.lists.specs.Bytes.{joined_byte}
use Rattle.station.specs.Rows.{union_byte, union, mark}
use Rattle.table.proofs.CellLaws.{cell_same, cell_other, set_cell-length, row-length, row_at, set_row-length, set_row-in, set_row-out}
use Rattle.table.specs.declared.wiring.Wiring.{Wiring}
use Rattle.station.proofs.UnionLaws.{union-length, union-at, union-own, union-others, mark-length, mark-same, mark-other}
use Rattle.plant.specs.Turn.{set_status, leave_told, finish_pass, count_test, exchange_rows, suspect}
use Rattle.station.specs.Wired.{next_after}

module _ (n : ℕ) (t : List ℕ) (i : ℕ) where
  -- the end of a pass: next distance the end distance, finished 1
  pub finish_pass-length : (w : Wiring) → length (finish_pass w n t i) ≡ length t
  unfolding finish_pass
  finish_pass-length w = simp set_cell-length

  pub finish_pass-other : (w : Wiring) (i' c : ℕ) → c < stride n → (i ≡ i' → (c ≢ next_column) × (c ≢ finished_column))
      → cell n (finish_pass w n t i) i' c ≡ cell n t i' c
  unfolding finish_pass
  finish_pass-other w i' c h out =
      cell_other n _ i finished_column 1 i' c (omega arith) h (λ e f. (out e).1 (sym f))
      ∙ cell_other n t i next_column (end_distance w n) i' c (omega arith) h (λ e f. (out e).0 (sym f))

  -- the test is counted, by its outcome o: next distance what the wiring says, one test more
  pub count_test-length : (w : Wiring) (m o : ℕ) → length (count_test w n t i m o) ≡ length t
  unfolding count_test
  count_test-length w m o = simp set_cell-length

  pub count_test-other : (w : Wiring) (m o i' c : ℕ) → c < stride n → (i ≡ i' → (c ≢ next_column) × (c ≢ tests_column))
      → cell n (count_test w n t i m o) i' c ≡ cell n t i' c
  unfolding count_test
  count_test-other w m o i' c h out =
      cell_other n _ i tests_column _ i' c (omega arith) h (λ e f. (out e).1 (sym f))
      ∙ cell_other n t i next_column (next_after w n m o) i' c (omega arith) h (λ e f. (out e).0 (sym f))

  -- i is told by j: status 2 and byte 4
  pub leave_told-length : (j : ℕ) → length (leave_told n t i j) ≡ length t
  unfolding leave_told
  leave_told-length j = simp set_cell-length

  pub leave_told-other : (j i' c : ℕ) → c < stride n → (i ≡ i' → (c ≢ status_column) × (c ≢ told_by_column))
      → cell n (leave_told n t i j) i' c ≡ cell n t i' c
  unfolding leave_told
  leave_told-other j i' c h out =
      cell_other n _ i told_by_column _ i' c (omega arith) h (λ e f. (out e).1 (sym f))
      ∙ cell_other n t i status_column status_told i' c (omega arith) h (λ e f. (out e).0 (sym f))

  module _ (long : length t ≡ table_length n) (h : i < n) where
    pub leave_told-status : (j : ℕ) → status n (leave_told n t i j) i ≡ status_told
    unfolding leave_told
    leave_told-status j =
        cell_other n _ i told_by_column _ i status_column (omega arith) (omega arith) (omega arith)
        ∙ cell_same n t i status_column status_told long h (omega arith)

    pub leave_told-teller : (j : ℕ) → told_by n (leave_told n t i j) i ≡ j
    unfolding leave_told
    leave_told-teller j =
        cell_same n (set_status n t i status_told) i told_by_column j (set_cell-length n t i status_column status_told ∙ long) h (omega arith)

    pub finish_pass-next : (w : Wiring) → next_distance n (finish_pass w n t i) i ≡ end_distance w n
    unfolding finish_pass
    finish_pass-next w =
        cell_other n _ i finished_column 1 i next_column (omega arith) (omega arith) (omega arith)
        ∙ cell_same n t i next_column (end_distance w n) long h (omega arith)

    pub finish_pass-finished : (w : Wiring) → finished n (finish_pass w n t i) i ≡ 1
    unfolding finish_pass
    finish_pass-finished w = cell_same n _ i finished_column 1 (set_cell-length n t i next_column (end_distance w n) ∙ long) h (omega arith)

    pub count_test-next : (w : Wiring) (m o : ℕ) → next_distance n (count_test w n t i m o) i ≡ next_after w n m o
    unfolding count_test
    count_test-next w m o =
        cell_other n _ i tests_column _ i next_column (omega arith) (omega arith) (omega arith)
        ∙ cell_same n t i next_column (next_after w n m o) long h (omega arith)

    pub count_test-tests : (w : Wiring) (m o : ℕ) → tests_made n (count_test w n t i m o) i ≡ tests_made n t i + 1
    unfolding count_test
    count_test-tests w m o = cell_same n _ i tests_column _ (set_cell-length n t i next_column (next_after w n m o) ∙ long) h (omega arith)

    -- no reply: only the byte about j changes, to 1
    pub suspect-length : (j : ℕ) → length (suspect n t i j) ≡ length t
    unfolding suspect
    suspect-length j = set_row-length n t i (mark (row n t i) j) long h (mark-length (row n t i) j ∙ row-length n t i long h)

    pub suspect-same : (j : ℕ) → j < n → suspects n (suspect n t i j) i j ≡ 1
    unfolding suspect
    suspect-same j hj =
        let e : length (row n t i) ≡ n = row-length n t i long h in
        set_row-in n t i (mark (row n t i) j) j long h (mark-length (row n t i) j ∙ e) hj ∙ mark-same (row n t i) j (omega arith)

    pub suspect-other : (j i' c : ℕ) → c < stride n → (i ≡ i' → c ≢ head + j) → cell n (suspect n t i j) i' c ≡ cell n t i' c
    unfolding suspect
    suspect-other j i' c hc out = pick (ℕ_discrete i i') (dec_lt c head)
      where
        r : List ℕ
        r = mark (row n t i) j

        hr : length r ≡ n
        hr = mark-length (row n t i) j ∙ row-length n t i long h

        pick : Dec (i ≡ i') → Dec (c < head) → cell n (set_row n t i r) i' c ≡ cell n t i' c
        pick (no d) l = set_row-out n t i r i' c long h hr hc (λ e. absurd (d e))
        pick (yes e) (yes l) = set_row-out n t i r i' c long h hr hc (λ _. l)
        pick (yes e) (no l) =
            let k : ℕ = c - head in
            let f : c ≡ head + k = omega arith in
            let ne : k ≢ j = λ g. out e (omega arith) in
            rw (← e, f) (set_row-in n t i r k long h hr (omega arith) ∙ (mark-other (row n t i) j k ne ∙ row_at n t i k (omega arith)))

    -- an exchange: the rows of i and j change, each to the union
    module _ (j : ℕ) (hj : j < n) (apart : i ≢ j) where
      u₁ : List ℕ
      u₁ = union (row n t i) (row n t j) i

      u₂ : List ℕ
      u₂ = union (row n t j) (row n t i) j

      long₁ : length u₁ ≡ n
      unfolding u₁
      long₁ = union-length (row n t i) (row n t j) i ∙ row-length n t i long h

      long₂ : length u₂ ≡ n
      unfolding u₂
      long₂ = union-length (row n t j) (row n t i) j ∙ row-length n t j long hj

      first-long : length (set_row n t i u₁) ≡ table_length n
      first-long = set_row-length n t i u₁ long h long₁ ∙ long

      pub exchange-length : length (exchange_rows n t i j) ≡ length t
      unfolding exchange_rows u₁ u₂
      exchange-length = set_row-length n (set_row n t i u₁) j u₂ first-long hj long₂ ∙ set_row-length n t i u₁ long h long₁

      pub exchange-other : (i' c : ℕ) → c < stride n → (i ≡ i' → c < head) → (j ≡ i' → c < head)
          → cell n (exchange_rows n t i j) i' c ≡ cell n t i' c
      unfolding exchange_rows u₁ u₂
      exchange-other i' c hc out out' =
          set_row-out n (set_row n t i u₁) j u₂ i' c first-long hj long₂ hc out' ∙ set_row-out n t i u₁ i' c long h long₁ hc out

      tester-byte : (k : ℕ) → k < n → suspects n (exchange_rows n t i j) i k ≡ union_byte (row n t i) (row n t j) i k
      unfolding exchange_rows u₁ u₂
      tester-byte k hk =
          let e : length (row n t i) ≡ n = row-length n t i long h in
          set_row-out n (set_row n t i u₁) j u₂ i (head + k) first-long hj long₂ (omega arith) (λ e. absurd (apart (sym e)))
          ∙ (set_row-in n t i u₁ k long h long₁ hk ∙ union-at (row n t i) (row n t j) i k (omega arith))

      tested-byte : (k : ℕ) → k < n → suspects n (exchange_rows n t i j) j k ≡ union_byte (row n t j) (row n t i) j k
      unfolding exchange_rows u₁ u₂
      tested-byte k hk =
          let e : length (row n t j) ≡ n = row-length n t j long hj in
          set_row-in n (set_row n t i u₁) j u₂ k first-long hj long₂ hk ∙ union-at (row n t j) (row n t i) j k (omega arith)

      pub exchange-tester : (k : ℕ) → k < n → k ≢ i → suspects n (exchange_rows n t i j) i k ≡ max (suspects n t i k) (suspects n t j k)
      unfolding joined_byte
      exchange-tester k hk ne =
          cc (tester-byte k hk, union-others (row n t i) (row n t j) i k ne, row_at n t i k hk, row_at n t j k hk)

      pub exchange-tested : (k : ℕ) → k < n → k ≢ j → suspects n (exchange_rows n t i j) j k ≡ max (suspects n t j k) (suspects n t i k)
      unfolding joined_byte
      exchange-tested k hk ne =
          cc (tested-byte k hk, union-others (row n t j) (row n t i) j k ne, row_at n t i k hk, row_at n t j k hk)

      pub exchange-tester-own : suspects n (exchange_rows n t i j) i i ≡ suspects n t i i
      exchange-tester-own = cc (tester-byte i h, union-own (row n t i) (row n t j) i, row_at n t i i h)

      pub exchange-tested-own : suspects n (exchange_rows n t i j) j j ≡ suspects n t j j
      exchange-tested-own = cc (tested-byte j hj, union-own (row n t j) (row n t i) j, row_at n t j j hj)
