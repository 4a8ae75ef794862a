-- The tests that a board has made by byte 3 are due by its row: every taken entry keeps that.
-- Assumes nothing.
use mathlib.Core.Path.{◌≡◌, sym, ap, ◌∙◌}
use mathlib.Core.Logic.{by_cases}
use mathlib.Core.Bool.{true, false}
use mathlib.Core.List.{List}
use Prim.Native.Nat.{ℕ, ◌≤◌, ◌<◌}
use native.Mathlib.Nat.{le_trans}
use native.Mathlib.Decide.{ℕ_discrete}
use native.Mathlib.Omega.{arith}
use borrow.Author.Tests.{eqb-true, eq-eqb}
use lib.Dec.{eqb}
use lib.ListN.{length}
use Rattle.lists.specs.Sums.{sum_below, bit}
use Rattle.table.specs.Table.{table_length, status_column, next_column, tests_column, cell, next_distance, tests_made, suspects, row, status_crashed}
use Rattle.station.specs.Tests.{unsuspected, due}
use Rattle.lists.proofs.BoolLaws.{by_bool}
use Rattle.table.proofs.Accepting.{Accepted}
use Rattle.table.proofs.CellLaws.{cell_other, row-length, row_at, accepted-line, TurnCounts}
use Rattle.table.specs.declared.wiring.Wiring.TheVariants.{Cube}
use Rattle.station.proofs.DueLaws.{unsuspected-at}
use Rattle.station.proofs.EntryLaws.{unsuspected-below}
use Rattle.plant.specs.Turn.{makes_test, next_test, outcome_at, crash}
use Rattle.plant.specs.Entry.{Entry, State, is_crash, entry_check, acted}
use Rattle.plant.proofs.RulesKept.{entry-facts, acted-lines}
use Rattle.plant.proofs.StepLines.{Lines}
use Rattle.plant.proofs.TurnHeads.{Heads, turn-heads, passed-dues}
use Rattle.slots.specs.Law.{Wider}
use Rattle.slots.proofs.MoreTests.{fewer-below}
use Rattle.detection.proofs.RowsGrow.{Grows, acted-grows}
use Rattle.std.specs.Prelude.{Ok}

-- whom the row of line k does not suspect
pub row-unsuspected : (n : ℕ) (t : List ℕ) (k x : ℕ) → length t ≡ table_length n → k < n → x < n
    → unsuspected (row n t k) x ≡ eqb (suspects n t k x) 0
row-unsuspected n t k x long hk hx =
    unsuspected-at (row n t k) x (omega (arith, row-length n t k long hk)) ∙ ap (λ (v : ℕ). eqb v 0) (row_at n t k x hx)

-- a row that has grown
wider-rows : (n : ℕ) (t t' : List ℕ) → Lines Cube n t → Lines Cube n t' → Grows n t t'
    → (k : ℕ) → k < n → Wider (row n t k) (row n t' k) k
wider-rows n t t' lines lines' grows k h = record {
  long = row-length n t' k lines'.0 h ∙ sym (row-length n t k lines.0 h);
  own = row-unsuspected n t' k k lines'.0 h h ∙ eq-eqb (suspects n t' k k) 0 (lines'.1 k h).own;
  more = λ x e.
      let x<n : x < n = rw (row-length n t' k lines'.0 h) at (unsuspected-below (row n t' k) x e) in
      let clear : suspects n t' k x ≡ 0 = eqb-true (suspects n t' k x) 0 (sym (row-unsuspected n t' k x lines'.0 h x<n) ∙ e) in
      row-unsuspected n t k x lines.0 h x<n ∙ eq-eqb (suspects n t k x) 0 (omega (arith, grows k x h x<n));
}

-- how many of the distances below the next one are due by the row as it is
abbrev pub dues_of : ℕ → List ℕ → ℕ → ℕ → ℕ
dues_of n t i b = sum_below (λ m. bit (due (row n t i) i m)) b

-- each line has made no more tests than that
abbrev pub TestsAreDue : ℕ → List ℕ → Type 0
TestsAreDue n t = (i : ℕ) → i < n → tests_made n t i ≤ dues_of n t i (next_distance n t i)

-- a taken entry keeps it
module _ (n : ℕ) (s : State) (e : Entry) (ok : Accepted Cube n s.table) (takes : entry_check n s e ≡ Ok tt) (fits : TestsAreDue n s.table) where
  abbrev t : List ℕ
  t = s.table

  abbrev t' : List ℕ
  t' = acted Cube n t e

  abbrev i : ℕ
  i = e.station

  o : ℕ
  o = outcome_at Cube n t e.kind i (next_test Cube n t i)

  below : i < n
  below = (entry-facts n s e takes).below

  lines : Lines Cube n t
  lines = (ok.long, accepted-line Cube n t ok)

  -- by the row as it is after the entry no fewer are due
  later : (k : ℕ) → k < n → (b : ℕ) → dues_of n t k b ≤ dues_of n t' k b
  later k h =
      fewer-below (row n t k) (row n t' k) k
      (wider-rows n t t' lines (acted-lines Cube n s e ok takes) (acted-grows Cube n t e lines (below)) k h)

  -- a line whose next distance and tests stay
  stays : (k : ℕ) → k < n → next_distance n t' k ≡ next_distance n t k → tests_made n t' k ≡ tests_made n t k
      → tests_made n t' k ≤ dues_of n t' k (next_distance n t' k)
  stays k h next tests = rw (next, tests) (le_trans (fits k h) (later k h (next_distance n t k)))

  crash-fits : is_crash e ≡ true → TestsAreDue n t'
  unfolding acted crash
  crash-fits c k h =
      let same : (b : ℕ) → TurnCounts b → cell n t' k b ≡ cell n t k b =
      λ b counts. rw c (cell_other n t i status_column status_crashed k b (omega arith) (omega arith) (λ _. omega arith)) in
      stays k h (same next_column (omega arith)) (same tests_column (omega arith))

  turn-fits : is_crash e ≡ false → TestsAreDue n t'
  unfolding acted o
  turn-fits c k h =
      let heads : Heads Cube n t t' i o (makes_test Cube n t i) = rw c (turn-heads Cube n t e.kind i lines (below)) in
      by_cases (ℕ_discrete k i)
      (λ q.
      let passed = passed-dues n t t' i o heads (lines.1 i (below)).pass.next_high in
      rw q (omega (arith, heads.tests, fits i (below), passed, later i (below) (next_distance n t' i))))
      (λ q. stays k h (heads.others k next_column q (omega arith)) (heads.others k tests_column q (omega arith)))

  pub acted-fits : TestsAreDue n t'
  acted-fits k h = by_bool (is_crash e) (λ c. crash-fits c k h) (λ c. turn-fits c k h)
