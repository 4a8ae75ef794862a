-- A taken entry that makes a test: the names that proofs give its parts, and what holds of the two stations.
-- Assumes nothing.
use mathlib.Core.Path.{◌≡◌}
use mathlib.Core.Logic.{◌≢◌}
use mathlib.Core.Bool.{true, false}
use mathlib.Core.List.{List}
use Prim.Native.Nat.{ℕ, ◌<◌}
use native.Mathlib.Omega.{arith}
use borrow.Author.Tests.{eqb-false}
use Rattle.table.specs.Table.{stride, cell, next_column, tests_column, live}
use Rattle.station.specs.Wired.{wired_station}
use Rattle.station.proofs.WiredLaws.{station-apart}
use Rattle.table.proofs.Accepting.{Accepted}
use Rattle.table.proofs.CellLaws.{accepted-line}
use Rattle.table.specs.declared.wiring.Wiring.{Wiring}
use Rattle.plant.specs.Turn.{next_test, makes_test, count_test, outcome_at}
use Rattle.plant.proofs.NextTest.{next_test-low, test_below, test-station}
use Rattle.plant.proofs.StepCells.{count_test-other}
use Rattle.plant.proofs.StepLines.{Lines, count_test-lines}
use Rattle.plant.specs.Entry.{Entry, State, is_crash, entry_check}
use Rattle.plant.proofs.RulesKept.{entry-facts}
use Rattle.std.specs.Prelude.{Ok}

-- the table before an entry, its station, the distance of that one's next test, the station there and the outcome, and the table with the test
-- counted
pub record Parts : Type 0 where
  pub before : List ℕ
  pub tester : ℕ
  pub distance : ℕ
  pub tested : ℕ
  pub outcome : ℕ
  pub counted : List ℕ

abbrev pub parts_of : Wiring → ℕ → State → Entry → Parts
parts_of w n s e =
    let i = e.station in
    let m = next_test w n s.table i in
    let o = outcome_at w n s.table e.kind i m in
    record { before = s.table; tester = i; distance = m; tested = wired_station w n i m; outcome = o; counted = count_test w n s.table i m o }

-- the count of a test writes next distance and tests made only
abbrev pub Counted : ℕ → List ℕ → List ℕ → Type 0
Counted n t u = (k c : ℕ) → c < stride n → (c ≢ next_column) × (c ≢ tests_column) → cell n u k c ≡ cell n t k c

-- i, which is live at t, tests j, and u is t with the test counted
pub record Pair (w : Wiring) (n : ℕ) (t u : List ℕ) (i j : ℕ) : Type 0 where
  pub lines : Lines w n t
  pub below : i < n
  pub tested_below : j < n
  pub apart : i ≢ j
  pub is_live : live n t i ≡ true
  pub counted_lines : Lines w n u
  pub others : Counted n t u

-- the count itself, whoever tests
pub count-others : (w : Wiring) (n : ℕ) (s : State) (e : Entry) → Counted n (parts_of w n s e).before (parts_of w n s e).counted
count-others w n s e k c h out = count_test-other n s.table e.station w (parts_of w n s e).distance (parts_of w n s e).outcome k c h (λ _. out)

pub testing-pair : (w : Wiring) (n : ℕ) (s : State) (e : Entry) → Accepted w n s.table → entry_check n s e ≡ Ok tt → is_crash e ≡ false
    → makes_test w n s.table e.station ≡ true
    → Pair w n (parts_of w n s e).before (parts_of w n s e).counted (parts_of w n s e).tester (parts_of w n s e).tested
testing-pair w n s e ok z no-crash makes =
    let t = s.table in
    let i = e.station in
    let m = next_test w n t i in
    let facts = entry-facts n s e z in
    let lines : Lines w n t = (ok.long, accepted-line w n t ok) in
    let low = next_test-low w n t i in
    let high = test_below w n t i makes in
    let going = facts.unfinished (eqb-false e.kind 3 no-crash) in
    record {
      lines = lines;
      below = facts.below;
      tested_below = test-station w n t i makes ok.long facts.below;
      apart = station-apart w n i m facts.below (omega (arith, low, (lines.1 i facts.below).pass.next_low)) high;
      is_live = facts.is_live;
      counted_lines = count_test-lines w n t i lines facts.below m (parts_of w n s e).outcome going low high;
      others = count-others w n s e;
    }
