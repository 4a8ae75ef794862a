-- Laws of the distance that a turn tests, on either wiring.
-- Assumes nothing.
use mathlib.Core.Path.{◌≡◌}
use mathlib.Core.Bool.{true, false}
use mathlib.Core.List.{List}
use Prim.Native.Nat.{ℕ, ◌-◌, ◌≤◌, ◌<◌}
use native.Mathlib.Omega.{arith}
use borrow.Author.Tests.{ltb-true, ltb-false}
use lib.ListN.{length}
use Rattle.lists.specs.Search.{least}
use Rattle.table.specs.Wiring.{is_ring, end_distance}
use Rattle.station.specs.Wired.{wired_station, wired_due}
use Rattle.table.specs.Table.{table_length, next_distance, row}
use Rattle.station.specs.Tests.{due}
use Rattle.lists.proofs.SearchLaws.{least-between, least-passes, least-before}
use Rattle.table.proofs.CellLaws.{row-length}
use Rattle.table.specs.declared.wiring.Wiring.{Wiring}
use Rattle.station.proofs.WiredLaws.{cube-next_due, ring-next_due, station-present}
use Rattle.plant.specs.Turn.{next_test, makes_test}

module _ (w : Wiring) (n : ℕ) (t : List ℕ) (i : ℕ) where
  -- on the cube it is the least due distance, on the ring the next one
  pub cube-next : is_ring w ≡ false → next_test w n t i ≡ least (due (row n t i) i) (end_distance w n - next_distance n t i) (next_distance n t i)
  unfolding next_test
  cube-next c = cube-next_due w n (row n t i) i (next_distance n t i) c

  pub ring-next : is_ring w ≡ true → next_test w n t i ≡ next_distance n t i
  unfolding next_test
  ring-next r = ring-next_due w n (row n t i) i (next_distance n t i) r

  pub next_test-low : next_distance n t i ≤ next_test w n t i
  unfolding next_test
  next_test-low = (least-between (wired_due w (row n t i) i) (end_distance w n - next_distance n t i) (next_distance n t i)).0

  next_test-high : next_distance n t i ≤ end_distance w n → next_test w n t i ≤ end_distance w n
  unfolding next_test
  next_test-high h = omega (arith, (least-between (wired_due w (row n t i) i) (end_distance w n - next_distance n t i) (next_distance n t i)).1)

  -- at no distance from the next one on is it to test before the one tested
  pub not-due-before : (y : ℕ) → next_distance n t i ≤ y → y < next_test w n t i → wired_due w (row n t i) i y ≡ false
  unfolding next_test
  not-due-before y = least-before (wired_due w (row n t i) i) (end_distance w n - next_distance n t i) (next_distance n t i) y

  -- a turn that makes a test
  pub test_below : makes_test w n t i ≡ true → next_test w n t i < end_distance w n
  unfolding makes_test
  test_below e = ltb-true (next_test w n t i) (end_distance w n) e

  pub test-due : makes_test w n t i ≡ true → wired_due w (row n t i) i (next_test w n t i) ≡ true
  unfolding next_test
  test-due e =
      least-passes (wired_due w (row n t i) i) (end_distance w n - next_distance n t i) (next_distance n t i)
      (omega (arith, test_below e, next_test-low))

  -- a station stands there
  pub test-station : makes_test w n t i ≡ true → length t ≡ table_length n → i < n → wired_station w n i (next_test w n t i) < n
  test-station e long h = station-present w (row n t i) n i (next_test w n t i) (row-length n t i long h) h (test_below e) (test-due e)

  -- a turn that makes none
  no_test : makes_test w n t i ≡ false → next_distance n t i ≤ end_distance w n → next_test w n t i ≡ end_distance w n
  unfolding makes_test
  no_test e h = omega (arith, ltb-false (next_test w n t i) (end_distance w n) e, next_test-high h)

  pub none-due : makes_test w n t i ≡ false → next_distance n t i ≤ end_distance w n
      → (y : ℕ) → next_distance n t i ≤ y → y < end_distance w n → wired_due w (row n t i) i y ≡ false
  none-due e h y lo hi = not-due-before y lo (omega (arith, no_test e h))
