-- The next test by a line, on either wiring.
-- Assumes nothing.
use mathlib.Core.Path.{◌≡◌}
use mathlib.Core.List.{List}
use Prim.Native.Nat.{ℕ, ◌-◌, ◌≤◌, ◌<◌}
use native.Mathlib.Omega.{arith}
use lib.ListN.{length, get_or}
use Rattle.lists.proofs.SearchLaws.{least-between, least-passes}
use Rattle.table.specs.Table.{stride, next_column}
use Rattle.table.specs.Wiring.{end_distance}
use Rattle.table.specs.Line.{row_of}
use Rattle.table.proofs.LineLaws.{row_of-length}
use Rattle.table.specs.declared.wiring.Wiring.{Wiring}
use Rattle.station.specs.Wired.{wired_station, wired_due}
use Rattle.station.proofs.WiredLaws.{station-present}
use Rattle.board.specs.Board.{next_of}

module _ (w : Wiring) (n i : ℕ) (l : List ℕ) where
  abbrev next : ℕ
  next = get_or l next_column 0

  pub next-low : next ≤ next_of w n i l
  unfolding next_of
  next-low = (least-between (wired_due w (row_of n l) i) (end_distance w n - next) next).0

  -- a station stands where the test is
  pub next-station : length l ≡ stride n → i < n → next_of w n i l < end_distance w n → wired_station w n i (next_of w n i l) < n
  unfolding next_of
  next-station long h below =
      station-present w (row_of n l) n i (next_of w n i l) (row_of-length n l long) h below
      (least-passes (wired_due w (row_of n l) i) (end_distance w n - next) next (omega (arith, next-low)))
