-- What a wiring says of the stations that a station tests: who stands at a distance, and at which distances it tests. w is the wiring.
-- Assumes nothing.
use Rattle.std.specs.Prelude.{ℕ, ◌+◌, ◌-◌, ◌%◌, Bool, ◌&&◌, ◌||◌, List, if◌then◌else◌, ◌==◌}
use Rattle.lists.specs.Search.{least}
use Rattle.table.specs.Wiring.{is_ring, end_distance}
use Rattle.table.specs.declared.wiring.Wiring.{Wiring}
use Rattle.station.specs.Groups.{station_at}
use Rattle.station.specs.Tests.{due}
use Rattle.station.specs.Outcome.{outcome_exchanged}

-- Rules Distance and Distance on the ring: the station at distance m from i. On the ring it is the one m places after i, where behind n − 1 comes 0
unfoldable pub wired_station : Wiring → ℕ → ℕ → ℕ → ℕ
wired_station w n i m = if is_ring w then (i + m) % n else station_at i m

-- Rules Due and Every distance is due: whether i, whose row is r, is to test at distance m. On the ring it is at each, whomever it suspects
unfoldable pub wired_due : Wiring → List ℕ → ℕ → ℕ → Bool
wired_due w r i m = is_ring w || due r i m

-- Rules Next test of the cube and Next test of the ring, of a station by its row and its next distance: the least distance from that on at which
-- it is to test; the end distance where there is none
abbrev pub next_due : Wiring → ℕ → List ℕ → ℕ → ℕ → ℕ
next_due w n r i next = least (wired_due w r i) (end_distance w n - next) next

-- Rules Next distance of the cube and Next distance of the ring: after a test at distance m it is m + 1; but n after an exchange on the ring
unfoldable pub next_after : Wiring → ℕ → ℕ → ℕ → ℕ
next_after w n m outcome = if is_ring w && outcome == outcome_exchanged then n else m + 1
