-- What each wiring must satisfy of the stations that are tested: a station is tested where one stands, and it is another one.
-- Assumes nothing.
use mathlib.Core.Path.{◌≡◌, sym, ◌∙◌}
use mathlib.Core.Logic.{◌≢◌, by_cases}
use mathlib.Core.Bool.{true, false, ◌&&◌}
use mathlib.Core.List.{List}
use Prim.Native.Nat.{ℕ, ◌+◌, ◌-◌, ◌%◌, ◌≤◌, ◌<◌}
use native.Mathlib.Nat.{mod-eq_of_lt, mod-eq-sub-mod}
use native.Mathlib.Decide.{dec_lt}
use native.Mathlib.Omega.{arith}
use lib.Bits.{xor_self}
use lib.Dec.{eqb}
use lib.ListN.{length}
use Rattle.lists.specs.Search.{least}
use Rattle.lists.proofs.BoolLaws.{by_bool, least-same}
use Rattle.lists.proofs.SearchLaws.{least-is, least-between, both}
use Rattle.lists.proofs.Xor.{xor-cancel}
use Rattle.table.specs.Wiring.{is_ring, end_distance}
use Rattle.table.proofs.SizeLaws.{size_top}
use Rattle.table.proofs.WiringLaws.{end_ring, end_top}
use Rattle.table.specs.declared.wiring.Wiring.{Wiring}
use Rattle.station.specs.Groups.{station_at}
use Rattle.station.specs.Tests.{due}
use Rattle.station.specs.Outcome.{outcome_exchanged}
use Rattle.station.specs.Wired.{wired_station, wired_due, next_due, next_after}
use Rattle.station.proofs.DueLaws.{due-present}

-- what a size and an end distance are at most
pub ruleset wired_bounds = (size_top, end_top, end_ring)

-- a place of the ring before n, and one behind it
pub place_before : (n x : ℕ) → x < n → x % n ≡ x
place_before n x h = mod-eq_of_lt h

pub place_behind : (n x : ℕ) → n ≤ x → x < n + n → x % n ≡ x - n
place_behind n x lo hi = mod-eq-sub-mod lo ∙ mod-eq_of_lt (omega arith)

-- whose station it is
pub place_below : (n x : ℕ) → x < n + n → x % n < n
place_below n x h =
    by_cases (dec_lt x n) (λ l. omega (arith, place_before n x l)) (λ l. omega (arith, place_behind n x (omega arith) h))

-- the station at a distance on each wiring
pub cube-station : (w : Wiring) (n i m : ℕ) → is_ring w ≡ false → wired_station w n i m ≡ station_at i m
unfolding wired_station
cube-station w n i m e = rw e

pub ring-station : (w : Wiring) (n i m : ℕ) → is_ring w ≡ true → wired_station w n i m ≡ (i + m) % n
unfolding wired_station
ring-station w n i m e = rw e

-- where to test on each wiring
pub cube_due : (w : Wiring) (r : List ℕ) (i m : ℕ) → is_ring w ≡ false → wired_due w r i m ≡ due r i m
unfolding wired_due
cube_due w r i m e = rw e

pub ring_due : (w : Wiring) (r : List ℕ) (i m : ℕ) → is_ring w ≡ true → wired_due w r i m ≡ true
unfolding wired_due
ring_due w r i m e = rw e

-- the next test, on the cube by the due distances; on the ring it is the next distance
pub cube-next_due : (w : Wiring) (n : ℕ) (r : List ℕ) (i next : ℕ) → is_ring w ≡ false
    → next_due w n r i next ≡ least (due r i) (end_distance w n - next) next
cube-next_due w n r i next c = least-same _ _ _ _ (λ y a b. cube_due w r i y c)

pub ring-next_due : (w : Wiring) (n : ℕ) (r : List ℕ) (i next : ℕ) → is_ring w ≡ true → next_due w n r i next ≡ next
ring-next_due w n r i next e =
    by_cases (dec_lt next (end_distance w n))
    (λ l. least-is _ _ _ _ (omega arith) (omega arith) (ring_due w r i next e) (λ y a b. absurd (omega arith)))
    (λ l. omega (arith, least-between (wired_due w r i) (end_distance w n - next) next))

-- no station is at a positive distance from itself by the exclusive or
xor-apart : (i m : ℕ) → 1 ≤ m → i ≢ station_at i m
xor-apart i m pos e = let z : 0 ≡ m = cc (xor_self i, xor-cancel i m) in omega arith

ring-apart : (n i m : ℕ) → i < n → 1 ≤ m → m < n → i ≢ (i + m) % n
ring-apart n i m h pos l e =
    by_cases (dec_lt (i + m) n) (λ b. omega (arith, place_before n (i + m) b))
    (λ b. omega (arith, place_behind n (i + m) (omega arith) (omega arith)))

-- the tested station is another one
pub station-apart : (w : Wiring) (n i m : ℕ) → i < n → 1 ≤ m → m < end_distance w n → i ≢ wired_station w n i m
station-apart w n i m h pos l =
    by_bool (is_ring w)
    (λ r. rw (ring-station w n i m r) (ring-apart n i m h pos (omega (arith, end_ring w n r))))
    (λ c. rw (cube-station w n i m c) (xor-apart i m pos))

-- where a station is to test, one stands
pub station-present : (w : Wiring) (r : List ℕ) (n i m : ℕ) → length r ≡ n → i < n → m < end_distance w n → wired_due w r i m ≡ true
    → wired_station w n i m < n
station-present w r n i m long h l e =
    by_bool (is_ring w)
    (λ g. rw (ring-station w n i m g) (place_below n (i + m) (omega (arith, end_ring w n g))))
    (λ c. rw (cube-station w n i m c) (rw long at (due-present r i m (sym (cube_due w r i m c) ∙ e))))

-- what each wiring must satisfy of the next distance after a test: it is greater than the distance, and the end distance at most
pub next_after-between : (w : Wiring) (n m o : ℕ) → m < end_distance w n → (m < next_after w n m o) × (next_after w n m o ≤ end_distance w n)
unfolding next_after
next_after-between w n m o h =
    by_bool (is_ring w && eqb o outcome_exchanged) (λ e. rw e (omega (arith, end_ring w n (both _ _ e).0))) (λ e. rw e (omega arith))
