-- Which distances are due, and who is first at the others.
-- Assumes nothing.
use Rattle.std.specs.Prelude.{ℕ, Bool, true, false, List, length, Option, Some, None, if◌then◌else◌, ◌==◌, nat_lt, slice_index_or}
use Rattle.lists.specs.Search.{least, select}
use Rattle.station.specs.Groups.{station_at, is_present, width, member}
use Rattle.table.specs.Sizes.{level, distances}

-- whether a row leaves station x not suspected. A number that is not below the row's length is absent: never "not suspected"
unfoldable pub unsuspected : List ℕ → ℕ → Bool
unsuspected r x = slice_index_or r x 1 == 0

-- the least place in the full group of j at level s whose number passes q; the full group's width where there is none
unfoldable pub first_place : (ℕ → Bool) → ℕ → ℕ → ℕ
first_place q j s = least (λ k. q (member j s k)) (width s) 0

-- Rule First: the first number in the full group of j at level s that passes q
unfoldable pub first : (ℕ → Bool) → ℕ → ℕ → Option ℕ
first q j s = if nat_lt (first_place q j s) (width s) then Some (member j s (first_place q j s)) else None

-- the answer to whether a distance is due: it is due, or the station that is first instead
pub data DueAnswer : Type 0 where
  answer_due : DueAnswer
  answer_ahead : ℕ → DueAnswer

-- Rule Nobody to name: what is answered to i where the first station of the group is the one given. Where nobody is first (the group of level 0
-- is empty; the row leaves nobody of the group unsuspected, not even i) it names i itself, which no other case does
abbrev pub answer_of : ℕ → Option ℕ → DueAnswer
answer_of i None = answer_ahead i
answer_of i (Some x) = if x == i then answer_due else answer_ahead x

-- whether a station stands at distance m from i, whose row is r
abbrev pub stands : List ℕ → ℕ → ℕ → Bool
stands r i m = is_present (length r) (station_at i m)

-- Rule Ahead: with j at distance m from i and s the level of m, whether i is the first of the group of j at level s, or who is first instead.
-- r is the row of i. Where no station stands at distance m it names i itself, as where nobody is first
unfoldable pub answer : List ℕ → ℕ → ℕ → DueAnswer
answer r i m = if stands r i m then answer_of i (first (unsuspected r) (station_at i m) (level m)) else answer_ahead i

-- a caller that asks only for due tests takes the answer apart
abbrev pub says_due : DueAnswer → Bool
says_due answer_due = true
says_due (answer_ahead x) = false

-- Rule Due: distance m is due for i if a station j stands there, and i is the first of the group of j at the level of m
unfoldable pub due : List ℕ → ℕ → ℕ → Bool
due r i m = says_due (answer r i m)

-- Rule Due distances: those of i of n stations, by its row of n bytes, ascending. Distance 0 has level 0, whose group is empty: it is never due,
-- and the list counts from 1
unfoldable pub due_distances : List ℕ → ℕ → ℕ → List ℕ
due_distances r i n = select (due r i) (distances n)
