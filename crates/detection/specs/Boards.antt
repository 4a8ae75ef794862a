-- Which tests each board makes in a round that begins with exact rows.
-- Assumes nothing.
use Rattle.std.specs.Prelude.{ℕ, ◌≤◌, ◌<◌, ◌≡◌, Bool, true, ◌&&◌, List, [], ◌∷◌, map, length, if◌then◌else◌, ◌==◌, slice_index_or}
use Rattle.station.specs.Groups.{station_at}
use Rattle.table.specs.Sizes.{dimension}
use Rattle.table.specs.Table.{live}
use Rattle.station.specs.Tests.{due_distances}
use Rattle.plant.specs.Entry.{State, tested_of}
use Rattle.detection.specs.Runs.{Call, Taken, taken_test}
use Rattle.detection.specs.Claim.{rounds_of, DetectionPremises, worst_latency}
use Rattle.table.specs.Properties.{exact_row, ExactRows}
use Rattle.table.specs.declared.wiring.Wiring.TheVariants.{Cube}

-- the station that the taken entry tests; 255 where it makes no test
abbrev pub station_tested : Taken → ℕ
station_tested x = tested_of x.wiring x.size x.before.table x.entry

-- whether the taken entry is a turn of station i that makes a test
abbrev pub is_test_of : ℕ → Taken → Bool
is_test_of i x = x.entry.station == i && taken_test x

-- the stations that station i tests in the round, in order
unfoldable pub tested_in : ℕ → List Taken → List ℕ
tested_in i [] = []
tested_in i (x ∷ xs) = if is_test_of i x then station_tested x ∷ tested_in i xs else tested_in i xs

-- the table with which a round begins, that before its first entry
unfoldable pub first_table : List Taken → List ℕ
first_table [] = []
first_table (x ∷ xs) = x.before.table

-- in the kth closed round (from 0) each live board tests, in this order, the boards at the distances that are due by the row
-- that suspects exactly the boards that are not live, and no other
abbrev pub TestsAreTheDue : ℕ → State → List Call → ℕ → Type 0
TestsAreTheDue n s calls k =
    (i : ℕ) → i < n → live n s.table i ≡ true
    → tested_in i (slice_index_or (rounds_of s calls).closed k []) ≡ map (station_at i) (due_distances (exact_row n s.table) i n)

-- on the cube, in a closed round that begins with exact rows, each live board makes just these tests. By rule Detection the live boards stay live
abbrev pub ExactRoundTests : Type 0
ExactRoundTests =
    (n : ℕ) (s : State) (calls : List Call) → DetectionPremises Cube n s calls → (k : ℕ) → k < length (rounds_of s calls).closed
    → ExactRows n (first_table (slice_index_or (rounds_of s calls).closed k [])) → TestsAreTheDue n s calls k

-- Rule Tests of the sheet: on the cube, after the worst-case latency, that is so in every closed round
abbrev pub ExactRoundTestsAfterLatency : Type 0
ExactRoundTestsAfterLatency =
    (n : ℕ) (s : State) (calls : List Call) → DetectionPremises Cube n s calls
    → (k : ℕ) → worst_latency (dimension n) ≤ k → k < length (rounds_of s calls).closed → TestsAreTheDue n s calls k
