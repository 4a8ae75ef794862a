-- The commissioning sheet and the tests that are made as a plant runs. Under the detection conditions, in a closed round that begins with exact
-- rows, each live board tests just whom the sheet says. And in any round, with any crashes, late replies and suspicions: how many tests a board
-- makes at most, which is what slots are timed by.
-- Assumes nothing.
use Rattle.std.specs.Prelude.{◌≡◌, ◌≢◌, ◌⊎◌, true, false, List, [], ◌∷◌, ℕ, ◌≤◌, ◌<◌, length, slice_index_or}
use Rattle.table.specs.Table.{table_length, tests_made, suspects, row, live}
use Rattle.station.specs.Tests.{unsuspected}
use Rattle.plant.specs.Entry.{State}
use Rattle.detection.specs.Runs.{Call, Taken, after_runs, taken_all, table_after, is_on}
use Rattle.detection.specs.Rounds.{count_taken, all_taken}
use Rattle.table.specs.Properties.{at_start, exact_row, ExactRows}
use Rattle.table.specs.declared.wiring.Wiring.TheVariants.{Cube}
use Rattle.detection.specs.Claim.{rounds_of, round_at, DetectionPremises}
use Rattle.detection.specs.Boards.{is_test_of, tested_in, first_table}
use Rattle.slots.specs.Slots.{tested, tests_due, most_tests}

-- Rule Tests of the sheet: in the kth closed round (from 0), if it begins with exact rows, a live board tests, in this order, whom the sheet says,
-- with the boards dead that are not live (`ExactRoundTests`, in the sheet's words)
abbrev pub TestsAreTheSheets : Type 0
TestsAreTheSheets =
    (n : ℕ) (s : State) (calls : List Call) → DetectionPremises Cube n s calls → (k : ℕ) → k < length (rounds_of s calls).closed
    → ExactRows n (first_table (slice_index_or (rounds_of s calls).closed k [])) → (i : ℕ) → i < n → live n s.table i ≡ true
    → tested_in i (slice_index_or (rounds_of s calls).closed k []) ≡ tested n (exact_row n s.table) i

-- the tests that board i makes in a round: its testing entries
abbrev pub tests_by : ℕ → List Taken → ℕ
tests_by i round = count_taken (is_test_of i) round

-- Rule Tests counted: after any list of runs from the start of a round on, whatever crashes or comes late and whichever wiring each run has, byte 3
-- is the number of the board's testing entries in the round that is then open
abbrev pub TestsByteCounts : Type 0
TestsByteCounts =
    (n : ℕ) (s : State) (calls : List Call) (i : ℕ) → length s.table ≡ table_length n → at_start n s.table ≡ true → i < n
    → tests_made n (after_runs s calls).table i ≡ tests_by i (rounds_of s calls).open_round

-- the table as the last of the entries leaves it; t where there is none
unfoldable pub table_left : List ℕ → List Taken → List ℕ
table_left t [] = t
table_left t (x ∷ xs) = table_left (table_after x) xs

-- the table as the last entry of the kth round of a list of runs leaves it (from 0; the open round is the last one), the closing included, which
-- leaves all rows as they are. An open round without entries has no tests, and then it is the first table
abbrev pub end_of : State → List Call → ℕ → List ℕ
end_of s calls k = table_left s.table (round_at s calls k)

-- Rule Slot suffices: on the cube, in every round of any list of runs from the start of a round on, a board makes no more tests than are due by
-- its row as the round leaves it; the list may end anywhere, so that this holds at every moment of a round
abbrev pub TestsWithinDue : Type 0
TestsWithinDue =
    (n : ℕ) (s : State) (calls : List Call) (k i : ℕ) → length s.table ≡ table_length n → at_start n s.table ≡ true
    → all_taken (is_on Cube) (taken_all s calls) ≡ true → k ≤ length (rounds_of s calls).closed → i < n
    → tests_by i (round_at s calls k) ≤ tests_due n (row n (end_of s calls k) i) i

-- board i suspects at table t nobody but those that row r suspects, and j
abbrev pub SuspectsAtMost : ℕ → List ℕ → ℕ → List ℕ → ℕ → Type 0
SuspectsAtMost n t i r j = (x : ℕ) → x < n → suspects n t i x ≡ 1 → (unsuspected r x ≡ false) ⊎ (x ≡ j)

-- Rule Slot suffices: on the cube a slot timed for the most tests with one more dead is long enough, as long as the board suspects nobody but the
-- dead of row r and one more: also in the rounds in which it comes to suspect that one
abbrev pub SlotSuffices : Type 0
SlotSuffices =
    (n : ℕ) (s : State) (calls : List Call) (k : ℕ) (r : List ℕ) (i j : ℕ)
    → length s.table ≡ table_length n → at_start n s.table ≡ true
    → all_taken (is_on Cube) (taken_all s calls) ≡ true → k ≤ length (rounds_of s calls).closed → i < n → j < n → j ≢ i
    → length r ≡ n → unsuspected r i ≡ true
    → SuspectsAtMost n (end_of s calls k) i r j → tests_by i (round_at s calls k) ≤ most_tests n r i
