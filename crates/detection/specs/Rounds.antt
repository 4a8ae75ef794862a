-- The rounds of a list of taken entries, cut by what the entries did.
-- Assumes nothing.
use Rattle.std.specs.Prelude.{ℕ, ◌+◌, ◌-◌, Bool, true, false, ◌&&◌, ◌||◌, List, [], ◌∷◌, ◌++◌, if◌then◌else◌, ◌==◌}
use Rattle.lists.specs.Search.{every}
use Rattle.table.specs.Rules.{not_live, some_live}
use Rattle.lists.specs.Sums.{bit}
use Rattle.detection.specs.Runs.{Taken, table_after, is_turn_of, taken_test, finishes}

-- whether any entry of the list passes q, whether all do, and how many do
unfoldable pub any_taken : (Taken → Bool) → List Taken → Bool
any_taken q [] = false
any_taken q (x ∷ xs) = q x || any_taken q xs

unfoldable pub all_taken : (Taken → Bool) → List Taken → Bool
all_taken q [] = true
all_taken q (x ∷ xs) = q x && all_taken q xs

unfoldable pub count_taken : (Taken → Bool) → List Taken → ℕ
count_taken q [] = 0
count_taken q (x ∷ xs) = bit (q x) + count_taken q xs

-- whether station i finished its pass with the entry
abbrev pub finishes_of : ℕ → Taken → Bool
finishes_of i x = x.entry.station == i && finishes x

-- station i is not live after x, or finished its pass in the round
abbrev pub finished_or_not_live : List Taken → Taken → ℕ → Bool
finished_or_not_live round x i = not_live x.size (table_after x) i || any_taken (finishes_of i) round

-- a round closes with the taken entry after which a station is live and each live one has finished its pass in the round: x is the last
-- entry of the round so far
unfoldable pub closes : List Taken → Taken → Bool
closes round x = some_live x.size (table_after x) && every (finished_or_not_live round x) x.size

pub record Rounds : Type 0 where
  pub closed : List (List Taken)
  pub open_round : List Taken

-- a closed round before the others
abbrev pub round_before : List Taken → Rounds → Rounds
round_before round r = record { closed = round ∷ r.closed; open_round = r.open_round }

-- Rule List of runs: the taken entries, cut into rounds. A round begins with the first table, and anew after each closing. `round` holds the
-- entries of the round so far
unfoldable pub cut : List Taken → List Taken → Rounds
cut round [] = record { closed = []; open_round = round }
cut round (x ∷ xs) =
    let here = round ++ (x ∷ []) in
    let closing = round_before here (cut [] xs) in
    let going = cut here xs in
    if closes here x then closing else going

-- the tests of a round: the turns in it that make a test
abbrev pub tests_in : List Taken → ℕ
tests_in round = count_taken taken_test round

-- the tests of a list of rounds
unfoldable pub tests_of_all : List (List Taken) → ℕ
tests_of_all [] = 0
tests_of_all (round ∷ rounds) = tests_in round + tests_of_all rounds

-- the turns of station i in the round
abbrev pub turns_in : ℕ → List Taken → ℕ
turns_in i round = count_taken (is_turn_of i) round

-- whether the kth turn of station i in the list, from 1, finishes its pass; where there is no kth, it does not
unfoldable pub nth_turn_finishes : ℕ → ℕ → List Taken → Bool
nth_turn_finishes i k [] = false
nth_turn_finishes i k (x ∷ xs) = if is_turn_of i x then (if k == 1 then finishes x else nth_turn_finishes i (k - 1) xs) else nth_turn_finishes i k xs
