-- What can be said of a table alone: that it stands at the start of a round, how many are live, whom the live ones suspect.
-- Assumes nothing.
use Rattle.std.specs.Prelude.{ℕ, ◌<◌, ◌≡◌, Bool, true, not, ◌&&◌, ◌||◌, List, ◌==◌}
use Rattle.lists.specs.Search.{every, list_of}
use Rattle.table.specs.Table.{next_distance, finished, tests_made, suspects, live, row}
use Rattle.table.specs.Rules.{not_live}
use Rattle.lists.specs.Sums.{sum_below, bit}

-- Rule Start of a round, of line i: next distance 1, not finished, no tests
abbrev pub line_at_start : ℕ → List ℕ → ℕ → Bool
line_at_start n t i = next_distance n t i == 1 && finished n t i == 0 && tests_made n t i == 0

-- Rule Start of a round: so it is of every line, live or not
unfoldable pub at_start : ℕ → List ℕ → Bool
at_start n t = every (line_at_start n t) n

-- how many stations are live
unfoldable pub live_count : ℕ → List ℕ → ℕ
live_count n t = sum_below (λ i. bit (live n t i)) n

-- i and j are not both live, or i does not suspect j: byte j of its row is not 1
abbrev pub no_live_suspicion : ℕ → List ℕ → ℕ → ℕ → Bool
no_live_suspicion n t i j = not_live n t i || not_live n t j || not (suspects n t i j == 1)

-- Rule Accurate: no live station suspects a live one
unfoldable pub none_suspected : ℕ → List ℕ → Bool
none_suspected n t = every (λ i. every (no_live_suspicion n t i) n) n

-- the row that suspects exactly the boards that are not live
unfoldable pub exact_row : ℕ → List ℕ → List ℕ
exact_row n t = list_of (λ j. bit (not_live n t j)) n

-- Rule Exact rows: the row of each live board is that one
abbrev pub ExactRows : ℕ → List ℕ → Type 0
ExactRows n t = (i : ℕ) → i < n → live n t i ≡ true → row n t i ≡ exact_row n t
