-- The detection claim, within any number of rounds, and the bounds for which it holds.
-- Assumes nothing.
use Rattle.std.specs.Prelude.{Ok, ℕ, suc, ◌+◌, ◌-◌, ◌*◌, ◌/◌, ◌≤◌, ◌<◌, ◌≡◌, Bool, true, not, ◌&&◌}
use Rattle.std.specs.Prelude.{List, [], ◌∷◌, ◌++◌, length, if◌then◌else◌, nat_lt, slice_index_or}
use Rattle.lists.specs.Search.{every}
use Rattle.table.specs.Sizes.{is_size, dimension}
use Rattle.table.specs.Wiring.{is_ring}
use Rattle.table.specs.Fresh.{fresh_table}
use Rattle.station.specs.Groups.{is_present, width, member}
use Rattle.table.specs.Table.{table_length, suspects, live}
use Rattle.table.specs.Rules.{not_live, table_check}
use Rattle.plant.specs.Entry.{State, state_of}
use Rattle.lists.specs.Sums.{sum_below, bit}
use Rattle.detection.specs.Runs.{Call, Taken, after_runs, taken_all, crashes, is_late, is_on}
use Rattle.detection.specs.Rounds.{all_taken, Rounds, cut, tests_in, tests_of_all, turns_in, nth_turn_finishes}
use Rattle.table.specs.Properties.{at_start, live_count, none_suspected}
use Rattle.table.specs.declared.wiring.Wiring.{Wiring}

-- a board stands at the number x, and it is live
abbrev pub stands_at : ℕ → (ℕ → Bool) → ℕ → Bool
stands_at n is_live x = is_present n x && is_live x

-- by who is live: the group of j at level s, without the absent numbers, has no live board
abbrev pub nobody_live_by : ℕ → (ℕ → Bool) → ℕ → ℕ → Bool
nobody_live_by n is_live j s = every (λ k. not (stands_at n is_live (member j s k))) (width s)

-- and so it is in the table
unfoldable pub group_without_live : ℕ → List ℕ → ℕ → ℕ → Bool
group_without_live n t j s = nobody_live_by n (live n t) j s

-- the pairs of one of the n stations, live or not, and a level from 1 to d of which the test holds
abbrev pub pairs_by : ℕ → (ℕ → ℕ → Bool) → ℕ
pairs_by n nobody_live = sum_below (λ j. sum_below (λ h. bit (nobody_live j (suc h))) (dimension n)) n

-- those whose group has no live board
unfoldable pub pairs_without_live : ℕ → List ℕ → ℕ
pairs_without_live n t = pairs_by n (group_without_live n t)

-- Rule Count of tests: n·d, less one for each station and each level at which its group has no live station; so many are `pairs`
abbrev pub tests_less : ℕ → ℕ → ℕ
tests_less n pairs = n * dimension n - pairs

abbrev pub tests_per_round : ℕ → List ℕ → ℕ
tests_per_round n t = tests_less n (pairs_without_live n t)

-- the rounds of the list of runs
abbrev pub rounds_of : State → List Call → Rounds
rounds_of s calls = cut [] (taken_all s calls)

-- all rounds, the one that is still open last
abbrev pub all_rounds : Rounds → List (List Taken)
all_rounds r = r.closed ++ (r.open_round ∷ [])

-- the kth round, from 0; after the closed ones the open one
abbrev pub round_at : State → List Call → ℕ → List Taken
round_at s calls k = slice_index_or (all_rounds (rounds_of s calls)) k []

-- station i has at most n turns in a round, and an nth finished its pass
abbrev pub TurnsOk : ℕ → ℕ → List Taken → Type 0
TurnsOk n i round = (turns_in i round ≤ n) × (n ≤ turns_in i round → nth_turn_finishes i n round ≡ true)

-- Rule Count of tests, of any wiring: on the ring n
abbrev pub count_by : Wiring → ℕ → ℕ → ℕ
count_by w n pairs = if is_ring w then n else tests_less n pairs

abbrev pub count_of : Wiring → ℕ → List ℕ → ℕ
count_of w n t = count_by w n (pairs_without_live n t)

-- from which round on it holds, where so many are enough: on the ring from the first
abbrev pub counted_from : Wiring → ℕ → ℕ
counted_from w enough = if is_ring w then 0 else enough

-- Rule Detection conditions: a size and a table of its length, at the start of a round, two live boards at least, no live one suspecting a
-- live one; any tally, any list of runs, without crashes and late replies of live boards
pub record DetectionPremises (w : Wiring) (n : ℕ) (s : State) (calls : List Call) : Type 0 where
  pub size : is_size n ≡ true
  pub long : length s.table ≡ table_length n
  pub start : at_start n s.table ≡ true
  pub two_live : 2 ≤ live_count n s.table
  pub accurate : none_suspected n s.table ≡ true
  pub one_wiring : all_taken (is_on w) (taken_all s calls) ≡ true
  pub no_crash : all_taken (λ x. not (crashes x)) (taken_all s calls) ≡ true
  pub no_late : all_taken (λ x. not (is_late x)) (taken_all s calls) ≡ true

-- each board that is live in t suspects in `end` exactly the boards that are not live in t
abbrev pub AllKnow : ℕ → List ℕ → List ℕ → Type 0
AllKnow n t end = (i j : ℕ) → i < n → j < n → live n t i ≡ true → suspects n end i j ≡ bit (not_live n t j)

-- Rule Detection: what the claim says of table and tally after the list, where so many rounds are enough
pub record DetectionConclusion (enough : ℕ) (w : Wiring) (n : ℕ) (s : State) (calls : List Call) (end : State) : Type 0 where
  -- the live boards are the same as at first
  pub same_live : (i : ℕ) → i < n → live n end.table i ≡ live n s.table i
  -- in every round, the open one included, a live board has at most n turns, and an nth turn finished its pass
  pub turns : (k i : ℕ) → k ≤ length (rounds_of s calls).closed → i < n → live n s.table i ≡ true
      → TurnsOk n i (round_at s calls k)
  -- once enough rounds have closed, each live board suspects exactly the boards that are not live
  pub exact_rows : enough ≤ length (rounds_of s calls).closed → AllKnow n s.table end.table
  -- each closed round after these has as many tests as the count says
  pub tests : (k : ℕ) → counted_from w enough ≤ k → k < length (rounds_of s calls).closed
      → tests_in (slice_index_or (rounds_of s calls).closed k []) ≡ count_of w n s.table
  -- the tally: the closed rounds are added to its rounds, and the tests of all rounds, the open one included, to its tests
  pub rounds_tally : end.rounds ≡ s.rounds + length (rounds_of s calls).closed
  pub tests_tally : end.tests ≡ s.tests + tests_of_all (all_rounds (rounds_of s calls))

-- the claim on a wiring at size n, for all tables, tallies and lists of runs, within so many rounds
abbrev pub DetectionAt : Wiring → ℕ → ℕ → Type 0
DetectionAt w n enough =
    (s : State) (calls : List Call) → DetectionPremises w n s calls → DetectionConclusion enough w n s calls (after_runs s calls)

-- Rule Worst case, and the greater bounds: the claim on each wiring at all sizes, within so many rounds by wiring and size
abbrev pub Detection : (Wiring → ℕ → ℕ) → Type 0
Detection rounds = (w : Wiring) (n : ℕ) → DetectionAt w n (rounds w n)

-- the same of one run, `c`, from `before` to `after`: wherever it stands behind other runs, the claim about the whole list with it holds of
-- the state that it leaves
abbrev pub DetectionAfter : (Wiring → ℕ → ℕ) → Call → State → State → Type 0
DetectionAfter rounds c before after =
    (w : Wiring) (n : ℕ) (s : State) (calls : List Call) → after_runs s calls ≡ before → DetectionPremises w n s (calls ++ (c ∷ []))
    → DetectionConclusion (rounds w n) w n s (calls ++ (c ∷ [])) after

-- Rule Square bound: d·d rounds, on the cube
abbrev pub square_bound : ℕ → ℕ
square_bound d = d * d

-- Rules Square bound and Greater bound of the ring: on the ring n − 1
abbrev pub square_rounds : Wiring → ℕ → ℕ
square_rounds w n = if is_ring w then n - 1 else square_bound (dimension n)

-- Rule Square bound: detection within these
abbrev pub DetectionInSquare : Type 0
DetectionInSquare = Detection square_rounds

-- Rule Triangular bound: 1 + d(d − 1)/2 rounds, on the cube: 1, 2, 4, 7, 11, 16 for d = 1 to 6
abbrev pub triangle_bound : ℕ → ℕ
triangle_bound d = 1 + d * (d - 1) / 2

-- Rules Triangular bound and Greater bound of the ring: on the ring n − 1
abbrev pub triangle_rounds : Wiring → ℕ → ℕ
triangle_rounds w n = if is_ring w then n - 1 else triangle_bound (dimension n)

-- Rule Triangular bound: detection within these
abbrev pub DetectionInTriangle : Type 0
DetectionInTriangle = Detection triangle_rounds

-- Rule Worst case: the worst-case latency of the cube, 1, 2, 3, 4, 6, 8 rounds for d = 1 to 6. From 3 boards on fewer do not suffice, on the
-- ring neither (crate witness)
unfoldable pub worst_latency : ℕ → ℕ
worst_latency d = if nat_lt d 4 then d else 4 + (d - 3) * (d - 3) / 2

-- Rule Worst case of the ring: half as many rounds as there are stations
abbrev pub ring_latency : ℕ → ℕ
ring_latency n = n / 2

-- the worst case by wiring and size
abbrev pub worst_rounds : Wiring → ℕ → ℕ
worst_rounds w n = if is_ring w then ring_latency n else worst_latency (dimension n)

-- a fresh table of any size passes refusals 1 to 4, on each wiring
abbrev pub FreshIsAccepted : Type 0
FreshIsAccepted = (w : Wiring) (n : ℕ) → is_size n ≡ true → table_check w n (fresh_table n) ≡ Ok tt

-- Rule Conditions are met: a fresh table, with any tally, meets on each wiring and at every size what is supposed of size and table.
-- Drives need no more (`DrivenDetection`)
abbrev pub FreshMeetsPremises : Type 0
FreshMeetsPremises =
    (w : Wiring) (n rounds tests : ℕ) → is_size n ≡ true → DetectionPremises w n (state_of (fresh_table n) rounds tests) []
