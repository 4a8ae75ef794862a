-- Detection by n boards on one cable, each with its own line and nothing else: the live ones come to suspect exactly those that are not live. w is
-- the wiring, b k the line that board k holds, and es the entries that the boards take by their calls, one after the other.
-- Assumes nothing.
use Rattle.std.specs.Prelude.{◌≡◌, ◌⊎◌, ℕ, ◌+◌, ◌-◌, ◌≤◌, ◌<◌, Bool, true, false, not, List, [], ◌∷◌, ◌++◌, length, Some, Result, Ok, Err}
use Rattle.std.specs.Prelude.{if◌then◌else◌, ◌==◌, slice_index}
use Rattle.lists.specs.declared.refusal.Refusal.{Refusal}
use Rattle.lists.specs.Sums.{sum_below, bit}
use Rattle.table.specs.Table.{next_column, finished_column, tests_column}
use Rattle.table.specs.Line.{is_live}
use Rattle.table.specs.declared.wiring.Wiring.{Wiring}
use Rattle.plant.specs.Turn.{kind_turn, kind_late}
use Rattle.plant.specs.Entry.{Entry, shows_test}
use Rattle.detection.specs.Claim.{nobody_live_by, pairs_by, count_by, counted_from}
use Rattle.board.specs.Board.{suspicion_of}
use Rattle.board.specs.Calls.{place_check, line_check, turn_check, next_answer, fresh_after}
use Rattle.cable.specs.Boards.{Lines, reply_to_test, tester_answer, after_act, all_finished, after_entry, after_entries}

-- Rule Start of a round, of a board's line: next distance 1, not finished, no tests
pub record StartsRound (l : List ℕ) : Type 0 where
  pub next : slice_index l next_column ≡ 1
  pub unfinished : slice_index l finished_column ≡ 0
  pub untested : slice_index l tests_column ≡ 0

-- how many of n boards are live
unfoldable pub live_boards : ℕ → Lines → ℕ
live_boards n b = sum_below (λ i. bit (is_live (b i))) n

-- Rule Boards detect, what it supposes of the boards: the calls let each line through, and each is at the start of a round, of boards that are not
-- live too. At least two boards are live, and no live one suspects a live one
pub record BoardsBegin (w : Wiring) (n : ℕ) (b : Lines) : Type 0 where
  pub lines : (i : ℕ) → i < n → line_check w n i (b i) ≡ Ok tt
  pub start : (i : ℕ) → i < n → StartsRound (b i)
  pub two_live : 2 ≤ live_boards n b
  pub accurate : (i j : ℕ) → i < n → j < n → is_live (b i) ≡ true → is_live (b j) ≡ true → suspicion_of (b i) j ≡ 0

-- and of an entry: it is a turn that its board's calls do not refuse. It is of kind 2, late, only if the board that call Board, next names is not
-- live
pub record TurnInTime (w : Wiring) (n : ℕ) (b : Lines) (e : Entry) : Type 0 where
  pub kind : (e.kind ≡ kind_turn) ⊎ (e.kind ≡ kind_late)
  pub taken : turn_check w n e.station (b e.station) ≡ Ok tt
  pub no_late : e.kind ≡ kind_late → (j : ℕ) → next_answer w n e.station (b e.station) ≡ Ok (Some j) → is_live (b j) ≡ false

-- and of a list: so is each entry, for the lines that the entries before it leave
abbrev pub TurnsInTime : Wiring → ℕ → Lines → List Entry → Type 0
TurnsInTime w n b es =
    (before : List Entry) (e : Entry) (rest : List Entry) → es ≡ before ++ (e ∷ rest) → TurnInTime w n (after_entries w n b before) e

-- whether a call of a tester answers the outcome of a test
abbrev pub is_of_test : Result ℕ Refusal → Bool
is_of_test (Ok outcome) = shows_test outcome
is_of_test (Err r) = false

-- whether the turn makes a test, by what the call of its board answers
abbrev pub board_tests : Wiring → ℕ → Lines → Entry → Bool
board_tests w n b e = is_of_test (tester_answer w n e.station (b e.station) (reply_to_test w n b e.kind e.station))

-- how many entries pass q in each round, in order; the last number is that of the round that is still open after the list. A round closes with the
-- entry after which some board is live and each live one has finished its pass. `so_far` passed before the list, in the round that is open at first
unfoldable pub counts_by_round : (Lines → Entry → Bool) → Wiring → ℕ → ℕ → Lines → List Entry → List ℕ
counts_by_round q w n so_far b [] = so_far ∷ []
counts_by_round q w n so_far b (e ∷ es) =
    let here = so_far + bit (q b e) in
    let closing = here ∷ counts_by_round q w n 0 (after_entry w n b e) es in
    let going = counts_by_round q w n here (after_entry w n b e) es in
    if all_finished n (after_act w n b e) then closing else going

-- the tests of each round, and the turns of board i in each, from the start of a round on
abbrev pub tests_by_round : Wiring → ℕ → Lines → List Entry → List ℕ
tests_by_round w n b es = counts_by_round (board_tests w n) w n 0 b es

abbrev pub turns_by_round : Wiring → ℕ → ℕ → Lines → List Entry → List ℕ
turns_by_round w n i b es = counts_by_round (λ b e. e.station == i) w n 0 b es

-- how many rounds close in the list: all but the last of these
abbrev pub closed_rounds : Wiring → ℕ → Lines → List Entry → ℕ
closed_rounds w n b es = length (tests_by_round w n b es) - 1

-- Rule Count of tests, by who is live: on the cube n·d, less one for each board and each level at which its group has no live board; on the ring n
unfoldable pub count_of_tests : Wiring → ℕ → Lines → ℕ
count_of_tests w n b = count_by w n (pairs_by n (nobody_live_by n (λ k. is_live (b k))))

-- Rule Boards detect, what it claims, where so many rounds are enough
pub record BoardsKnow (enough : ℕ) (w : Wiring) (n : ℕ) (b : Lines) (es : List Entry) : Type 0 where
  -- the live boards are the same as at first
  pub same_live : (i : ℕ) → i < n → is_live (after_entries w n b es i) ≡ is_live (b i)
  -- in each round, the open one too, a live board has at most n turns
  pub turns : (k i : ℕ) → k ≤ closed_rounds w n b es → i < n → is_live (b i) ≡ true → slice_index (turns_by_round w n i b es) k ≤ n
  -- once enough rounds have closed, the line of each live board suspects exactly the boards that are not live
  pub exact_rows : enough ≤ closed_rounds w n b es → (i j : ℕ) → i < n → j < n → is_live (b i) ≡ true
      → suspicion_of (after_entries w n b es i) j ≡ bit (not (is_live (b j)))
  -- each closed round after these, on the ring each closed round, has as many tests as the count says
  pub tests : (k : ℕ) → counted_from w enough ≤ k → k < closed_rounds w n b es → slice_index (tests_by_round w n b es) k ≡ count_of_tests w n b

-- Rule Boards detect: within so many rounds by wiring and size, for any number of entries, in any order
abbrev pub BoardsDetect : (Wiring → ℕ → ℕ) → Type 0
BoardsDetect rounds =
    (w : Wiring) (n : ℕ) (b : Lines) (es : List Entry) → BoardsBegin w n b → TurnsInTime w n b es → BoardsKnow (rounds w n) w n b es

-- Rule Conditions are met: boards that have called Board, fresh meet what is supposed of the boards, whatever their lines were before
abbrev pub FreshBoardsBegin : Type 0
FreshBoardsBegin =
    (w : Wiring) (n : ℕ) (b : Lines) → ((i : ℕ) → i < n → place_check n i (length (b i)) ≡ Ok tt) → 0 < n
    → BoardsBegin w n (λ i. fresh_after n i (b i))
