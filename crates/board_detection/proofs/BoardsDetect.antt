-- Boards detect: detection's claim of the run of the boards' entries on their table, carried back to the boards.
-- Assumes nothing.
use mathlib.Core.Path.{◌≡◌, refl, sym, ap, ◌∙◌}
use mathlib.Core.Bool.{Bool, true, not}
use mathlib.Core.List.{List, [], ◌∷◌, map}
use Prim.Native.Nat.{ℕ, suc, ◌+◌, ◌*◌, ◌%◌, ◌≤◌, ◌<◌}
use native.Mathlib.Omega.{arith}
use borrow.Author.Tests.{eq-eqb}
use lib.Dec.{eqb}
use lib.ListN.{length, get_or, length-append, length-replicate, get_or-append, replicate}
use Rattle.std.proofs.lemmas.List.{append-nil, length-map, get_or-map}
use Rattle.lists.specs.Sums.{bit}
use Rattle.table.specs.Table.{head, live}
use Rattle.table.specs.Line.{line, is_live}
use Rattle.table.proofs.LineLaws.{line_at}
use Rattle.table.specs.declared.wiring.Wiring.{Wiring}
use Rattle.plant.specs.Entry.{Entry, State, state_of, tally_top}
use Rattle.plant.specs.Run.{entries, start_check, go_on, run}
use Rattle.plant.proofs.RunLaws.{accepted-number}
use Rattle.detection.specs.Runs.{Call, Taken, call_of, after_run, after_runs, taken_from, taken_by, taken_in, taken_all, taken_test, is_turn_of}
use Rattle.detection.specs.Rounds.{count_taken, tests_in}
use Rattle.detection.specs.Claim.{rounds_of, all_rounds, round_at, DetectionPremises, DetectionConclusion, Detection, square_rounds}
use Rattle.detection.specs.Claim.{triangle_rounds, worst_rounds}
use Rattle.detection.proofs.Counting.{counts_start}
use Rattle.detection.proofs.DetectionClaim.{detection-in-square, detection-in-triangle, detection-in-worst-case}
use Rattle.cable.specs.Boards.{Lines, Hold, after_entries, table_of}
use Rattle.board_detection.specs.Detect.{BoardsBegin, TurnsInTime, board_tests, counts_by_round, closed_rounds, BoardsKnow, BoardsDetect}
use Rattle.board_detection.proofs.Steps.{Beside}
use Rattle.board_detection.proofs.Rounds.{Alike, SameRounds, same-rounds, tests-alike, turns-alike}
use Rattle.board_detection.proofs.FirstTable.{hold, live-is, fresh, ok, start, two_live, none, count-is}
use Rattle.std.specs.Prelude.{Ok}

-- entries as a schedule
bytes_of : List Entry → List ℕ
bytes_of [] = []
bytes_of (e ∷ es) = e.kind ∷ e.station ∷ bytes_of es

entries-back : (es : List Entry) → entries (bytes_of es) ≡ es
unfolding entries bytes_of
entries-back [] = refl
entries-back (e ∷ es) = ap (λ (l : List Entry). e ∷ l) (entries-back es)

even-bytes : (es : List Entry) → length (bytes_of es) ≡ 2 * length es
unfolding bytes_of
even-bytes [] = refl
even-bytes (e ∷ es) = omega (arith, even-bytes es)

module _ (w : Wiring) (n : ℕ) (b : Lines) (es : List Entry) (begin : BoardsBegin w n b) (turns : TurnsInTime w n b es) where
  abbrev t : List ℕ
  t = table_of n b

  -- with a tally that never fills
  abbrev s : State
  s = state_of t (suc tally_top) (suc tally_top)

  abbrev sheet : List ℕ
  sheet = replicate (2 * length (bytes_of es)) 0

  -- one run of all entries
  abbrev c : Call
  c = call_of (Ok w) n (bytes_of es) sheet

  abbrev calls : List Call
  calls = c ∷ []

  abbrev taken : List Taken
  taken = taken_from w n s es

  beside : Beside w n s b
  beside = record {
    ok = ok w n b begin;
    hold = hold w n b begin;
    rounds = omega arith;
    tests = omega arith;
  }

  same : SameRounds w n s b [] es
  same = same-rounds w n s b es beside turns t [] (fresh w n b begin) (counts_start n t)

  starts : start_check w n t (length (bytes_of es)) (length sheet) ≡ Ok tt
  unfolding start_check
  starts =
      let check = accepted-number w n t (ok w n b begin) in
      let even : length (bytes_of es) % 2 ≡ 0 = omega (arith, even-bytes es) in
      rw (check, even, eq-eqb (length sheet) (2 * length (bytes_of es)) (length-replicate (2 * length (bytes_of es)) 0))

  all-taken : taken_all s calls ≡ taken
  unfolding taken_all taken_by
  all-taken = append-nil (taken_in s c) ∙ rw (starts, entries-back es)

  end : after_runs s calls ≡ (go_on w n 0 s sheet es).state
  unfolding after_runs run
  end = rw (after_run, starts, entries-back es)

  premises : DetectionPremises w n s calls
  premises = record {
    size = (ok w n b begin).size;
    long = (ok w n b begin).long;
    start = start w n b begin;
    two_live = two_live w n b begin;
    accurate = none w n b begin;
    one_wiring = rw all-taken same.one_wiring;
    no_crash = rw all-taken same.no_crash;
    no_late = rw all-taken same.no_late;
  }

  held : Hold n (after_runs s calls).table (after_entries w n b es)
  held = rw end (same.held 0 sheet)

  -- counts by rounds, of the boards and of the table
  module _ (q : Lines → Entry → Bool) (r : Taken → Bool) (alike : Alike w n q r) where
    counts-are : map (count_taken r) (all_rounds (rounds_of s calls)) ≡ counts_by_round q w n 0 b es
    unfolding count_taken
    counts-are = rw all-taken (same.counts q r alike)

    counts-long : length (counts_by_round q w n 0 b es) ≡ suc (length (rounds_of s calls).closed)
    counts-long =
        ap length (sym counts-are) ∙ length-map (all_rounds (rounds_of s calls)) (count_taken r)
        ∙ (length-append (rounds_of s calls).closed ((rounds_of s calls).open_round ∷ []) ∙ omega arith)

    count-at : (k : ℕ) → k ≤ length (rounds_of s calls).closed → get_or (counts_by_round q w n 0 b es) k 0 ≡ count_taken r (round_at s calls k)
    count-at k h =
        ap (λ (l : List ℕ). get_or l k 0) (sym counts-are)
        ∙ get_or-map (count_taken r) (all_rounds (rounds_of s calls)) k [] 0
        (omega (arith, length-append (rounds_of s calls).closed ((rounds_of s calls).open_round ∷ [])))

  closed-is : closed_rounds w n b es ≡ length (rounds_of s calls).closed
  closed-is = omega (arith, counts-long (board_tests w n) taken_test (tests-alike w n))

  module _ (enough : ℕ) (d : DetectionConclusion enough w n s calls (after_runs s calls)) where
    still : (i : ℕ) → i < n → is_live (after_entries w n b es i) ≡ live n t i
    still i h = ap (λ (x : ℕ). eqb x 0) (held.statuses i h) ∙ d.same_live i h

    carried : BoardsKnow enough w n b es
    carried = record {
      same_live = λ i h. still i h ∙ live-is w n b begin i h;
      turns = λ k i far h l.
          let below : k ≤ length (rounds_of s calls).closed = omega (arith, closed-is) in
          let at = count-at (λ b e. eqb e.station i) (is_turn_of i) (turns-alike w n i) k below in
          omega (arith, at, (d.turns k i below h (live-is w n b begin i h ∙ l)).0);
      exact_rows = λ far i j h g l.
          let alive : live n t i ≡ true = live-is w n b begin i h ∙ l in
          let line-is : after_entries w n b es i ≡ line n (after_runs s calls).table i = held.live_lines i h (d.same_live i h ∙ alive) in
          ap (λ (l : List ℕ). get_or l (head + j) 0) line-is ∙ line_at n (after_runs s calls).table i (head + j) (omega arith)
          ∙ d.exact_rows (omega (arith, closed-is)) i j h g alive ∙ ap (λ (x : Bool). bit (not x)) (live-is w n b begin j g);
      tests = λ k far h.
          let below : k < length (rounds_of s calls).closed = omega (arith, closed-is) in
          let at = count-at (board_tests w n) taken_test (tests-alike w n) k (omega arith) in
          let in_closed : round_at s calls k ≡ get_or (rounds_of s calls).closed k [] =
          get_or-append (rounds_of s calls).closed ((rounds_of s calls).open_round ∷ []) [] k below in
          at ∙ ap tests_in in_closed ∙ d.tests k far below ∙ count-is w n b begin;
    }

-- the claim, within any number of rounds within which detection's holds
boards-detect : (rounds : Wiring → ℕ → ℕ) → Detection rounds → BoardsDetect rounds
boards-detect rounds claim w n b es begin turns =
    carried w n b es begin turns (rounds w n) (claim w n (s w n b es begin turns) (calls w n b es begin turns) (premises w n b es begin turns))

-- ends in themselves
pub boards-detect-in-square : BoardsDetect square_rounds
boards-detect-in-square = boards-detect square_rounds detection-in-square

pub boards-detect-in-triangle : BoardsDetect triangle_rounds
boards-detect-in-triangle = boards-detect triangle_rounds detection-in-triangle

pub boards-detect-in-worst-case : BoardsDetect worst_rounds
boards-detect-in-worst-case = boards-detect worst_rounds detection-in-worst-case
