-- Boards that hold the lines of a table begin where the detection conditions hold of it; so do fresh boards.
-- Assumes nothing.
use mathlib.Core.Path.{◌≡◌, sym, ap, ◌∙◌}
use mathlib.Core.Bool.{true}
use mathlib.Core.List.{List}
use Prim.Native.Nat.{ℕ, ◌+◌, ◌≤◌, ◌<◌}
use native.Mathlib.Omega.{arith}
use lib.Dec.{eqb}
use lib.ListN.{get_or}
use Rattle.lists.specs.Sums.{bit}
use Rattle.lists.proofs.SumLaws.{sum_by}
use Rattle.table.specs.Table.{head, stride, cell, status_column, next_column, finished_column, tests_column, live}
use Rattle.table.specs.Line.{line, is_live}
use Rattle.table.specs.Fresh.{fresh_table}
use Rattle.table.specs.Properties.{at_start, live_count, none_suspected}
use Rattle.table.proofs.Accepting.{Accepted, accepted}
use Rattle.table.proofs.LineLaws.{line_at}
use Rattle.table.specs.declared.wiring.Wiring.{Wiring}
use Rattle.plant.proofs.RunLaws.{accepted-number}
use Rattle.detection.proofs.DetectionClaim.{trusts, first_round}
use Rattle.detection.proofs.FreshStart.{fresh-accepted, fresh-premises}
use Rattle.board.specs.Calls.{fresh_after}
use Rattle.board.proofs.KeepsLaws.{good, fresh-is-one}
use Rattle.cable.specs.Boards.{Lines}
use Rattle.cable.proofs.LineFacts.{lines-of-tables}
use Rattle.cable.proofs.FreshLines.{fresh-boards}
use Rattle.board_detection.specs.Detect.{live_boards, BoardsBegin, FreshBoardsBegin}

module _ (w : Wiring) (n : ℕ) (t : List ℕ) (ok : Accepted w n t) (start : at_start n t ≡ true) (two : 2 ≤ live_count n t)
    (none : none_suspected n t ≡ true) (b : Lines) (same : (k : ℕ) → k < n → b k ≡ line n t k) where
  byte : (k c : ℕ) → k < n → c < stride n → get_or (b k) c 0 ≡ cell n t k c
  byte k c h hc = ap (λ (l : List ℕ). get_or l c 0) (same k h) ∙ line_at n t k c hc

  live-is : (k : ℕ) → k < n → is_live (b k) ≡ live n t k
  live-is k h = ap (λ (x : ℕ). eqb x 0) (byte k status_column h (omega arith))

  lines-begin : BoardsBegin w n b
  unfolding live_boards live_count
  lines-begin = record {
    lines = λ i h. rw (same i h) (lines-of-tables w n t i (accepted-number w n t ok) h);
    start = λ i h.
        let reset = (first_round w n t ok start (trusts w n t ok none)).fresh i h in
        record {
          next = byte i next_column h (omega arith) ∙ reset.next;
          unfinished = byte i finished_column h (omega arith) ∙ reset.unfinished;
          untested = byte i tests_column h (omega arith) ∙ reset.untested;
        };
    two_live = omega (arith, two, sum_by n (λ k h. ap bit (live-is k h)));
    accurate = λ i j h g p q.
        byte i (head + j) h (omega arith) ∙ trusts w n t ok none i j h g (sym (live-is i h) ∙ p) (sym (live-is j g) ∙ q);
  }

-- an end in itself
pub fresh-boards-begin : FreshBoardsBegin
fresh-boards-begin w n b fits some =
    let first = good w n 0 (fresh_after n 0 (b 0)) (fresh-is-one w n 0 (b 0) (fits 0 some)) in
    let ok = accepted w n (fresh_table n) (fresh-accepted n w first.size) in
    let given = fresh-premises w n 0 0 first.size in
    lines-begin w n (fresh_table n) ok given.start given.two_live given.accurate (λ i. fresh_after n i (b i))
    (λ k h. fresh-boards n k (b k) (fits k h))
