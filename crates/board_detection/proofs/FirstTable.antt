-- The table of boards that begin: the detection conditions hold of it.
-- Assumes nothing.
use mathlib.Core.Path.{◌≡◌, sym, ap, ◌∙◌}
use mathlib.Core.Bool.{true, not}
use mathlib.Core.List.{List}
use Prim.Native.Nat.{ℕ, suc, ◌+◌, ◌≤◌, ◌<◌}
use native.Mathlib.Omega.{arith}
use borrow.Author.Tests.{eq-eqb, ltb-true}
use lib.Dec.{ltb}
use lib.ListN.{get_or}
use Rattle.lists.proofs.BoolLaws.{by_bool, every-same}
use Rattle.lists.proofs.SearchLaws.{every-all}
use Rattle.lists.proofs.SumLaws.{sum_by, sum-not}
use Rattle.lists.specs.Sums.{bit}
use Rattle.table.specs.Sizes.{dimension}
use Rattle.table.specs.Table.{head, stride, cell, status_column, next_column, finished_column, tests_column, suspects, live}
use Rattle.table.specs.Line.{line, is_live}
use Rattle.table.specs.Properties.{line_at_start, at_start, live_count, no_live_suspicion, none_suspected}
use Rattle.table.proofs.Accepting.{Accepted, accepted}
use Rattle.table.proofs.LineLaws.{line_at}
use Rattle.table.specs.declared.wiring.Wiring.{Wiring}
use Rattle.station.specs.Groups.{width, member}
use Rattle.plant.proofs.RoundLaws.{Reset}
use Rattle.plant.proofs.RulesKept.{unfinished-open}
use Rattle.detection.specs.Claim.{stands_at, nobody_live_by, group_without_live, pairs_by, pairs_without_live, count_of}
use Rattle.cable.specs.Boards.{Lines, Hold, table_of}
use Rattle.board.proofs.KeepsLaws.{good}
use Rattle.cable.proofs.HoldLaws.{live-same, over-same}
use Rattle.cable.proofs.TableOf.{table-line, boards-make-a-table}
use Rattle.board_detection.specs.Detect.{live_boards, BoardsBegin, count_of_tests}

module _ (w : Wiring) (n : ℕ) (b : Lines) (begin : BoardsBegin w n b) where
  abbrev t : List ℕ
  t = table_of n b

  pub some : 2 ≤ n
  unfolding live_boards
  some = omega (arith, begin.two_live, sum-not (λ i. is_live (b i)) n)

  line-is : (k : ℕ) → k < n → line n t k ≡ b k
  line-is k h = table-line n b k h (good w n k (b k) (begin.lines k h)).long

  byte : (k c : ℕ) → k < n → c < stride n → cell n t k c ≡ get_or (b k) c 0
  byte k c h hc = sym (line_at n t k c hc) ∙ ap (λ (l : List ℕ). get_or l c 0) (line-is k h)

  pub hold : Hold n t b
  hold = record { statuses = λ k h. sym (byte k status_column h (omega arith)); live_lines = λ k h l. sym (line-is k h) }

  pub live-is : (k : ℕ) → k < n → live n t k ≡ is_live (b k)
  live-is k h = sym (live-same n t b hold k h)

  pub fresh : (k : ℕ) → k < n → Reset n t k
  fresh k h = record {
    next = byte k next_column h (omega arith) ∙ (begin.start k h).next;
    unfinished = byte k finished_column h (omega arith) ∙ (begin.start k h).unfinished;
    untested = byte k tests_column h (omega arith) ∙ (begin.start k h).untested;
  }

  pub ok : Accepted w n t
  ok =
      accepted w n t
      (boards-make-a-table w n b (omega (arith, some)) begin.lines (over-same n t b hold ∙ unfinished-open n t (λ k h. (fresh k h).unfinished))).0

  pub start : at_start n t ≡ true
  unfolding at_start
  start =
      every-all (line_at_start n t) n (λ k h.
      let f = fresh k h in
      rw (eq-eqb _ 1 f.next, eq-eqb _ 0 f.unfinished, eq-eqb _ 0 f.untested))

  pub two_live : 2 ≤ live_count n t
  unfolding live_count live_boards
  two_live = omega (arith, begin.two_live, sum_by n (λ k h. ap bit (live-is k h)))

  pub none : none_suspected n t ≡ true
  unfolding none_suspected
  none =
      every-all _ n (λ i h. every-all (no_live_suspicion n t i) n (λ j g.
      by_bool (is_live (b i))
      (λ p. by_bool (is_live (b j))
      (λ q.
      let zero-byte : suspects n t i j ≡ 0 = byte i (head + j) h (omega arith) ∙ begin.accurate i j h g p q in
      rw (live-is i h ∙ p, live-is j g ∙ q, zero-byte))
      (λ q. rw (live-is i h ∙ p, live-is j g ∙ q)))
      (λ p. rw (live-is i h ∙ p))))

  -- the count of tests is the same
  pub count-is : count_of w n t ≡ count_of_tests w n b
  unfolding group_without_live pairs_without_live count_of_tests
  count-is =
      let pairs : pairs_without_live n t ≡ pairs_by n (nobody_live_by n (λ k. is_live (b k))) =
      sum_by n (λ j h. sum_by (dimension n) (λ s g. ap bit (every-same _ _ (width (suc s)) (λ k l. ap not (at (member j (suc s) k)))))) in
      rw pairs
    where
      at : (x : ℕ) → stands_at n (live n t) x ≡ stands_at n (λ k. is_live (b k)) x
      at x = by_bool (ltb x n) (λ p. rw p (live-is x (ltb-true x n p))) (λ p. rw p)
