-- Boards that hold what a table has take an entry: the table takes it too, both make a test or neither does, and the round closes for both or for
-- neither.
-- Assumes nothing.
use mathlib.Core.Path.{◌≡◌, refl, sym, ap, ◌∙◌}
use mathlib.Core.Logic.{◌⊎◌, inl, inr}
use mathlib.Core.Bool.{true, false, ◌&&◌, and-false}
use mathlib.Core.List.{List, [], ◌∷◌, ◌++◌}
use Prim.Native.Nat.{ℕ, ◌<◌}
use native.Mathlib.Omega.{arith}
use borrow.Author.Tests.{eqb-false, ne_eqb, lt-ltb, not-true}
use lib.Dec.{leb}
use lib.ListN.{get_or}
use Rattle.std.specs.Prelude.{Some, Ok}
use Rattle.lists.proofs.BoolLaws.{by_bool}
use Rattle.lists.proofs.RefusalLaws.{ensure_ok, and_ok}
use Rattle.table.specs.Table.{finished_column, finished, live}
use Rattle.table.specs.Line.{line, is_live}
use Rattle.table.specs.Rules.{round_over, table_check}
use Rattle.table.proofs.Accepting.{Accepted}
use Rattle.table.proofs.CellLaws.{accepted-line}
use Rattle.table.proofs.LineLaws.{line_at}
use Rattle.table.specs.declared.wiring.Wiring.{Wiring}
use Rattle.plant.specs.Turn.{kind_turn, kind_late, makes_test, turn_tested, next_test, outcome_at}
use Rattle.plant.specs.Entry.{Entry, State, tally_top, is_crash, entry_check, acted, tested_of, outcome_of, after}
use Rattle.plant.proofs.RunLaws.{accepted-number, made-test}
use Rattle.plant.proofs.RulesKept.{acted-lines, accepted-kept}
use Rattle.plant.proofs.RoundLaws.{Reset}
use Rattle.plant.proofs.TurnHeads.{turn-heads}
use Rattle.plant.proofs.StepLines.{Lines as TableLines}
use Rattle.detection.specs.Runs.{Taken, taken_test, is_late}
use Rattle.detection.specs.Rounds.{closes}
use Rattle.detection.proofs.TakenLaws.{taken_at}
use Rattle.detection.proofs.Counting.{Counts, turn-counts, closes-is}
use Rattle.board.specs.Calls.{live_check, turn_check, next_answer}
use Rattle.cable.specs.Boards.{after_entry, Lines, Hold, after_act, all_finished}
use Rattle.board.proofs.KeepsLaws.{good}
use Rattle.cable.proofs.HoldLaws.{live-same, over-same}
use Rattle.cable.proofs.TurnByLines.{tested-below}
use Rattle.cable.proofs.CallsOnCable.{asks}
use Rattle.cable.proofs.RunByCalls.{tester-answers, acting, entry-held}
use Rattle.board_detection.specs.Detect.{TurnInTime, is_of_test, board_tests}

-- boards, and a table that they hold. Its tally is above the top, so that it is never full: boards have none
pub record Beside (w : Wiring) (n : ℕ) (s : State) (b : Lines) : Type 0 where
  pub ok : Accepted w n s.table
  pub hold : Hold n s.table b
  pub rounds : tally_top < s.rounds
  pub tests : tally_top < s.tests

-- a board whose calls do not refuse a turn is one of the plant, is live, and has not finished its pass
record Going (w : Wiring) (n i : ℕ) (l : List ℕ) : Type 0 where
  below : i < n
  alive : is_live l ≡ true
  unfinished : get_or l finished_column 0 ≡ 1 → ⊥

going : (w : Wiring) (n i : ℕ) (l : List ℕ) → turn_check w n i l ≡ Ok tt → Going w n i l
unfolding turn_check live_check
going w n i l e =
    let p = and_ok _ _ tt e in
    let q = and_ok _ _ tt p.0 in
    record {
      below = (good w n i l q.0).below;
      alive = ensure_ok _ _ _ q.1;
      unfinished = eqb-false _ 1 (not-true _ (ensure_ok _ _ _ p.1));
    }

module _ (w : Wiring) (n : ℕ) (s : State) (b : Lines) (e : Entry) (at : Beside w n s b) (turn : TurnInTime w n b e) where
  abbrev t : List ℕ
  t = s.table

  abbrev i : ℕ
  i = e.station

  abbrev x : Taken
  x = taken_at w n s e

  z : table_check w n t ≡ Ok tt
  z = accepted-number w n t at.ok

  facts : Going w n i (b i)
  facts = going w n i (b i) turn.taken

  alive : live n t i ≡ true
  alive = sym (live-same n t b at.hold i facts.below) ∙ facts.alive

  mine : b i ≡ line n t i
  mine = at.hold.live_lines i facts.below alive

  unfinished : finished n t i ≡ 1 → ⊥
  unfinished f = facts.unfinished (ap (λ (l : List ℕ). get_or l finished_column 0) mine ∙ line_at n t i finished_column (omega arith) ∙ f)

  pub no_crash : is_crash e ≡ false
  no_crash = pick turn.kind
    where
      pick : (e.kind ≡ kind_turn) ⊎ (e.kind ≡ kind_late) → is_crash e ≡ false
      pick (inl k) = rw k
      pick (inr k) = rw k

  known : (leb 1 e.kind && leb e.kind 3) ≡ true
  known = pick turn.kind
    where
      pick : (e.kind ≡ kind_turn) ⊎ (e.kind ≡ kind_late) → (leb 1 e.kind && leb e.kind 3) ≡ true
      pick (inl k) = rw k
      pick (inr k) = rw k

  -- the table takes the entry
  pub takes : entry_check n s e ≡ Ok tt
  unfolding entry_check
  takes =
      rw (
        ne_eqb s.rounds tally_top (λ p. omega (arith, at.rounds)),
        ne_eqb s.tests tally_top (λ p. omega (arith, at.tests)),
        known,
        lt-ltb i n facts.below,
        alive,
        no_crash,
        ne_eqb (finished n t i) 1 unfinished,
      )

  -- and no reply of a live station is late
  pub in_time : is_late x ≡ false
  unfolding tested_of
  in_time = pick turn.kind
    where
      pick : (e.kind ≡ kind_turn) ⊎ (e.kind ≡ kind_late) → is_late x ≡ false
      pick (inl k) = rw k
      pick (inr k) =
          by_bool (makes_test w n t i)
          (λ m.
          let j : ℕ = turn_tested w n t i in
          let named : next_answer w n i (b i) ≡ Ok (Some j) = rw mine (asks w n t e.kind i z facts.below alive unfinished m) in
          let dead : live n t j ≡ false =
          sym (live-same n t b at.hold j (tested-below w n t i at.ok.long facts.below m)) ∙ turn.no_late k j named in
          rw (no_crash, m, dead, and-false))
          (λ m. rw (no_crash, m, and-false))

  -- both make a test, or neither does
  pub test-same : board_tests w n b e ≡ taken_test x
  unfolding outcome_of
  test-same =
      let made : taken_test x ≡ makes_test w n t i = rw no_crash in
      ap is_of_test (tester-answers w n t b at.hold z e.kind i facts.below alive unfinished)
      ∙ (rw no_crash at (made-test w n t e)) ∙ sym made

  pub acts : Hold n (acted w n t e) (after_act w n b e)
  acts = acting w n s b at.hold e at.ok takes

  pub over : all_finished n (after_act w n b e) ≡ round_over n (acted w n t e)
  over = over-same n (acted w n t e) (after_act w n b e) acts

  -- the state that the entry leaves
  pub beside-after : Beside w n (after w n s e) (after_entry w n b e)
  unfolding after
  beside-after = record {
    ok = accepted-kept w n s e at.ok takes;
    hold = entry-held w n s b at.hold e at.ok takes;
    rounds = by_bool (round_over n (acted w n t e)) (λ q. rw q (omega (arith, at.rounds))) (λ q. rw q at.rounds);
    tests = by_bool (taken_test x) (λ q. rw q (omega (arith, at.tests))) (λ q. rw q at.tests);
  }

  -- in a round that started with t₀ and has the entries `cur` so far
  module _ (t₀ : List ℕ) (cur : List Taken) (fresh : (k : ℕ) → k < n → Reset n t₀ k) (counts : Counts n t₀ cur t) where
    abbrev t' : List ℕ
    t' = acted w n t e

    abbrev here : List Taken
    here = cur ++ (x ∷ [])

    pub counted : Counts n t₀ here t'
    unfolding acted
    counted =
        let lines : TableLines w n t = (at.ok.long, accepted-line w n t at.ok) in
        let open_pass : finished n t i ≡ 0 = omega (arith, unfinished, (lines.1 i facts.below).pass.finished_range) in
        rw no_crash (turn-counts w n s e (outcome_at w n t e.kind i (next_test w n t i)) t₀ _ cur no_crash facts.below open_pass
        (turn-heads w n t e.kind i lines facts.below) counts)

    -- the round closes as the boards find
    pub closing-same : closes here x ≡ all_finished n (after_act w n b e)
    closing-same = closes-is w n t₀ t' here fresh (acted-lines w n s e at.ok takes) counted s e refl ∙ sym over
