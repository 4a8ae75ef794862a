-- Boards on a cable that compute.
-- Assumes nothing.
use mathlib.Core.Path.{◌≡◌, refl}
use mathlib.Core.Logic.{inl}
use mathlib.Core.Bool.{Bool, true, ◌&&◌}
use mathlib.Core.List.{List, [], ◌∷◌, ◌++◌}
use Prim.Native.Nat.{ℕ, zero, suc, ◌≤◌, ◌<◌}
use native.Mathlib.Omega.{arith}
use borrow.Author.Tests.{eqb-true}
use lib.Dec.{eqb}
use lib.ListN.{get_or}
use lib.Seq.{get_or-set_other}
use Rattle.lists.proofs.BoolLaws.{by_bool}
use Rattle.table.specs.Table.{stride, status_column, status_crashed, next_column, finished_column, tests_column}
use Rattle.std.specs.Prelude.{Ok, Err, is_ok}
use Rattle.lists.specs.Refusal.{Check}
use Rattle.lists.proofs.SearchLaws.{both}
use Rattle.plant.specs.Turn.{kind_turn}
use Rattle.plant.specs.Entry.{Entry}
use Rattle.plant.proofs.WholeRun.{whole_run}
use Rattle.lists.specs.Search.{list_of}
use Rattle.lists.specs.Sums.{sum_below}
use Rattle.table.specs.Fresh.{fresh_byte}
use Rattle.table.specs.Line.{row_of, with_row}
use Rattle.table.specs.declared.wiring.Wiring.{Wiring}
use Rattle.table.specs.declared.wiring.Wiring.TheVariants.{Cube, Ring}
use Rattle.board.specs.Board.{suspicion_of, next_of, tests, tested, next_station, pass_finished, counted, left_told, joined, suspecting, alone}
use Rattle.board.specs.Board.{after_alone, outcome_of, after_outcome, tested_at, turn_of, outcome, round_closed}
use Rattle.board.specs.Packed.{bits, packed_byte, pack, heard_byte, heard}
use Rattle.board.specs.Calls.{line_rules, place_check, line_check, live_check, turn_check, replied_check, row_check, sent_check, exchanged_check}
use Rattle.cable.specs.Boards.{Lines, reply_from, after_sending, after_turn, after_crash, after_act, all_finished, after_closing, after_entry}
use Rattle.cable.specs.Boards.{after_entries}
use Rattle.board_detection.specs.Detect.{live_boards, BoardsBegin, TurnInTime, TurnsInTime, counts_by_round, count_of_tests}
use Rattle.board_detection.specs.Example.{all_but, turns_of, cube_turns, ring_turns, FourBoards, FourOnRing}

passed : (c : Check) → is_ok c ≡ true → c ≡ Ok tt
passed (Ok x) e = refl
passed (Err r) e = cc

-- each entry is a turn whose reply comes in time, and no call of its board refuses it
unfoldable all_turns : Wiring → ℕ → Lines → List Entry → Bool
all_turns w n b [] = true
all_turns w n b (e ∷ es) = (eqb e.kind kind_turn && is_ok (turn_check w n e.station (b e.station))) && all_turns w n (after_entry w n b e) es

-- an entry of such a list, behind those before it
nth-in-time : (w : Wiring) (n : ℕ) (b : Lines) (before : List Entry) (e : Entry) (rest : List Entry) → all_turns w n b (before ++ (e ∷ rest)) ≡ true
    → TurnInTime w n (after_entries w n b before) e
unfolding all_turns after_entries
nth-in-time w n b [] e rest t =
    let p = both _ _ (both _ _ t).0 in
    let kind = eqb-true e.kind kind_turn p.0 in
    record { kind = inl kind; taken = passed _ p.1; no_late = λ late. absurd (omega (arith, kind)) }
nth-in-time w n b (f ∷ before) e rest t = nth-in-time w n (after_entry w n b f) before e rest (both _ _ t).1

all-in-time : (w : Wiring) (n : ℕ) (b : Lines) (es : List Entry) → all_turns w n b es ≡ true → TurnsInTime w n b es
all-in-time w n b es t before e rest p = nth-in-time w n b before e rest (rw p at t)

-- what holds of 0 to 3
below-four : (P : ℕ → Type 0) → P 0 → P 1 → P 2 → P 3 → (k : ℕ) → k < 4 → P k
below-four P a b c d zero h = a
below-four P a b c d (suc zero) h = b
below-four P a b c d (suc (suc zero)) h = c
below-four P a b c d (suc (suc (suc zero))) h = d
below-four P a b c d (suc (suc (suc (suc k)))) h = absurd (omega arith)

-- who unfolds this name unfolds all these definitions, and boards on a cable compute
unfoldable whole_cable : Unit {0}
unfolding whole_run all_but turns_of all_turns live_boards count_of_tests sum_below row_of with_row next_of tests tested next_station pass_finished
    counted left_told joined suspecting alone after_alone outcome_of after_outcome tested_at turn_of outcome round_closed bits packed_byte pack
    heard_byte heard line_rules place_check line_check live_check turn_check replied_check row_check sent_check exchanged_check reply_from
    after_sending after_turn after_crash after_act all_finished after_closing after_entry after_entries counts_by_round
whole_cable = tt

-- four boards with fresh lines, of which one has crashed
module _ (w : Wiring) (x : ℕ) where
  abbrev b : Lines
  b = all_but 4 x

  -- a byte of the line behind its status
  byte : (k c : ℕ) → 1 ≤ c → get_or (b k) c 0 ≡ get_or (list_of (fresh_byte 4) (stride 4)) c 0
  unfolding all_but after_crash
  byte k c h =
      let l : List ℕ = list_of (fresh_byte 4) (stride 4) in
      by_bool (eqb k x) (λ e. rw e (get_or-set_other l status_column c status_crashed 0 (λ f. omega arith))) (λ e. rw e)

  four-begin : ((k : ℕ) → k < 4 → line_check w 4 k (b k) ≡ Ok tt) → live_boards 4 b ≡ 3 → BoardsBegin w 4 b
  unfolding list_of fresh_byte
  four-begin lines three = record {
    lines = lines;
    start = λ k h. record {
      next = byte k next_column (omega arith);
      unfinished = byte k finished_column (omega arith);
      untested = byte k tests_column (omega arith);
    };
    two_live = omega (arith, three);
    accurate = λ i j h g p q.
        let trusts : ℕ → Type 0 = λ j. suspicion_of (b i) j ≡ 0 in
        below-four trusts (byte i 6 (omega arith)) (byte i 7 (omega arith)) (byte i 8 (omega arith)) (byte i 9 (omega arith)) j g;
  }

pub four-boards : FourBoards
unfolding whole_cable
four-boards = record {
  begin = four-begin Cube 3 (below-four (λ k. line_check Cube 4 k (all_but 4 3 k) ≡ Ok tt) refl refl refl refl) refl;
  in_time = all-in-time Cube 4 (all_but 4 3) (turns_of cube_turns) refl;
  tests_are = refl;
  counted = refl;
}

pub four-on-ring : FourOnRing
unfolding whole_cable
four-on-ring = record {
  begin = four-begin Ring 1 (below-four (λ k. line_check Ring 4 k (all_but 4 1 k) ≡ Ok tt) refl refl refl refl) refl;
  in_time = all-in-time Ring 4 (all_but 4 1) (turns_of ring_turns) refl;
  tests_are = refl;
  counted = refl;
}
