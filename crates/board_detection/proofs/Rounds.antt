-- A list of entries that boards take, beside the entries that a table takes which they hold: the same rounds close, with as many tests.
-- Assumes nothing.
use mathlib.Core.Path.{◌≡◌, refl, sym, ap, ap₂, ◌∙◌}
use mathlib.Core.Bool.{Bool, true, false, not, ◌&&◌}
use mathlib.Core.List.{List, [], ◌∷◌, ◌++◌, map}
use Prim.Native.Nat.{ℕ, suc, ◌+◌, ◌<◌}
use lib.Dec.{eqb}
use Rattle.lists.proofs.BoolLaws.{by_bool}
use Rattle.lists.specs.Sums.{bit}
use Rattle.table.specs.Rules.{round_over}
use Rattle.table.specs.declared.wiring.Wiring.{Wiring}
use Rattle.plant.specs.Round.{reset_lines, after_round}
use Rattle.plant.specs.Entry.{Entry, State, entry_check, acted, after, sheet_line}
use Rattle.plant.specs.Run.{write_line, go_on}
use Rattle.plant.proofs.RulesKept.{acted-lines}
use Rattle.plant.proofs.RoundLaws.{Reset, reset-cells}
use Rattle.detection.specs.Runs.{Taken, taken_from, taken_test, is_turn_of, crashes, is_late, is_on}
use Rattle.detection.specs.Rounds.{all_taken, count_taken, closes, cut}
use Rattle.detection.specs.Claim.{all_rounds}
use Rattle.detection.proofs.TakenLaws.{taken_at, count-snoc}
use Rattle.detection.proofs.Counting.{Counts, counts_start}
use Rattle.cable.specs.Boards.{Lines, Hold, after_act, all_finished, after_entry, after_entries}
use Rattle.board_detection.specs.Detect.{TurnInTime, TurnsInTime, board_tests, counts_by_round}
use Rattle.board_detection.proofs.Steps.{Beside, beside-after, no_crash, takes, in_time, test-same, over, counted, closing-same}
use Rattle.table.proofs.WiringLaws.{same-itself}
use Rattle.std.specs.Prelude.{Ok}

-- q of an entry that boards take is r of the one that the table takes
abbrev pub Alike : Wiring → ℕ → (Lines → Entry → Bool) → (Taken → Bool) → Type 0
Alike w n q r = (s : State) (b : Lines) (e : Entry) → Beside w n s b → TurnInTime w n b e → q b e ≡ r (taken_at w n s e)

-- what the table takes of the entries es of the boards
pub record SameRounds (w : Wiring) (n : ℕ) (s : State) (b : Lines) (cur : List Taken) (es : List Entry) : Type 0 where
  pub one_wiring : all_taken (is_on w) (taken_from w n s es) ≡ true
  pub no_crash : all_taken (λ x. not (crashes x)) (taken_from w n s es) ≡ true
  pub no_late : all_taken (λ x. not (is_late x)) (taken_from w n s es) ≡ true
  pub counts : (q : Lines → Entry → Bool) (r : Taken → Bool) → Alike w n q r
      → map (count_taken r) (all_rounds (cut cur (taken_from w n s es))) ≡ counts_by_round q w n (count_taken r cur) b es
  pub held : (k : ℕ) (sheet : List ℕ) → Hold n (go_on w n k s sheet es).state.table (after_entries w n b es)

module _ (w : Wiring) (n : ℕ) (s : State) (b : Lines) (e : Entry) (es : List Entry) (at : Beside w n s b) (turn : TurnInTime w n b e) (t₀ : List ℕ)
    (cur : List Taken) (fresh : (k : ℕ) → k < n → Reset n t₀ k) (counts : Counts n t₀ cur s.table) where
  abbrev x : Taken
  x = taken_at w n s e

  abbrev here : List Taken
  here = cur ++ (x ∷ [])

  abbrev t' : List ℕ
  t' = acted w n s.table e

  is_taken : entry_check n s e ≡ Ok tt
  is_taken = takes w n s b e at turn

  -- what is to be shown of the rest, in the round that started with u₀ and has the entries `now` so far
  abbrev Rest : Type 0
  Rest =
      (u₀ : List ℕ) (now : List Taken) → ((k : ℕ) → k < n → Reset n u₀ k) → Counts n u₀ now (after w n s e).table
      → SameRounds w n (after w n s e) (after_entry w n b e) now es

  -- with it the round closes, or goes on
  step : Rest → SameRounds w n s b cur (e ∷ es)
  unfolding after after_round taken_from all_taken cut count_taken counts_by_round go_on after_entries
  step rest = by_bool (all_finished n (after_act w n b e)) closing going
    where
      z : entry_check n s e ≡ Ok tt
      z = is_taken

      same : closes here x ≡ all_finished n (after_act w n b e)
      same = closing-same w n s b e at turn t₀ cur fresh counts

      ends : round_over n t' ≡ all_finished n (after_act w n b e)
      ends = sym (over w n s b e at turn)

      made : (q : Lines → Entry → Bool) (r : Taken → Bool) → Alike w n q r → count_taken r here ≡ count_taken r cur + bit (q b e)
      made q r alike = count-snoc r cur x ∙ ap (λ (c : Bool). count_taken r cur + bit c) (sym (alike s b e at turn))

      -- what the rest gives, with the counts of the rounds
      with : (now : List Taken) → SameRounds w n (after w n s e) (after_entry w n b e) now es
          → ((q : Lines → Entry → Bool) (r : Taken → Bool) → Alike w n q r
          → map (count_taken r) (all_rounds (cut cur (taken_from w n s (e ∷ es)))) ≡ counts_by_round q w n (count_taken r cur) b (e ∷ es))
          → SameRounds w n s b cur (e ∷ es)
      with now r counts = record {
        one_wiring = rw z (ap₂ ◌&&◌ (same-itself w) r.one_wiring);
        no_crash = rw z (ap₂ ◌&&◌ (ap not (no_crash w n s b e at turn)) r.no_crash);
        no_late = rw z (ap₂ ◌&&◌ (ap not (in_time w n s b e at turn)) r.no_late);
        counts = counts;
        held = λ k sheet. rw z (r.held (suc k) (write_line sheet k (sheet_line w n s e)));
      }

      closing : all_finished n (after_act w n b e) ≡ true → SameRounds w n s b cur (e ∷ es)
      closing over =
          let anew = reset-cells n t' (acted-lines w n s e at.ok is_taken).0 in
          let r = rest (reset_lines n t') [] anew (rw (ends ∙ over) (counts_start n (reset_lines n t'))) in
          with [] r (λ q p alike. rw (z, same ∙ over, over, ← made q p alike) (ap (λ (l : List ℕ). count_taken p here ∷ l) (r.counts q p alike)))

      going : all_finished n (after_act w n b e) ≡ false → SameRounds w n s b cur (e ∷ es)
      going over =
          let r = rest t₀ here fresh (rw (ends ∙ over) (counted w n s b e at turn t₀ cur fresh counts)) in
          with here r (λ q p alike. rw (z, same ∙ over, over, ← made q p alike) (r.counts q p alike))

-- of the whole list, in a round that started with t₀ and has the entries `cur` so far
pub same-rounds : (w : Wiring) (n : ℕ) (s : State) (b : Lines) (es : List Entry) → Beside w n s b → TurnsInTime w n b es
    → (t₀ : List ℕ) (cur : List Taken)
    → ((k : ℕ) → k < n → Reset n t₀ k) → Counts n t₀ cur s.table → SameRounds w n s b cur es
unfolding taken_from all_taken cut counts_by_round go_on after_entries
same-rounds w n s b [] at turns t₀ cur fresh counts =
    record { one_wiring = refl; no_crash = refl; no_late = refl; counts = λ q r alike. refl; held = λ k sheet. at.hold }
same-rounds w n s b (e ∷ es) at turns t₀ cur fresh counts =
    let turn = turns [] e es refl in
    let later : TurnsInTime w n (after_entry w n b e) es =
    λ before f rest p. turns (e ∷ before) f rest (ap (λ (l : List Entry). e ∷ l) p) in
    step w n s b e es at turn t₀ cur fresh counts (same-rounds w n (after w n s e) (after_entry w n b e) es (beside-after w n s b e at turn) later)

-- the tests are as many
pub tests-alike : (w : Wiring) (n : ℕ) → Alike w n (board_tests w n) taken_test
tests-alike w n s b e at turn = test-same w n s b e at turn

-- and so are the turns of a board
pub turns-alike : (w : Wiring) (n i : ℕ) → Alike w n (λ b e. eqb e.station i) (is_turn_of i)
turns-alike w n i s b e at turn = rw (no_crash w n s b e at turn)
