-- A turn by what the tester heard, and what an entry makes of each line.
-- Assumes nothing.
use mathlib.Core.Path.{◌≡◌, refl, sym, ap, subst, ◌∙◌}
use mathlib.Core.Logic.{◌≢◌, ◌⊎◌, ⊎_elim}
use mathlib.Core.Bool.{Bool, true, false, cond, ◌&&◌}
use mathlib.Core.List.{List}
use Prim.Native.Nat.{ℕ, ◌+◌, ◌<◌}
use native.Mathlib.Decide.{ℕ_discrete}
use native.Mathlib.Omega.{arith}
use borrow.Author.Tests.{eqb-true, eqb-false, eq-eqb, ne_eqb}
use lib.Dec.{eqb}
use lib.ListN.{get_or, set}
use Rattle.std.specs.Prelude.{Option, None, Some, Result, Ok, option_map}
use Rattle.std.specs.Result.{result_unwrap_or}
use Rattle.std.proofs.lemmas.Option.{same_Some, none-some}
use Rattle.lists.proofs.BoolLaws.{by_bool, choice}
use Rattle.table.specs.Table.{finished, live, row, status_column, status_crashed}
use Rattle.table.specs.Rules.{round_over, table_check}
use Rattle.table.specs.Line.{line, row_of, is_live}
use Rattle.table.proofs.Accepting.{Accepted}
use Rattle.table.proofs.LineLaws.{line_at, line-row, line-set, line-set-other}
use Rattle.table.proofs.SizeLaws.{size_top}
use Rattle.plant.specs.Turn.{makes_test, replies, turn, turn_tested, turn_outcome, crash}
use Rattle.plant.specs.Round.{after_round}
use Rattle.plant.specs.Entry.{Entry, State, entry_of, is_crash, entry_check, acted, after, tested_of}
use Rattle.plant.specs.Entry.{outcome_of as entry_outcome}
use Rattle.plant.proofs.RunLaws.{accepted-number}
use Rattle.plant.proofs.RulesKept.{Takes, entry-facts, acted-lines}
use Rattle.board.specs.Board.{tests, outcome_of, outcome, received, message}
use Rattle.board.specs.Packed.{pack, heard as row_of_packed}
use Rattle.board.specs.Calls.{line_check, next_answer, told_after, exchanged_after, closed_after}
use Rattle.cable.specs.Boards.{row_from, named, tester_after, tester_answer}
use Rattle.cable.proofs.LineFacts.{line-ok}
use Rattle.cable.proofs.RowsSent.{pack-length, rows-travel}
use Rattle.cable.proofs.CallsOnCable.{row-ok, live-ok, exchanged-ok, packed_reply, asks, asks-nobody}
use Rattle.cable.proofs.CallsOnCable.{leaves, answers, idle-leaves, idle-answers, answering, told-leaves, others-keep}
use Rattle.table.proofs.CellLaws.{line-holds, accepted-line}
use Rattle.table.specs.declared.wiring.Wiring.{Wiring}
use Rattle.cable.specs.Claims.{answered, reply_to, SameTurn}
use Rattle.in_step.specs.System.{Board, End, Note, note_of, row_heard, own_line, tested_line, line_by}
use Rattle.in_step.specs.Happenings.{entry_by}
use Rattle.cable.proofs.TurnByLines.{same-turn, tests-line, tested-apart, none-tested, finish-outcome}
use Rattle.cable.proofs.ClosingByLines.{boards-close}

same_Ok : {A B : Type 0} {x y : A} → ◌≡◌ {A = Result A B} (Ok x) (Ok y) → x ≡ y
same_Ok {x = x} e = ap (λ r. result_unwrap_or r x) e

-- what board i may have heard in its turn on table t: nothing, or the row of the board that its call names, which is live
pub record RowOf (n : ℕ) (t : List ℕ) (j : ℕ) (reply : Option (List ℕ)) : Type 0 where
  pub given : reply ≡ Some (pack n (row_of n (line n t j)))
  pub is_live : live n t j ≡ true
  pub below : j < n

abbrev pub Heard : Wiring → ℕ → List ℕ → ℕ → Option (List ℕ) → Type 0
Heard w n t i reply = (reply ≡ None) ⊎ RowOf n t (named (next_answer w n i (line n t i))) reply

-- a board's line shows whether it is live
pub live-line : (n : ℕ) (t : List ℕ) (k : ℕ) → is_live (line n t k) ≡ live n t k
live-line n t k = ap (λ (x : ℕ). eqb x 0) (line_at n t k status_column (omega arith))

-- a live board's call writes its row
pub row-written : (w : Wiring) (n : ℕ) (t : List ℕ) (a : Accepted w n t) (k : ℕ) → k < n → live n t k ≡ true
    → row_from w n k (line n t k) ≡ pack n (row_of n (line n t k))
row-written w n t a k hk l = row-ok w n k (line n t k) (live-ok w n t k (accepted-number w n t a) hk l)

-- an outcome by a row is not 3
by-row : (i j : ℕ) (l r : List ℕ) → eqb (outcome_of i j l (Some r)) 3 ≡ false
unfolding outcome_of
by-row i j l r =
    let P : ℕ → Type 0 = λ o. eqb o 3 ≡ false in
    choice P (eqb (get_or r i 0) 1) refl (choice P (eqb (get_or l (6 + j) 0) 1) refl refl)

-- the kind that the master gives a turn, by its outcome and whether the board tested is live
abbrev pub kind_by : ℕ → Bool → ℕ
kind_by o live = cond (eqb o 3 && live) 2 1

none-answered : (n : ℕ) (t : List ℕ) (j : ℕ) → answered n t (kind_by 3 (live n t j)) j ≡ None
unfolding answered replies
none-answered n t j = by_bool (live n t j) (λ e. rw e) (λ e. rw e)

row-answered : (n : ℕ) (t : List ℕ) (j : ℕ) → live n t j ≡ true → answered n t 1 j ≡ Some (row n t j)
unfolding answered replies
row-answered n t j e = rw e

none-outcome : (w : Wiring) (n i : ℕ) (l : List ℕ) → tests w n i l ≡ true → outcome w n i l None ≡ 3
unfolding outcome outcome_of
none-outcome w n i l e = rw e

row-outcome : (w : Wiring) (n i : ℕ) (l r : List ℕ) → tests w n i l ≡ true → eqb (outcome w n i l (Some r)) 3 ≡ false
unfolding outcome
row-outcome w n i l r e = rw e (by-row i _ l r)

-- a turn of board i, live and not finished
module _ (w : Wiring) (n : ℕ) (t : List ℕ) (a : Accepted w n t) (i : ℕ) (h : i < n) (alive : live n t i ≡ true) (going : finished n t i ≡ 1 → ⊥) where
  abbrev mine : List ℕ
  mine = line n t i

  abbrev j : ℕ
  j = turn_tested w n t i

  z : table_check w n t ≡ Ok tt
  z = accepted-number w n t a

  -- no reply in time, and a reply
  pub none-comes : packed_reply w n t (kind_by 3 (live n t j)) i ≡ None
  unfolding packed_reply replies
  none-comes = by_bool (live n t j) (λ e. rw e) (λ e. rw e)

  pub row-comes : live n t j ≡ true → packed_reply w n t 1 i ≡ Some (pack n (row_of n (line n t j)))
  unfolding packed_reply replies
  row-comes e = rw e

  -- what the call answers then
  pub none-number : makes_test w n t i ≡ true → turn_outcome w n t (kind_by 3 (live n t j)) i ≡ 3
  none-number m =
      let same : SameTurn w n t (kind_by 3 (live n t j)) i = same-turn w n t (kind_by 3 (live n t j)) i z h in
      let q : reply_to w n t (kind_by 3 (live n t j)) i ≡ None =
      ap (answered n t (kind_by 3 (live n t j))) (sym same.tested_station) ∙ none-answered n t j in
      same.outcome_number ∙ ap (outcome w n i mine) q ∙ none-outcome w n i mine (tests-line n t i a.long h w ∙ m)

  pub row-number : makes_test w n t i ≡ true → live n t j ≡ true → eqb (turn_outcome w n t 1 i) 3 ≡ false
  row-number m l =
      let same : SameTurn w n t 1 i = same-turn w n t 1 i z h in
      let q : reply_to w n t 1 i ≡ Some (row n t j) = ap (answered n t 1) (sym same.tested_station) ∙ row-answered n t j l in
      ap (λ (o : ℕ). eqb o 3) (same.outcome_number ∙ ap (outcome w n i mine) q)
      ∙ row-outcome w n i mine (row n t j) (tests-line n t i a.long h w ∙ m)

  pub pass-number : makes_test w n t i ≡ false → (kind : ℕ) → turn_outcome w n t kind i ≡ 0
  pass-number m kind =
      (same-turn w n t kind i z h).outcome_number ∙ finish-outcome w n t kind i a.long h m (reply_to w n t kind i)

  pub names : makes_test w n t i ≡ true → named (next_answer w n i mine) ≡ j
  names m = ap named (asks w n t 1 i z h alive going m)

  pub names-nobody : makes_test w n t i ≡ false → named (next_answer w n i mine) ≡ 255
  names-nobody m = ap named (asks-nobody w n t 1 i z h alive going m)

  -- by what it heard: the kind that the master gives the turn is one with which the table has this outcome and this line
  pub record IsTurn (reply : Option (List ℕ)) (o : ℕ) : Type 0 where
    pub outcome : o ≡ turn_outcome w n t (kind_by o (live n t j)) i
    pub line_aside : tester_after w n i mine reply ≡ line n (turn w n t (kind_by o (live n t j)) i) i

  with-kind : (reply : Option (List ℕ)) (o kind : ℕ) → kind_by o (live n t j) ≡ kind → o ≡ turn_outcome w n t kind i
      → tester_after w n i mine reply ≡ line n (turn w n t kind i) i → IsTurn reply o
  with-kind reply o kind k e l = record { outcome = rw k e; line_aside = rw k l }

  number : (reply : Option (List ℕ)) (o kind : ℕ) → tester_answer w n i mine reply ≡ Ok o → makes_test w n t i ≡ true
      → packed_reply w n t kind i ≡ reply → o ≡ turn_outcome w n t kind i
  number reply o kind says m q =
      same_Ok
      (sym says
      ∙ subst (λ (p : Option (List ℕ)). tester_answer w n i mine p ≡ Ok (turn_outcome w n t kind i)) q (answers w n t kind i z h alive going m))

  pub turn-heard : (reply : Option (List ℕ)) → Heard w n t i reply → (o : ℕ) → tester_answer w n i mine reply ≡ Ok o → IsTurn reply o
  turn-heard reply heard o says =
      by_bool (makes_test w n t i)
      (λ m.
      ⊎_elim
      (λ (none : reply ≡ None).
      let kind : ℕ = kind_by 3 (live n t j) in
      let q : packed_reply w n t kind i ≡ reply = none-comes ∙ sym none in
      let is : o ≡ turn_outcome w n t kind i = number reply o kind says m q in
      with-kind reply o kind (ap (λ (o : ℕ). kind_by o (live n t j)) (is ∙ none-number m)) is
      (subst (λ (p : Option (List ℕ)). tester_after w n i mine p ≡ line n (turn w n t kind i) i) q (leaves w n t kind i z h alive going m)))
      (λ (r : RowOf n t (named (next_answer w n i mine)) reply).
      let l : live n t j ≡ true = ap (live n t) (sym (names m)) ∙ r.is_live in
      let q : packed_reply w n t 1 i ≡ reply = row-comes l ∙ sym (r.given ∙ ap (λ (j : ℕ). Some (pack n (row_of n (line n t j)))) (names m)) in
      let is : o ≡ turn_outcome w n t 1 i = number reply o 1 says m q in
      let not3 : eqb o 3 ≡ false = ap (λ (o : ℕ). eqb o 3) is ∙ row-number m l in
      with-kind reply o 1 (rw not3 refl) is
      (subst (λ (p : Option (List ℕ)). tester_after w n i mine p ≡ line n (turn w n t 1 i) i) q (leaves w n t 1 i z h alive going m)))
      heard)
      (λ m.
      ⊎_elim
      (λ (none : reply ≡ None).
      let is : o ≡ turn_outcome w n t 1 i = same_Ok (sym says ∙ (ap (tester_answer w n i mine) none ∙ idle-answers w n t 1 i z h alive going m)) in
      with-kind reply o 1 (ap (λ (o : ℕ). kind_by o (live n t j)) (is ∙ pass-number m 1)) is
      (ap (tester_after w n i mine) none ∙ idle-leaves w n t 1 i z h alive going m))
      (λ (r : RowOf n t (named (next_answer w n i mine)) reply). absurd (omega (arith, r.below, names-nobody m, size_top n a.size)))
      heard)

-- the entry that the master makes of an end is a turn, the line aside is the table's after it, and its outcome is that of the end
pub turn-entry : (c : Bool) (i : ℕ) → is_crash (entry_of (cond c 2 1) i) ≡ false
turn-entry true i = refl
turn-entry false i = refl

module _ (w : Wiring) (n : ℕ) (s : State) (a : Accepted w n s.table) (x : End) (ok : entry_check n s (entry_by w n s.table x) ≡ Ok tt)
    (reply : Option (List ℕ)) (heard : Heard w n s.table x.from reply)
    (says : tester_answer w n x.from (line n s.table x.from) reply ≡ Ok x.outcome) where
  facts : Takes n s (entry_by w n s.table x)
  facts = entry-facts n s (entry_by w n s.table x) ok

  no-crash : is_crash (entry_by w n s.table x) ≡ false
  no-crash = turn-entry (eqb x.outcome 3 && live n s.table (turn_tested w n s.table x.from)) x.from

  going : finished n s.table x.from ≡ 1 → ⊥
  going = facts.unfinished (eqb-false (entry_by w n s.table x).kind 3 no-crash)

  is-turn : IsTurn w n s.table a x.from facts.below facts.is_live going reply x.outcome
  is-turn = turn-heard w n s.table a x.from facts.below facts.is_live going reply heard x.outcome says

  pub own-turn : tester_after w n x.from (line n s.table x.from) reply ≡ line n (acted w n s.table (entry_by w n s.table x)) x.from
  unfolding acted
  own-turn = rw no-crash is-turn.line_aside

  pub own-outcome : entry_outcome w n s.table (entry_by w n s.table x) ≡ x.outcome
  unfolding entry_outcome
  own-outcome = rw no-crash (sym is-turn.outcome)

-- a row that the tester sends as it was at its test, and what the board tested makes of it
exchanged-before : (w : Wiring) (n : ℕ) (t : List ℕ) (a : Accepted w n t) (kind i : ℕ) (h : i < n) → live n t i ≡ true → (finished n t i ≡ 1 → ⊥)
    → (k : ℕ) → k < n → k ≡ turn_tested w n t i → turn_outcome w n t kind i ≡ 1
    → exchanged_after w n k (line n t k) i (pack n (row_of n (line n t i))) ≡ line n (turn w n t kind i) k
unfolding received message
exchanged-before w n t a kind i h alive going k hk e o =
    let z : table_check w n t ≡ Ok tt = accepted-number w n t a in
    let same : SameTurn w n t kind i = same-turn w n t kind i z h in
    let lives : live n t k ≡ true = ap (live n t) e ∙ answering w n t kind i z h alive going (λ q. omega (arith, o, q)) (λ q. omega (arith, o, q)) in
    let makes : makes_test w n t i ≡ true =
    by_bool (makes_test w n t i) (λ m. m) (λ m. absurd (omega (arith, e, hk, none-tested w n t kind i a.long h m, size_top n a.size))) in
    let apart : i ≢ k = λ q. tested-apart w n t i a.long h makes (accepted-line w n t a i h).pass.next_low (q ∙ e) in
    let ok = exchanged-ok w n k (line n t k) (live-ok w n t k z hk lives) i h apart in
    let comes : row_of_packed n i (pack n (row_of n (line n t i))) ≡ row_of n (line n t i) =
    rw (line-row n t i a.long h) (rows-travel w n t i z h) in
    rw (pack-length n (row_of n (line n t i)), ok, comes)
    (sym (same.tested_line k hk e ∙ rw (sym same.outcome_number ∙ o) refl))

-- an entry that is taken: what it makes of the line of each board that can put it in force
module _ (w : Wiring) (n : ℕ) (s : State) (a : Accepted w n s.table) (e : Entry) (taken : entry_check n s e ≡ Ok tt) where
  abbrev t : List ℕ
  t = s.table

  abbrev i : ℕ
  i = e.station

  abbrev note : Note
  note = note_of w n t e

  takes : Takes n s e
  takes = entry-facts n s e taken

  module _ (k : ℕ) (hk : k < n) (b : Board) (holds : b.line ≡ line n t k) (heard : Option End)
      (row_true : (r : List ℕ) → row_heard b i heard ≡ Some r → r ≡ row_from w n i (line n t i))
      (own_true : is_crash e ≡ false → k ≡ i → b.aside ≡ Some (line n (acted w n t e) i)) where
    own : k ≡ i → (l : List ℕ) → own_line b note ≡ Some l → l ≡ line n (acted w n t e) k
    unfolding own_line acted crash
    own q l made =
        by_bool (is_crash e)
        (λ c.
        let z : Some (set b.line status_column status_crashed) ≡ Some l = rw c at made in
        sym (same_Some _ _ z)
        ∙ rw (c, holds, q) (sym (line-set n t i status_column status_crashed a.long takes.below (omega arith))))
        (λ c.
        let z : b.aside ≡ Some l = rw c at made in
        same_Some _ _ (sym z ∙ own_true c q) ∙ ap (line n (acted w n t e)) (sym q))

    -- in a turn
    module _ (c : is_crash e ≡ false) (apart : k ≢ i) where
      acts : acted w n t e ≡ turn w n t e.kind i
      unfolding acted
      acts = rw c

      open_pass : finished n t i ≡ 1 → ⊥
      open_pass = takes.unfinished (eqb-false e.kind 3 c)

      other : (k ≡ turn_tested w n t i → (turn_outcome w n t e.kind i ≢ 5) × (turn_outcome w n t e.kind i ≢ 1)) → line n (acted w n t e) k ≡ b.line
      other quiet =
          rw acts (others-keep w n t e.kind i (accepted-number w n t a) takes.below takes.is_live open_pass k hk apart quiet ∙ sym holds)

      outcome_here : note.outcome ≡ turn_outcome w n t e.kind i
      unfolding entry_outcome
      outcome_here = rw c

      tested_here : note.tested ≡ turn_tested w n t i
      unfolding tested_of
      tested_here = rw c

      joins : (r : Option (List ℕ)) → ((x : List ℕ) → r ≡ Some x → x ≡ row_from w n i (line n t i)) → (l : List ℕ)
          → option_map (exchanged_after w n k b.line i) r ≡ Some l → l ≡ exchanged_after w n k b.line i (row_from w n i (line n t i))
      joins None is l made = absurd (none-some l made)
      joins (Some x) is l made = sym (same_Some _ _ made) ∙ ap (exchanged_after w n k b.line i) (is x refl)

      was_tested : k ≡ turn_tested w n t i → (l : List ℕ) → tested_line w n k b note heard ≡ Some l → l ≡ line n (acted w n t e) k
      unfolding tested_line
      was_tested q l made =
          let o : ℕ = turn_outcome w n t e.kind i in
          let z : table_check w n t ≡ Ok tt = accepted-number w n t a in
          by_bool (eqb o 5)
          (λ x.
          let made : Some (told_after w n k b.line i) ≡ Some l = rw (outcome_here, x) at made in
          sym (same_Some _ _ made)
          ∙ rw (holds, acts) (told-leaves w n t e.kind i z takes.below takes.is_live open_pass k hk q (eqb-true o 5 x)))
          (λ x.
          by_bool (eqb o 1)
          (λ y.
          let made : option_map (exchanged_after w n k b.line i) (row_heard b i heard) ≡ Some l = rw (outcome_here, x, y) at made in
          joins (row_heard b i heard) row_true l made
          ∙ rw (holds, acts, row-written w n t a i takes.below takes.is_live)
          (exchanged-before w n t a e.kind i takes.below takes.is_live open_pass k hk q (eqb-true o 1 y)))
          (λ y.
          let made : Some b.line ≡ Some l = rw (outcome_here, x, y) at made in
          sym (same_Some _ _ made) ∙ sym (other (λ _. (eqb-false o 5 x, eqb-false o 1 y)))))

    -- in a crash
    module _ (c : is_crash e ≡ true) (apart : k ≢ i) where
      crashes : line n (acted w n t e) k ≡ b.line
      unfolding acted crash
      crashes = rw (c, holds) (line-set-other n t i status_column status_crashed k a.long hk (omega arith) (λ q. apart (sym q)))

      none_tested : note.tested ≡ 255
      unfolding tested_of
      none_tested = rw c

    pub line-made : (l : List ℕ) → line_by w n k b note heard ≡ Some l → l ≡ line n (acted w n t e) k
    unfolding line_by
    line-made l made = pick (ℕ_discrete k i)
      where
        shape : (x : ℕ) → note.tested ≡ x
            → cond (eqb k i) (own_line b note) (cond (eqb k x) (tested_line w n k b note heard) (Some b.line)) ≡ Some l
        shape x q =
            ap (λ (x : ℕ). cond (eqb k i) (own_line b note) (cond (eqb k x) (tested_line w n k b note heard) (Some b.line))) (sym q) ∙ made

        turned : is_crash e ≡ false → k ≢ i → Dec (k ≡ turn_tested w n t i) → l ≡ line n (acted w n t e) k
        turned c d (yes q) =
            let z : tested_line w n k b note heard ≡ Some l =
            rw (ne_eqb k i d, eq-eqb k (turn_tested w n t i) q) at (shape (turn_tested w n t i) (tested_here c d)) in
            was_tested c d q l z
        turned c d (no nj) =
            let z : Some b.line ≡ Some l = rw (ne_eqb k i d, ne_eqb k (turn_tested w n t i) nj) at (shape (turn_tested w n t i) (tested_here c d)) in
            sym (same_Some _ _ z) ∙ sym (other c d (λ q. absurd (nj q)))

        pick : Dec (k ≡ i) → l ≡ line n (acted w n t e) k
        pick (yes q) = let z : own_line b note ≡ Some l = rw (eq-eqb k i q) at made in own q l z
        pick (no d) =
            by_bool (is_crash e)
            (λ c.
            let far : k ≢ 255 = λ q. absurd (omega (arith, size_top n a.size)) in
            let z : Some b.line ≡ Some l = rw (ne_eqb k i d, ne_eqb k 255 far) at (shape 255 (none_tested c d)) in
            sym (same_Some _ _ z) ∙ sym (crashes c d))
            (λ c. turned c d (ℕ_discrete k (turn_tested w n t i)))

    -- and with the closing
    pub line-after : (l : List ℕ) → line_by w n k b note heard ≡ Some l → cond note.closed (closed_after w n k l) l ≡ line n (after w n s e).table k
    unfolding after after_round
    line-after l made =
        let u : List ℕ = acted w n t e in
        let lines = acted-lines w n s e a taken in
        let ok : line_check w n k (line n u k) ≡ Ok tt = line-ok w n u k a.size lines.0 hk (line-holds w n u k (lines.1 k hk)) in
        by_bool (round_over n u)
        (λ o. rw (o, line-made l made, ok) (sym (boards-close n u lines.0 k hk)))
        (λ o. rw o (line-made l made))
