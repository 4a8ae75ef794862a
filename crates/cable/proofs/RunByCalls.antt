-- A run by the calls of all boards: an entry, and by induction a list of entries.
-- Assumes nothing.
use mathlib.Core.Path.{◌≡◌, refl, sym, ap, ◌∙◌}
use mathlib.Core.Logic.{◌≢◌}
use mathlib.Core.Bool.{true, false, cond}
use mathlib.Core.List.{List, [], ◌∷◌}
use Prim.Native.Nat.{ℕ, suc, ◌-◌, ◌≤◌, ◌<◌}
use native.Mathlib.Decide.{ℕ_discrete}
use native.Mathlib.Omega.{arith}
use borrow.Author.Tests.{eqb-true, eqb-false, eq-eqb, ne_eqb}
use lib.Dec.{eqb}
use lib.ListN.{length, get_or, set, take}
use lib.Seq.{get_or-set_other}
use Rattle.std.specs.Prelude.{Option, None, Ok, Err}
use Rattle.lists.specs.Refusal.{Check, unless_refused}
use Rattle.lists.proofs.BoolLaws.{by_bool}
use Rattle.table.specs.Table.{table_length, status_column, next_column, finished_column, tests_column, rounds_ago_column, status_crashed, status}
use Rattle.table.specs.Table.{finished, live}
use Rattle.table.specs.Line.{line, is_live}
use Rattle.table.specs.Rules.{round_over, table_check}
use Rattle.table.specs.Sizes.{is_size}
use Rattle.table.proofs.Accepting.{Accepted, accepted}
use Rattle.table.proofs.CellLaws.{Line, line-holds}
use Rattle.table.proofs.LineLaws.{line-set, line-set-other}
use Rattle.table.specs.declared.wiring.Wiring.{Wiring}
use Rattle.station.specs.Outcome.{outcome_exchanged, outcome_tested_told}
use Rattle.station.specs.Step.{aged}
use Rattle.plant.specs.Turn.{makes_test, replies, turn, turn_tested, turn_outcome, crash}
use Rattle.plant.specs.Round.{reset_lines, after_round}
use Rattle.plant.specs.Entry.{Entry, State, is_crash, entry_check, acted, after, tested_of, sheet_line}
use Rattle.plant.specs.Entry.{outcome_of as entry_outcome}
use Rattle.plant.specs.Run.{RunResult, entries, write_line, go_on, start_check, run}
use Rattle.plant.proofs.RoundLaws.{reset-other}
use Rattle.plant.proofs.RunLaws.{accepted-number, start-facts}
use Rattle.plant.proofs.RulesKept.{Takes, entry-facts, acted-lines, accepted-kept}
use Rattle.board.specs.Board.{round_closed}
use Rattle.board.specs.Calls.{line_check, closed_after}
use Rattle.cable.specs.Boards.{Lines, reply_from, tested_by, reply_to_test, tester_after, tester_answer, after_sending, after_turn, after_crash}
use Rattle.cable.specs.Boards.{after_act, after_closing, after_entry, after_entries, entry_line, sheet_after, Hold, BoardsDoTheRun}
use Rattle.cable.proofs.TurnByLines.{tested-below, none-tested}
use Rattle.cable.proofs.ClosingByLines.{closed-line}
use Rattle.cable.proofs.LineFacts.{line-ok}
use Rattle.cable.proofs.HoldLaws.{HoldsOne, held, holds, live-same, kept, over-same}
use Rattle.cable.proofs.CallsOnCable.{row-ok, live-ok, packed_reply, asks, asks-nobody, leaves, answers, idle-leaves, idle-answers, answering}
use Rattle.cable.proofs.CallsOnCable.{told-leaves, row-sent, exchanged-leaves, others-keep}
use Rattle.lists.proofs.RefusalLaws.{by_check}

-- a turn of a live board
module _ (w : Wiring) (n : ℕ) (t : List ℕ) (b : Lines) (hold : Hold n t b) (z : table_check w n t ≡ Ok tt) (kind i : ℕ) (h : i < n)
    (alive : live n t i ≡ true) (going : finished n t i ≡ 1 → ⊥) where
  acc : Accepted w n t
  acc = accepted w n t z

  abbrev u : List ℕ
  u = turn w n t kind i

  abbrev o : ℕ
  o = turn_outcome w n t kind i

  mine : b i ≡ line n t i
  mine = hold.live_lines i h alive

  -- whom the call names is whom the table's turn tests
  pub names : tested_by w n b i ≡ turn_tested w n t i
  names =
      by_bool (makes_test w n t i)
      (λ m. rw (mine, asks w n t kind i z h alive going m) refl)
      (λ m. rw (mine, asks-nobody w n t kind i z h alive going m) (sym (none-tested w n t kind i acc.long h m)))

  -- what comes over the cable is what the table gives, where a test is made
  comes : makes_test w n t i ≡ true → reply_to_test w n b kind i ≡ packed_reply w n t kind i
  unfolding reply_from packed_reply replies
  comes m =
      let hj = tested-below w n t i acc.long h m in
      let same = live-same n t b hold (turn_tested w n t i) hj in
      by_bool (live n t (turn_tested w n t i))
      (λ l.
      let row = row-ok w n (turn_tested w n t i) (line n t (turn_tested w n t i)) (live-ok w n t (turn_tested w n t i) z hj l) in
      rw (mine, asks w n t kind i z h alive going m, same, l, hold.live_lines (turn_tested w n t i) hj l, row))
      (λ l. rw (mine, asks w n t kind i z h alive going m, same, l))

  -- and nothing where none is
  nothing-comes : makes_test w n t i ≡ false → reply_to_test w n b kind i ≡ None
  unfolding reply_from
  nothing-comes m = rw (mine, asks-nobody w n t kind i z h alive going m)

  tester-leaves : tester_after w n i (b i) (reply_to_test w n b kind i) ≡ line n u i
  tester-leaves =
      by_bool (makes_test w n t i)
      (λ m. rw (comes m, mine) (leaves w n t kind i z h alive going m))
      (λ m. ap (λ (p : Option (List ℕ)). tester_after w n i (b i) p) (nothing-comes m) ∙ rw mine (idle-leaves w n t kind i z h alive going m))

  pub tester-answers : tester_answer w n i (b i) (reply_to_test w n b kind i) ≡ Ok o
  tester-answers =
      by_bool (makes_test w n t i)
      (λ m. rw (comes m, mine) (answers w n t kind i z h alive going m))
      (λ m. ap (λ (p : Option (List ℕ)). tester_answer w n i (b i) p) (nothing-comes m) ∙ rw mine (idle-answers w n t kind i z h alive going m))

  quiet : (k : ℕ) → k < n → k ≢ i → (k ≡ turn_tested w n t i → (o ≢ outcome_tested_told) × (o ≢ outcome_exchanged)) → HoldsOne n u k (b k)
  quiet k hk ni q = kept n t b hold k hk u (others-keep w n t kind i z h alive going k hk ni q)

  tested-line : (k : ℕ) → k < n → k ≡ turn_tested w n t i → o ≢ 0 → o ≢ 3 → b k ≡ line n t k
  tested-line k hk e nz n3 = hold.live_lines k hk (rw e (answering w n t kind i z h alive going nz n3))

  sent-to : (k : ℕ) → k < n → k ≢ i → k ≡ turn_tested w n t i → HoldsOne n u k (after_sending w n i k (b k) (line n u i) (Ok o))
  unfolding after_sending
  sent-to k hk ni e =
      by_bool (eqb o outcome_tested_told)
      (λ a.
      let x = eqb-true o outcome_tested_told a in
      rw (a, tested-line k hk e (λ q. omega arith) (λ q. omega arith)) (held n u k _ (told-leaves w n t kind i z h alive going k hk e x)))
      (λ a.
      by_bool (eqb o outcome_exchanged)
      (λ c.
      let x = eqb-true o outcome_exchanged c in
      rw (a, c, row-sent w n t kind i z h alive going x, tested-line k hk e (λ q. omega arith) (λ q. omega arith))
      (held n u k _ (exchanged-leaves w n t kind i z h alive going k hk e x)))
      (λ c. rw (a, c) (quiet k hk ni (λ _. (eqb-false o outcome_tested_told a, eqb-false o outcome_exchanged c)))))

  pub turned : Hold n u (after_turn w n b kind i)
  unfolding after_turn
  turned = holds n u (after_turn w n b kind i) (λ k hk. at k hk (ℕ_discrete k i) (ℕ_discrete k (tested_by w n b i)))
    where
      at : (k : ℕ) → k < n → Dec (k ≡ i) → Dec (k ≡ tested_by w n b i) → HoldsOne n u k (after_turn w n b kind i k)
      at k hk (yes e) d = rw (eq-eqb k i e, e) (held n u i _ tester-leaves)
      at k hk (no ni) (no nj) =
          rw (ne_eqb k i ni, ne_eqb k (tested_by w n b i) nj) (quiet k hk ni (λ e. absurd (nj (e ∙ sym names))))
      at k hk (no ni) (yes e) =
          rw (ne_eqb k i ni, eq-eqb k (tested_by w n b i) e, tester-leaves, tester-answers) (sent-to k hk ni (e ∙ names))

-- a crash of a live board
pub crashed : (n : ℕ) (t : List ℕ) (b : Lines) → Hold n t b → length t ≡ table_length n → (i : ℕ) → i < n → live n t i ≡ true
    → Hold n (crash n t i) (after_crash b i)
unfolding crash after_crash
crashed n t b hold long i h alive = holds n (crash n t i) (after_crash b i) (λ k hk. at k hk (ℕ_discrete k i))
  where
    at : (k : ℕ) → k < n → Dec (k ≡ i) → HoldsOne n (crash n t i) k (cond (eqb k i) (set (b k) status_column status_crashed) (b k))
    at k hk (yes e) =
        let f : b k ≡ line n t i = rw e (hold.live_lines i h alive) in
        rw (eq-eqb k i e, f, e)
        (held n (crash n t i) i (set (line n t i) status_column status_crashed)
        (sym (line-set n t i status_column status_crashed long h (omega arith))))
    at k hk (no d) =
        let e = line-set-other n t i status_column status_crashed k long hk (omega arith) (λ e. d (sym e)) in
        rw (ne_eqb k i d) (kept n t b hold k hk (crash n t i) e)

-- a closing leaves the status
same-status : (l : List ℕ) → get_or (round_closed l) status_column 0 ≡ get_or l status_column 0
unfolding round_closed
same-status l =
    let l₁ : List ℕ = set l next_column 1 in
    let l₂ : List ℕ = set l₁ finished_column 0 in
    let l₃ : List ℕ = set l₂ tests_column 0 in
    let ago : ℕ = aged (is_live l) (get_or l rounds_ago_column 0) in
    get_or-set_other l₃ rounds_ago_column status_column ago 0 (omega arith)
    ∙ get_or-set_other l₂ tests_column status_column 0 0 (omega arith)
    ∙ get_or-set_other l₁ finished_column status_column 0 0 (omega arith)
    ∙ get_or-set_other l next_column status_column 1 0 (omega arith)

closed-status : (c : Check) (l : List ℕ) → get_or (unless_refused c l (round_closed l)) status_column 0 ≡ get_or l status_column 0
closed-status (Ok x) l = same-status l
closed-status (Err r) l = refl

pub closing : (w : Wiring) (n : ℕ) (t : List ℕ) (b : Lines) → Hold n t b → is_size n ≡ true → length t ≡ table_length n
    → ((k : ℕ) → k < n → Line w n t k) → Hold n (after_round n t) (after_closing w n b)
unfolding after_round after_closing
closing w n t b hold size long lines =
    by_bool (round_over n t) (λ o. rw (over-same n t b hold, o) closed) (λ o. rw (over-same n t b hold, o) hold)
  where
    was : (k : ℕ) → status n (reset_lines n t) k ≡ status n t k
    was k = reset-other n t k status_column (omega arith) (λ p. omega arith)

    closed : Hold n (reset_lines n t) (λ k. closed_after w n k (b k))
    closed = record {
      statuses = λ k hk. closed-status (line_check w n k (b k)) (b k) ∙ (hold.statuses k hk ∙ sym (was k));
      live_lines = λ k hk l.
          let e : b k ≡ line n t k = hold.live_lines k hk (rw (was k) at l) in
          rw (e, line-ok w n t k size long hk (line-holds w n t k (lines k hk))) (sym (closed-line n t k long hk));
    }

-- an entry that is taken
module _ (w : Wiring) (n : ℕ) (s : State) (b : Lines) (hold : Hold n s.table b) (e : Entry) (a : Accepted w n s.table)
    (taken : entry_check n s e ≡ Ok tt) where
  takes : Takes n s e
  takes = entry-facts n s e taken

  z : table_check w n s.table ≡ Ok tt
  z = accepted-number w n s.table a

  pub acting : Hold n (acted w n s.table e) (after_act w n b e)
  unfolding acted after_act
  acting =
      by_bool (is_crash e)
      (λ c. rw c (crashed n s.table b hold a.long e.station takes.below takes.is_live))
      (λ c. rw c (turned w n s.table b hold z e.kind e.station takes.below takes.is_live (takes.unfinished (eqb-false e.kind 3 c))))

  pub entry-held : Hold n (after w n s e).table (after_entry w n b e)
  unfolding after after_entry
  entry-held =
      let lines = acted-lines w n s e a taken in
      closing w n (acted w n s.table e) (after_act w n b e) acting a.size lines.0 lines.1

  -- and its line of the sheet
  pub entry-shown : sheet_line w n s e ≡ entry_line w n b e
  unfolding sheet_line entry_line tested_of entry_outcome
  entry-shown =
      let i : ℕ = e.station in
      let low = takes.below in
      let q : status n (after w n s e).table i ≡ get_or (after_entry w n b e i) status_column 0 = sym (entry-held.statuses i low) in
      by_bool (is_crash e) (λ c. rw (c, q))
      (λ c.
      let going = takes.unfinished (eqb-false e.kind 3 c) in
      let t : tested_by w n b i ≡ turn_tested w n s.table i = names w n s.table b hold z e.kind i low takes.is_live going in
      let o = tester-answers w n s.table b hold z e.kind i low takes.is_live going in
      rw (c, q, o, t))

-- the rest of a run
run-on : (w : Wiring) (n k : ℕ) (s : State) (sheet : List ℕ) (es : List Entry) (b : Lines) → Accepted w n s.table → Hold n s.table b
    → (k ≤ (go_on w n k s sheet es).taken)
    × Hold n (go_on w n k s sheet es).state.table (after_entries w n b (take ((go_on w n k s sheet es).taken - k) es))
    × ((go_on w n k s sheet es).sheet ≡ sheet_after w n k b sheet (take ((go_on w n k s sheet es).taken - k) es))
unfolding go_on after_entries sheet_after
run-on w n k s sheet [] b a hold = let x : k - k ≡ 0 = omega arith in (omega arith, rw x hold, rw x)
run-on w n k s sheet (e ∷ es) b a hold =
    by_check (entry_check n s e)
    (λ z.
    let rest = run-on w n (suc k) (after w n s e) (write_line sheet k (entry_line w n b e)) es (after_entry w n b e) (accepted-kept w n s e a z)
    (entry-held w n s b hold e a z) in
    let more : ℕ = (go_on w n (suc k) (after w n s e) (write_line sheet k (entry_line w n b e)) es).taken in
    let q : more - k ≡ suc (more - suc k) = omega (arith, rest.0) in
    rw (z, entry-shown w n s b hold e a z) (omega (arith, rest.0), rw q rest.1, rw q rest.2))
    (λ r z. let x : k - k ≡ 0 = omega arith in rw z (omega arith, rw x hold, rw x))

-- runs by the calls of all boards, an end in itself
pub boards-do-the-run : BoardsDoTheRun
unfolding run after_entries sheet_after
boards-do-the-run w n s b schedule sheet hold =
    by_check (start_check w n s.table (length schedule) (length sheet))
    (λ z.
    let r : RunResult = go_on w n 0 s sheet (entries schedule) in
    let x : r.taken - 0 ≡ r.taken = omega arith in
    let a = (start-facts w n s.table (length schedule) (length sheet) z).0 in
    let p = rw x at (run-on w n 0 s sheet (entries schedule) b a hold) in
    rw z (record { held = p.1; sheet_lines = p.2 }))
    (λ r z. rw z (record { held = hold; sheet_lines = refl }))
