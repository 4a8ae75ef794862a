-- A turn of a live board by the calls of two boards, with packed rows between them.
-- Assumes nothing.
use mathlib.Core.Path.{◌≡◌, refl, sym, ap, ◌∙◌}
use mathlib.Core.Logic.{◌≢◌}
use mathlib.Core.Bool.{true, false, cond}
use mathlib.Core.List.{List}
use Prim.Native.Nat.{ℕ, ◌+◌, ◌<◌}
use native.Mathlib.Decide.{ℕ_discrete}
use native.Mathlib.Omega.{arith}
use borrow.Author.Tests.{eqb-true, eq-eqb, ne_eqb, lt-ltb}
use lib.ListN.{length, get_or, length-replicate}
use Rattle.std.specs.Prelude.{Option, Some, None, Ok, replicate}
use Rattle.lists.proofs.BoolLaws.{by_bool}
use Rattle.lists.proofs.SearchLaws.{both}
use Rattle.table.specs.Table.{head, stride, cell, status_column, finished_column, live, finished, row}
use Rattle.table.specs.Line.{line, row_of}
use Rattle.table.specs.Rules.{table_check}
use Rattle.table.proofs.Accepting.{Accepted, accepted}
use Rattle.table.proofs.CellLaws.{line-holds, accepted-line, row_at}
use Rattle.table.proofs.LineLaws.{line_at, line-length, line-row, row_of-length, row_of-at}
use Rattle.table.specs.declared.wiring.Wiring.{Wiring}
use Rattle.station.specs.Outcome.{outcome_finished, outcome_exchanged, outcome_tested_told}
use Rattle.station.specs.Rows.{union}
use Rattle.plant.specs.Turn.{makes_test, replies, turn, turn_tested, turn_outcome}
use Rattle.plant.proofs.StepLines.{turn_lines}
use Rattle.board.specs.Board.{tests, tested, next_station, turn_of, outcome, outcome_of, pass_finished, joined, message, sent, received}
use Rattle.board.specs.Packed.{packed_length, pack, heard}
use Rattle.board.specs.Calls.{live_check, turn_check, replied_check, row_check, sent_check, exchanged_check, next_answer, told_after, exchanged_after}
use Rattle.board.proofs.PackedLaws.{back}
use Rattle.cable.specs.Claims.{answered, reply_to, SameTurn}
use Rattle.cable.specs.Boards.{row_from, tester_after, tester_answer}
use Rattle.cable.proofs.TurnByLines.{same-turn, tests-line, next-line, tested-below, tested-apart, finish-turn, finish-outcome}
use Rattle.cable.proofs.LineFacts.{line-ok, lines-of-tables}
use Rattle.cable.proofs.RowsSent.{pack-length, rows-travel, either-row-serves}
use Rattle.cable.proofs.ExchangeLine.{row-after, live-after}

-- which calls are not refused on a line that is let through
module _ (w : Wiring) (n i : ℕ) (l : List ℕ) (alive : live_check w n i l ≡ Ok tt) where
  pub turn-ok : (get_or l finished_column 0 ≡ 1 → ⊥) → turn_check w n i l ≡ Ok tt
  unfolding turn_check
  turn-ok going = rw (alive, ne_eqb (get_or l finished_column 0) 1 going)

  pub sent-ok : (b : ℕ) → b < n → b ≢ i → sent_check w n i l b ≡ Ok tt
  unfolding sent_check
  sent-ok b hb apart = rw (alive, lt-ltb b n hb, ne_eqb b i apart)

  pub exchanged-ok : (b : ℕ) → b < n → b ≢ i → exchanged_check w n i l b (packed_length n) ≡ Ok tt
  unfolding exchanged_check
  exchanged-ok b hb apart = rw (sent-ok b hb apart, eq-eqb (packed_length n) (packed_length n) refl)

  pub row-ok : row_from w n i l ≡ pack n (row_of n l)
  unfolding row_check
  row-ok =
      let e : length {A = ℕ} (replicate (packed_length n) 0) ≡ packed_length n = length-replicate (packed_length n) 0 in
      rw (alive, e, eq-eqb (packed_length n) (packed_length n) refl)

-- a live line of a table
pub live-ok : (w : Wiring) (n : ℕ) (t : List ℕ) (i : ℕ) → table_check w n t ≡ Ok tt → i < n → live n t i ≡ true
    → live_check w n i (line n t i) ≡ Ok tt
unfolding live_check
live-ok w n t i z h alive = rw (lines-of-tables w n t i z h, line_at n t i status_column (omega arith), alive)

-- the reply as the tester hears it, and one of the right length
heard_of : ℕ → ℕ → Option (List ℕ) → Option (List ℕ)
heard_of n from None = None
heard_of n from (Some p) = Some (heard n from p)

fitting : ℕ → Option (List ℕ) → Type 0
fitting n None = Unit {0}
fitting n (Some p) = length p ≡ packed_length n

-- what comes back over the cable in the turn of i, by the table
unfoldable pub packed_reply : Wiring → ℕ → List ℕ → ℕ → ℕ → Option (List ℕ)
packed_reply w n t kind i =
    cond (replies n t kind (turn_tested w n t i)) (Some (pack n (row_of n (line n t (turn_tested w n t i))))) None

module _ (w : Wiring) (n : ℕ) (t : List ℕ) (kind i : ℕ) (z : table_check w n t ≡ Ok tt) (h : i < n) (alive : live n t i ≡ true)
    (going : finished n t i ≡ 1 → ⊥) where
  acc : Accepted w n t
  acc = accepted w n t z

  pub same : SameTurn w n t kind i
  same = same-turn w n t kind i z h

  abbrev l : List ℕ
  l = line n t i

  abbrev u : List ℕ
  u = turn w n t kind i

  abbrev j : ℕ
  j = turn_tested w n t i

  ok : turn_check w n i l ≡ Ok tt
  ok = turn-ok w n i l (live-ok w n t i z h alive) (λ e. going (sym (line_at n t i finished_column (omega arith)) ∙ e))

  -- whom the call names
  pub asks : makes_test w n t i ≡ true → next_answer w n i l ≡ Ok (Some j)
  unfolding next_station turn_tested
  asks m = rw (ok, tests-line n t i acc.long h w, m, next-line n t i acc.long h w)

  pub asks-nobody : makes_test w n t i ≡ false → next_answer w n i l ≡ Ok None
  unfolding next_station
  asks-nobody m = rw (ok, tests-line n t i acc.long h w, m)

  call-leaves : (p : Option (List ℕ)) → fitting n p → tester_after w n i l p ≡ turn_of w n i l (heard_of n (tested w n i l) p)
  unfolding replied_check fitting heard_of
  call-leaves None f = rw ok
  call-leaves (Some p) f = rw (ok, f, eq-eqb (packed_length n) (packed_length n) refl)

  call-answers : (p : Option (List ℕ)) → fitting n p → tester_answer w n i l p ≡ Ok (outcome w n i l (heard_of n (tested w n i l) p))
  unfolding replied_check fitting heard_of
  call-answers None f = rw ok
  call-answers (Some p) f = rw (ok, f, eq-eqb (packed_length n) (packed_length n) refl)

  fits : fitting n (packed_reply w n t kind i)
  unfolding packed_reply fitting
  fits = by_bool (replies n t kind j) (λ r. rw r (pack-length n (row_of n (line n t j)))) (λ r. rw r tt)

  -- what the tester hears is what the table's turn reads
  hears : makes_test w n t i ≡ true → heard_of n (tested w n i l) (packed_reply w n t kind i) ≡ reply_to w n t kind i
  unfolding packed_reply heard_of answered
  hears m =
      let hj = tested-below w n t i acc.long h m in
      let e : heard n j (pack n (row_of n (line n t j))) ≡ row n t j = rw (line-row n t j acc.long hj) (rows-travel w n t j z hj) in
      by_bool (replies n t kind j)
      (λ r. rw (← same.tested_station, r, e))
      (λ r. rw (← same.tested_station, r))

  -- where a test is made, the tester's call leaves its line of the table and answers the turn's outcome
  pub leaves : makes_test w n t i ≡ true → tester_after w n i l (packed_reply w n t kind i) ≡ line n u i
  leaves m = call-leaves (packed_reply w n t kind i) fits ∙ rw (hears m) (sym same.tester)

  pub answers : makes_test w n t i ≡ true → tester_answer w n i l (packed_reply w n t kind i) ≡ Ok (turn_outcome w n t kind i)
  answers m = call-answers (packed_reply w n t kind i) fits ∙ rw (hears m) (ap Ok (sym same.outcome_number))

  -- and where none is
  pub idle-leaves : makes_test w n t i ≡ false → tester_after w n i l None ≡ line n u i
  unfolding fitting heard_of
  idle-leaves m =
      let finishes : (r : Option (List ℕ)) → turn_of w n i l r ≡ pass_finished w n l = finish-turn w n t kind i acc.long h m in
      call-leaves None tt ∙ (finishes None ∙ sym (finishes (reply_to w n t kind i)) ∙ sym same.tester)

  pub idle-answers : makes_test w n t i ≡ false → tester_answer w n i l None ≡ Ok (turn_outcome w n t kind i)
  unfolding fitting heard_of
  idle-answers m =
      let finishes : (r : Option (List ℕ)) → outcome w n i l r ≡ outcome_finished = finish-outcome w n t kind i acc.long h m in
      call-answers None tt ∙ ap Ok (finishes None ∙ sym (finishes (reply_to w n t kind i)) ∙ sym same.outcome_number)

  -- after an outcome that is neither the end of the pass nor no reply the board tested has replied
  replied : turn_outcome w n t kind i ≢ 0 → turn_outcome w n t kind i ≢ 3 → (makes_test w n t i ≡ true) × (replies n t kind j ≡ true)
  unfolding answered outcome outcome_of
  replied nz n3 = (
    by_bool (makes_test w n t i) (λ m. m)
        (λ m. absurd (nz (same.outcome_number ∙ finish-outcome w n t kind i acc.long h m (reply_to w n t kind i)))),
    by_bool (replies n t kind j) (λ r. r)
        (λ r.
        let q : reply_to w n t kind i ≡ None = rw (← same.tested_station, r) in
        let o : outcome w n i l (reply_to w n t kind i) ≡ outcome w n i l None = ap (outcome w n i l) q in
        absurd (by_bool (tests w n i l)
        (λ m. n3 (same.outcome_number ∙ o ∙ rw m))
        (λ m. nz (same.outcome_number ∙ o ∙ rw m)))),
  )

  is-live-j : replies n t kind j ≡ true → live n t j ≡ true
  unfolding replies
  is-live-j r = (both _ _ r).0

  pub answering : turn_outcome w n t kind i ≢ 0 → turn_outcome w n t kind i ≢ 3 → live n t j ≡ true
  answering nz n3 = is-live-j (replied nz n3).1

  apart-from : makes_test w n t i ≡ true → (k : ℕ) → k ≡ j → i ≢ k
  apart-from m k e q = tested-apart w n t i acc.long h m (accepted-line w n t acc i h).pass.next_low (q ∙ e)

  sent-is : (o : ℕ) → turn_outcome w n t kind i ≡ o → sent w n i l (reply_to w n t kind i) ≡ message (row_of n l) o
  sent-is o e = ap (message (row_of n l)) (sym same.outcome_number ∙ e)

  -- the board tested is told
  pub told-leaves : (k : ℕ) → k < n → k ≡ j → turn_outcome w n t kind i ≡ outcome_tested_told → told_after w n k (line n t k) i ≡ line n u k
  unfolding received message
  told-leaves k hk e o =
      let r = replied (λ q. omega arith) (λ q. omega arith) in
      rw (sent-ok w n k (line n t k) (live-ok w n t k z hk (rw e (is-live-j r.1))) i h (apart-from r.0 k e))
      (sym (same.tested_line k hk e ∙ rw (sent-is outcome_tested_told o)))

  -- the tester's row after an exchange
  its-row : turn_outcome w n t kind i ≡ outcome_exchanged → row_of n (line n u i) ≡ union (row_of n l) (row n t j) i
  unfolding answered
  its-row o =
      let r = replied (λ q. omega arith) (λ q. omega arith) in
      let q : reply_to w n t kind i ≡ Some (row n t j) = rw (← same.tested_station, r.1) in
      let makes : tests w n i l ≡ true = tests-line n t i acc.long h w ∙ r.0 in
      let exchanges : outcome w n i l (Some (row n t j)) ≡ outcome_exchanged = ap (outcome w n i l) (sym q) ∙ sym same.outcome_number ∙ o in
      rw (same.tester, q) (row-after w n i l (row n t j) (line-length n t i acc.long h) makes exchanges)

  -- and its status
  still-live : turn_outcome w n t kind i ≡ outcome_exchanged → get_or (line n u i) status_column 0 ≡ 0
  unfolding answered
  still-live o =
      let r = replied (λ q. omega arith) (λ q. omega arith) in
      let q : reply_to w n t kind i ≡ Some (row n t j) = rw (← same.tested_station, r.1) in
      let makes : tests w n i l ≡ true = tests-line n t i acc.long h w ∙ r.0 in
      let hj = tested-below w n t i acc.long h r.0 in
      rw (same.tester, q)
      (live-after w n i l (row n t j) j (line-length n t i acc.long h) hj (λ e. apart-from r.0 j refl (sym e)) makes (sym same.tested_station)
      (ap (outcome w n i l) (sym q) ∙ sym same.outcome_number ∙ o)
      (rw (line_at n t i (head + j) (omega arith)) ((accepted-line w n t acc i h).range j hj))
      (row_at n t j j hj ∙ (accepted-line w n t acc j hj).own)
      (line_at n t i status_column (omega arith) ∙ eqb-true (cell n t i status_column) 0 alive))

  -- the row that it sends then, by its call, and what the board tested makes of that
  pub row-sent : turn_outcome w n t kind i ≡ outcome_exchanged → row_from w n i (line n u i) ≡ pack n (row_of n (line n u i))
  unfolding live_check
  row-sent o =
      let lines = turn_lines w n t kind i (acc.long, accepted-line w n t acc) h going in
      let ok = line-ok w n u i acc.size lines.0 h (line-holds w n u i (lines.1 i h)) in
      row-ok w n i (line n u i) (rw (ok, still-live o))

  pub exchanged-leaves : (k : ℕ) → k < n → k ≡ j → turn_outcome w n t kind i ≡ outcome_exchanged
      → exchanged_after w n k (line n t k) i (pack n (row_of n (line n u i))) ≡ line n u k
  unfolding received message
  exchanged-leaves k hk e o =
      let r = replied (λ q. omega arith) (λ q. omega arith) in
      let lines = turn_lines w n t kind i (acc.long, accepted-line w n t acc) h going in
      let full : length (line n u i) ≡ stride n = line-length n u i lines.0 h in
      let at : (x : ℕ) → x < n → get_or (row_of n (line n u i)) x 0 ≡ cell n u i (head + x) =
      λ x hx. row_of-at n (line n u i) x hx ∙ line_at n u i (head + x) (omega arith) in
      let comes : heard n i (pack n (row_of n (line n u i))) ≡ row_of n (line n u i) =
      back n i _ (row_of-length n (line n u i) full) (λ x hx. rw (at x hx) ((lines.1 i h).range x hx)) (at i h ∙ (lines.1 i h).own) in
      let serves : joined n k (line n t k) (union (row_of n l) (row_of n (line n t k)) i) ≡ joined n k (line n t k) (row_of n l) =
      either-row-serves n i k (line n t k) (row_of n l) (line-length n t k acc.long hk) (row_of-length n l (line-length n t i acc.long h)) in
      let is : union (row_of n l) (row_of n (line n t k)) i ≡ row_of n (line n u i) = rw (line-row n t k acc.long hk, e) (sym (its-row o)) in
      let ok = exchanged-ok w n k (line n t k) (live-ok w n t k z hk (rw e (is-live-j r.1))) i h (apart-from r.0 k e) in
      rw (pack-length n (row_of n (line n u i)), ok, comes, ← is, serves)
      (sym (same.tested_line k hk e ∙ rw (sent-is outcome_exchanged o)))

  -- nobody else does anything
  pub others-keep : (k : ℕ) → k < n → k ≢ i
      → (k ≡ j → (turn_outcome w n t kind i ≢ outcome_tested_told) × (turn_outcome w n t kind i ≢ outcome_exchanged)) → line n u k ≡ line n t k
  unfolding received message
  others-keep k hk ni quiet = pick (ℕ_discrete k j)
    where
      pick : Dec (k ≡ j) → line n u k ≡ line n t k
      pick (no nj) = same.others k hk ni nj
      pick (yes e) =
          let o : ℕ = turn_outcome w n t kind i in
          same.tested_line k hk e
          ∙ rw (sent-is o refl, ne_eqb o outcome_tested_told (quiet e).0, ne_eqb o outcome_exchanged (quiet e).1)
