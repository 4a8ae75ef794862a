-- Every entry can get in force: the happenings of one entry, and of a list.
-- Assumes nothing.
use mathlib.Core.Path.{◌≡◌, refl, sym, ap, subst, ◌∙◌}
use mathlib.Core.Logic.{◌≢◌}
use mathlib.Core.Bool.{true, false, cond}
use mathlib.Core.List.{List, [], ◌∷◌, ◌++◌, append_assoc, append-nil}
use Prim.Native.Nat.{ℕ, zero, suc, ◌<◌, ◌≤◌}
use native.Mathlib.Decide.{ℕ_discrete}
use native.Mathlib.Omega.{arith}
use borrow.Author.Tests.{eqb-true, eqb-false, eq-eqb, ne_eqb, lt-ltb}
use lib.Dec.{eqb}
use lib.ListN.{length, set, length-append}
use lib.Seq.{take-length}
use Rattle.std.specs.Prelude.{Option, None, Some, Ok, slice_get}
use Rattle.lists.proofs.BoolLaws.{by_bool}
use Rattle.table.specs.Table.{finished, live, status_column, status_crashed}
use Rattle.table.specs.Line.{line, row_of, is_live}
use Rattle.table.specs.Rules.{table_check}
use Rattle.table.proofs.Accepting.{Accepted, accepted}
use Rattle.table.specs.declared.wiring.Wiring.{Wiring}
use Rattle.plant.specs.Turn.{makes_test, turn_tested, turn_outcome}
use Rattle.plant.specs.Entry.{Entry, State, entry_of, is_crash, is_test, entry_check, after, tested_of}
use Rattle.plant.specs.Entry.{outcome_of as entry_outcome}
use Rattle.plant.proofs.RulesKept.{Takes, entry-facts}
use Rattle.cable.proofs.TurnByLines.{tested-below}
use Rattle.board.specs.Packed.{pack}
use Rattle.board.specs.Calls.{next_answer, told_after, exchanged_after, closed_after}
use Rattle.cable.specs.Boards.{row_from, named, tester_after, tester_answer}
use Rattle.cable.proofs.CallsOnCable.{answers, idle-answers}
use Rattle.plant.proofs.RunLaws.{accepted-number}
use Rattle.in_step.specs.System.{Board, Reply, End, System, start, after_all, table_at, Note, note_of, row_heard, own_line, tested_line, line_by}
use Rattle.in_step.specs.Happenings.{with_board, reply_sent, turn_ended, turn_made, reply_heard, entry_made, entry_by, end_heard}
use Rattle.in_step.specs.Happenings.{put_in_force, note_heard, Happening, after_happening, after_happenings}
use Rattle.in_step.specs.Happenings.Happening.{test_comes, reply_comes, none_comes, end_comes, crash_found, note_comes}
use Rattle.in_step.specs.InForce.{AsMade, EntriesGetInForce}
use Rattle.in_step.proofs.Entries.{after_all-snoc}
use Rattle.in_step.proofs.Kept.{Fits, Holds, first, all-kept, accepted-all}
use Rattle.in_step.proofs.TurnHeard.{live-line, row-written, kind_by, none-comes, row-comes, none-number, row-number, pass-number, names}

-- one list of happenings after another
after-append : (w : Wiring) (n : ℕ) (s : State) (y : System) (hs gs : List Happening)
    → after_happenings w n s y (hs ++ gs) ≡ after_happenings w n s (after_happenings w n s y hs) gs
unfolding after_happenings
after-append w n s y [] gs = refl
after-append w n s y (h ∷ hs) gs = after-append w n s (after_happening w n s y h) hs gs

get-last : {A : Type 0} (xs : List A) (x : A) → slice_get (xs ++ (x ∷ [])) (length xs) ≡ Some x
get-last [] x = refl
get-last (a ∷ xs) x = get-last xs x

-- a board that has what it needs can put the entry in force
module _ (w : Wiring) (n k : ℕ) (b : Board) (note : Note) (heard : Option End) where
  row-some : (x : End) → heard ≡ Some x → x.turn ≡ suc b.in_force → x.from ≡ note.entry.station → row_heard b note.entry.station heard ≡ Some x.packed
  unfolding row_heard
  row-some x h turn from = rw (h, eq-eqb x.turn (suc b.in_force) turn, eq-eqb x.from note.entry.station from) refl

  line-some : (k ≡ note.entry.station → (l : List ℕ) × (own_line b note ≡ Some l))
      → (note.outcome ≡ 1 → (r : List ℕ) × (row_heard b note.entry.station heard ≡ Some r))
      → (l : List ℕ) × (line_by w n k b note heard ≡ Some l)
  unfolding line_by tested_line
  line-some own row =
      by_bool (eqb k note.entry.station)
      (λ q. let o = own (eqb-true k note.entry.station q) in (o.0, rw q o.1))
      (λ q.
      by_bool (eqb k note.tested)
      (λ p.
      by_bool (eqb note.outcome 5)
      (λ x. (told_after w n k b.line note.entry.station, rw (q, p, x) refl))
      (λ x.
      by_bool (eqb note.outcome 1)
      (λ y. let r = row (eqb-true note.outcome 1 y) in (exchanged_after w n k b.line note.entry.station r.0, rw (q, p, x, y, r.1) refl))
      (λ y. (b.line, rw (q, p, x, y) refl))))
      (λ p. (b.line, rw (q, p) refl)))

one : (k : ℕ) → 1 ≤ k → k ≤ 3 → k ≢ 2 → k ≢ 3 → k ≡ 1
one zero a b c d = absurd (omega arith)
one (suc zero) a b c d = refl
one (suc (suc zero)) a b c d = absurd (c refl)
one (suc (suc (suc zero))) a b c d = absurd (d refl)
one (suc (suc (suc (suc k)))) a b c d = absurd (omega arith)

module _ (w : Wiring) (n : ℕ) (s : State) (a : Accepted w n s.table) where
  -- entry m is made, and no note of it has come to a board from k on
  record Noted (y : System) (m : ℕ) (e : Entry) (k : ℕ) : Type 0 where
    stands : slice_get y.entries m ≡ Some e
    before : (i : ℕ) → i < k → ((y.boards i).in_force ≡ suc m) × ((y.boards i).aside ≡ None)
    behind : (i : ℕ) → k ≤ i → i < n → (y.boards i).in_force ≡ m
    own : is_crash e ≡ false → k ≤ e.station → (l : List ℕ) × ((y.boards e.station).aside ≡ Some l)
    end : is_crash e ≡ false → (x : End) × (slice_get y.ends 0 ≡ Some x) × (x.turn ≡ suc m) × (x.from ≡ e.station)

  -- the note comes to board k
  module _ (y : System) (m : ℕ) (e : Entry) (k : ℕ) (hk : k < n) (h : Noted y m e k) where
    abbrev b : Board
    b = y.boards k

    abbrev note : Note
    note = note_of w n (table_at w n s y.entries m) e

    now : b.in_force ≡ m
    now = h.behind k (omega arith) hk

    own-some : k ≡ e.station → (l : List ℕ) × (own_line b note ≡ Some l)
    unfolding own_line
    own-some q =
        by_bool (is_crash e)
        (λ c. (set b.line status_column status_crashed, rw c refl))
        (λ c. let o = h.own c (omega (arith, q)) in (o.0, rw c (subst (λ (v : ℕ). (y.boards v).aside ≡ Some o.0) (sym q) o.1)))

    heard-some : note.outcome ≡ 1 → (r : List ℕ) × (row_heard b e.station (slice_get y.ends 0) ≡ Some r)
    unfolding entry_outcome
    heard-some o =
        by_bool (is_crash e)
        (λ c. let z : ◌≡◌ {A = ℕ} 4 1 = rw c at o in absurd (omega arith))
        (λ c.
        let x = h.end c in
        (x.0.packed, row-some w n k b note (slice_get y.ends 0) x.0 x.1 (x.2 ∙ sym (ap suc now)) x.3))

    made : (l : List ℕ) × (line_by w n k b note (slice_get y.ends 0) ≡ Some l)
    made = line-some w n k b note (slice_get y.ends 0) own-some heard-some

    abbrev b' : Board
    b' = record { in_force = suc b.in_force; line = cond note.closed (closed_after w n k made.0) made.0; aside = None }

    note-gives : after_happening w n s y (note_comes k m 0) ≡ with_board y k b'
    unfolding note_heard put_in_force
    note-gives = rw (h.stands, eq-eqb m b.in_force (sym now), made.1) refl

    noted : Noted (with_board y k b') m e (suc k)
    noted = record {
      stands = h.stands;
      before = λ i hi. pick i hi (ℕ_discrete i k);
      behind = λ i hi hn. rw (ne_eqb i k (λ q. absurd (omega (arith, q)))) (h.behind i (omega arith) hn);
      own = λ c hi. rw (ne_eqb e.station k (λ q. absurd (omega (arith, q)))) (h.own c (omega arith));
      end = h.end;
    }
      where
        pick : (i : ℕ) → i < suc k → Dec (i ≡ k)
            → ((cond (eqb i k) b' (y.boards i)).in_force ≡ suc m) × ((cond (eqb i k) b' (y.boards i)).aside ≡ None)
        pick i hi (yes q) = rw (eq-eqb i k q) (ap suc now, refl)
        pick i hi (no d) = rw (ne_eqb i k d) (h.before i (omega arith))

    note-step : ((after_happening w n s y (note_comes k m 0)).entries ≡ y.entries) × Noted (after_happening w n s y (note_comes k m 0)) m e (suc k)
    note-step = subst (λ (v : System). (v.entries ≡ y.entries) × Noted v m e (suc k)) (sym note-gives) (refl, noted)

  -- it comes to each board below k
  notes : ℕ → ℕ → List Happening
  notes m zero = []
  notes m (suc k) = notes m k ++ (note_comes k m 0 ∷ [])

  notes-come : (y : System) (m : ℕ) (e : Entry) → Noted y m e 0 → (k : ℕ) → k ≤ n
      → ((after_happenings w n s y (notes m k)).entries ≡ y.entries) × Noted (after_happenings w n s y (notes m k)) m e k
  unfolding notes after_happenings
  notes-come y m e h zero b = (refl, h)
  notes-come y m e h (suc k) b =
      let so = notes-come y m e h k (omega arith) in
      let v : System = after_happenings w n s y (notes m k) in
      let next = note-step v m e k (omega arith) so.1 in
      subst (λ (u : System). (u.entries ≡ y.entries) × Noted u m e (suc k)) (sym (after-append w n s y (notes m k) (note_comes k m 0 ∷ [])))
      (next.0 ∙ so.0, next.1)

  -- the master makes entry e
  made-entry : (y : System) (e : Entry) → entry_check n (after_all w n s y.entries) e ≡ Ok tt
      → entry_made w n s y e ≡ record y { entries = y.entries ++ (e ∷ []) }
  unfolding entry_made
  made-entry y e z = rw z refl

  -- the entries that are made are in force at each board, and no turn is open
  record Level (y : System) : Type 0 where
    holds : Holds w n s a y
    levels : (k : ℕ) → k < n → ((y.boards k).in_force ≡ length y.entries) × ((y.boards k).aside ≡ None)

  -- a turn of board i, with the reply that it heard, and its end: entry e comes of it
  module _ (y : System) (e : Entry) (levels : (k : ℕ) → k < n → ((y.boards k).in_force ≡ length y.entries) × ((y.boards k).aside ≡ None))
      (ok : entry_check n (after_all w n s y.entries) e ≡ Ok tt) (reply : Option (List ℕ)) (o : ℕ)
      (says : tester_answer w n e.station (y.boards e.station).line reply ≡ Ok o) where
    abbrev i : ℕ
    i = e.station

    abbrev c : Board
    c = y.boards i

    abbrev c' : Board
    c' = record c { aside = Some (tester_after w n i c.line reply) }

    abbrev x : End
    x = record { turn = suc c.in_force; from = i; outcome = o; packed = row_from w n i c.line }

    abbrev turned : System
    turned = with_board (record y { ends = x ∷ y.ends }) i c'

    abbrev entered : System
    entered = record turned { entries = y.entries ++ (e ∷ []) }

    below : i < n
    below = (entry-facts n (after_all w n s y.entries) e ok).below

    turn-gives : turn_made w n y i reply ≡ turned
    unfolding turn_made turn_ended
    turn-gives = rw ((levels i below).1, says) refl

    end-gives : entry_by w n (after_all w n s y.entries).table x ≡ e → after_happenings w n s turned (end_comes 0 ∷ []) ≡ entered
    unfolding after_happenings end_heard
    end-gives q =
        rw (eq-eqb (suc c.in_force) (suc (length y.entries)) (ap suc (levels i below).0), q) (made-entry turned e ok)

    entered-noted : Noted entered (length y.entries) e 0
    entered-noted = record {
      stands = get-last y.entries e;
      before = λ k hk. absurd (omega arith);
      behind = λ k hk hn. by_bool (eqb k i) (λ q. rw q (levels i below).0) (λ q. rw q (levels k hn).0);
      own = λ _ _. (tester_after w n i c.line reply, rw (eq-eqb i i refl) refl);
      end = λ _. (x, refl, ap suc (levels i below).0, refl);
    }

  -- entry e is made, in system u, after system y
  record MadeIn (y : System) (e : Entry) (u : System) : Type 0 where
    entries : u.entries ≡ y.entries ++ (e ∷ [])
    noted : Noted u (length y.entries) e 0

  Makes : System → Entry → Type 0
  Makes y e = (hs : List Happening) × MadeIn y e (after_happenings w n s y hs)

  module _ (y : System) (v : Level y) (e : Entry) (ok : entry_check n (after_all w n s y.entries) e ≡ Ok tt) where
    abbrev t : List ℕ
    t = (after_all w n s y.entries).table

    crash-makes : is_crash e ≡ true → Makes y e
    unfolding after_happenings Makes
    crash-makes c =
        let q : entry_of 3 e.station ≡ e = ap (λ (k : ℕ). entry_of k e.station) (sym (eqb-true e.kind 3 c)) in
        let gives : after_happenings w n s y (crash_found e.station ∷ []) ≡ record y { entries = y.entries ++ (e ∷ []) } =
        rw q (made-entry y e ok) in (
          crash_found e.station ∷ [],
          subst (MadeIn y e) (sym gives)
              (record {
                entries = refl;
                noted = record {
                  stands = get-last y.entries e;
                  before = λ k hk. absurd (omega arith);
                  behind = λ k hk hn. (v.levels k hn).0;
                  own = λ d _. let z : true ≡ false = sym c ∙ d in cc;
                  end = λ d. let z : true ≡ false = sym c ∙ d in cc;
                };
              }),
        )

    facts : Takes n (after_all w n s y.entries) e
    facts = entry-facts n (after_all w n s y.entries) e ok

    abbrev mine : Board
    mine = y.boards e.station

    accepted-now : Accepted w n t
    accepted-now = accepted-all w n s a y v.holds

    -- boards have their lines of the table
    line-now : (k : ℕ) → k < n → (y.boards k).line ≡ line n t k
    unfolding Fits
    line-now k hk =
        (v.holds.boards k hk).1
        ∙ ap (λ (m : ℕ). line n (table_at w n s y.entries m) k) (v.levels k hk).0
        ∙ ap (λ (es : List Entry). line n (after_all w n s es).table k) (take-length y.entries)

    -- the call of the entry's board, on its line of the table
    module _ (c : is_crash e ≡ false) where
      abbrev own : ℕ
      own = e.station

      abbrev j : ℕ
      j = turn_tested w n t own

      z : table_check w n t ≡ Ok tt
      z = accepted-number w n t accepted-now

      going : finished n t own ≡ 1 → ⊥
      going = facts.unfinished (eqb-false e.kind 3 c)

      -- no reply comes
      none-makes : (o : ℕ) → tester_answer w n own (line n t own) None ≡ Ok o → kind_by o (live n t j) ≡ e.kind → Makes y e
      unfolding Makes after_happenings
      none-makes o ans k =
          let says : tester_answer w n own mine.line None ≡ Ok o =
          ap (λ (l : List ℕ). tester_answer w n own l None) (line-now own facts.below) ∙ ans in
          let q : entry_of (kind_by o (live n t j)) own ≡ e = ap (λ (k : ℕ). entry_of k own) k in (
            none_comes own ∷ end_comes 0 ∷ [],
            subst (λ (u : System). MadeIn y e (after_happenings w n s u (end_comes 0 ∷ []))) (sym (turn-gives y e v.levels ok None o says))
                (subst (MadeIn y e) (sym (end-gives y e v.levels ok None o says q))
                (record { entries = refl; noted = entered-noted y e v.levels ok None o says })),
          )

      -- a test, and the reply to it
      abbrev r : Reply
      r = record { turn = suc (length y.entries); from = j; packed = row_from w n j (y.boards j).line }

      abbrev tried : System
      tried = record y { replies = r ∷ y.replies }

      test-gives : j < n → live n t j ≡ true → reply_sent w n y j (suc (length y.entries)) ≡ tried
      unfolding reply_sent
      test-gives hj l =
          let lives : is_live (y.boards j).line ≡ true = ap is_live (line-now j hj) ∙ (live-line n t j ∙ l) in
          rw (lt-ltb j n hj, lives, eq-eqb (suc (length y.entries)) (suc (y.boards j).in_force) (ap suc (sym (v.levels j hj).0))) refl

      reply-gives : j ≡ named (next_answer w n own mine.line) → reply_heard w n tried own (Some r) ≡ turn_made w n tried own (Some r.packed)
      unfolding reply_heard
      reply-gives is =
          rw (
            eq-eqb (suc (length y.entries)) (suc mine.in_force) (ap suc (sym (v.levels own facts.below).0)),
            eq-eqb j (named (next_answer w n own mine.line)) is,
          )
          refl

      row-makes : j < n → live n t j ≡ true → makes_test w n t own ≡ true → (o : ℕ)
          → tester_answer w n own (line n t own) (Some (pack n (row_of n (line n t j)))) ≡ Ok o → kind_by o (live n t j) ≡ e.kind → Makes y e
      unfolding Makes after_happenings
      row-makes hj l m o ans k =
          let row : r.packed ≡ pack n (row_of n (line n t j)) =
          ap (row_from w n j) (line-now j hj) ∙ row-written w n t accepted-now j hj l in
          let says : tester_answer w n own mine.line (Some r.packed) ≡ Ok o =
          ap (λ (l : List ℕ). tester_answer w n own l (Some r.packed)) (line-now own facts.below)
          ∙ (ap (λ (p : List ℕ). tester_answer w n own (line n t own) (Some p)) row ∙ ans) in
          let is : j ≡ named (next_answer w n own mine.line) =
          sym (names w n t accepted-now own facts.below facts.is_live going m)
          ∙ ap (λ (l : List ℕ). named (next_answer w n own l)) (sym (line-now own facts.below)) in
          let q : entry_of (kind_by o (live n t j)) own ≡ e = ap (λ (k : ℕ). entry_of k own) k in (
            test_comes j (suc (length y.entries)) ∷ reply_comes own 0 ∷ end_comes 0 ∷ [],
            subst (λ (u : System). MadeIn y e (after_happenings w n s (reply_heard w n u own (slice_get u.replies 0)) (end_comes 0 ∷ [])))
                (sym (test-gives hj l))
                (subst (λ (u : System). MadeIn y e (after_happenings w n s u (end_comes 0 ∷ []))) (sym (reply-gives is))
                (subst (λ (u : System). MadeIn y e (after_happenings w n s u (end_comes 0 ∷ [])))
                (sym (turn-gives tried e v.levels ok (Some r.packed) o says))
                (subst (MadeIn y e) (sym (end-gives tried e v.levels ok (Some r.packed) o says q))
                (record { entries = refl; noted = entered-noted tried e v.levels ok (Some r.packed) o says })))),
          )

      -- the turn is made, with the kind of the entry
      turn-makes : (e.kind ≡ 2 → (is_test w n t e ≡ true) × (live n t (tested_of w n t e) ≡ true)) → Makes y e
      unfolding tested_of
      turn-makes late =
          let k : ℕ = kind_by 3 (live n t j) in
          let none : makes_test w n t own ≡ true → tester_answer w n own (line n t own) None ≡ Ok (turn_outcome w n t k own) =
          λ m. subst (λ (p : Option (List ℕ)). tester_answer w n own (line n t own) p ≡ Ok (turn_outcome w n t k own))
          (none-comes w n t accepted-now own facts.below facts.is_live going) (answers w n t k own z facts.below facts.is_live going m) in
          by_bool (eqb e.kind 2)
          (λ two.
          let is2 : e.kind ≡ 2 = eqb-true e.kind 2 two in
          let p = late is2 in
          let m : makes_test w n t own ≡ true = rw c at p.0 in
          let l : live n t j ≡ true = rw c at p.1 in
          none-makes (turn_outcome w n t k own) (none m)
          (rw (none-number w n t accepted-now own facts.below facts.is_live going m, l) (sym is2)))
          (λ d.
          let is1 : e.kind ≡ 1 = one e.kind facts.kind_low facts.kind_high (eqb-false e.kind 2 d) (eqb-false e.kind 3 c) in
          by_bool (makes_test w n t own)
          (λ m.
          by_bool (live n t j)
          (λ l.
          row-makes (tested-below w n t own accepted-now.long facts.below m) l m (turn_outcome w n t 1 own)
          (subst (λ (p : Option (List ℕ)). tester_answer w n own (line n t own) p ≡ Ok (turn_outcome w n t 1 own))
          (row-comes w n t accepted-now own facts.below facts.is_live going l) (answers w n t 1 own z facts.below facts.is_live going m))
          (rw (row-number w n t accepted-now own facts.below facts.is_live going m l) (sym is1)))
          (λ l.
          none-makes (turn_outcome w n t k own) (none m) (rw (none-number w n t accepted-now own facts.below facts.is_live going m, l) (sym is1))))
          (λ m.
          none-makes (turn_outcome w n t 1 own) (idle-answers w n t 1 own z facts.below facts.is_live going m)
          (rw (pass-number w n t accepted-now own facts.below facts.is_live going m 1) (sym is1))))

    -- the entry is made
    entry-makes : (e.kind ≡ 2 → (is_test w n t e ≡ true) × (live n t (tested_of w n t e) ≡ true)) → Makes y e
    entry-makes late = by_bool (is_crash e) crash-makes (λ c. turn-makes c late)

  -- entries that follow those that are made
  Goes : System → List Entry → Type 0
  Goes y es =
      (hs : List Happening)
      × ((after_happenings w n s y hs).entries ≡ y.entries ++ es)
      × Level (after_happenings w n s y hs)

  -- one, made and noted by all
  entry-goes : (y : System) → Level y → (e : Entry) → entry_check n (after_all w n s y.entries) e ≡ Ok tt
      → (e.kind ≡ 2
      → (is_test w n (after_all w n s y.entries).table e ≡ true)
      × (live n (after_all w n s y.entries).table (tested_of w n (after_all w n s y.entries).table e) ≡ true))
      → Goes y (e ∷ [])
  unfolding Makes Goes
  entry-goes y v e ok late =
      let made = entry-makes y v e ok late in
      let m : ℕ = length y.entries in
      let u : System = after_happenings w n s y made.0 in
      let told = notes-come u m e made.1.noted n (omega arith) in
      let z : System = after_happenings w n s u (notes m n) in
      let same : after_happenings w n s y (made.0 ++ notes m n) ≡ z = after-append w n s y made.0 (notes m n) in
      let listed : z.entries ≡ y.entries ++ (e ∷ []) = told.0 ∙ made.1.entries in
      let longer : length z.entries ≡ suc m =
      ap (λ (es : List Entry). length es) listed ∙ (length-append y.entries (e ∷ []) ∙ omega arith) in
      let level : Level z =
      record {
        holds = all-kept w n s a u (all-kept w n s a y v.holds made.0) (notes m n);
        levels = λ k hk. let b = told.1.before k hk in (b.0 ∙ sym longer, b.1);
      } in (
        made.0 ++ notes m n,
        subst (λ (x : System). x.entries ≡ y.entries ++ (e ∷ [])) (sym same) listed,
        subst Level (sym same) level,
      )

  all-go : (y : System) → Level y → (es : List Entry) → AsMade w n (after_all w n s y.entries) es → Goes y es
  unfolding Goes after_happenings
  all-go y v [] t = ([], sym (append-nil y.entries), v)
  all-go y v (e ∷ es) t =
      let one = entry-goes y v e t.0 t.1 in
      let u : System = after_happenings w n s y one.0 in
      let now : after_all w n s u.entries ≡ after w n (after_all w n s y.entries) e =
      ap (after_all w n s) one.1 ∙ after_all-snoc w n s y.entries e in
      let rest = all-go u one.2 es (subst (λ (v : State). AsMade w n v es) (sym now) t.2) in
      let same : after_happenings w n s y (one.0 ++ rest.0) ≡ after_happenings w n s u rest.0 = after-append w n s y one.0 rest.0 in (
        one.0 ++ rest.0,
        subst (λ (x : System). x.entries ≡ y.entries ++ (e ∷ es)) (sym same)
            (rest.1 ∙ (ap (λ (xs : List Entry). xs ++ es) one.1 ∙ append_assoc y.entries (e ∷ []) es)),
        subst Level (sym same) rest.2,
      )

  begins : Level (start n s)
  unfolding start
  begins = record { holds = first w n s a; levels = λ k hk. (refl, refl) }

pub entries-get-in-force : EntriesGetInForce
unfolding Goes after_all start
entries-get-in-force w n s es z t =
    let a = accepted w n s.table z in
    let go = all-go w n s a (start n s) (begins w n s a) es t in (
      go.0,
      record { entries = go.1; boards = λ k hk. (go.2.levels k hk).0 ∙ ap (λ (xs : List Entry). length xs) go.1 },
    )
