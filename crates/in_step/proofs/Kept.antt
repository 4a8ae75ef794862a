-- What holds of everything whatever happens.
-- Assumes nothing.
use mathlib.Core.Path.{◌≡◌, refl, sym, ap, subst, ◌∙◌}
use mathlib.Core.Logic.{inl, inr, ⊎_elim}
use mathlib.Core.Bool.{true, false, cond, ◌&&◌}
use mathlib.Core.List.{List, [], ◌∷◌, ◌++◌}
use Prim.Native.Nat.{ℕ, suc, ◌<◌, ◌≤◌}
use native.Mathlib.Omega.{arith}
use borrow.Author.Tests.{eqb-true, ltb-true, eq-eqb}
use lib.Dec.{eqb, ltb}
use lib.ListN.{length, take, length-append}
use lib.Seq.{take-length, length-take-le}
use Rattle.std.specs.Prelude.{Option, None, Some, Result, Ok, Err, is_none, slice_get}
use Rattle.std.proofs.lemmas.Option.{same_Some, none-some, slice_get_within}
use Rattle.lists.proofs.BoolLaws.{by_bool}
use Rattle.lists.proofs.SearchLaws.{both}
use Rattle.table.specs.Table.{live}
use Rattle.table.specs.Rules.{table_check}
use Rattle.table.specs.Line.{line, row_of, is_live}
use Rattle.table.proofs.Accepting.{Accepted, accepted}
use Rattle.plant.specs.Turn.{turn}
use Rattle.plant.specs.Entry.{Entry, State, entry_of, is_crash, entry_check, acted, after}
use Rattle.board.specs.Packed.{pack}
use Rattle.board.specs.Calls.{next_answer, closed_after}
use Rattle.cable.specs.Boards.{row_from, named, tester_after, tester_answer}
use Rattle.lists.specs.declared.refusal.Refusal.{Refusal}
use Rattle.table.specs.declared.wiring.Wiring.{Wiring}
use Rattle.plant.proofs.RulesKept.{entry-facts}
use Rattle.in_step.specs.System.{Board, Reply, End, System, start, after_all, table_at, Note, note_of, row_heard, line_by}
use Rattle.in_step.specs.Happenings.{with_board, reply_sent, turn_ended, turn_made, reply_heard, entry_made, entry_by, end_heard}
use Rattle.in_step.specs.Happenings.{put_in_force, note_heard, Happening, after_happening, after_happenings}
use Rattle.in_step.specs.Happenings.Happening.{test_comes, reply_comes, none_comes, end_comes, crash_found, note_comes}
use Rattle.in_step.specs.Claims.{InStep, BoardsInStep}
use Rattle.in_step.proofs.TurnHeard.{row-written, RowOf, Heard, live-line, own-turn, own-outcome, line-after}
use Rattle.in_step.proofs.Runs.{is-run, taken-take}
use Rattle.in_step.proofs.Entries.{get-snoc, cons-all, table-kept, at-next, Taken, taken-snoc, taken-at, accepted-at}
use Rattle.lists.proofs.RefusalLaws.{by_check}

-- of a reply of turn e + 1: it is of a board that table t, after e entries, has live, and brings its row, packed
pub record ReplyOn (n : ℕ) (t : List ℕ) (r : Reply) : Type 0 where
  pub packed : r.packed ≡ pack n (row_of n (line n t r.from))
  pub is_live : live n t r.from ≡ true

-- of an end of turn e + 1 of board b: it comes of what b may have heard; and it is the line aside that b keeps
pub record EndOn (w : Wiring) (n : ℕ) (t : List ℕ) (b : Board) (x : End) (e : ℕ) : Type 0 where
  pub reached : e ≤ b.in_force
  pub reply : Option (List ℕ)
  pub heard : Heard w n t x.from reply
  pub says : tester_answer w n x.from (line n t x.from) reply ≡ Ok x.outcome
  pub packed : x.packed ≡ row_from w n x.from (line n t x.from)
  pub aside : b.in_force ≡ e → b.aside ≡ Some (tester_after w n x.from (line n t x.from) reply)

-- of entry m, a turn of board b: until the entry is in force at b, it keeps aside its line of the table after it
pub record OwnOn (w : Wiring) (n : ℕ) (t : List ℕ) (b : Board) (m : ℕ) (e : Entry) : Type 0 where
  pub reached : m ≤ b.in_force
  pub aside : b.in_force ≡ m → b.aside ≡ Some (line n (acted w n t e) e.station)

-- the board in place of which another stands now: no turn that it had made is open
pub record Moves (b b' : Board) : Type 0 where
  pub further : b.in_force ≤ b'.in_force
  pub open_turn : (e : ℕ) → e ≤ b.in_force → b'.in_force ≡ e → (b.in_force ≡ e) × (is_none b.aside ≡ true)

none-aside : {A : Type 0} (o : Option A) (x : A) → is_none o ≡ true → o ≡ Some x → ⊥
none-aside None x q e = none-some x e
none-aside (Some y) x q e = let z : false ≡ true = q in cc

at-board : (P : ℕ → Board → Type 0) (f : ℕ → Board) (k : ℕ) (b : Board) (i : ℕ) → (i ≡ k → P k b) → P i (f i) → P i (cond (eqb i k) b (f i))
at-board P f k b i new old =
    by_bool (eqb i k) (λ e. rw (e, eqb-true i k e) (new (eqb-true i k e))) (λ e. rw e old)

module _ (w : Wiring) (n : ℕ) (s : State) (a : Accepted w n s.table) where
  abbrev pub T : List Entry → ℕ → List ℕ
  T es m = table_at w n s es m

  unfoldable pub Fits : List Entry → ℕ → Board → Type 0
  Fits es k b = (b.in_force ≤ length es) × (b.line ≡ line n (T es b.in_force) k)

  pub GoodReply : List Entry → Reply → Type 0
  GoodReply es r = (r.from < n) × ((e : ℕ) → r.turn ≡ suc e → (e ≤ length es) × ReplyOn n (T es e) r)

  pub GoodEnd : List Entry → (ℕ → Board) → End → Type 0
  GoodEnd es f x = x.from < n → (e : ℕ) → x.turn ≡ suc e → (e ≤ length es) × EndOn w n (T es e) (f x.from) x e

  pub record Holds (y : System) : Type 0 where
    pub boards : (k : ℕ) → k < n → Fits y.entries k (y.boards k)
    pub taken : Taken w n s y.entries
    pub replies : (x : ℕ) (r : Reply) → slice_get y.replies x ≡ Some r → GoodReply y.entries r
    pub ends : (x : ℕ) (d : End) → slice_get y.ends x ≡ Some d → GoodEnd y.entries y.boards d
    pub own : (m : ℕ) (e : Entry) → slice_get y.entries m ≡ Some e → is_crash e ≡ false → OwnOn w n (T y.entries m) (y.boards e.station) m e

  -- at first
  pub first : Holds (start n s)
  unfolding start Fits after_all
  first = record {
    boards = λ k hk. (omega arith, refl);
    taken = tt;
    replies = λ x r g. absurd (none-some r g);
    ends = λ x d g. absurd (none-some d g);
    own = λ m e g c. absurd (none-some e g);
  }

  -- a board in place of another
  module _ (y : System) (h : Holds y) (k : ℕ) (b : Board) (fits : k < n → Fits y.entries k b) (moves : Moves (y.boards k) b) where
    moved-end : (x : End) (e : ℕ) → EndOn w n (T y.entries e) (y.boards k) x e → EndOn w n (T y.entries e) b x e
    moved-end x e d = record {
      reached = omega (arith, d.reached, moves.further);
      reply = d.reply;
      heard = d.heard;
      says = d.says;
      packed = d.packed;
      aside = λ q. let o = moves.open_turn e d.reached q in absurd (none-aside (y.boards k).aside _ o.1 (d.aside o.0));
    }

    moved-own : (m : ℕ) (e : Entry) → OwnOn w n (T y.entries m) (y.boards k) m e → OwnOn w n (T y.entries m) b m e
    moved-own m e d = record {
      reached = omega (arith, d.reached, moves.further);
      aside = λ q. let o = moves.open_turn m d.reached q in absurd (none-aside (y.boards k).aside _ o.1 (d.aside o.0));
    }

    moved : Holds (with_board y k b)
    unfolding GoodEnd
    moved = record {
      boards = λ i hi. at-board (λ i b. i < n → Fits y.entries i b) y.boards k b i (λ q. fits) (h.boards i) hi;
      taken = h.taken;
      replies = h.replies;
      ends = λ x d g low e q.
          let old = h.ends x d g low e q in (
            old.0,
            at-board (λ i b. EndOn w n (T y.entries e) b d e) y.boards k b d.from
                (λ z. moved-end d e (subst (λ (v : ℕ). EndOn w n (T y.entries e) (y.boards v) d e) z old.1))
                old.1,
          );
      own = λ m e g c.
          let old = h.own m e g c in
          at-board (λ i b. OwnOn w n (T y.entries m) b m e) y.boards k b e.station
          (λ z. moved-own m e (subst (λ (v : ℕ). OwnOn w n (T y.entries m) (y.boards v) m e) z old))
          old;
    }

  -- one more reply, and one more end
  replied : (y : System) (r : Reply) → Holds y → GoodReply y.entries r → Holds (record y { replies = r ∷ y.replies })
  replied y r h good = record {
    boards = h.boards;
    taken = h.taken;
    replies = cons-all (GoodReply y.entries) r y.replies good h.replies;
    ends = h.ends;
    own = h.own;
  }

  ended : (y : System) (x : End) → Holds y → GoodEnd y.entries y.boards x → Holds (record y { ends = x ∷ y.ends })
  ended y x h good = record {
    boards = h.boards;
    taken = h.taken;
    replies = h.replies;
    ends = cons-all (GoodEnd y.entries y.boards) x y.ends good h.ends;
    own = h.own;
  }

  -- one more entry; where it is a turn, its board keeps aside what comes of it
  module _ (y : System) (h : Holds y) (e : Entry) (z : entry_check n (after_all w n s y.entries) e ≡ Ok tt)
      (mine : is_crash e ≡ false → OwnOn w n (T y.entries (length y.entries)) (y.boards e.station) (length y.entries) e) where
    more : List Entry
    more = y.entries ++ (e ∷ [])

    longer : (m : ℕ) → m ≤ length y.entries → m ≤ length more
    unfolding more
    longer m b = omega (arith, length-append y.entries (e ∷ []))

    kept : (m : ℕ) → m ≤ length y.entries → T more m ≡ T y.entries m
    unfolding more
    kept m b = table-kept w n s y.entries e m b

    grown-own : (m : ℕ) (x : Entry) → slice_get more m ≡ Some x → is_crash x ≡ false → OwnOn w n (T more m) (y.boards x.station) m x
    unfolding more
    grown-own m x g c =
        ⊎_elim
        (λ (old : slice_get y.entries m ≡ Some x).
        let b : m ≤ length y.entries = omega (arith, slice_get_within y.entries m x old) in
        subst (λ (t : List ℕ). OwnOn w n t (y.boards x.station) m x) (sym (kept m b)) (h.own m x old c))
        (λ (new : (m ≡ length y.entries) × (e ≡ x)).
        let c' : is_crash e ≡ false = ap is_crash new.1 ∙ c in
        let own : OwnOn w n (T more (length y.entries)) (y.boards e.station) (length y.entries) e =
        subst (λ (t : List ℕ). OwnOn w n t (y.boards e.station) (length y.entries) e) (sym (kept (length y.entries) (omega arith))) (mine c') in
        subst (λ (v : Entry). OwnOn w n (T more m) (y.boards v.station) m v) new.1
        (subst (λ (v : ℕ). OwnOn w n (T more v) (y.boards e.station) v e) (sym new.0) own))
        (get-snoc y.entries e m x g)

    grown : Holds (record y { entries = y.entries ++ (e ∷ []) })
    unfolding Fits GoodReply GoodEnd more
    grown = record {
      boards = λ k hk.
          let o = h.boards k hk in
          (longer (y.boards k).in_force o.0, o.1 ∙ ap (λ (t : List ℕ). line n t k) (sym (kept (y.boards k).in_force o.0)));
      taken = taken-snoc w n s y.entries e h.taken z;
      replies = λ x r g.
          let o = h.replies x r g in
          (o.0, λ m q. let p = o.1 m q in (longer m p.0, subst (λ (t : List ℕ). ReplyOn n t r) (sym (kept m p.0)) p.1));
      ends = λ x d g low m q.
          let p = h.ends x d g low m q in
          (longer m p.0, subst (λ (t : List ℕ). EndOn w n t (y.boards d.from) d m) (sym (kept m p.0)) p.1);
      own = grown-own;
    }

  entry-kept : (y : System) → Holds y → (e : Entry)
      → (entry_check n (after_all w n s y.entries) e ≡ Ok tt → is_crash e ≡ false
      → OwnOn w n (T y.entries (length y.entries)) (y.boards e.station) (length y.entries) e)
      → Holds (entry_made w n s y e)
  unfolding entry_made
  entry-kept y h e mine =
      by_check (entry_check n (after_all w n s y.entries) e) (λ z. rw z (grown y h e z (mine z))) (λ r z. rw z h)

  -- a test comes
  reply-kept : (y : System) → Holds y → (j turn : ℕ) → Holds (reply_sent w n y j turn)
  unfolding reply_sent GoodReply Fits
  reply-kept y h j number =
      let b : Board = y.boards j in
      by_bool (ltb j n && is_live b.line && eqb number (suc b.in_force))
      (λ q.
      let p = both (ltb j n && is_live b.line) (eqb number (suc b.in_force)) q in
      let r = both (ltb j n) (is_live b.line) p.0 in
      let low = ltb-true j n r.0 in
      let fits = h.boards j low in
      let turn = eqb-true number (suc b.in_force) p.1 in
      rw q
      (replied y (record { turn = number; from = j; packed = row_from w n j b.line }) h (
        low,
        λ e z.
            let same : b.in_force ≡ e = omega (arith, turn, z) in
            let t : List ℕ = T y.entries b.in_force in
            let lives : live n t j ≡ true = sym (live-line n t j) ∙ (sym (ap is_live fits.1) ∙ r.1) in (
              omega (arith, fits.0, same),
              subst (λ (e : ℕ). ReplyOn n (T y.entries e) (record { turn = number; from = j; packed = row_from w n j b.line })) same
                  (record {
                    packed = ap (row_from w n j) fits.1 ∙ row-written w n t (accepted-at w n s y.entries a h.taken b.in_force) j low lives;
                    is_live = lives;
                  }),
            ),
      )))
      (λ q. rw q h)

  -- a turn is made
  module _ (y : System) (h : Holds y) (i : ℕ) (reply : Option (List ℕ))
      (heard : i < n → Heard w n (T y.entries (y.boards i).in_force) i reply) where
    abbrev b : Board
    b = y.boards i

    abbrev mine : List ℕ
    mine = tester_after w n i b.line reply

    abbrev b' : Board
    b' = record b { aside = Some mine }

    module _ (o : ℕ) (says : tester_answer w n i b.line reply ≡ Ok o) where
      abbrev x : End
      x = record { turn = suc b.in_force; from = i; outcome = o; packed = row_from w n i b.line }

      good-end : GoodEnd y.entries (with_board y i b').boards x
      unfolding GoodEnd Fits
      good-end low e q =
          let fits = h.boards i low in
          let same : b.in_force ≡ e = omega (arith, q) in (
            omega (arith, fits.0, same),
            rw (eq-eqb i i refl)
                (subst (λ (e : ℕ). EndOn w n (T y.entries e) b' x e) same
                (record {
                  reached = omega arith;
                  reply = reply;
                  heard = heard low;
                  says = ap (λ (l : List ℕ). tester_answer w n i l reply) (sym fits.1) ∙ says;
                  packed = ap (row_from w n i) fits.1;
                  aside = λ _. ap (λ (l : List ℕ). Some (tester_after w n i l reply)) fits.1;
                })),
          )

      ended-kept : is_none b.aside ≡ true → Holds (turn_ended w n y i mine (Ok o))
      unfolding turn_ended Fits
      ended-kept q =
          let moves : Moves b b' = record { further = omega arith; open_turn = λ e low z. (z, q) } in
          ended (with_board y i b') x (moved y h i b' (h.boards i) moves) good-end

    answered-kept : is_none b.aside ≡ true → (r : Result ℕ Refusal) → tester_answer w n i b.line reply ≡ r → Holds (turn_ended w n y i mine r)
    unfolding turn_ended
    answered-kept q (Ok o) says = ended-kept o says q
    answered-kept q (Err r) says = h

    turn-kept : Holds (turn_made w n y i reply)
    unfolding turn_made
    turn-kept =
        by_bool (is_none b.aside)
        (λ q. rw q (answered-kept q (tester_answer w n i b.line reply) refl))
        (λ q. rw q h)

  -- a reply comes
  heard-kept : (y : System) → Holds y → (i : ℕ) (o : Option Reply) → ((r : Reply) → o ≡ Some r → GoodReply y.entries r)
      → Holds (reply_heard w n y i o)
  unfolding reply_heard GoodReply Fits
  heard-kept y h i None good = h
  heard-kept y h i (Some r) good =
      let b : Board = y.boards i in
      by_bool (eqb r.turn (suc b.in_force) && eqb r.from (named (next_answer w n i b.line)))
      (λ q.
      let p = both _ _ q in
      let g = good r refl in
      let on = g.1 b.in_force (eqb-true r.turn (suc b.in_force) p.0) in
      rw q
      (turn-kept y h i (Some r.packed) (λ hi.
      let j : r.from ≡ named (next_answer w n i (line n (T y.entries b.in_force) i)) =
      eqb-true r.from (named (next_answer w n i b.line)) p.1 ∙ ap (λ (l : List ℕ). named (next_answer w n i l)) (h.boards i hi).1 in
      inr (subst (λ (j : ℕ). RowOf n (T y.entries b.in_force) j (Some r.packed)) j
      (record { given = ap Some on.1.packed; is_live = on.1.is_live; below = g.0 })))))
      (λ q. rw q h)

  -- an end comes to the master
  pub accepted-all : (y : System) → Holds y → Accepted w n (after_all w n s y.entries).table
  accepted-all y h =
      subst (λ (es : List Entry). Accepted w n (after_all w n s es).table) (take-length y.entries)
      (accepted-at w n s y.entries a h.taken (length y.entries))

  end-kept : (y : System) → Holds y → (o : Option End) → ((x : End) → o ≡ Some x → GoodEnd y.entries y.boards x) → Holds (end_heard w n s y o)
  unfolding end_heard GoodEnd
  end-kept y h None good = h
  end-kept y h (Some x) good =
      let t : List ℕ = (after_all w n s y.entries).table in
      by_bool (eqb x.turn (suc (length y.entries)))
      (λ q.
      let here : T y.entries (length y.entries) ≡ t =
      ap (λ (es : List Entry). (after_all w n s es).table) (take-length y.entries) in
      rw q (entry-kept y h (entry_by w n t x) (λ z c.
      let low : x.from < n = (entry-facts n (after_all w n s y.entries) (entry_by w n t x) z).below in
      let d = (good x refl low (length y.entries) (eqb-true x.turn (suc (length y.entries)) q)).1 in
      let now : EndOn w n t (y.boards x.from) x (length y.entries) =
      subst (λ (t : List ℕ). EndOn w n t (y.boards x.from) x (length y.entries)) here d in
      let own : OwnOn w n t (y.boards x.from) (length y.entries) (entry_by w n t x) =
      record {
        reached = now.reached;
        aside = λ b. now.aside b ∙ ap Some (own-turn w n (after_all w n s y.entries) (accepted-all y h) x z now.reply now.heard now.says);
      } in
      subst (λ (t' : List ℕ). OwnOn w n t' (y.boards x.from) (length y.entries) (entry_by w n t x)) (sym here) own)))
      (λ q. rw q h)

  -- a note comes: entry m is the board's next one
  module _ (y : System) (h : Holds y) (k m : ℕ) (e : Entry) (g : slice_get y.entries m ≡ Some e) (next : m ≡ (y.boards k).in_force)
      (heard : Option End) (good : (x : End) → heard ≡ Some x → GoodEnd y.entries y.boards x) where
    abbrev here : Board
    here = y.boards k

    abbrev was : State
    was = after_all w n s (take m y.entries)

    taken-here : entry_check n was e ≡ Ok tt
    taken-here = taken-at w n s y.entries h.taken m e g

    row-true : (o : Option End) → ((x : End) → o ≡ Some x → GoodEnd y.entries y.boards x) → (r : List ℕ) → row_heard here e.station o ≡ Some r
        → r ≡ row_from w n e.station (line n was.table e.station)
    unfolding row_heard GoodEnd
    row-true None good r z = absurd (none-some r z)
    row-true (Some x) good r z =
        by_bool (eqb x.turn (suc here.in_force) && eqb x.from e.station)
        (λ q.
        let p = both (eqb x.turn (suc here.in_force)) (eqb x.from e.station) q in
        let from : x.from ≡ e.station = eqb-true x.from e.station p.1 in
        let below : e.station < n = (entry-facts n was e taken-here).below in
        let low : x.from < n = omega (arith, from, below) in
        let turn : x.turn ≡ suc m = omega (arith, eqb-true x.turn (suc here.in_force) p.0, next) in
        let d = (good x refl low m turn).1 in
        let z : Some x.packed ≡ Some r = rw q at z in
        sym (same_Some x.packed r z) ∙ (d.packed ∙ ap (λ (v : ℕ). row_from w n v (line n was.table v)) from))
        (λ q. let z : None ≡ Some r = rw q at z in absurd (none-some r z))

    own-true : is_crash e ≡ false → k ≡ e.station → here.aside ≡ Some (line n (acted w n was.table e) e.station)
    own-true c q =
        let o = subst (λ (v : ℕ). OwnOn w n was.table (y.boards v) m e) (sym q) (h.own m e g c) in o.aside (sym next)

    put-kept : (o : Option (List ℕ)) → line_by w n k here (note_of w n was.table e) heard ≡ o
        → Holds (put_in_force w n y k (note_of w n was.table e) o)
    unfolding put_in_force Fits
    put-kept None z = h
    put-kept (Some l) z =
        let note : Note = note_of w n was.table e in
        let b : Board = record { in_force = suc here.in_force; line = cond note.closed (closed_after w n k l) l; aside = None } in
        let fits : k < n → (b.in_force ≤ length y.entries) × (b.line ≡ line n (T y.entries b.in_force) k) =
        λ hk.
        let now : here.line ≡ line n was.table k = (h.boards k hk).1 ∙ ap (λ (v : ℕ). line n (T y.entries v) k) (sym next) in
        let made : b.line ≡ line n (after w n was e).table k =
        line-after w n was (accepted-at w n s y.entries a h.taken m) e taken-here k hk here now heard (row-true heard good) own-true l z in (
          omega (arith, slice_get_within y.entries m e g, next),
          made
              ∙ (ap (λ (v : State). line n v.table k) (sym (at-next w n s y.entries m e g))
              ∙ ap (λ (v : ℕ). line n (T y.entries (suc v)) k) next),
        ) in
        moved y h k b fits (record { further = omega arith; open_turn = λ e low z. absurd (omega arith) })

  note-kept : (y : System) → Holds y → (k m : ℕ) (o : Option Entry) (heard : Option End) → ((e : Entry) → o ≡ Some e → slice_get y.entries m ≡ Some e)
      → ((x : End) → heard ≡ Some x → GoodEnd y.entries y.boards x) → Holds (note_heard w n s y k m o heard)
  unfolding note_heard
  note-kept y h k m None heard is good = h
  note-kept y h k m (Some e) heard is good =
      let b : Board = y.boards k in
      by_bool (eqb m b.in_force)
      (λ q. rw q (put-kept y h k m e (is e refl) (eqb-true m b.in_force q) heard good (line_by w n k b (note_of w n (T y.entries m) e) heard) refl))
      (λ q. rw q h)

  pub happening-kept : (y : System) → Holds y → (x : Happening) → Holds (after_happening w n s y x)
  happening-kept y h (test_comes j turn) = reply-kept y h j turn
  happening-kept y h (reply_comes i x) = heard-kept y h i (slice_get y.replies x) (h.replies x)
  happening-kept y h (none_comes i) = turn-kept y h i None (λ _. inl refl)
  happening-kept y h (end_comes x) = end-kept y h (slice_get y.ends x) (h.ends x)
  happening-kept y h (crash_found i) = entry-kept y h (entry_of 3 i) (λ _ c. let z : true ≡ false = c in cc)
  happening-kept y h (note_comes k m x) = note-kept y h k m (slice_get y.entries m) (slice_get y.ends x) (λ e g. g) (h.ends x)

  pub all-kept : (y : System) → Holds y → (hs : List Happening) → Holds (after_happenings w n s y hs)
  unfolding after_happenings
  all-kept y h [] = h
  all-kept y h (x ∷ hs) = all-kept (after_happening w n s y x) (happening-kept y h x) hs

  in-step : (z : table_check w n s.table ≡ Ok tt) (y : System) → Holds y → InStep w n s y
  unfolding Fits GoodEnd
  in-step z y h = record {
    made = λ k hk. (h.boards k hk).0;
    lines = λ k hk. (h.boards k hk).1;
    runs = λ m sheet b long.
        let part : length (take m y.entries) ≡ m = length-take-le m y.entries b in
        is-run w n s (take m y.entries) sheet z (taken-take w n s y.entries h.taken m) (omega (arith, part, long));
    outcomes = λ x d g turn ok.
        let t : List ℕ = (after_all w n s y.entries).table in
        let low : d.from < n = (entry-facts n (after_all w n s y.entries) (entry_by w n t d) ok).below in
        let here : T y.entries (length y.entries) ≡ t =
        ap (λ (es : List Entry). (after_all w n s es).table) (take-length y.entries) in
        let on : EndOn w n t (y.boards d.from) d (length y.entries) =
        subst (λ (t : List ℕ). EndOn w n t (y.boards d.from) d (length y.entries)) here (h.ends x d g low (length y.entries) turn).1 in
        own-outcome w n (after_all w n s y.entries) (accepted-all y h) d ok on.reply on.heard on.says;
  }

pub boards-in-step : BoardsInStep
boards-in-step w n s hs z =
    let a = accepted w n s.table z in in-step w n s a z (after_happenings w n s (start n s) hs) (all-kept w n s a (start n s) (first w n s a) hs)

pub all-taken : (w : Wiring) (n : ℕ) (s : State) (hs : List Happening) → table_check w n s.table ≡ Ok tt
    → Taken w n s (after_happenings w n s (start n s) hs).entries
all-taken w n s hs z =
    let a = accepted w n s.table z in (all-kept w n s a (start n s) (first w n s a) hs).taken
