-- A table that obeys the rules obeys them after every taken entry, and after every run; a taken entry's facts; the empty run.
-- Assumes nothing.
use mathlib.Core.Path.{◌≡◌, refl, sym, ◌∙◌}
use mathlib.Core.Bool.{Bool, true, false, cond, not, ◌&&◌, ◌||◌, and-false, or-false}
use mathlib.Core.List.{List, [], ◌∷◌}
use Prim.Native.Nat.{ℕ, suc, ◌≤◌, ◌<◌}
use native.Mathlib.Omega.{arith}
use borrow.Author.Tests.{leb-true, ltb-true, eqb-false, eq-eqb, ne_eqb, not-true}
use lib.Dec.{eqb}
use lib.ListN.{length}
use Rattle.lists.specs.Search.{every}
use Rattle.table.specs.Table.{table_length, finished, live}
use Rattle.table.specs.Rules.{line_rules, not_live, some_live, finished_if_live, live_finished, table_check, round_over}
use Rattle.lists.proofs.BoolLaws.{neither}
use Rattle.lists.proofs.SearchLaws.{both, every-at, every-all}
use Rattle.table.proofs.Accepting.{Accepted, accepted}
use Rattle.std.specs.Prelude.{Ok, None}
use Rattle.lists.proofs.RefusalLaws.{by_check, ensure_ok, and_ok}
use Rattle.table.proofs.CellLaws.{Line, line-holds, accepted-line}
use Rattle.table.specs.declared.wiring.Wiring.{Wiring}
use Rattle.plant.specs.Turn.{turn, crash}
use Rattle.plant.specs.Round.{reset_lines, after_round}
use Rattle.plant.specs.Entry.{Entry, State, tally_top, is_crash, entry_check, acted, after, sheet_line}
use Rattle.plant.specs.Run.{entries, write_line, go_on, start_check, run}
use Rattle.plant.proofs.RunLaws.{accepted-number}
use Rattle.plant.proofs.StepLines.{Lines, leave-lines, turn_lines}
use Rattle.plant.proofs.RoundLaws.{reset-lines, reset-cells}

-- what an entry has that refusals 7 to 11 let through
pub record Takes (n : ℕ) (s : State) (e : Entry) : Type 0 where
  pub rounds_fit : s.rounds ≡ tally_top → ⊥
  pub tests_fit : s.tests ≡ tally_top → ⊥
  pub kind_low : 1 ≤ e.kind
  pub kind_high : e.kind ≤ 3
  pub below : e.station < n
  pub is_live : live n s.table e.station ≡ true
  pub unfinished : (e.kind ≡ 3 → ⊥) → finished n s.table e.station ≡ 1 → ⊥

entry_ok : (n : ℕ) (s : State) (e : Entry) (x : Unit {0}) → entry_check n s e ≡ Ok x → Takes n s e
unfolding entry_check
entry_ok n s e x z =
    let a = and_ok _ _ x z in
    let b = and_ok _ _ x a.1 in
    let c = and_ok _ _ x b.1 in
    let d = and_ok _ _ x c.1 in
    let tally = neither _ _ (not-true _ (ensure_ok _ _ _ a.0)) in
    let kind = both _ _ (ensure_ok _ _ _ b.0) in
    let last : (not (is_crash e) && eqb (finished n s.table e.station) 1) ≡ false = not-true _ (ensure_ok _ _ _ d.1) in
    record {
      rounds_fit = eqb-false _ _ tally.0;
      tests_fit = eqb-false _ _ tally.1;
      kind_low = leb-true _ _ kind.0;
      kind_high = leb-true _ _ kind.1;
      below = ltb-true _ _ (ensure_ok _ _ _ c.0);
      is_live = ensure_ok _ _ _ d.0;
      unfinished = λ k f.
          let z : true ≡ false = rw (ne_eqb e.kind 3 k, eq-eqb (finished n s.table e.station) 1 f) at last in
          cc;
    }

pub entry-facts : (n : ℕ) (s : State) (e : Entry) → entry_check n s e ≡ Ok tt → Takes n s e
entry-facts n s e z = entry_ok n s e _ (z)

pub acted-lines : (w : Wiring) (n : ℕ) (s : State) (e : Entry) → Accepted w n s.table → entry_check n s e ≡ Ok tt
    → (length (acted w n s.table e) ≡ table_length n) × ((i : ℕ) → i < n → Line w n (acted w n s.table e) i)
unfolding acted crash
acted-lines w n s e a z = pick (is_crash e) refl
  where
    lines : Lines w n s.table
    lines = (a.long, accepted-line w n s.table a)

    f : Takes n s e
    f = entry-facts n s e z

    pick : (b : Bool) → is_crash e ≡ b → Lines w n (cond b (crash n s.table e.station) (turn w n s.table e.kind e.station))
    pick true c = leave-lines w n s.table e.station lines f.below f.is_live 1 (omega arith) (omega arith) (omega arith)
    pick false c = turn_lines w n s.table e.kind e.station lines f.below (f.unfinished (eqb-false e.kind 3 c))

-- where no line is finished, no live one is
pub unfinished-open : (n : ℕ) (t : List ℕ) → ((i : ℕ) → i < n → finished n t i ≡ 0) → (some_live n t && live_finished n t) ≡ false
unfolding some_live live_finished
unfinished-open n t zeros = pick (every (finished_if_live n t) n) refl
  where
    pick : (b : Bool) → every (finished_if_live n t) n ≡ b → (not (every (not_live n t) n) && b) ≡ false
    pick true e =
        let none : every (not_live n t) n ≡ true = every-all (not_live n t) n (λ i h.
        let p : (not_live n t i || eqb (finished n t i) 1) ≡ true = every-at (finished_if_live n t) n i e h in
        sym (or-false (not_live n t i)) ∙ (rw (zeros i h) at p)) in
        rw none
    pick false e = and-false (not (every (not_live n t) n))

pub accepted-kept : (w : Wiring) (n : ℕ) (s : State) (e : Entry) → Accepted w n s.table → entry_check n s e ≡ Ok tt
    → Accepted w n (after w n s e).table
unfolding after after_round
accepted-kept w n s e a z = pick (round_over n t) refl
  where
    t : List ℕ
    t = acted w n s.table e

    lines : Lines w n t
    lines = acted-lines w n s e a z

    make : (u : List ℕ) → Lines w n u → (some_live n u && live_finished n u) ≡ false → Accepted w n u
    make u l open-still =
        record {
          size = a.size;
          long = l.0;
          lines = every-all (line_rules w n u) n (λ i h. line-holds w n u i (l.1 i h));
          unclosed = open-still;
        }

    pick : (b : Bool) → round_over n t ≡ b → Accepted w n (cond b (reset_lines n t) t)
    pick true c =
        make (reset_lines n t) (reset-lines w n t lines) (unfinished-open n (reset_lines n t) (λ i h. (reset-cells n t lines.0 i h).unfinished))
    pick false c = make t lines c

-- rule Empty schedule: on a wiring and a table that refusals 1 to 4 let through it is accepted and changes nothing. An end in itself
pub empty-run : (w : Wiring) (n : ℕ) (s : State) → table_check w n s.table ≡ Ok tt
    → run w n s [] [] ≡ record { stopped = None; taken = 0; state = s; sheet = [] }
unfolding run start_check go_on entries
empty-run w n s z = rw z

-- the rest of a run
accepted-on : (w : Wiring) (n k : ℕ) (s : State) (sheet : List ℕ) (es : List Entry) → Accepted w n s.table
    → Accepted w n (go_on w n k s sheet es).state.table
unfolding go_on
accepted-on w n k s sheet [] a = a
accepted-on w n k s sheet (e ∷ es) a =
    by_check (entry_check n s e)
    (λ z. rw z (accepted-on w n (suc k) (after w n s e) (write_line sheet k (sheet_line w n s e)) es (accepted-kept w n s e a z)))
    (λ r z. rw z a)

accepted-run : (w : Wiring) (n : ℕ) (s : State) (schedule sheet : List ℕ) → Accepted w n s.table → Accepted w n (run w n s schedule sheet).state.table
unfolding run
accepted-run w n s schedule sheet a =
    by_check (start_check w n s.table (length schedule) (length sheet)) (λ z. rw z (accepted-on w n 0 s sheet (entries schedule) a)) (λ r z. rw z a)

-- a table that refusals 1 to 4 let through is let through after every run, an end in itself
pub run-keeps-rules : (w : Wiring) (n : ℕ) (s : State) (schedule sheet : List ℕ)
    → table_check w n s.table ≡ Ok tt → table_check w n (run w n s schedule sheet).state.table ≡ Ok tt
run-keeps-rules w n s schedule sheet z = accepted-number w n _ (accepted-run w n s schedule sheet (accepted w n s.table z))
