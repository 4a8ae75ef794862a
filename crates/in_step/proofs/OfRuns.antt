-- What is proved of the suspicions and the exits of runs, of the boards' own lines.
-- Assumes nothing.
use mathlib.Core.Path.{◌≡◌, refl, sym, ap, subst, ◌∙◌}
use mathlib.Core.Logic.{⊎_elim}
use mathlib.Core.Bool.{true, false, ◌&&◌, ◌||◌}
use mathlib.Core.List.{List, [], ◌∷◌, append-nil}
use Prim.Native.Nat.{ℕ, suc, ◌+◌, ◌*◌, ◌<◌}
use native.Mathlib.Omega.{arith}
use borrow.Author.Tests.{eqb-true}
use lib.Dec.{eqb}
use lib.ListN.{length, replicate, get_or, length-replicate}
use Rattle.lists.proofs.BoolLaws.{by_bool}
use Rattle.lists.proofs.SearchLaws.{both}
use Rattle.table.specs.Table.{head, status, status_column, status_told, suspects, live}
use Rattle.table.specs.Line.{line, is_live}
use Rattle.table.specs.Properties.{none_suspected}
use Rattle.table.specs.Rules.{table_check}
use Rattle.table.proofs.Accepting.{accepted}
use Rattle.table.proofs.LineLaws.{line_at}
use Rattle.table.specs.declared.wiring.Wiring.{Wiring}
use Rattle.plant.specs.Entry.{Entry, State, after, tested_of}
use Rattle.detection.specs.Runs.{Call, Taken, after_runs, taken_from, taken_by, taken_all, is_late, taken_test}
use Rattle.detection.specs.Rounds.{any_taken}
use Rattle.detection.proofs.TakenLaws.{taken_at}
use Rattle.detection.proofs.DetectionClaim.{detection-in-worst-case}
use Rattle.accuracy.specs.Cause.{Suspicion, IsSuspected, late_of, was_late}
use Rattle.accuracy.specs.Accurate.{Accurate}
use Rattle.accuracy.proofs.Chains.{any-before}
use Rattle.accuracy.proofs.Claims.{none-suspects, runs-accurate}
use Rattle.in_step.specs.System.{System, start, after_all}
use Rattle.in_step.specs.Happenings.{after_happenings}
use Rattle.in_step.specs.Claims.{InStep}
use Rattle.in_step.specs.Causes.{entries_at, NoReplyOf, HaveCauses, CausesInStep}
use Rattle.in_step.specs.Waits.{run_of, WaitInStep}
use Rattle.in_step.proofs.Entries.{Taken as AllTaken}
use Rattle.in_step.proofs.TurnHeard.{live-line}
use Rattle.in_step.proofs.Runs.{is-run, run-starts, entries-back, taken-take}
use Rattle.in_step.proofs.Kept.{all-taken, boards-in-step}
use Rattle.std.specs.Prelude.{Ok}

module _ (w : Wiring) (n : ℕ) where
  -- the late reply among the taken entries
  find-late : (s : State) (es : List Entry) → AllTaken w n s es → (j : ℕ) → was_late j (taken_from w n s es) ≡ true → NoReplyOf w n s es j
  unfolding taken_from any_taken late_of after_all
  find-late s [] t j l = let z : false ≡ true = l in cc
  find-late s (e ∷ es) t j l =
      let x : Taken = taken_at w n s e in
      let rest : List Taken = taken_from w n (after w n s e) es in
      let here : (late_of j x || any_taken (late_of j) rest) ≡ true = rw t.0 at l in
      by_bool (late_of j x)
      (λ q.
      let p = both (is_late x) (eqb (tested_of w n s.table e) j) q in
      let r = both (eqb e.kind 2 && taken_test x) (live n s.table (tested_of w n s.table e)) p.0 in
      let tests : tested_of w n s.table e ≡ j = eqb-true (tested_of w n s.table e) j p.1 in
      record {
        number = 0;
        entry = e;
        stands = refl;
        kind = eqb-true e.kind 2 (both (eqb e.kind 2) (taken_test x) r.0).0;
        tested = tests;
        was_live = ap (live n s.table) (sym tests) ∙ r.1;
      })
      (λ q.
      let later : any_taken (late_of j) rest ≡ true = rw q at here in
      let o = find-late (after w n s e) es t.1 j later in
      record { number = suc o.number; entry = o.entry; stands = o.stands; kind = o.kind; tested = o.tested; was_live = o.was_live })

  -- a run of entries that it takes, as a list of runs
  module _ (s : State) (es : List Entry) (z : table_check w n s.table ≡ Ok tt) (t : AllTaken w n s es) where
    abbrev calls : List Call
    calls = run_of w n es

    abbrev sheet : List ℕ
    sheet = replicate (4 * length es) 0

    long : length sheet ≡ 4 * length es
    long = length-replicate (4 * length es) 0

    pub end-same : after_runs s calls ≡ after_all w n s es
    unfolding after_runs
    end-same = (is-run w n s es sheet z t long).state

    taken-same : taken_all s calls ≡ taken_from w n s es
    unfolding taken_all taken_by
    taken-same = rw (run-starts w n s es sheet z long, entries-back es) (append-nil _)

    accurate : Accurate n s calls (after_runs s calls)
    accurate = runs-accurate n s calls (accepted w n s.table z).long

    late : (j : ℕ) → was_late j (taken_all s calls) ≡ true → NoReplyOf w n s es j
    late j l = find-late s es t j (subst (λ (xs : List Taken). was_late j xs ≡ true) taken-same l)

    pub suspected-late : none_suspected n s.table ≡ true → (i j : ℕ) → i < n → j < n → Suspicion n (after_all w n s es).table i j
        → NoReplyOf w n s es j
    suspected-late none i j hi hj p =
        ⊎_elim (λ (q : IsSuspected n s.table j). absurd (none-suspects n s.table none j hj q)) (late j)
        (accurate.only_late i j hi hj (subst (λ (v : State). Suspicion n v.table i j) (sym end-same) p))

    pub told-late : none_suspected n s.table ≡ true → (i : ℕ) → i < n → live n s.table i ≡ true → status n (after_all w n s es).table i ≡ status_told
        → NoReplyOf w n s es i
    told-late none i hi l two =
        let why = accurate.told i hi l (ap (λ (v : State). status n v.table i) end-same ∙ two) in
        late i (subst (λ (xs : List Taken). was_late i xs ≡ true) (sym why.parts)
        (any-before (late_of i) why.before (why.x ∷ why.rest) (why.late none)))

-- of the boards' own lines
have-causes : (w : Wiring) (n : ℕ) (s : State) (y : System) → table_check w n s.table ≡ Ok tt → none_suspected n s.table ≡ true
    → AllTaken w n s y.entries
    → InStep w n s y → HaveCauses w n s y
have-causes w n s y z none t h = record {
  suspected = λ i j hi hj l m q.
      let es : List Entry = entries_at y i in
      let u : List ℕ = (after_all w n s es).table in
      let mine = h.lines i hi in
      suspected-late w n s es z (taken-take w n s y.entries t (y.boards i).in_force) none i j hi hj
      (record {
        by_live = sym (live-line n u i) ∙ (ap is_live (sym mine) ∙ l);
        of_live = m;
        suspected = sym (line_at n u i (head + j) (omega arith)) ∙ (ap (λ (l : List ℕ). get_or l (head + j) 0) (sym mine) ∙ q);
      });
  told = λ i hi l q.
      let es : List Entry = entries_at y i in
      let u : List ℕ = (after_all w n s es).table in
      told-late w n s es z (taken-take w n s y.entries t (y.boards i).in_force) none i hi l
      (sym (line_at n u i status_column (omega arith)) ∙ (ap (λ (l : List ℕ). get_or l status_column 0) (sym (h.lines i hi)) ∙ q));
}

pub causes-in-step : CausesInStep
causes-in-step w n s hs z none =
    let y : System = after_happenings w n s (start n s) hs in have-causes w n s y z none (all-taken w n s hs z) (boards-in-step w n s hs z)

pub wait-in-step : WaitInStep
wait-in-step w n s hs z k hk l given enough =
    let y : System = after_happenings w n s (start n s) hs in
    let es : List Entry = entries_at y k in
    let u : State = after_all w n s es in
    let t = taken-take w n s y.entries (all-taken w n s hs z) (y.boards k).in_force in
    let mine : (y.boards k).line ≡ line n u.table k = (boards-in-step w n s hs z).lines k hk in
    let end : after_runs s (run_of w n es) ≡ u = end-same w n s es z t in
    let c = detection-in-worst-case w n s (run_of w n es) given in
    let lives : live n u.table k ≡ true = ap (λ (v : State). live n v.table k) (sym end) ∙ (c.same_live k hk ∙ l) in
    record {
      is_live = ap is_live mine ∙ (live-line n u.table k ∙ lives);
      suspects = λ j hj.
          ap (λ (l : List ℕ). get_or l (head + j) 0) mine
          ∙ (line_at n u.table k (head + j) (omega arith)
          ∙ (ap (λ (v : State). suspects n v.table k j) (sym end) ∙ c.exact_rows enough k j hk hj l));
    }
