-- Lists of runs one behind the other, and runs of one turn.
-- Assumes nothing.
use mathlib.Core.Path.{◌≡◌, refl, sym, ap, ◌∙◌}
use mathlib.Core.Bool.{Bool, true}
use mathlib.Core.List.{List, [], ◌∷◌, ◌++◌, append_assoc}
use Prim.Native.Nat.{ℕ}
use Rattle.table.specs.Rules.{table_check}
use Rattle.lists.proofs.SearchLaws.{both}
use Rattle.plant.specs.Turn.{kind_turn}
use Rattle.plant.specs.Entry.{State, entry_of, entry_check, after}
use Rattle.plant.specs.Run.{RunResult, entries, start_check}
use Rattle.lists.proofs.RefusalLaws.{by_check}
use Rattle.table.specs.declared.wiring.Wiring.{Wiring}
use Rattle.plant.proofs.RunLaws.{start-one, go-one, run-goes}
use Rattle.detection.specs.Runs.{Call, Taken, turn_run, after_run, after_runs, taken_from, taken_by, taken_in, taken_all}
use Rattle.detection.specs.Rounds.{all_taken}
use Rattle.detection.proofs.TakenLaws.{taken_at}
use Rattle.std.specs.Prelude.{Ok}

-- two lists of runs, one behind the other
pub after-append : (s : State) (a b : List Call) → after_runs s (a ++ b) ≡ after_runs (after_runs s a) b
unfolding after_runs
after-append s [] b = refl
after-append s (c ∷ a) b = after-append (after_run s c) a b

pub taken-append : (s : State) (a b : List Call) → taken_all s (a ++ b) ≡ taken_all s a ++ taken_all (after_runs s a) b
unfolding taken_all after_runs
taken-append s [] b = refl
taken-append s (c ∷ a) b =
    let left = after_run s c in
    rw (taken-append left a b) (sym (append_assoc (taken_in s c) (taken_all left a) (taken_all (after_runs left a) b)))

-- a run of one turn that is taken
module _ (w : Wiring) (n : ℕ) (s : State) (i : ℕ) (ok : table_check w n s.table ≡ Ok tt) (z : entry_check n s (entry_of kind_turn i) ≡ Ok tt) where
  pub one_left : after_run s (turn_run w n i) ≡ after w n s (entry_of kind_turn i)
  one_left =
      ap (λ (o : RunResult). o.state) (run-goes w n s (turn_run w n i).schedule (turn_run w n i).sheet (start-one w n s.table ok))
      ∙ go-one w n s (turn_run w n i).sheet kind_turn i z

  pub one-taken : taken_in s (turn_run w n i) ≡ taken_at w n s (entry_of kind_turn i) ∷ []
  unfolding taken_by start_check taken_from entries
  one-taken = rw (ok, z)

-- two lists whose entries pass
pub all_append : (q : Taken → Bool) (xs ys : List Taken) → all_taken q xs ≡ true → all_taken q ys ≡ true → all_taken q (xs ++ ys) ≡ true
unfolding all_taken
all_append q [] ys a b = b
all_append q (x ∷ xs) ys a b = let p = both (q x) (all_taken q xs) a in rw (p.0, all_append q xs ys p.1 b)

-- two lists of runs
pub runs_append : (q : Taken → Bool) (s : State) (a b : List Call) → all_taken q (taken_all s a) ≡ true
    → all_taken q (taken_all (after_runs s a) b) ≡ true → all_taken q (taken_all s (a ++ b)) ≡ true
runs_append q s a b x y = rw (taken-append s a b) (all_append q (taken_all s a) (taken_all (after_runs s a) b) x y)

-- what turns pass, a run of one turn passes
module _ (w : Wiring) (q : Taken → Bool) (turns : (n : ℕ) (s : State) (i : ℕ) → q (taken_at w n s (entry_of kind_turn i)) ≡ true) where
  pub one_passes : (n : ℕ) (s : State) (i : ℕ) → all_taken q (taken_all s (turn_run w n i ∷ [])) ≡ true
  unfolding taken_all taken_by taken_from entries all_taken
  one_passes n s i =
      let passes : all_taken q (taken_at w n s (entry_of kind_turn i) ∷ []) ≡ true = rw (turns n s i) in
      all_append q (taken_in s (turn_run w n i)) [] (by_check (start_check w n s.table 2 4)
      (λ z. rw z (by_check (entry_check n s (entry_of kind_turn i)) (λ y. rw y passes) (λ r y. rw y refl))) (λ r z. rw z refl)) refl
