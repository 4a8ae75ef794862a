-- The entries that the master made are those of a run.
-- Assumes nothing.
use mathlib.Core.Path.{◌≡◌, refl, ap}
use mathlib.Core.List.{List, [], ◌∷◌}
use Prim.Native.Nat.{ℕ, zero, suc, ◌+◌, ◌*◌, ◌%◌}
use native.Mathlib.Omega.{arith}
use borrow.Author.Tests.{eq-eqb}
use lib.ListN.{length, take}
use Rattle.table.specs.Rules.{table_check}
use Rattle.table.specs.declared.wiring.Wiring.{Wiring}
use Rattle.plant.specs.Entry.{Entry, State, after, sheet_line}
use Rattle.plant.specs.Run.{entries, write_line, go_on, start_check, run}
use Rattle.in_step.specs.System.{after_all}
use Rattle.in_step.specs.Claims.{schedule_of, IsRun}
use Rattle.in_step.proofs.Entries.{Taken}
use Rattle.std.specs.Prelude.{Ok, None}

pub entries-back : (es : List Entry) → entries (schedule_of es) ≡ es
unfolding entries
entries-back [] = refl
entries-back (e ∷ es) = ap (λ (xs : List Entry). e ∷ xs) (entries-back es)

schedule-length : (es : List Entry) → length (schedule_of es) ≡ 2 * length es
schedule-length [] = refl
schedule-length (e ∷ es) = omega (arith, schedule-length es)

starts : (w : Wiring) (n : ℕ) (t : List ℕ) (a b : ℕ) → table_check w n t ≡ Ok tt → a % 2 ≡ 0 → b ≡ 2 * a → start_check w n t a b ≡ Ok tt
unfolding start_check
starts w n t a b z even twice = rw (z, even, eq-eqb b (2 * a) twice)

module _ (w : Wiring) (n : ℕ) where
  goes : (k : ℕ) (s : State) (sheet : List ℕ) (es : List Entry) → Taken w n s es
      → ((go_on w n k s sheet es).stopped ≡ None)
      × ((go_on w n k s sheet es).taken ≡ k + length es)
      × ((go_on w n k s sheet es).state ≡ after_all w n s es)
  unfolding go_on after_all
  goes k s sheet [] t = (refl, omega arith, refl)
  goes k s sheet (e ∷ es) t =
      let rest = goes (suc k) (after w n s e) (write_line sheet k (sheet_line w n s e)) es t.1 in
      rw t.0 (rest.0, omega (arith, rest.1), rest.2)

  pub run-starts : (s : State) (es : List Entry) (sheet : List ℕ) → table_check w n s.table ≡ Ok tt → length sheet ≡ 4 * length es
      → start_check w n s.table (length (schedule_of es)) (length sheet) ≡ Ok tt
  run-starts s es sheet z long =
      starts w n s.table (length (schedule_of es)) (length sheet) z (omega (arith, schedule-length es)) (omega (arith, schedule-length es, long))

  pub is-run : (s : State) (es : List Entry) (sheet : List ℕ) → table_check w n s.table ≡ Ok tt → Taken w n s es
      → length sheet ≡ 4 * length es → IsRun w n s es sheet
  unfolding run
  is-run s es sheet z t long =
      let ok = run-starts s es sheet z long in
      let r = goes 0 s sheet es t in
      record {
        stopped = rw (ok, entries-back es) r.0;
        taken = rw (ok, entries-back es) (omega (arith, r.1));
        state = rw (ok, entries-back es) r.2;
      }

  pub taken-take : (s : State) (es : List Entry) → Taken w n s es → (m : ℕ) → Taken w n s (take m es)
  taken-take s [] t zero = tt
  taken-take s [] t (suc m) = tt
  taken-take s (e ∷ es) t zero = tt
  taken-take s (e ∷ es) t (suc m) = (t.0, taken-take (after w n s e) es t.1 m)
