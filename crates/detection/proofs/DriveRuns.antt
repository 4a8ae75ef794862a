-- A drive is the list of runs of its grants, one entry each.
-- Assumes nothing.
use mathlib.Core.Path.{◌≡◌, refl, sym, ◌∙◌}
use mathlib.Core.Bool.{true, false, cond}
use mathlib.Core.List.{[], ◌∷◌, ◌++◌}
use Prim.Native.Nat.{ℕ, zero, suc, ◌<◌}
use native.Mathlib.Omega.{arith}
use lib.ListN.{length, length-append}
use Rattle.table.specs.Rules.{table_check}
use Rattle.lists.proofs.BoolLaws.{by_bool}
use Rattle.table.specs.declared.wiring.Wiring.{Wiring}
use Rattle.plant.specs.Turn.{kind_turn}
use Rattle.plant.specs.Entry.{State, entry_of, entry_check}
use Rattle.plant.proofs.RunLaws.{accepted-number}
use Rattle.detection.specs.Runs.{turn_run, after_runs, taken_all}
use Rattle.detection.proofs.OneTurn.{after-append, taken-append, one_left, one-taken}
use Rattle.detection.proofs.TakenLaws.{taken_at}
use Rattle.granter.specs.Grant.{last_check, grant_check}
use Rattle.granter.specs.Drive.{Stand, stand_at, granted_at, grant_turn, after_grants, ended_after}
use Rattle.granter.specs.Drive.{full_after, stops, grants_made, outcome_after, drive}
use Rattle.granter.proofs.GrantLaws.{Grantable, grantable, grant-zero, station-fits}
use Rattle.granter.proofs.DriveLaws.{Driving, not_stopped, driving-start, still, chosen, next-taken, next-driving}
use Rattle.detection.specs.Driven.{runs_of, DriveIsTurns}
use Rattle.granter.proofs.Stops.{drive-stops}
use Rattle.std.specs.Prelude.{Ok, Err, None, Some}
use Rattle.std.proofs.lemmas.Option.{none-some}
use Rattle.lists.proofs.RefusalLaws.{by_check, refused_met}
use Rattle.lists.specs.declared.refusal.Refusal.TheVariants.{TallyFull}

-- as long as a drive does not stop
pub driving-at : (w : Wiring) (n : ℕ) (s : State) (last : ℕ) → Grantable w n s.table last → (k : ℕ)
    → ((j : ℕ) → j < suc k → stops w n (stand_at s last) j ≡ false) → Driving w n (stand_at s last) k
driving-at w n s last g zero going = driving-start w n s last g
driving-at w n s last g (suc k) going =
    next-driving w n (stand_at s last) k (driving-at w n s last g k (λ j l. going j (omega arith)))
    (not_stopped w n (stand_at s last) k (going k (omega arith))).1
    (not_stopped w n (stand_at s last) (suc k) (going (suc k) (omega arith))).0

-- the runs of k grants leave what the grants leave, and each takes its entry
runs-left : (w : Wiring) (n : ℕ) (s : State) (last : ℕ) → Grantable w n s.table last → (k : ℕ)
    → ((j : ℕ) → j < k → stops w n (stand_at s last) j ≡ false)
    → (after_runs s (runs_of w n (stand_at s last) k) ≡ (after_grants w n (stand_at s last) k).state)
    × (length (taken_all s (runs_of w n (stand_at s last) k)) ≡ k)
unfolding runs_of after_runs taken_all after_grants grant_turn
runs-left w n s last g zero going = (refl, refl)
runs-left w n s last g (suc k) going = step (runs-left w n s last g k (λ j l. going j (omega arith)))
  where
    p : Stand
    p = stand_at s last

    q : State
    q = (after_grants w n p k).state

    i : ℕ
    i = granted_at n (after_grants w n p k)

    d : Driving w n p k
    d = driving-at w n s last g k going

    z : entry_check n q (entry_of kind_turn i) ≡ Ok tt
    z = next-taken w n p k d (not_stopped w n p k (going k (omega arith))).1

    ok : table_check w n q.table ≡ Ok tt
    ok = accepted-number w n q.table d.ok

    step : (after_runs s (runs_of w n p k) ≡ q) × (length (taken_all s (runs_of w n p k)) ≡ k)
        → (after_runs s (runs_of w n p k ++ (turn_run w n i ∷ [])) ≡ (after_grants w n p (suc k)).state)
        × (length (taken_all s (runs_of w n p k ++ (turn_run w n i ∷ []))) ≡ suc k)
    step e = (
      rw (after-append s (runs_of w n p k) (turn_run w n i ∷ []), e.0) (one_left w n q i ok z),
      rw (taken-append s (runs_of w n p k) (turn_run w n i ∷ []), e.0, one-taken w n q i ok z)
          (omega (arith, length-append (taken_all s (runs_of w n p k)) (taken_at w n q (entry_of kind_turn i) ∷ []), e.1)),
    )

-- the last numbers of a drive are let through
last_fits : (w : Wiring) (n : ℕ) (s : State) (last : ℕ) → Grantable w n s.table last → (k : ℕ)
    → ((j : ℕ) → j < k → stops w n (stand_at s last) j ≡ false) → last_check n (after_grants w n (stand_at s last) k).last ≡ Ok tt
unfolding after_grants grant_turn
last_fits w n s last g zero going = g.last_fits
last_fits w n s last g (suc k) going =
    station-fits n (granted_at n (after_grants w n (stand_at s last) k)) (chosen w n (stand_at s last) k (driving-at w n s last g k going)).0

-- no grant of a drive is refused
grants-taken : (w : Wiring) (n : ℕ) (s : State) (last : ℕ) → Grantable w n s.table last → (k : ℕ)
    → ((j : ℕ) → j < suc k → stops w n (stand_at s last) j ≡ false)
    → grant_check w n (after_grants w n (stand_at s last) k).state.table (after_grants w n (stand_at s last) k).last ≡ Ok tt
grants-taken w n s last g k going =
    let d = driving-at w n s last g k going in
    grant-zero w n _ _ (accepted-number w n _ d.ok) (last_fits w n s last g k (λ j l. going j (omega arith))) (still w n (stand_at s last) k d).1

-- where a drive stops and has not ended, a tally is full
full-number : (w : Wiring) (n : ℕ) (p : Stand) (k i : ℕ) → stops w n p k ≡ true → cond (ended_after w n p k) None (Some TallyFull) ≡ Some TallyFull
    → entry_check n (after_grants w n p k).state (entry_of kind_turn i) ≡ Err TallyFull
unfolding stops entry_check
full-number w n p k i stop seven =
    by_bool (ended_after w n p k) (λ e. absurd (none-some TallyFull (rw e at seven)))
    (λ e. let full : full_after w n p k ≡ true = rw e at stop in rw full)

-- a drive is the granting rule followed turn by turn, an end in itself
pub drive-is-turns : DriveIsTurns
unfolding drive outcome_after runs_of after_runs taken_all after_grants
drive-is-turns w n s last =
    by_check (grant_check w n s.table last)
    (λ e.
    let g = grantable w n s.table last e in
    let stop = drive-stops w n s last e in
    let r = runs-left w n s last g made stop.first in
    record {
      granted = rw e (λ k h. grants-taken w n s last g k (λ j l. stop.first j (omega arith)));
      taken = rw e r.1;
      left = rw e r.0;
      last_is = rw e refl;
      seven = rw e (λ _ seven. full-number w n (stand_at s last) made _ stop.stopped seven);
    })
    (λ r e. record {
      granted = rw e (λ k h. absurd (omega arith));
      taken = rw e refl;
      left = rw e refl;
      last_is = rw e refl;
      seven = λ z. absurd (refused_met r (sym e ∙ z));
    })
  where
    made : ℕ
    made = grants_made w n (stand_at s last)
