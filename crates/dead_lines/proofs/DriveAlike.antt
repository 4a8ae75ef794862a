-- Grants, drives and mixed lists on alike tables.
-- Assumes nothing.
use mathlib.Core.Path.{◌≡◌, refl, sym, ap, ap₂, ◌∙◌}
use mathlib.Core.Bool.{not, ◌||◌}
use mathlib.Core.List.{List, [], ◌∷◌}
use Prim.Native.Nat.{ℕ, zero, suc, ◌-◌, ◌≤◌, ◌<◌}
use native.Mathlib.Omega.{arith}
use lib.Dec.{eqb}
use Rattle.lists.specs.declared.refusal.Refusal.{Refusal}
use Rattle.lists.proofs.BoolLaws.{least-same}
use Rattle.lists.proofs.RefusalLaws.{and_same, by_check}
use Rattle.std.proofs.lemmas.List.Elements.{All-head, All-tail}
use Rattle.table.specs.Rules.{table_check}
use Rattle.table.proofs.Accepting.{Accepted, accepted, table_ok}
use Rattle.table.specs.declared.wiring.Wiring.{Wiring}
use Rattle.plant.specs.Turn.{kind_turn}
use Rattle.plant.specs.Entry.{Entry, State, entry_of, tally_full, entry_check}
use Rattle.plant.proofs.RulesKept.{accepted-kept}
use Rattle.plant.proofs.RunLaws.{accepted-number}
use Rattle.granter.specs.Grant.{waits, first_from, following, granted, grant_check, grant_answer}
use Rattle.granter.specs.Drive.{Stand, stand_at, granted_at, grant_turn, after_grants, ended, ended_after}
use Rattle.granter.specs.Drive.{stops, grants_made, drive_outcome, outcome_after, drive, Stopped}
use Rattle.granter.proofs.GrantLaws.{grantable, grant_ok, waits-is}
use Rattle.granter.proofs.DriveLaws.{not_stopped, next-taken, drive-made}
use Rattle.granter.proofs.Stops.{drive-stops}
use Rattle.detection.specs.Driven.{RunOrDrive, a_run, a_drive, after_one, after_mixed}
use Rattle.detection.proofs.DriveRuns.{driving-at}
use Rattle.dead_lines.specs.Alike.{Alike, StayAlike, SameDrive, IsOn, wiring_given, GrantOfAlike, DriveOfAlike, answer_of, answers_of}
use Rattle.dead_lines.specs.Alike.{MixedOfAlike}
use Rattle.dead_lines.proofs.Writes.{Twins, Step, still, then}
use Rattle.dead_lines.proofs.TurnAlike.{some-live-same, finished-same}
use Rattle.dead_lines.proofs.RunAlike.{Both, check-same, after-step, after-both, alike-both, size-is}
use Rattle.dead_lines.proofs.RunAlike.{tables-checked, stays, stay-still, stay-then, run-of-alike}
use Rattle.std.specs.Prelude.{Ok, Err, Option, Some}

-- who is granted goes by who waits
module _ (n : ℕ) (t u : List ℕ) (tw : Twins n t u) where
  waits-same : (i : ℕ) → i < n → waits n t i ≡ waits n u i
  waits-same i h = sym (waits-is n t i) ∙ (ap not (finished-same n t u tw i h) ∙ waits-is n u i)

  first-same : (b : ℕ) → first_from n t b ≡ first_from n u b
  unfolding first_from
  first-same b = least-same (waits n t) (waits n u) (n - b) b (λ y low high. waits-same y (omega arith))

  granted-same : (last : ℕ) → granted n t last ≡ granted n u last
  unfolding granted
  granted-same last = rw (first-same (following last), first-same 0)

-- a grant of any size
module _ (w : Wiring) (n : ℕ) (s r : State) (a : Alike w n s r) (m last : ℕ) where
  tables : Twins n s.table r.table
  tables = (alike-both w n s r a).tables

  grant-checked : grant_check w m s.table last ≡ grant_check w m r.table last
  unfolding grant_check
  grant-checked =
      rw (tables-checked w n s r a m)
      (and_same (table_check w m r.table) _ _
      (λ ok. rw (size-is w n s r a m (sym (table_ok w m r.table tt ok).long), some-live-same n s.table r.table tables)))

  grant-same : grant_answer w m s.table last ≡ grant_answer w m r.table last
  unfolding grant_answer
  grant-same =
      rw grant-checked
      (and_same (grant_check w m r.table last) _ _
      (λ ok. rw (size-is w n s r a m (sym (grant_ok w m r.table last tt ok).ok.long), granted-same n s.table r.table tables last)))

pub grant-of-alike : GrantOfAlike
grant-of-alike w n s r a (Ok v) m last on = rw on (grant-same w n s r a m last)
grant-of-alike w n s r a (Err x) m last on = refl

-- where two drives stand after k grants
record Grants (w : Wiring) (n : ℕ) (p q : Stand) (k : ℕ) : Type 0 where
  both : Both n (after_grants w n p k).state (after_grants w n q k).state
  last : (after_grants w n p k).last ≡ (after_grants w n q k).last
  ok : Accepted w n (after_grants w n p k).state.table
  other_ok : Accepted w n (after_grants w n q k).state.table
  step : Step n p.state.table q.state.table (after_grants w n p k).state.table (after_grants w n q k).state.table

-- a grant and its turn more
next-grants : (w : Wiring) (n : ℕ) (p q : Stand) (k : ℕ) → Grants w n p q k
    → entry_check n (after_grants w n p k).state (entry_of kind_turn (granted_at n (after_grants w n p k))) ≡ Ok tt → Grants w n p q (suc k)
unfolding after_grants grant_turn
next-grants w n p q k x taken =
    record {
      both = rw (← same) (after-both n before other x.both e w taken);
      last = same;
      ok = accepted-kept w n before e x.ok taken;
      other_ok = rw (← same) (accepted-kept w n other e x.other_ok (sym (check-same n before other x.both e) ∙ taken));
      step = rw (← same) (then x.step (after-step n before other x.both e w taken));
    }
  where
    before : State
    before = (after_grants w n p k).state

    other : State
    other = (after_grants w n q k).state

    e : Entry
    e = entry_of kind_turn (granted_at n (after_grants w n p k))

    same : granted_at n (after_grants w n p k) ≡ granted_at n (after_grants w n q k)
    same = granted-same n before.table other.table x.both.tables (after_grants w n p k).last ∙ ap (granted n other.table) x.last

-- a drive that is not refused
module _ (w : Wiring) (n : ℕ) (s r : State) (a : Alike w n s r) (last : ℕ) (z : grant_check w n s.table last ≡ Ok tt) where
  abbrev p : Stand
  p = stand_at s last

  abbrev q : Stand
  q = stand_at r last

  abbrev made : ℕ
  made = grants_made w n p

  stop : Stopped w n p made
  stop = drive-stops w n s last z

  grants : (k : ℕ) → k ≤ made → Grants w n p q k
  unfolding after_grants
  grants zero l = record {
    both = alike-both w n s r a;
    last = refl;
    ok = accepted w n s.table a.valid;
    other_ok = accepted w n r.table a.other_valid;
    step = still n s.table r.table;
  }
  grants (suc k) l =
      let d = driving-at w n s last (grantable w n s.table last z) k (λ j h. stop.first j (omega arith)) in
      next-grants w n p q k (grants k (omega arith)) (next-taken w n p k d (not_stopped w n p k (stop.first k (omega arith))).1)

  ended-same : (k : ℕ) → k ≤ made → ended_after w n p k ≡ ended_after w n q k
  unfolding ended
  ended-same k l =
      let x = grants k l in
      ap₂ ◌||◌ (ap not (ap₂ eqb x.both.rounds a.rounds))
      (ap not (some-live-same n (after_grants w n p k).state.table (after_grants w n q k).state.table x.both.tables))

  stops-same : (k : ℕ) → k ≤ made → stops w n p k ≡ stops w n q k
  unfolding stops
  stops-same k l = let x = grants k l in ap₂ ◌||◌ (ended-same k l) (ap₂ tally_full x.both.rounds x.both.tests)

  other-stop : Stopped w n q made
  other-stop = record {
    within = stop.within;
    stopped = sym (stops-same made (omega arith)) ∙ stop.stopped;
    first = λ k l. sym (stops-same k (omega arith)) ∙ stop.first k l;
  }

  made-same : SameDrive w n s r (outcome_after w n p made) (outcome_after w n q made)
  unfolding outcome_after
  made-same =
      let x = grants made (omega arith) in
      record {
        answer = rw (ended-same made (omega arith), x.both.rounds, x.both.tests, x.last);
        left =
            stays w n s r _ _ (alike-both w n s r a) x.step (accepted-number w n _ x.ok) (accepted-number w n _ x.other_ok) x.both.rounds
            x.both.tests;
      }

  drive-same : SameDrive w n s r (drive w n s last) (drive w n r last)
  drive-same =
      let z' : grant_check w n r.table last ≡ Ok tt = sym (grant-checked w n s r a n last) ∙ z in
      rw (← drive-made w n s last made z stop, ← drive-made w n r last made z' other-stop) made-same

refused : (w : Wiring) (n : ℕ) (s r : State) → Alike w n s r → (by : Option Refusal) (last : ℕ)
    → SameDrive w n s r (drive_outcome by s last 0) (drive_outcome by r last 0)
refused w n s r a by last = record { answer = rw (a.rounds, a.tests); left = stay-still w n s r a }

on-wiring-alike : (w : Wiring) (n : ℕ) (s r : State) → Alike w n s r → (m last : ℕ) → SameDrive w n s r (drive w m s last) (drive w m r last)
unfolding drive
on-wiring-alike w n s r a m last =
    by_check (grant_check w m s.table last)
    (λ z.
    let z' : grant_check w m r.table last ≡ Ok tt = sym (grant-checked w n s r a m last) ∙ z in
    let same : m ≡ n = size-is w n s r a m (sym (grantable w m r.table last z').ok.long) in
    rw same (drive-same w n s r a last (rw same at z)))
    (λ x z. rw (← grant-checked w n s r a m last, z) (refused w n s r a (Some x) last))

-- a drive, an end in itself
pub drive-of-alike : DriveOfAlike
drive-of-alike w n s r a (Ok v) m last on = rw on (on-wiring-alike w n s r a m last)
drive-of-alike w n s r a (Err x) m last on = refused w n s r a (Some x) last

-- one of a mixed list
one-same : (w : Wiring) (n : ℕ) (s r : State) → Alike w n s r → (x : RunOrDrive) → IsOn w (wiring_given x)
    → (answer_of s x ≡ answer_of r x) × StayAlike w n s r (after_one s x) (after_one r x)
one-same w n s r a (a_run c) on = let f = run-of-alike w n s r a c.wiring c.size c.schedule c.sheet on in (f.answer, f.left)
one-same w n s r a (a_drive v m last) on = let f = drive-of-alike w n s r a v m last on in (f.answer, f.left)

-- a mixed list, an end in itself
pub mixed-of-alike : MixedOfAlike
unfolding answers_of after_mixed
mixed-of-alike w n s r a [] on = (refl, stay-still w n s r a)
mixed-of-alike w n s r a (x ∷ xs) on =
    let one = one-same w n s r a x (All-head (λ (x : RunOrDrive). IsOn w (wiring_given x)) x xs on) in
    let rest = mixed-of-alike w n (after_one s x) (after_one r x) one.1.alike xs (All-tail (λ (x : RunOrDrive). IsOn w (wiring_given x)) x xs on) in
    (ap₂ ◌∷◌ one.0 rest.0, stay-then one.1 rest.1)
