-- Drives one behind the other are grants, and each that answers 0 closes a round.
-- Assumes nothing.
use mathlib.Core.Path.{◌≡◌, refl, sym, ap, ◌∙◌}
use mathlib.Core.Logic.{by_cases}
use mathlib.Core.Bool.{true, true≢false}
use mathlib.Core.List.{List}
use Prim.Native.Nat.{ℕ, zero, suc, ◌+◌, ◌≤◌, ◌<◌}
use native.Mathlib.Decide.{ℕ_discrete}
use native.Mathlib.Omega.{arith}
use borrow.Author.Tests.{eq-eqb}
use Rattle.lists.proofs.BoolLaws.{by_bool, choice}
use Rattle.table.specs.Rules.{some_live, round_over}
use Rattle.table.proofs.Accepting.{Accepted}
use Rattle.table.specs.declared.wiring.Wiring.{Wiring}
use Rattle.plant.specs.Turn.{kind_turn, kind_crash}
use Rattle.plant.specs.Entry.{State, entry_of, acted, after}
use Rattle.granter.specs.Grant.{grant_check}
use Rattle.granter.specs.Drive.{Stand, stand_at, granted_at, grant_turn, after_grants, ended, ended_after, grants_made, outcome_after, drive}
use Rattle.granter.proofs.GrantLaws.{grantable}
use Rattle.single_crash.specs.Setting.{Sound, crash_at, RoundsSince}
use Rattle.single_crash.specs.Drives.{after_drives, next_drive, grants_of_drives, DrivesAreGrants, RoundsByDrives}
use Rattle.single_crash.proofs.Running.{Crew, Running, some-live, runs-after}
use Rattle.single_crash.proofs.Crashing.{all_but, others-crew, sound-run, crash-runs}
use Rattle.lists.proofs.RefusalLaws.{by_check}
use Rattle.lists.specs.declared.refusal.Refusal.TheVariants.{TallyFull}
use Rattle.std.proofs.lemmas.Option.{none-some}
use Rattle.std.specs.Prelude.{None}

-- one drive is the grants that it makes
drive-is : (w : Wiring) (n : ℕ) (q : Stand)
    → stand_at (drive w n q.state q.last).state (drive w n q.state q.last).last ≡ after_grants w n q (drive w n q.state q.last).grants
unfolding drive outcome_after after_grants
drive-is w n q = by_check (grant_check w n q.state.table q.last) (λ e. rw e refl) (λ r e. rw e refl)

-- grants behind grants
grants-add : (w : Wiring) (n : ℕ) (p : Stand) (a b : ℕ) → after_grants w n (after_grants w n p a) b ≡ after_grants w n p (a + b)
unfolding after_grants
grants-add w n p a zero = let e : a + 0 ≡ a = omega arith in rw e refl
grants-add w n p a (suc b) =
    let e : a + suc b ≡ suc (a + b) = omega arith in
    rw e (ap (grant_turn w n) (grants-add w n p a b))

-- an end in itself
pub drives-are-grants : DrivesAreGrants
unfolding after_drives grants_of_drives after_grants
drives-are-grants w n p zero = refl
drives-are-grants w n p (suc k) =
    drive-is w n (after_drives w n p k)
    ∙ (ap (λ (q : Stand). after_grants w n q (next_drive w n p k).grants) (drives-are-grants w n p k)
    ∙ grants-add w n p (grants_of_drives w n p k) (next_drive w n p k).grants)

-- a drive that no refusal stops has ended
ends-zero : (w : Wiring) (n : ℕ) (q : Stand) → (drive w n q.state q.last).stopped ≡ None
    → ended n q.state.rounds (after_grants w n q (drive w n q.state q.last).grants).state ≡ true
unfolding drive outcome_after
ends-zero w n q =
    by_check (grant_check w n q.state.table q.last)
    (λ e. rw e (λ zero.
    by_bool (ended_after w n q (grants_made w n q)) (λ o. o) (λ o. absurd (none-some TallyFull (sym (rw o at zero))))))
    (λ r e. rw e (λ zero. absurd (none-some r (sym zero))))

-- the tally's rounds only grow
rounds-turn : (w : Wiring) (n : ℕ) (q : Stand) → q.state.rounds ≤ (grant_turn w n q).state.rounds
unfolding grant_turn after
rounds-turn w n q =
    let t' : List ℕ = acted w n q.state.table (entry_of kind_turn (granted_at n q)) in
    choice (λ (r : ℕ). q.state.rounds ≤ r) (round_over n t') (omega arith) (omega arith)

rounds-grants : (w : Wiring) (n : ℕ) (q : Stand) (k : ℕ) → q.state.rounds ≤ (after_grants w n q k).state.rounds
unfolding after_grants
rounds-grants w n q zero = omega arith
rounds-grants w n q (suc k) = omega (arith, rounds-grants w n q k, rounds-turn w n (after_grants w n q k))

rounds-crash : (w : Wiring) (n b : ℕ) (q : Stand) → q.state.rounds ≤ (crash_at w n q b).state.rounds
unfolding crash_at after
rounds-crash w n b q =
    let t' : List ℕ = acted w n q.state.table (entry_of kind_crash b) in
    choice (λ (r : ℕ). q.state.rounds ≤ r) (round_over n t') (omega arith) (omega arith)

-- where somebody is live, a drive that has ended has closed a round
closes-one : (n rounds : ℕ) (s : State) → some_live n s.table ≡ true → rounds ≤ s.rounds → ended n rounds s ≡ true → suc rounds ≤ s.rounds
unfolding ended
closes-one n rounds s someone le e =
    by_cases (ℕ_discrete s.rounds rounds) (λ same. absurd (true≢false (sym e ∙ rw (someone, eq-eqb s.rounds rounds same) refl))) (λ d. omega arith)

module _ (w : Wiring) (n b : ℕ) (three : 3 ≤ n) (p : Stand) (k : ℕ) (given : Sound w n p) (hb : b < n) where
  ok : Accepted w n p.state.table
  ok = (grantable w n p.state.table p.last given.granted).ok

  team : Crew w n (all_but b)
  team = others-crew w n b ok.size three

  abbrev q : Stand
  q = crash_at w n (after_grants w n p k) b

  runs : (c : ℕ) × Running w n (all_but b) c q
  runs =
      let before = runs-after (sound-run given) k in
      crash-runs b team hb before.1

  live-after : (g : ℕ) → some_live n (after_grants w n q g).state.table ≡ true
  live-after g =
      let now = runs-after runs.1 g in
      some-live team now.1.plain

  -- so many rounds have closed
  drives-close : (drives : ℕ) → ((i : ℕ) → i < drives → (next_drive w n q i).stopped ≡ None)
      → q.state.rounds + drives ≤ (after_drives w n q drives).state.rounds
  unfolding after_drives
  drives-close zero zeros = omega arith
  drives-close (suc i) zeros =
      let before = drives-close i (λ j h. zeros j (omega arith)) in
      let here : Stand = after_drives w n q i in
      let made : ℕ = (next_drive w n q i).grants in
      let there = drive-is w n here in
      let is : after_grants w n here made ≡ after_grants w n q (grants_of_drives w n q i + made) =
      ap (λ (x : Stand). after_grants w n x made) (drives-are-grants w n q i) ∙ grants-add w n q (grants_of_drives w n q i) made in
      let someone : some_live n (after_grants w n here made).state.table ≡ true = rw is (live-after (grants_of_drives w n q i + made)) in
      let more =
      closes-one n here.state.rounds (after_grants w n here made).state someone (rounds-grants w n here made)
      (ends-zero w n here (zeros i (omega arith))) in
      omega (arith, ap (λ (x : Stand). x.state.rounds) there)

-- an end in itself
pub rounds-by-drives : RoundsByDrives
rounds-by-drives w n rounds three claim p k b given hb zeros =
    let q : Stand = crash_at w n (after_grants w n p k) b in
    let made : ℕ = grants_of_drives w n q rounds in
    let is = drives-are-grants w n q rounds in
    let closed = drives-close w n b three p k given hb rounds zeros in
    let since : RoundsSince w n p k b made rounds =
    omega (arith, rounds-crash w n b (after_grants w n p k), closed, ap (λ (x : Stand). x.state.rounds) is) in
    rw is (claim p k b made given hb since)
