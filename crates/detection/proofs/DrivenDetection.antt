-- Detection of driven plants and of lists that mix runs and drives, within d·d rounds and within the worst-case latency: the claim about lists of
-- runs, of the runs that the drives are.
-- Assumes nothing.
use mathlib.Core.Path.{◌≡◌, refl, sym, ap, subst, ◌∙◌}
use mathlib.Core.Bool.{Bool, true, false, cond, not, true≢false}
use mathlib.Core.List.{List, [], ◌∷◌, ◌++◌, map}
use Prim.Native.Nat.{ℕ, zero, suc, ◌+◌, ◌<◌}
use native.Mathlib.Omega.{arith}
use borrow.Author.Tests.{eq-eqb, not-true}
use lib.ListN.{length}
use Rattle.lists.specs.Search.{every}
use Rattle.lists.specs.Sums.{bit}
use Rattle.table.specs.Table.{live}
use Rattle.table.specs.Rules.{not_live, some_live, round_over}
use Rattle.lists.proofs.BoolLaws.{by_bool}
use Rattle.lists.proofs.SearchLaws.{every-at}
use Rattle.lists.proofs.SumLaws.{sum-zero}
use Rattle.plant.specs.Turn.{kind_turn}
use Rattle.plant.specs.Entry.{Entry, State, entry_of, acted, after}
use Rattle.detection.specs.Runs.{Taken, turn_run, after_runs, taken_all, crashes, is_late, is_on}
use Rattle.detection.specs.Rounds.{all_taken}
use Rattle.table.specs.Properties.{live_count}
use Rattle.table.specs.declared.wiring.Wiring.{Wiring}
use Rattle.detection.specs.Claim.{rounds_of, DetectionPremises, DetectionConclusion, Detection, square_rounds, triangle_rounds, worst_rounds}
use Rattle.detection.proofs.OneTurn.{after-append, runs_append, one_passes}
use Rattle.detection.proofs.TakenLaws.{taken_at}
use Rattle.detection.proofs.DetectionClaim.{detection-in-worst-case, detection-in-triangle, detection-in-square}
use Rattle.granter.specs.Grant.{grant_check}
use Rattle.granter.specs.Drive.{Stand, stand_at, granted_at, grant_turn, after_grants, ended, ended_after, stops, grants_made, outcome_after, drive}
use Rattle.granter.proofs.GrantLaws.{Grantable, grantable}
use Rattle.granter.proofs.DriveLaws.{Driving, not-ended, unended}
use Rattle.detection.specs.Driven.{runs_of, runs_of_drive, RunOrDrive, a_run, a_drive, after_one, runs_of_one, after_mixed}
use Rattle.detection.specs.Driven.{runs_of_mixed, MixedDetection, after_drives, runs_of_drives, ending}
use Rattle.detection.specs.Driven.{DrivenDetectionConclusion, DrivenDetection, DrivenDetectionAfter}
use Rattle.detection.specs.InList.{DrivenDetectionInList}
use Rattle.granter.proofs.Stops.{drive-stops}
use Rattle.detection.proofs.DriveRuns.{driving-at, drive-is-turns}
use Rattle.table.proofs.WiringLaws.{same-itself}
use Rattle.lists.proofs.RefusalLaws.{by_check}
use Rattle.lists.specs.declared.refusal.Refusal.{Refusal}
use Rattle.lists.specs.declared.refusal.Refusal.TheVariants.{TallyFull}
use Rattle.std.proofs.lemmas.Option.{none-some}
use Rattle.std.specs.Prelude.{Option, None, Some, is_none, Ok, Err}

-- the runs of a run or a drive leave what it leaves
one-mixed-left : (s : State) (x : RunOrDrive) → after_runs s (runs_of_one s x) ≡ after_one s x
unfolding after_runs
one-mixed-left s (a_run c) = refl
one-mixed-left s (a_drive (Ok w) n last) = (drive-is-turns w n s last).left
one-mixed-left s (a_drive (Err r) n last) = refl

-- and so do those of a list
pub mixed-left : (s : State) (xs : List RunOrDrive) → after_runs s (runs_of_mixed s xs) ≡ after_mixed s xs
unfolding runs_of_mixed after_mixed after_runs
mixed-left s [] = refl
mixed-left s (x ∷ xs) =
    rw (after-append s (runs_of_one s x) (runs_of_mixed (after_one s x) xs), one-mixed-left s x) (mixed-left (after_one s x) xs)

-- a claim about lists of runs, of lists that mix runs and drives
pub mixed-detection : (rounds : Wiring → ℕ → ℕ) → Detection rounds → MixedDetection rounds
mixed-detection rounds claim w n s xs given =
    subst (DetectionConclusion (rounds w n) w n s (runs_of_mixed s xs)) (mixed-left s xs) (claim w n s (runs_of_mixed s xs) given)

-- what turns pass, all entries pass that drives take
module _ (w : Wiring) (q : Taken → Bool) (turns : (n : ℕ) (s : State) (i : ℕ) → q (taken_at w n s (entry_of kind_turn i)) ≡ true) where
  grants-pass : (n : ℕ) (s : State) (p : Stand) (k : ℕ) → all_taken q (taken_all s (runs_of w n p k)) ≡ true
  unfolding runs_of taken_all all_taken
  grants-pass n s p zero = refl
  grants-pass n s p (suc k) =
      runs_append q s (runs_of w n p k) (turn_run w n (granted_at n (after_grants w n p k)) ∷ []) (grants-pass n s p k)
      (one_passes w q turns n (after_runs s (runs_of w n p k)) (granted_at n (after_grants w n p k)))

  pub drives-pass : (n : ℕ) (s : State) (lasts : List ℕ) → all_taken q (taken_all s (runs_of_drives w n s lasts)) ≡ true
  unfolding runs_of_mixed taken_all all_taken
  drives-pass n s [] = refl
  drives-pass n s (last ∷ lasts) =
      runs_append q s (runs_of_drive w n s last) (runs_of_drives w n (drive w n s last).state lasts)
      (grants-pass n s (stand_at s last) (drive w n s last).grants)
      (rw (drive-is-turns w n s last).left (drives-pass n (drive w n s last).state lasts))

-- drives and one more
after-one-more : (w : Wiring) (n : ℕ) (s : State) (lasts : List ℕ) (last : ℕ)
    → after_drives w n s (lasts ++ (last ∷ [])) ≡ (drive w n (after_drives w n s lasts) last).state
unfolding after_mixed
after-one-more w n s [] last = refl
after-one-more w n s (first ∷ lasts) last = after-one-more w n (drive w n s first).state lasts last

-- a drive that ends with somebody live closes one round
closes_at : (w : Wiring) (n : ℕ) (s : State) (last : ℕ) → Grantable w n s.table last → (k : ℕ)
    → ((j : ℕ) → j < k → stops w n (stand_at s last) j ≡ false) → ended_after w n (stand_at s last) k ≡ true
    → some_live n (after_grants w n (stand_at s last) k).state.table ≡ true → (after_grants w n (stand_at s last) k).state.rounds ≡ s.rounds + 1
unfolding after_grants grant_turn after ended
closes_at w n s last g zero going o lives =
    absurd (true≢false (sym o ∙ unended n s g.someone))
closes_at w n s last g (suc k) going o lives =
    by_bool (round_over n (acted w n q.table e)) (λ c. rw c (omega (arith, still)))
    (λ c.
    let same : (after w n q e).rounds ≡ s.rounds = rw c still in
    absurd (true≢false (sym o ∙ open-then same)))
  where
    p : Stand
    p = stand_at s last

    q : State
    q = (after_grants w n p k).state

    e : Entry
    e = entry_of kind_turn (granted_at n (after_grants w n p k))

    d : Driving w n p k
    d = driving-at w n s last g k going

    still : q.rounds ≡ s.rounds
    still = (not-ended n s.rounds q d.open-still).0

    open-then : (after w n q e).rounds ≡ s.rounds → ended n s.rounds (after w n q e) ≡ false
    open-then same = rw (eq-eqb _ _ same, lives)

drive-closes : (w : Wiring) (n : ℕ) (s : State) (last : ℕ) → (drive w n s last).stopped ≡ None → some_live n (drive w n s last).state.table ≡ true
    → (drive w n s last).state.rounds ≡ s.rounds + 1
unfolding drive outcome_after
drive-closes w n s last z lives =
    by_check (grant_check w n s.table last)
    (λ e.
    let stop = drive-stops w n s last e in
    let over = ended_of (ended_after w n (stand_at s last) (grants_made w n (stand_at s last))) refl (rw e at z) in
    rw e (closes_at w n s last (grantable w n s.table last e) (grants_made w n (stand_at s last)) stop.first over (rw e at lives)))
    (λ r e. absurd (none-some r (sym (rw e at z))))
  where
    ended_of : (b : Bool) → ended_after w n (stand_at s last) (grants_made w n (stand_at s last)) ≡ b → cond b None (Some TallyFull) ≡ None
        → ended_after w n (stand_at s last) (grants_made w n (stand_at s last)) ≡ true
    ended_of true e z = e
    ended_of false e z = absurd (none-some TallyFull (sym z))

-- any other drive closes none
drive-stays : (w : Wiring) (n : ℕ) (s : State) (last : ℕ) (r : Refusal) → (drive w n s last).stopped ≡ Some r
    → (drive w n s last).state.rounds ≡ s.rounds
unfolding drive outcome_after
drive-stays w n s last r z =
    by_check (grant_check w n s.table last)
    (λ e.
    by_bool (ended_after w n p made) (λ o. absurd (none-some r (rw (e, o) at z)))
    (λ o. rw e (not-ended n s.rounds (after_grants w n p made).state o).0))
    (λ r e. rw e)
  where
    p : Stand
    p = stand_at s last

    made : ℕ
    made = grants_made w n p

-- the rounds that a drive adds, where somebody is live after it
drive-adds : (w : Wiring) (n : ℕ) (s : State) (last : ℕ) → some_live n (drive w n s last).state.table ≡ true
    → (drive w n s last).state.rounds ≡ s.rounds + bit (is_none (drive w n s last).stopped)
drive-adds w n s last lives = pick (drive w n s last).stopped refl
  where
    pick : (o : Option Refusal) → (drive w n s last).stopped ≡ o
        → (drive w n s last).state.rounds ≡ s.rounds + bit (is_none (drive w n s last).stopped)
    pick None e = rw e (drive-closes w n s last e lives)
    pick (Some r) e = rw e (omega (arith, drive-stays w n s last r e))

-- within so many rounds
module _ (rounds : Wiring → ℕ → ℕ) (claim : Detection rounds) (w : Wiring) (n : ℕ) (s : State) (given : DetectionPremises w n s []) where
  premises : (lasts : List ℕ) → DetectionPremises w n s (runs_of_drives w n s lasts)
  premises lasts = record {
    size = given.size;
    long = given.long;
    start = given.start;
    two_live = given.two_live;
    accurate = given.accurate;
    one_wiring = drives-pass w (is_on w) (λ n s i. same-itself w) n s lasts;
    no_crash = drives-pass w (λ x. not (crashes x)) (λ n s i. refl) n s lasts;
    no_late = drives-pass w (λ x. not (is_late x)) (λ n s i. refl) n s lasts;
  }

  concluded : (lasts : List ℕ) → DetectionConclusion (rounds w n) w n s (runs_of_drives w n s lasts) (after_drives w n s lasts)
  concluded lasts = mixed-detection rounds claim w n s (map (a_drive (Ok w) n) lasts) (premises lasts)

  -- somebody is live after every drive
  lives-after : (lasts : List ℕ) → some_live n (after_drives w n s lasts).table ≡ true
  unfolding some_live live_count
  lives-after lasts =
      by_bool (every (not_live n (after_drives w n s lasts).table) n)
      (λ e.
      let dead : (i : ℕ) → i < n → live n s.table i ≡ false = λ i h.
      sym ((concluded lasts).same_live i h) ∙ not-true _ (every-at (not_live n (after_drives w n s lasts).table) n i e h) in
      absurd (omega (arith, given.two_live, sum-zero {f = λ i. bit (live n s.table i)} n (λ i h. ap bit (dead i h)))))
      (λ e. rw e)

  -- the rounds of the tally are those of the drives that no refusal stops
  grows : (done rest : List ℕ)
      → (after_drives w n (after_drives w n s done) rest).rounds ≡ (after_drives w n s done).rounds + ending w n (after_drives w n s done) rest
  unfolding after_mixed ending
  grows done [] = omega arith
  grows done (last ∷ rest) =
      let one = after-one-more w n s done last in
      let added = drive-adds w n (after_drives w n s done) last (rw one at (lives-after (done ++ (last ∷ [])))) in
      omega (arith, added, rw one at (grows (done ++ (last ∷ [])) rest))

  driven : (lasts : List ℕ) → DrivenDetectionConclusion (rounds w n) w n s lasts (after_drives w n s lasts)
  unfolding after_mixed
  driven lasts =
      let c = concluded lasts in
      let count : length (rounds_of s (runs_of_drives w n s lasts)).closed ≡ ending w n s lasts = omega (arith, grows [] lasts, c.rounds_tally) in
      record { detection = c; rounds = count; exact_rows = λ far. c.exact_rows (rw count far) }

-- a claim about lists of runs, of driven plants. That still fewer rounds do not suffice is shown of runs only (crate witness)
pub driven-detection : (rounds : Wiring → ℕ → ℕ) → Detection rounds → DrivenDetection rounds
driven-detection rounds claim w n s lasts given = driven rounds claim w n s given lasts

-- and so of the last drive of a list
last-drive : (rounds : Wiring → ℕ → ℕ) → Detection rounds → (w : Wiring) (n : ℕ) (before : State) (last : ℕ)
    → DrivenDetectionAfter rounds w n last before (drive w n before last).state
last-drive rounds claim w n before last s lasts e given =
    rw (after-one-more w n s lasts last, e) at (driven-detection rounds claim w n s (lasts ++ (last ∷ [])) given)

-- a drive promises the claim, wherever it stands behind other drives
pub drive-detects : (w : Wiring) (n : ℕ) (s : State) (last : ℕ) → DrivenDetectionInList w n last s (drive w n s last).state
drive-detects w n s last = record {
  in_square = last-drive square_rounds detection-in-square w n s last;
  in_triangle = last-drive triangle_rounds detection-in-triangle w n s last;
  in_worst_case = last-drive worst_rounds detection-in-worst-case w n s last;
}
