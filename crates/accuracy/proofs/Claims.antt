-- The claims of specs/Accurate.antt hold.
-- Assumes nothing.
use mathlib.Core.Path.{◌≡◌, refl, sym, subst, ◌∙◌}
use mathlib.Core.Logic.{◌≢◌, ◌⊎◌, inl, inr}
use mathlib.Core.Bool.{Bool, true, false, not, ◌&&◌, true≢false}
use mathlib.Core.List.{List, [], ◌∷◌, ◌++◌, append_assoc, map}
use Prim.Native.Nat.{ℕ, ◌+◌, ◌≤◌, ◌<◌}
use native.Mathlib.Omega.{arith}
use borrow.Author.Tests.{eqb-true, not-true}
use lib.Dec.{eqb}
use lib.ListN.{length}
use Rattle.lists.specs.Search.{every}
use Rattle.lists.specs.Sums.{sum_below, bit}
use Rattle.lists.proofs.BoolLaws.{by_bool}
use Rattle.lists.proofs.SearchLaws.{both, every-at}
use Rattle.lists.proofs.SumLaws.{sum-add}
use Rattle.table.specs.Table.{table_length, status, status_told, status_crashed, status_alone, told_by, live}
use Rattle.table.specs.Properties.{live_count, no_live_suspicion, none_suspected}
use Rattle.table.proofs.Accepting.{Accepted}
use Rattle.table.specs.declared.wiring.Wiring.{Wiring}
use Rattle.plant.specs.Turn.{makes_test, turn_tested, turn_outcome}
use Rattle.station.specs.Outcome.{outcome_tested_told}
use Rattle.plant.specs.Entry.{Entry, State, is_crash, entry_check, after, tested_of, outcome_of}
use Rattle.plant.proofs.RulesKept.{entry-facts}
use Rattle.plant.proofs.RunLaws.{accepted-number}
use Rattle.detection.specs.Runs.{Call, Taken, after_runs, taken_all, table_after, is_late, crashes}
use Rattle.detection.specs.Rounds.{any_taken, count_taken}
use Rattle.detection.specs.Boards.{station_tested}
use Rattle.detection.specs.Driven.{RunOrDrive, a_drive, after_one, runs_of_mixed, after_mixed}
use Rattle.detection.specs.Ceased.{LeftTold}
use Rattle.detection.proofs.TakenLaws.{taken_at}
use Rattle.detection.proofs.Chain.{Chain, chain-all}
use Rattle.detection.proofs.Parts.{parted}
use Rattle.detection.proofs.TestingPair.{testing-pair}
use Rattle.detection.proofs.Fates.{teller-is-named}
use Rattle.detection.proofs.ExitRecord.{exits-recorded}
use Rattle.detection.proofs.DrivenDetection.{mixed-left, drives-pass}
use Rattle.accuracy.specs.Cause.{IsSuspected, late_of, was_late, crash_of, has_crashed, HasCause}
use Rattle.accuracy.specs.Accurate.{OnlyLateSuspected, ExitCause, ExitsHaveCauses, ToldHaveCauses, told_since, OneToldForEachLate}
use Rattle.accuracy.specs.Accurate.{NoneLate, OneForEachLate, Accurate, RunsAccurate, MixedAccurate, DrivesTellNobody, AccurateAfter}
use Rattle.accuracy.proofs.Step.{CauseAt, Fared, lives, crashed, told, alone, new-suspicion, fared}
use Rattle.accuracy.proofs.Chains.{any-before, any-last, cause-before, cause-chain, told-at}
use Rattle.accuracy.proofs.Sums.{bit-most, sum-most, two-hits, count-sum, any-counted, none-passes}
use Rattle.accuracy.proofs.Quiet.{Calm, Left, stayed, left_told, left_crashed, calm-chain}
use Rattle.std.specs.Prelude.{Ok}

-- where no live station suspects a live one, nobody is suspected
pub none-suspects : (n : ℕ) (t : List ℕ) → none_suspected n t ≡ true → (j : ℕ) → j < n → IsSuspected n t j → ⊥
unfolding none_suspected
none-suspects n t none j hj p =
    let mine = every-at (λ k. every (no_live_suspicion n t k) n) n p.0 none p.1 in
    let all : no_live_suspicion n t p.0 j ≡ true = every-at (no_live_suspicion n t p.0) n j mine hj in
    true≢false (sym (rw (p.2.by_live, p.2.of_live, p.2.suspected) at all))

-- so that a cause is a late reply
late-cause : (n : ℕ) (t : List ℕ) → none_suspected n t ≡ true → (xs : List Taken) (j : ℕ) → j < n → HasCause n t xs j → was_late j xs ≡ true
late-cause n t none xs j hj (inl p) = absurd (none-suspects n t none j hj p)
late-cause n t none xs j hj (inr l) = l

-- the tested station, where it is told
tested-below : (w : Wiring) (n : ℕ) (s : State) (e : Entry) → Accepted w n s.table → entry_check n s e ≡ Ok tt
    → outcome_of w n s.table e ≡ outcome_tested_told
    → tested_of w n s.table e < n
unfolding outcome_of tested_of turn_outcome turn_tested
tested-below w n s e ok z =
    by_bool (is_crash e) (λ c. rw c (λ q. absurd (omega (arith, q))))
    (λ c. by_bool (makes_test w n s.table e.station) (λ b. rw (c, b) (λ _. (testing-pair w n s e ok z c b).tested_below))
    (λ b. rw (c, b) (λ q. absurd (omega (arith, q)))))

-- a taken entry, behind those that lead from s₀ to the state that it finds
module _ (w : Wiring) (n : ℕ) (s : State) (e : Entry) (ok : Accepted w n s.table) (z : entry_check n s e ≡ Ok tt) where
  told-suspected : (k : ℕ) → k < n → live n s.table k ≡ true → status n (after w n s e).table k ≡ status_told → IsSuspected n s.table k
  told-suspected k hk l two = by (fared w n s e ok z k hk l)
    where
      by : Fared w n s e k → IsSuspected n s.table k
      by (lives m) = absurd (omega (arith, two, eqb-true _ 0 m))
      by (crashed c one) = absurd (omega (arith, two, one))
      by (told _ p) = p
      by (alone q three all) = absurd (omega (arith, two, three))

  exit-cause : (s₀ : State) (before : List Taken) → Chain n s₀ before s → ExitCause n s₀.table before (taken_at w n s e)
  exit-cause s₀ before c =
      let facts = entry-facts n s e z in
      let named = teller-is-named w n s e (accepted-number w n s.table ok) z in
      record {
        tester = λ q. cause-chain c e.station facts.below (told-suspected e.station facts.below facts.is_live (named.tester q).left);
        tested = λ q.
            let h = tested-below w n s e ok z q in
            cause-chain c (tested_of w n s.table e) h (told-suspected (tested_of w n s.table e) h (named.tested q).was_live (named.tested q).left);
        alone = λ three k hk d l. by (fared w n s e ok z e.station facts.below facts.is_live) three k hk d l;
      }
    where
      x : Taken
      x = taken_at w n s e

      at : (k : ℕ) → k < n → CauseAt w n s e k → HasCause n s₀.table (before ++ (x ∷ [])) k
      at k hk (inl p) = cause-before n s₀.table before (x ∷ []) k (cause-chain c k hk p)
      at k hk (inr l) = inr (any-last (late_of k) before x l)

      by : Fared w n s e e.station → status n (after w n s e).table e.station ≡ status_alone
          → (k : ℕ) → k < n → k ≢ e.station → live n s.table k ≡ true → HasCause n s₀.table (before ++ (x ∷ [])) k
      by (lives m) three k hk d l = absurd (omega (arith, three, eqb-true _ 0 m))
      by (crashed _ one) three k hk d l = absurd (omega (arith, three, one))
      by (told two p) three k hk d l = absurd (omega (arith, three, two))
      by (alone q _ all) three k hk d l =
          let facts = entry-facts n s e z in
          at k hk (new-suspicion w n s e ok z e.station k facts.below hk facts.is_live l (all k hk d))

-- what holds of each taken entry behind those before it
each-entry : {n : ℕ} {s s' : State} {ys : List Taken} → Chain n s ys s' → (before : List Taken) (x : Taken) (rest : List Taken)
    → ys ≡ before ++ (x ∷ rest) → (P : Taken → Type 0)
    → ((w : Wiring) (s₁ : State) (e : Entry) → Chain n s before s₁ → Accepted w n s₁.table → entry_check n s₁ e ≡ Ok tt → P (taken_at w n s₁ e)) → P x
each-entry c before x rest p P make =
    let r = parted c before x rest p in
    subst (λ (m : ℕ). P (taken_at x.wiring m x.before x.entry)) (sym r.size) (make x.wiring x.before x.entry r.first r.ok r.taken)

-- a list of runs
module _ (n : ℕ) (s : State) (calls : List Call) (long : length s.table ≡ table_length n) where
  abbrev xs : List Taken
  xs = taken_all s calls

  abbrev end : State
  end = after_runs s calls

  chain : Chain n s xs end
  chain = chain-all n s calls long

  only-late : OnlyLateSuspected n s calls end
  only-late i j hi hj p = cause-chain chain j hj (i, hi, p)

  exits : ExitsHaveCauses n s calls
  exits before x rest p = each-entry chain before x rest p (ExitCause n s.table before) (λ w s₁ e c ok z. exit-cause w n s₁ e ok z s before c)

  told-why : ToldHaveCauses n s calls end
  told-why i hi l two =
      let b : ℕ = told_by n end.table i in
      let r = told-at n xs i b ((exits-recorded n s calls long).told i hi l two) in
      let cause : HasCause n s.table r.before i =
      each-entry chain r.before r.x r.rest r.parts (λ (x : Taken). LeftTold n x.before.table (table_after x) i b → HasCause n s.table r.before i)
      (λ w s₁ e c ok z left. cause-chain c i hi (told-suspected w n s₁ e ok z i hi left.was_live left.left)) r.left in
      record {
        before = r.before;
        x = r.x;
        rest = r.rest;
        parts = r.parts;
        teller = r.left;
        cause = cause;
        late = λ none. late-cause n s.table none r.before i hi cause;
      }

  -- what one of the first entries of the list is, one of the list is
  in-list : (q : Taken → Bool) (before rest : List Taken) → xs ≡ before ++ rest → any_taken q before ≡ true → any_taken q xs ≡ true
  in-list q before rest p a = subst (λ (ys : List Taken). any_taken q ys ≡ true) (sym p) (any-before q before rest a)

  -- late replies and crashes, station by station
  late-sum : sum_below (λ i. count_taken (late_of i) xs) n ≤ count_taken is_late xs
  unfolding late_of
  late-sum = count-sum is_late station_tested late_of (λ i x. refl) n xs

  crash-sum : sum_below (λ i. count_taken (crash_of i) xs) n ≤ count_taken crashes xs
  unfolding crash_of
  crash-sum = count-sum crashes (λ x. x.entry.station) crash_of (λ i x. refl) n xs

  -- where first no live station suspects a live one
  told-late : none_suspected n s.table ≡ true → (i : ℕ) → i < n → live n s.table i ≡ true → status n end.table i ≡ status_told → was_late i xs ≡ true
  told-late none i hi l two = let r = told-why i hi l two in in-list (late_of i) r.before (r.x ∷ r.rest) r.parts (r.late none)

  one-told : OneToldForEachLate n s calls end
  unfolding told_since
  one-told none = omega (arith, late-sum, sum-most (λ i. bit (gone i)) (λ i. count_taken (late_of i) xs) n each)
    where
      gone : ℕ → Bool
      gone i = live n s.table i && eqb (status n end.table i) status_told

      each : (i : ℕ) → i < n → bit (gone i) ≤ count_taken (late_of i) xs
      each i hi =
          by_bool (gone i)
          (λ e. let p = both _ _ e in rw e (any-counted (late_of i) xs (told-late none i hi p.0 (eqb-true _ status_told p.1))))
          (λ e. rw e (omega arith))

  -- where no reply is late
  none-late : NoneLate n s calls end
  unfolding late_of
  none-late none prompt = record {
    told = λ i hi l two. never i (told-late none i hi l two);
    alone = λ before x rest p three k hk d.
        let parts : xs ≡ (before ++ (x ∷ [])) ++ rest = p ∙ sym (append_assoc before (x ∷ []) rest) in
        by_bool (live n x.before.table k)
        (λ l. absurd (never k (in-list (late_of k) (before ++ (x ∷ [])) rest parts
        (late-cause n s.table none (before ++ (x ∷ [])) k hk ((exits before x rest p).alone three k hk d l))))) (λ e. e);
  }
    where
      never : (i : ℕ) → was_late i xs ≡ true → ⊥
      never i l = true≢false (sym l ∙ none-passes is_late (late_of i) (λ x e. (both (is_late x) _ e).0) xs prompt)

  -- a station that is neither late nor crashed, and what is set against the others
  abbrev quiet : ℕ → Bool
  quiet i = live n s.table i && (not (was_late i xs) && not (has_crashed i xs))

  abbrev charged : ℕ → ℕ
  charged i = count_taken (late_of i) xs + count_taken (crash_of i) xs

  charge : sum_below charged n ≤ count_taken is_late xs + count_taken crashes xs
  charge = omega (arith, sum-add (λ i. count_taken (late_of i) xs) (λ i. count_taken (crash_of i) xs) n, late-sum, crash-sum)

  quiet-is : (i : ℕ) → quiet i ≡ true → (live n s.table i ≡ true) × (was_late i xs ≡ false) × (has_crashed i xs ≡ false)
  quiet-is i e =
      let p = both (live n s.table i) (not (was_late i xs) && not (has_crashed i xs)) e in
      let q = both (not (was_late i xs)) (not (has_crashed i xs)) p.1 in
      (p.0, not-true (was_late i xs) q.0, not-true (has_crashed i xs) q.1)

  quiet-or-charged : (i : ℕ) → i < n → bit (live n s.table i) ≤ bit (quiet i) + charged i
  quiet-or-charged i hi =
      by_bool (was_late i xs) (λ e. rw e (omega (arith, any-counted (late_of i) xs e, bit-most (live n s.table i))))
      (λ e. by_bool (has_crashed i xs) (λ f. rw (e, f) (omega (arith, any-counted (crash_of i) xs f, bit-most (live n s.table i))))
      (λ f. by_bool (live n s.table i) (λ l. rw (l, e, f) (omega arith)) (λ l. rw l (omega arith))))

  -- where at least two more are live than there are late replies and crashes
  costs : OneForEachLate n s calls end
  unfolding live_count
  costs none enough = record {
    who = who;
    cost = omega (
      arith,
      charge,
      sum-add (λ i. bit (live n end.table i)) charged n,
      sum-most (λ i. bit (live n s.table i)) (λ i. bit (live n end.table i) + charged i) n paid,
    );
  }
    where
      two : 2 ≤ sum_below (λ i. bit (quiet i)) n
      two =
          omega (
            arith,
            enough,
            charge,
            sum-add (λ i. bit (quiet i)) charged n,
            sum-most (λ i. bit (live n s.table i)) (λ i. bit (quiet i) + charged i) n quiet-or-charged,
          )

      calm : Calm n quiet (two-hits quiet n two) s.table
      calm = record { picked = λ j hj p. (quiet-is j p).0; clean = λ j hj p. none-suspects n s.table none j hj }

      -- who is gone, and what that was
      Gone : ℕ → Type 0
      Gone i = ((status n end.table i ≡ status_told) × (was_late i xs ≡ true)) ⊎ ((status n end.table i ≡ status_crashed) × (has_crashed i xs ≡ true))

      who : (i : ℕ) → i < n → live n s.table i ≡ true → live n end.table i ≡ false → Gone i
      who i hi l d = by (calm-chain n quiet (two-hits quiet n two) chain calm (λ j p. ((quiet-is j p).1, (quiet-is j p).2)) i hi l)
        where
          by : Left n quiet (two-hits quiet n two) xs end i → Gone i
          by (stayed m) = absurd (true≢false (sym m ∙ d))
          by (left_told q) = inl (q, told-late none i hi l q)
          by (left_crashed q c) = inr (q, c)

      paid : (i : ℕ) → i < n → bit (live n s.table i) ≤ bit (live n end.table i) + charged i
      paid i hi =
          by_bool (live n s.table i)
          (λ l. by_bool (live n end.table i) (λ m. rw (l, m) (omega arith)) (λ m. rw (l, m) (by (who i hi l m)))) (λ l. rw l (omega arith))
        where
          by : Gone i → 1 ≤ 0 + charged i
          by (inl p) = omega (arith, any-counted (late_of i) xs p.1)
          by (inr p) = omega (arith, any-counted (crash_of i) xs p.1)

-- every list of runs
pub runs-accurate : RunsAccurate
runs-accurate n s calls long = record {
  only_late = only-late n s calls long;
  exits = exits n s calls long;
  told = told-why n s calls long;
  one_told = one-told n s calls long;
  none_late = none-late n s calls long;
  costs = costs n s calls long;
}

-- and those that mix runs and drives
pub mixed-accurate : MixedAccurate
mixed-accurate n s ys long = subst (Accurate n s (runs_of_mixed s ys)) (mixed-left s ys) (runs-accurate n s (runs_of_mixed s ys) long)

-- drives have no late reply
pub drives-tell-nobody : DrivesTellNobody
drives-tell-nobody w n s lasts long none =
    (mixed-accurate n s (map (a_drive (Ok w) n) lasts) long).none_late none (drives-pass w (λ x. not (is_late x)) (λ n s i. refl) n s lasts)

-- of the last one of a list
after-mixed-last : (s : State) (ys : List RunOrDrive) (y : RunOrDrive) → after_mixed s (ys ++ (y ∷ [])) ≡ after_one (after_mixed s ys) y
unfolding after_mixed
after-mixed-last s [] y = refl
after-mixed-last s (x ∷ ys) y = after-mixed-last (after_one s x) ys y

-- so that a run or drive promises it, wherever it stands behind others
pub last-accurate : (y : RunOrDrive) (before : State) → AccurateAfter y before (after_one before y)
last-accurate y before n s ys e long = rw (after-mixed-last s ys y, e) at (mixed-accurate n s (ys ++ (y ∷ [])) long)
