-- Stations whose replies are never late and that do not crash stay live as long as there are two of them, and then nobody leaves because alone.
-- Assumes nothing.
use mathlib.Core.Path.{◌≡◌, sym, ◌∙◌}
use mathlib.Core.Logic.{◌≢◌, inl, inr}
use mathlib.Core.Bool.{Bool, true, false, or-true, true≢false}
use mathlib.Core.List.{List, ◌∷◌}
use Prim.Native.Nat.{ℕ, ◌<◌}
use Rattle.table.specs.Table.{status, status_crashed, status_told, suspects, live}
use Rattle.lists.proofs.BoolLaws.{neither}
use Rattle.table.proofs.Accepting.{Accepted}
use Rattle.table.specs.declared.wiring.Wiring.{Wiring}
use Rattle.plant.specs.Entry.{Entry, State, entry_check, after}
use Rattle.detection.specs.Runs.{Taken}
use Rattle.detection.specs.Rounds.{any_taken}
use Rattle.detection.proofs.TakenLaws.{taken_at}
use Rattle.detection.proofs.Chain.{Chain, done, more}
use Rattle.detection.proofs.Fates.{was-live}
use Rattle.detection.proofs.ExitRecord.{dead-chain}
use Rattle.accuracy.specs.Cause.{IsSuspected, late_of, was_late, crash_of, has_crashed}
use Rattle.accuracy.proofs.Step.{CauseAt, Fared, lives, crashed, told, alone, new-suspicion, fared}
use Rattle.std.specs.Prelude.{Ok}

-- q picks those stations: for each station there is another of them
module _ (n : ℕ) (q : ℕ → Bool) (others : (i : ℕ) → (j : ℕ) × (j < n) × (i ≢ j) × (q j ≡ true)) where
  -- they are live, and no live station suspects one of them
  pub record Calm (t : List ℕ) : Type 0 where
    pub picked : (j : ℕ) → j < n → q j ≡ true → live n t j ≡ true
    pub clean : (j : ℕ) → j < n → q j ≡ true → IsSuspected n t j → ⊥

  -- what became of station i, which was live, with the entries: it is live, was told, or crashed
  pub data Left (xs : List Taken) (s' : State) (i : ℕ) : Type 0 where
    stayed : live n s'.table i ≡ true → Left xs s' i
    left_told : status n s'.table i ≡ status_told → Left xs s' i
    left_crashed : status n s'.table i ≡ status_crashed → has_crashed i xs ≡ true → Left xs s' i

  module _ (w : Wiring) (s : State) (e : Entry) (ok : Accepted w n s.table) (z : entry_check n s e ≡ Ok tt) (calm : Calm s.table)
      (quiet : (j : ℕ) → q j ≡ true → (late_of j (taken_at w n s e) ≡ false) × (crash_of j (taken_at w n s e) ≡ false)) where
    abbrev t' : List ℕ
    t' = (after w n s e).table

    -- no live station suspects one of them after the entry
    still-clean : (k j : ℕ) → k < n → j < n → q j ≡ true → live n s.table k ≡ true → suspects n t' k j ≡ 1 → ⊥
    still-clean k j hk hj p lk one = by (new-suspicion w n s e ok z k j hk hj lk (calm.picked j hj p) one)
      where
        by : CauseAt w n s e j → ⊥
        by (inl r) = calm.clean j hj p r
        by (inr l) = true≢false (sym l ∙ (quiet j p).0)

    -- so that nobody is alone
    accompanied : (k : ℕ) → k < n → live n s.table k ≡ true → ((x : ℕ) → x < n → x ≢ k → suspects n t' k x ≡ 1) → ⊥
    accompanied k hk lk all =
        let o = others k in
        still-clean k o.0 hk o.1 o.3 lk (all o.0 o.1 (λ r. o.2 (sym r)))

    calm-step : Calm t'
    calm-step = record {
      picked = λ j hj p. by j hj p (fared w n s e ok z j hj (calm.picked j hj p));
      clean = λ j hj p r. still-clean r.0 j r.1 hj p (was-live w n s e ok z r.0 r.1 r.2.by_live) r.2.suspected;
    }
      where
        by : (j : ℕ) → j < n → q j ≡ true → Fared w n s e j → live n t' j ≡ true
        by j hj p (lives l) = l
        by j hj p (crashed c one) = absurd (true≢false (sym c ∙ (quiet j p).1))
        by j hj p (told two r) = absurd (calm.clean j hj p r)
        by j hj p (alone r three all) = absurd (accompanied j hj (calm.picked j hj p) all)

  pub calm-chain : {s s' : State} {xs : List Taken} → Chain n s xs s' → Calm s.table
      → ((j : ℕ) → q j ≡ true → (was_late j xs ≡ false) × (has_crashed j xs ≡ false))
      → (i : ℕ) → i < n → live n s.table i ≡ true → Left xs s' i
  unfolding any_taken
  calm-chain done calm quiet i hi l = stayed l
  calm-chain {s' = s'} (more {s} {xs = xs} w e a z c) calm quiet i hi l =
      by (fared w n s e a z i hi l) (λ m. calm-chain c (calm-step w s e a z calm first) rest i hi m)
    where
      x : Taken
      x = taken_at w n s e

      first : (j : ℕ) → q j ≡ true → (late_of j x ≡ false) × (crash_of j x ≡ false)
      first j p = (
        (neither (late_of j x) (was_late j xs) (quiet j p).0).0,
        (neither (crash_of j x) (has_crashed j xs) (quiet j p).1).0,
      )

      rest : (j : ℕ) → q j ≡ true → (was_late j xs ≡ false) × (has_crashed j xs ≡ false)
      rest j p = (
        (neither (late_of j x) (was_late j xs) (quiet j p).0).1,
        (neither (crash_of j x) (has_crashed j xs) (quiet j p).1).1,
      )

      on : Left xs s' i → Left (x ∷ xs) s' i
      on (stayed m) = stayed m
      on (left_told two) = left_told two
      on (left_crashed one d) = left_crashed one (rw (d, or-true))

      by : Fared w n s e i → (live n (after w n s e).table i ≡ true → Left xs s' i) → Left (x ∷ xs) s' i
      by (lives m) later = on (later m)
      by (crashed d one) later = left_crashed ((dead-chain i hi c (rw one)).0 ∙ one) (rw d)
      by (told two r) later = left_told ((dead-chain i hi c (rw two)).0 ∙ two)
      by (alone r three all) later = absurd (accompanied w s e a z calm first i hi l all)
