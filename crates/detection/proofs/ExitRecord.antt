-- The claims about lists of runs, and about those that mix runs and drives.
-- Assumes nothing.
use mathlib.Core.Path.{◌≡◌, refl, sym, subst, ◌∙◌}
use mathlib.Core.Bool.{true, false, cond}
use mathlib.Core.List.{List}
use Prim.Native.Nat.{ℕ, ◌+◌, min, ◌≤◌, ◌<◌}
use native.Mathlib.Omega.{arith}
use borrow.Author.Tests.{eqb-true, eqb-false}
use Rattle.lists.specs.Sums.{bit}
use Rattle.lists.proofs.BoolLaws.{by_bool}
use Rattle.table.specs.Table.{status_column, status, status_told, told_by, not_recorded, rounds_ago, rounds_ago_top, live}
use Rattle.table.specs.Rules.{round_over}
use Rattle.table.proofs.Accepting.{Accepted}
use Rattle.table.proofs.SizeLaws.{size-bounds}
use Rattle.table.proofs.CellLaws.{accepted-line, live_exit}
use Rattle.table.specs.declared.wiring.Wiring.{Wiring}
use Rattle.plant.specs.Round.{rounds_after, after_round}
use Rattle.plant.specs.Entry.{Entry, State, entry_check, acted, after}
use Rattle.plant.proofs.RoundLaws.{reset-ago, reset-other}
use Rattle.plant.proofs.RulesKept.{acted-lines}
use Rattle.detection.specs.Runs.{Taken}
use Rattle.detection.specs.Rounds.{count_taken}
use Rattle.detection.proofs.TakenLaws.{taken_at}
use Rattle.detection.proofs.Chain.{Chain, done, more, chain-all}
use Rattle.detection.proofs.DrivenDetection.{mixed-left}
use Rattle.detection.specs.Driven.{runs_of_mixed}
use Rattle.detection.specs.Ceased.{LeftTold, closes_round, rounds_closed, since_ceased, FirstTold, ExitRecord, ExitsRecorded, MixedExitsRecorded}
use Rattle.detection.proofs.Fates.{SameExit, Fate, stays, leaves, hears, after-fate, acted-ago}
use Rattle.std.specs.Prelude.{Ok}

-- one taken entry, and line k
module _ (w : Wiring) (n : ℕ) (s : State) (e : Entry) (ok : Accepted w n s.table) (z : entry_check n s e ≡ Ok tt) (k : ℕ) (h : k < n) where
  abbrev t : List ℕ
  t = s.table

  abbrev t' : List ℕ
  t' = (after w n s e).table

  -- byte 5 goes by whether the round closes, and whether the station is live after the entry
  ago-step : rounds_ago n t' k
      ≡ cond (round_over n (acted w n t e)) (cond (live n t' k) (rounds_ago n t k) (min (rounds_ago n t k + 1) rounds_ago_top)) (rounds_ago n t k)
  unfolding after after_round rounds_after
  ago-step =
      let v : List ℕ = acted w n t e in
      by_bool (round_over n v)
      (λ o.
      let stays-live = reset-other n v k status_column (omega arith) (λ p. omega arith) in
      rw (o, reset-ago n v (acted-lines w n s e ok z).0 k h, stays-live, acted-ago w n s e ok z k))
      (λ o. rw o (acted-ago w n s e ok z k))

  gone-step : live n t' k ≡ false → rounds_ago n t k ≤ rounds_ago_top
      → rounds_ago n t' k ≡ min (rounds_ago n t k + bit (closes_round (taken_at w n s e))) rounds_ago_top
  gone-step d small =
      by_bool (round_over n (acted w n t e)) (λ o. rw o (rw (o, d) at ago-step)) (λ o. rw o (omega (arith, rw o at ago-step)))

  -- of a live line it is 0
  live-ago : live n t k ≡ true → rounds_ago n t k ≡ 0
  live-ago l = (live_exit n k (told_by n t k) (rounds_ago n t k) (rw (eqb-true (status n t k) 0 l) at (accepted-line w n t ok k h).exits)).1

  -- a station that is not live stays so, and its byte 4 stays
  dead-step : live n t k ≡ false → SameExit n t t' k
  dead-step d = by-fate (after-fate w n s e ok z k h)
    where
      not-both : live n t k ≡ true → ⊥
      not-both l = omega (arith, eqb-true (status n t k) 0 l, eqb-false (status n t k) 0 d)

      by-fate : Fate n t t' k → SameExit n t t' k
      by-fate (stays p) = p
      by-fate (leaves l low untold p) = absurd (not-both l)
      by-fate (hears b hb l) = absurd (not-both l.was_live)

  -- 254 is not written
  unrecorded-step : told_by n t' k ≡ not_recorded → told_by n t k ≡ not_recorded
  unrecorded-step e' = by-fate (after-fate w n s e ok z k h)
    where
      by-fate : Fate n t t' k → told_by n t k ≡ not_recorded
      by-fate (stays p) = sym p.1 ∙ e'
      by-fate (leaves l low untold p) = sym p ∙ e'
      by-fate (hears b hb l) = absurd (omega (arith, l.named, size-bounds n ok.size))

  -- a live station that has status 2 after the entry was told
  told-step : live n t k ≡ true → live n t' k ≡ false → status n t' k ≡ status_told → LeftTold n t t' k (told_by n t' k)
  told-step l d two = by-fate (after-fate w n s e ok z k h)
    where
      by-fate : Fate n t t' k → LeftTold n t t' k (told_by n t' k)
      by-fate (stays p) = absurd (omega (arith, eqb-true (status n t k) 0 l, eqb-false (status n t' k) 0 d, p.0))
      by-fate (leaves a low untold p) = absurd (untold two)
      by-fate (hears b hb f) = rw f.named f

-- entries one behind the other
module _ {n : ℕ} (k : ℕ) (h : k < n) where
  pub dead-chain : {s s' : State} {xs : List Taken} → Chain n s xs s' → live n s.table k ≡ false → SameExit n s.table s'.table k
  dead-chain done d = (refl, refl)
  dead-chain (more {s} w e a z c) d =
      let one = dead-step w n s e a z k h d in
      let rest = dead-chain c (rw one.0 d) in
      (rest.0 ∙ one.0, rest.1 ∙ one.1)

  unrecorded-chain : {s s' : State} {xs : List Taken} → Chain n s xs s' → told_by n s'.table k ≡ not_recorded → told_by n s.table k ≡ not_recorded
  unrecorded-chain done e = e
  unrecorded-chain (more {s} w e a z c) f = unrecorded-step w n s e a z k h (unrecorded-chain c f)

  gone-chain : {s s' : State} {xs : List Taken} → Chain n s xs s' → live n s.table k ≡ false → rounds_ago n s.table k ≤ rounds_ago_top
      → rounds_ago n s'.table k ≡ min (rounds_ago n s.table k + rounds_closed xs) rounds_ago_top
  unfolding count_taken
  gone-chain done d small = omega arith
  gone-chain (more {s} w e a z c) d small =
      let d' : live n (after w n s e).table k ≡ false = rw (dead-step w n s e a z k h d).0 d in
      let one = gone-step w n s e a z k h d' small in
      omega (arith, gone-chain c d' (omega arith))

  ceased-chain : {s s' : State} {xs : List Taken} → Chain n s xs s' → live n s.table k ≡ true → live n s'.table k ≡ false
      → rounds_ago n s'.table k ≡ min (rounds_closed (since_ceased k xs)) rounds_ago_top
  unfolding count_taken since_ceased
  ceased-chain (done {s}) l d = absurd (omega (arith, eqb-true (status n s.table k) 0 l, eqb-false (status n s.table k) 0 d))
  ceased-chain (more {s} w e a z c) l d =
      by_bool (live n (after w n s e).table k) (λ m. rw m (ceased-chain c m d))
      (λ m.
      let zero = live-ago w n s e a z k h l in
      let one = gone-step w n s e a z k h m (omega arith) in
      rw m (omega (arith, gone-chain c m (omega arith))))

  told-chain : {s s' : State} {xs : List Taken} → Chain n s xs s' → live n s.table k ≡ true → status n s'.table k ≡ status_told
      → FirstTold n (since_ceased k xs) k (told_by n s'.table k)
  unfolding since_ceased
  told-chain (done {s}) l two = absurd (omega (arith, eqb-true (status n s.table k) 0 l))
  told-chain (more {s} w e a z c) l two =
      by_bool (live n (after w n s e).table k) (λ m. rw m (told-chain c m two))
      (λ m.
      let same = dead-chain c m in
      rw (m, same.1) (told-step w n s e a z k h l m (sym same.0 ∙ two)))

-- the tally of rounds
tally-step : (w : Wiring) (n : ℕ) (s : State) (e : Entry) → (after w n s e).rounds ≡ s.rounds + bit (closes_round (taken_at w n s e))
unfolding after
tally-step w n s e = by_bool (round_over n (acted w n s.table e)) (λ o. rw o) (λ o. rw o (omega arith))

tally-chain : {n : ℕ} {s s' : State} {xs : List Taken} → Chain n s xs s' → s'.rounds ≡ s.rounds + rounds_closed xs
unfolding count_taken
tally-chain done = omega arith
tally-chain {n} (more {s} w e a z c) = omega (arith, tally-chain c, tally-step w n s e)

-- the claims, ends in themselves
pub exits-recorded : ExitsRecorded
exits-recorded n s calls long =
    let c = chain-all n s calls long in
    record {
      unrecorded = λ i h. unrecorded-chain i h c;
      kept = λ i h. dead-chain i h c;
      told = λ i h. told-chain i h c;
      gone = λ i h. gone-chain i h c;
      ceased = λ i h. ceased-chain i h c;
      tallied = tally-chain c;
    }

pub mixed-exits-recorded : MixedExitsRecorded
mixed-exits-recorded n s xs long = subst (ExitRecord n s (runs_of_mixed s xs)) (mixed-left s xs) (exits-recorded n s (runs_of_mixed s xs) long)
