-- The claims of lists of runs, and of lists that mix runs and drives.
-- Assumes nothing.
use mathlib.Core.Path.{◌≡◌, subst}
use mathlib.Core.Logic.{◌⊎◌, inl, inr}
use mathlib.Core.List.{List, []}
use Prim.Native.Nat.{ℕ, ◌≤◌}
use native.Mathlib.Omega.{arith}
use lib.ListN.{length}
use Rattle.table.specs.Table.{live}
use Rattle.table.proofs.Accepting.{Accepted, accepted}
use Rattle.table.specs.declared.wiring.Wiring.{Wiring}
use Rattle.plant.specs.Entry.{State}
use Rattle.detection.specs.Runs.{Call, after_runs, taken_all}
use Rattle.detection.specs.Rounds.{count_taken, cut}
use Rattle.detection.specs.Claim.{rounds_of, round_at, DetectionPremises, AllKnow}
use Rattle.detection.specs.Driven.{runs_of_mixed}
use Rattle.detection.proofs.Chain.{WiredChain, on-wiring, chain_first, chain-all}
use Rattle.detection.proofs.RoundKnowledge.{InRound}
use Rattle.detection.proofs.DetectionClaim.{trusts, plain-at, first_round}
use Rattle.detection.proofs.DrivenDetection.{mixed-left}
use Rattle.latency.specs.Bound.{turns_until_known, RoundWithin, RoundsWithin, KnownWithin, MixedKnownWithin}
use Rattle.latency.specs.Crash.{KnownFromAnyMoment}
use Rattle.latency.proofs.Known.{Quiet, Facts, facts, known-from-now}

-- from the start of a round on
module _ (w : Wiring) (n : ℕ) (s : State) (calls : List Call) (given : DetectionPremises w n s calls) where
  chain : WiredChain w n s (taken_all s calls) (after_runs s calls)
  chain = on-wiring (chain-all n s calls given.long) given.one_wiring

  quiet : Quiet (taken_all s calls)
  quiet = record { no_crash = given.no_crash; no_late = given.no_late }

  inv : Accepted w n s.table → InRound w n (live n s.table) s.table [] s.table
  inv ok = first_round w n s.table ok given.start (trusts w n s.table ok given.accurate)

  shown : Facts w n s.table
  shown = facts w n s.table given.size given.two_live

  rounds-in : (k : ℕ) → k ≤ length (rounds_of s calls).closed → RoundWithin w n s.table (round_at s calls k)
  unfolding cut count_taken
  rounds-in k h = go (chain_first chain)
    where
      go : ((taken_all s calls ≡ []) × (after_runs s calls ≡ s)) ⊎ Accepted w n s.table → RoundWithin w n s.table (round_at s calls k)
      go (inl none) =
          let first : k ≡ 0 = omega (arith, rw none.0 at h) in
          rw (first, none.0) (record { tests = omega arith; turns = omega arith })
      go (inr ok) = shown.each chain ok (inv ok) quiet k h

  known-in : turns_until_known w n s.table ≤ length (taken_all s calls) → AllKnow n s.table (after_runs s calls).table
  known-in far = go (chain_first chain)
    where
      go : ((taken_all s calls ≡ []) × (after_runs s calls ≡ s)) ⊎ Accepted w n s.table → AllKnow n s.table (after_runs s calls).table
      go (inl none) = absurd (omega (arith, shown.some, rw none.0 at far))
      go (inr ok) = shown.known (record { from = s; chain = chain; ok = ok; inv = inv ok; quiet = quiet; enough = omega (arith, far) })

-- ends in themselves
pub rounds-within-list : RoundsWithin
rounds-within-list w n s calls given k h = rounds-in w n s calls given k h

pub known-within : KnownWithin
known-within w n s calls given far = known-in w n s calls given (omega (arith, far))

pub mixed-known-within : MixedKnownWithin
mixed-known-within w n s xs given far =
    subst (λ (e : State). AllKnow n s.table e.table) (mixed-left s xs) (known-in w n s (runs_of_mixed s xs) given (omega (arith, far)))

-- from any moment on
pub known-from-any-moment : KnownFromAnyMoment
known-from-any-moment w n s calls given far =
    let ok = accepted w n s.table given.accepted in
    let chain = on-wiring (chain-all n s calls ok.long) given.one_wiring in
    let plain = plain-at w n s.table ok (trusts w n s.table ok given.accurate) in
    let quiet : Quiet (taken_all s calls) = record { no_crash = given.no_crash; no_late = given.no_late } in
    known-from-now w n s.table ok.size given.two_live chain plain quiet (omega (arith, far))
