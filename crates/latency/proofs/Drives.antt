-- The claims of drives: their grants, each with its turn, are a chain of taken entries.
-- Assumes nothing.
use mathlib.Core.Path.{◌≡◌, refl, ap, ◌∙◌}
use mathlib.Core.Logic.{◌⊎◌, inl, inr}
use mathlib.Core.Bool.{false, not}
use mathlib.Core.List.{List, [], ◌∷◌, ◌++◌}
use Prim.Native.Nat.{ℕ, zero, suc, ◌+◌, ◌≤◌, ◌<◌}
use native.Mathlib.Omega.{arith}
use lib.ListN.{length, length-append}
use Rattle.table.specs.Table.{live}
use Rattle.table.proofs.Accepting.{Accepted, accepted}
use Rattle.table.specs.declared.wiring.Wiring.{Wiring}
use Rattle.plant.specs.Turn.{kind_turn}
use Rattle.plant.specs.Entry.{State, entry_of, entry_check, after}
use Rattle.granter.specs.Grant.{grant_check}
use Rattle.granter.specs.Drive.{Stand, stand_at, granted_at, grant_turn, after_grants, stops, grants_made, outcome_after, drive}
use Rattle.granter.proofs.GrantLaws.{Grantable, grantable}
use Rattle.granter.proofs.DriveLaws.{Driving, not_stopped, not-ended, next-taken}
use Rattle.granter.proofs.Stops.{drive-stops}
use Rattle.detection.specs.Runs.{Taken, crashes, is_late}
use Rattle.detection.specs.Rounds.{all_taken, cut}
use Rattle.detection.specs.Claim.{DetectionPremises, AllKnow}
use Rattle.detection.specs.Driven.{after_mixed, after_drives}
use Rattle.detection.proofs.TakenLaws.{taken_at}
use Rattle.detection.proofs.OneTurn.{all_append}
use Rattle.detection.proofs.Chain.{WiredChain, ends, next, chain_first}
use Rattle.detection.proofs.DriveRuns.{driving-at}
use Rattle.detection.proofs.RoundKnowledge.{InRound}
use Rattle.detection.proofs.DetectionClaim.{trusts, plain-at, first_round}
use Rattle.latency.specs.Bound.{turns_per_round, turns_until_known, DriveWithin, grants_of, DrivesKnownWithin}
use Rattle.latency.specs.Crash.{DrivesKnownFromAnyMoment}
use Rattle.latency.proofs.Known.{Quiet, Facts, facts, known-from-now}
use Rattle.std.specs.Prelude.{Ok}
use Rattle.lists.proofs.RefusalLaws.{by_check}

-- two chains, one behind the other
wired-append : {w : Wiring} {n : ℕ} {s s' s'' : State} {xs ys : List Taken} → WiredChain w n s xs s'
    → WiredChain w n s' ys s'' → WiredChain w n s (xs ++ ys) s''
wired-append ends d = d
wired-append (next e a z c) d = next e a z (wired-append c d)

-- from s to s' by so many turns of kind 1
record Turns (w : Wiring) (n : ℕ) (s s' : State) (k : ℕ) : Type 0 where
  pub taken : List Taken
  pub chain : WiredChain w n s taken s'
  pub quiet : Quiet taken
  pub long : length taken ≡ k

no-turns : (w : Wiring) (n : ℕ) (s : State) → Turns w n s s 0
unfolding all_taken
no-turns w n s = record { taken = []; chain = ends; quiet = record { no_crash = refl; no_late = refl }; long = refl }

more-turns : {w : Wiring} {n : ℕ} {s s' s'' : State} {j k : ℕ} → Turns w n s s' j → Turns w n s' s'' k → Turns w n s s'' (j + k)
more-turns a b = record {
  taken = a.taken ++ b.taken;
  chain = wired-append a.chain b.chain;
  quiet = record {
    no_crash = all_append (λ x. not (crashes x)) a.taken b.taken a.quiet.no_crash b.quiet.no_crash;
    no_late = all_append (λ x. not (is_late x)) a.taken b.taken a.quiet.no_late b.quiet.no_late;
  };
  long = omega (arith, length-append a.taken b.taken, a.long, b.long);
}

so-many : {w : Wiring} {n : ℕ} {s s' : State} {j k : ℕ} → Turns w n s s' j → j ≡ k → Turns w n s s' k
so-many a e = record { taken = a.taken; chain = a.chain; quiet = a.quiet; long = a.long ∙ e }

one-turn : (w : Wiring) (n : ℕ) (s : State) (i : ℕ) → Accepted w n s.table → entry_check n s (entry_of kind_turn i) ≡ Ok tt
    → Turns w n s (after w n s (entry_of kind_turn i)) 1
unfolding all_taken
one-turn w n s i ok z = record {
  taken = taken_at w n s (entry_of kind_turn i) ∷ [];
  chain = next (entry_of kind_turn i) ok z ends;
  quiet = record { no_crash = refl; no_late = refl };
  long = refl;
}

-- as long as a drive does not stop
grants-turns : (w : Wiring) (n : ℕ) (s : State) (last : ℕ) → Grantable w n s.table last → (k : ℕ)
    → ((j : ℕ) → j < k → stops w n (stand_at s last) j ≡ false)
    → Turns w n s (after_grants w n (stand_at s last) k).state k
unfolding after_grants grant_turn
grants-turns w n s last g zero going = no-turns w n s
grants-turns w n s last g (suc k) going =
    let p : Stand = stand_at s last in
    let d : Driving w n p k = driving-at w n s last g k going in
    let z = next-taken w n p k d (not_stopped w n p k (going k (omega arith))).1 in
    let before = grants-turns w n s last g k (λ j l. going j (omega arith)) in
    so-many (more-turns before (one-turn w n (after_grants w n p k).state (granted_at n (after_grants w n p k)) d.ok z)) (omega arith)

-- a whole drive
drive-turns : (w : Wiring) (n : ℕ) (s : State) (last : ℕ) → Turns w n s (drive w n s last).state (drive w n s last).grants
unfolding drive outcome_after
drive-turns w n s last =
    by_check (grant_check w n s.table last)
    (λ z. rw z (grants-turns w n s last (grantable w n s.table last z) (grants_made w n (stand_at s last)) (drive-stops w n s last z).first))
    (λ r z. rw z (no-turns w n s))

-- drives
drives-turns : (w : Wiring) (n : ℕ) (s : State) (lasts : List ℕ) → Turns w n s (after_drives w n s lasts) (grants_of w n s lasts)
unfolding after_mixed grants_of
drives-turns w n s [] = no-turns w n s
drives-turns w n s (last ∷ lasts) =
    so-many (more-turns (drive-turns w n s last) (drives-turns w n (drive w n s last).state lasts)) (omega arith)

-- a drive from the start of a round: with all its grants but the last the round is still open
module _ (w : Wiring) (n : ℕ) (s : State) (given : DetectionPremises w n s []) where
  shown : Facts w n s.table
  shown = facts w n s.table given.size given.two_live

  inv : Accepted w n s.table → InRound w n (live n s.table) s.table [] s.table
  inv ok = first_round w n s.table ok given.start (trusts w n s.table ok given.accurate)

  module _ (last : ℕ) (g : Grantable w n s.table last) where
    few : (k : ℕ) → ((j : ℕ) → j < k → stops w n (stand_at s last) j ≡ false) → k ≤ turns_per_round w n s.table
    few zero going = omega arith
    few (suc k) going =
        let p : Stand = stand_at s last in
        let t = grants-turns w n s last g k (λ j l. going j (omega arith)) in
        let still = (not-ended n s.rounds (after_grants w n p k).state (not_stopped w n p k (going k (omega arith))).0).0 in
        let none : length (cut [] t.taken).closed ≡ 0 = omega (arith, shown.tally t.chain (inv g.ok) t.quiet) in
        let room = rw (none, t.long) at (shown.room t.chain g.ok (inv g.ok) t.quiet) in
        omega (arith, room)

  drive-few : (last : ℕ) → (drive w n s last).grants ≤ turns_per_round w n s.table
  unfolding drive outcome_after
  drive-few last =
      by_check (grant_check w n s.table last)
      (λ z. rw z (few last (grantable w n s.table last z) (grants_made w n (stand_at s last)) (drive-stops w n s last z).first))
      (λ r z. rw z (omega arith))

  drives-known : (lasts : List ℕ) → turns_until_known w n s.table ≤ grants_of w n s lasts → AllKnow n s.table (after_drives w n s lasts).table
  drives-known lasts far = go (chain_first t.chain)
    where
      t : Turns w n s (after_drives w n s lasts) (grants_of w n s lasts)
      t = drives-turns w n s lasts

      go : ((t.taken ≡ []) × (after_drives w n s lasts ≡ s)) ⊎ Accepted w n s.table → AllKnow n s.table (after_drives w n s lasts).table
      go (inl none) = absurd (omega (arith, shown.some, t.long, ap length none.0))
      go (inr ok) =
          shown.known (record { from = s; chain = t.chain; ok = ok; inv = inv ok; quiet = t.quiet; enough = omega (arith, t.long) })

-- ends in themselves
pub drive-within : DriveWithin
drive-within w n s last given = drive-few w n s given last

pub drives-known-within : DrivesKnownWithin
drives-known-within w n s lasts given far = drives-known w n s given lasts far

pub drives-known-from-any-moment : DrivesKnownFromAnyMoment
drives-known-from-any-moment w n s lasts given far =
    let ok = accepted w n s.table given.accepted in
    let t = drives-turns w n s lasts in
    let plain = plain-at w n s.table ok (trusts w n s.table ok given.accurate) in
    known-from-now w n s.table ok.size given.two_live t.chain plain t.quiet (omega (arith, t.long))
