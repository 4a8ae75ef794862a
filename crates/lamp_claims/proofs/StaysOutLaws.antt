-- A lamp that is out begins the wait of the detection claim, and stays out.
-- Assumes nothing.
use mathlib.Core.Path.{◌≡◌, refl, sym, ◌∙◌}
use mathlib.Core.Logic.{◌⊎◌, inl, inr}
use mathlib.Core.Bool.{Bool, true}
use mathlib.Core.List.{List, []}
use Prim.Native.Nat.{ℕ, ◌<◌}
use Rattle.std.specs.Prelude.{None, Ok}
use Rattle.lists.specs.Search.{every}
use Rattle.lists.specs.Refusal.{◌and◌}
use Rattle.lists.proofs.SearchLaws.{every-all}
use Rattle.lists.proofs.BoolLaws.{by_bool}
use Rattle.table.specs.Table.{live}
use Rattle.table.specs.Rules.{table_check}
use Rattle.table.specs.Properties.{no_live_suspicion, none_suspected}
use Rattle.table.proofs.Accepting.{Accepted, table_ok}
use Rattle.table.specs.declared.wiring.Wiring.{Wiring}
use Rattle.table.specs.declared.wiring.Wiring.TheVariants.{Cube, Ring}
use Rattle.plant.specs.Entry.{State}
use Rattle.plant.proofs.RulesKept.{accepted-kept}
use Rattle.plant.proofs.RunLaws.{accepted-number}
use Rattle.detection.specs.Runs.{Call, Taken, taken_all, after_runs}
use Rattle.detection.specs.Claim.{Detection, DetectionPremises}
use Rattle.detection.specs.Driven.{runs_of_mixed}
use Rattle.detection.proofs.Chain.{WiredChain, ends, next, on-wiring, chain-all, chain_first}
use Rattle.detection.proofs.TurnEffect.{Plain}
use Rattle.detection.proofs.RoundKnowledge.{RoundKnowledge}
use Rattle.detection.proofs.DetectionClaim.{rounds-from, ring-of}
use Rattle.detection.proofs.Cube.{cube}
use Rattle.detection.proofs.DrivenDetection.{mixed-left}
use Rattle.lamp.specs.Doubt.{doubt_lamp}
use Rattle.lamp.proofs.DoubtLaws.{accurate-none, out-is, is-out}
use Rattle.lamp_claims.specs.Wait.{OutMeetsPremises, OutBeginsWait, StaysOut, MixedStaysOut}

-- the conditions of a lamp that is out are the detection conditions
pub out-meets-premises : OutMeetsPremises
out-meets-premises w n s calls given =
    let out = out-is w n s.table given.out in
    let ok = table_ok w n s.table tt out.0 in
    record {
      size = ok.size;
      long = ok.long;
      start = given.start;
      two_live = given.two_live;
      accurate = out.1;
      one_wiring = given.one_wiring;
      no_crash = given.no_crash;
      no_late = given.no_late;
    }

-- so what is claimed under those holds under these
pub out-begins-wait : (rounds : Wiring → ℕ → ℕ) → Detection rounds → OutBeginsWait rounds
out-begins-wait rounds claim w n s calls given = claim w n s calls (out-meets-premises w n s calls given)

-- a chain of taken entries keeps the line rules
chain-accepted : {w : Wiring} {n : ℕ} {s s' : State} {xs : List Taken} → WiredChain w n s xs s' → Accepted w n s.table → Accepted w n s'.table
chain-accepted ends ok = ok
chain-accepted {w} {n} (next {s} e a z c) ok = chain-accepted c (accepted-kept w n s e a z)

check-ok : (w : Wiring) (n : ℕ) (t : List ℕ) → Accepted w n t → table_check w n t ≡ Ok tt
check-ok w n t ok = accepted-number w n t ok

-- a table of which the proof of detection speaks is accurate
plain-accurate : (w : Wiring) (n : ℕ) (L : ℕ → Bool) (t : List ℕ) → Plain w n L t → none_suspected n t ≡ true
unfolding none_suspected
plain-accurate w n L t p =
    every-all (λ i. every (no_live_suspicion n t i) n) n (λ i h. every-all (no_live_suspicion n t i) n (λ j g. at i h j g))
  where
    at : (i : ℕ) → i < n → (j : ℕ) → j < n → no_live_suspicion n t i j ≡ true
    at i h j g =
        by_bool (live n t i)
        (λ e. by_bool (live n t j)
        (λ f. rw (e, f, p.accurate i j h g (sym (p.lives i h) ∙ e) (sym (p.lives j g) ∙ f)) refl)
        (λ f. rw (e, f) refl))
        (λ e. rw (e) refl)

-- after a list on each wiring, given the rounds of the claim there
module _ (w : Wiring) (n : ℕ) (s : State) (calls : List Call) (given : DetectionPremises w n s calls) where
  chain : WiredChain w n s (taken_all s calls) (after_runs s calls)
  chain = on-wiring (chain-all n s calls given.long) given.one_wiring

  stays-by : RoundKnowledge w n (live n s.table) → doubt_lamp w n (after_runs s calls).table ≡ (table_check w n s.table and Ok None)
  unfolding doubt_lamp
  stays-by K = go (chain_first chain)
    where
      go : ((taken_all s calls ≡ []) × (after_runs s calls ≡ s)) ⊎ Accepted w n s.table
          → doubt_lamp w n (after_runs s calls).table ≡ (table_check w n s.table and Ok None)
      go (inl e) = rw (e.1, accurate-none n s.table given.accurate) refl
      go (inr ok) =
          let after = (after_runs s calls).table in
          let kept = check-ok w n after (chain-accepted chain ok) in
          let none = plain-accurate w n (live n s.table) after (rounds-from w n s calls given ok K).0.plain in
          let out = is-out w n after kept none in
          out ∙ rw (check-ok w n s.table ok) refl

pub stays-out : StaysOut
stays-out Cube n s calls given = stays-by Cube n s calls given (cube n s.table given.size)
stays-out Ring n s calls given = stays-by Ring n s calls given (ring-of n s calls given)

pub mixed-stays-out : MixedStaysOut
mixed-stays-out w n s xs given = rw (← mixed-left s xs) (stays-out w n s (runs_of_mixed s xs) given)
