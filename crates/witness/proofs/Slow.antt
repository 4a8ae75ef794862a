-- Turns that are all taken, and a plant whose turns leave a dead board unsuspected one round before the worst-case latency: there no fewer rounds
-- are enough.
-- Assumes nothing.
use mathlib.Core.Path.{◌≡◌, refl, ap, ◌∙◌}
use mathlib.Core.Logic.{by_cases}
use mathlib.Core.Bool.{Bool, true, not}
use mathlib.Core.List.{List, [], ◌∷◌, ◌++◌, map}
use Prim.Native.Nat.{ℕ, suc, ◌+◌, ◌<◌}
use native.Mathlib.Decide.{dec_lt}
use native.Mathlib.Omega.{arith}
use Rattle.lists.specs.Sums.{bit}
use Rattle.table.specs.Table.{suspects, live}
use Rattle.table.specs.Rules.{not_live, table_check}
use Rattle.table.proofs.Accepting.{Accepted, accepted}
use Rattle.table.specs.declared.wiring.Wiring.{Wiring}
use Rattle.plant.specs.Turn.{kind_turn}
use Rattle.plant.specs.Entry.{State, entry_of, entry_check, after}
use Rattle.plant.proofs.RulesKept.{accepted-kept}
use Rattle.plant.proofs.RunLaws.{accepted-number}
use Rattle.detection.specs.Runs.{Call, Taken, turn_run, after_runs, taken_all, crashes, is_late, is_on}
use Rattle.detection.specs.Rounds.{all_taken}
use Rattle.detection.specs.Claim.{DetectionPremises, worst_rounds}
use Rattle.detection.proofs.TakenLaws.{taken_at}
use Rattle.detection.proofs.DetectionClaim.{detection-in-worst-case}
use Rattle.detection.proofs.OneTurn.{one_left, runs_append, one_passes}
use Rattle.witness.specs.WorstCase.{WorstCaseAt}
use Rattle.table.proofs.WiringLaws.{same-itself}
use Rattle.std.specs.Prelude.{Ok}

-- turns of the boards listed, each taken, from a state to a state
pub data Goes (w : Wiring) (n : ℕ) : State → List ℕ → State → Type 0 where
  stop : {s : State} → Goes w n s [] s
  go : {s s' : State} {is : List ℕ} (i : ℕ) → entry_check n s (entry_of kind_turn i) ≡ Ok tt → Goes w n (after w n s (entry_of kind_turn i)) is s'
      → Goes w n s (i ∷ is) s'

-- two such lists, one behind the other
pub goes-append : {w : Wiring} {n : ℕ} {s s' s'' : State} {a b : List ℕ} → Goes w n s a s' → Goes w n s' b s'' → Goes w n s (a ++ b) s''
goes-append stop d = d
goes-append (go i z g) d = go i z (goes-append g d)

-- they are a list of runs of one turn each
goes-runs : {w : Wiring} {n : ℕ} {s s' : State} {is : List ℕ} → Goes w n s is s' → Accepted w n s.table → after_runs s (map (turn_run w n) is) ≡ s'
unfolding after_runs
goes-runs stop ok = refl
goes-runs {w} {n} (go {s} {is = is} i z g) ok =
    ap (λ (u : State). after_runs u (map (turn_run w n) is)) (one_left w n s i (accepted-number w n s.table ok) z)
    ∙ goes-runs g (accepted-kept w n s (entry_of kind_turn i) ok z)

turns-pass : (w : Wiring) (q : Taken → Bool) → ((n : ℕ) (s : State) (i : ℕ) → q (taken_at w n s (entry_of kind_turn i)) ≡ true)
    → (n : ℕ) (s : State) (is : List ℕ) → all_taken q (taken_all s (map (turn_run w n) is)) ≡ true
unfolding taken_all all_taken
turns-pass w q turns n s [] = refl
turns-pass w q turns n s (i ∷ is) =
    runs_append q s (turn_run w n i ∷ []) (map (turn_run w n) is) (one_passes w q turns n s i)
    (turns-pass w q turns n (after_runs s (turn_run w n i ∷ [])) is)

-- a table that the claim describes, turns with which one round less than the worst-case latency closes, and a live board that does not suspect a
-- dead one then
pub record Slow (w : Wiring) (n : ℕ) : Type 0 where
  pub first : State
  pub ok : table_check w n first.table ≡ Ok tt
  pub premises : DetectionPremises w n first []
  pub turns : List ℕ
  pub last : State
  pub goes : Goes w n first turns last
  pub rounds : suc last.rounds ≡ first.rounds + worst_rounds w n
  pub board : ℕ
  pub board_below : board < n
  pub board_live : live n first.table board ≡ true
  pub missed : ℕ
  pub missed_below : missed < n
  pub missed_dead : not_live n first.table missed ≡ true
  pub unseen : suspects n last.table board missed ≡ 0

-- were fewer rounds enough, the live board would suspect the dead one
pub slow-worst-case : (w : Wiring) (n : ℕ) → Slow w n → WorstCaseAt w n
slow-worst-case w n p enough exact = by_cases (dec_lt enough (worst_rounds w n)) (λ l. absurd (early l)) (λ l. omega arith)
  where
    calls : List Call
    calls = map (turn_run w n) p.turns

    given : DetectionPremises w n p.first calls
    given = record {
      size = p.premises.size;
      long = p.premises.long;
      start = p.premises.start;
      two_live = p.premises.two_live;
      accurate = p.premises.accurate;
      one_wiring = turns-pass w (is_on w) (λ n s i. same-itself w) n p.first p.turns;
      no_crash = turns-pass w (λ x. not (crashes x)) (λ n s i. refl) n p.first p.turns;
      no_late = turns-pass w (λ x. not (is_late x)) (λ n s i. refl) n p.first p.turns;
    }

    early : enough < worst_rounds w n → ⊥
    early l =
        let end = goes-runs p.goes (accepted w n p.first.table p.ok) in
        let tally = rw end at (detection-in-worst-case w n p.first calls given).rounds_tally in
        let known =
        rw end at (exact p.first calls given (omega (arith, tally, p.rounds)) p.board p.missed p.board_below p.missed_below p.board_live) in
        omega (arith, known, p.unseen, ap bit p.missed_dead)
