-- Grants with their turns, of any kinds, and every drive that is not refused at its start, end within n·n grants.
-- Assumes nothing.
use mathlib.Core.Path.{◌≡◌, refl, sym, ◌∙◌}
use mathlib.Core.Bool.{true, false}
use Prim.Native.Nat.{ℕ, zero, suc, ◌+◌, ◌*◌, ◌≤◌}
use native.Mathlib.Decide.{dec_lt}
use mathlib.Core.Logic.{◌⊎◌, inl, inr, by_cases}
use native.Mathlib.Omega.{arith}
use lib.Dec.{eqb}
use Rattle.lists.proofs.BoolLaws.{by_bool}
use Rattle.table.specs.Rules.{some_live}
use Rattle.table.proofs.Accepting.{Accepted}
use Rattle.table.specs.declared.wiring.Wiring.{Wiring}
use Rattle.plant.specs.Turn.{kind_turn, kind_late, kind_crash}
use Rattle.plant.specs.Entry.{State}
use Rattle.plant.proofs.RulesKept.{accepted-kept}
use Rattle.granter.specs.Drive.{Stand, stand_at, grant_turn, after_grants, ended_after, full_after, Stopped}
use Rattle.granter.proofs.GrantLaws.{grantable}
use Rattle.granter.proofs.TurnsLeft.{all_left}
use Rattle.granter.proofs.DriveLaws.{Driving, not-ended, driving-start, turn-fewer, fewer-after, next-within, next-driving}
use Rattle.granter.proofs.DriveLaws.{stopped-full, stopped-ended, made-is}
use Rattle.granter.specs.Within.{TurnKinds, after_turns, over_after, NoneRefused, RoundEndsInSquare, KindOneIsDriven, DriveStops}

-- from k grants on, with so many grants left to n·n
search-on : (w : Wiring) (n : ℕ) (p : Stand) (left k : ℕ) → k + left ≡ n * n → Driving w n p k → (g : ℕ) × Stopped w n p g
search-on w n p zero k e d = absurd (omega (arith, next-within w n p k d))
search-on w n p (suc left) k e d =
    by_bool (full_after w n p k) (λ full. (k, stopped-full w n p k d full))
    (λ fits.
    by_bool (ended_after w n p (suc k)) (λ o. (suc k, stopped-ended w n p k d fits o))
    (λ o. search-on w n p left (suc k) (omega arith) (next-driving w n p k d fits o)))

-- grants, each with its turn of any kind: the table after k of them, of which none ended the round
record Turning (w : Wiring) (n : ℕ) (kinds : ℕ → ℕ) (p : Stand) (k : ℕ) : Type 0 where
  pub ok : Accepted w n (after_turns w n kinds p k).state.table
  pub going : (j : ℕ) → j ≤ k → over_after w n kinds p j ≡ false
  pub room : k + all_left w n (after_turns w n kinds p k).state.table ≤ n * n

-- a turn's kind is no crash
no-crash : (kind : ℕ) → (kind ≡ kind_turn) ⊎ (kind ≡ kind_late) → eqb kind kind_crash ≡ false
no-crash kind (inl e) = rw e
no-crash kind (inr e) = rw e

module _ (w : Wiring) (n : ℕ) (kinds : ℕ → ℕ) (p : Stand) (turns : TurnKinds kinds) (taken : NoneRefused w n kinds p) where
  -- the next grant, with its turn
  module _ (k : ℕ) (d : Turning w n kinds p k) where
    abbrev s : State
    s = (after_turns w n kinds p k).state

    abbrev last : ℕ
    last = (after_turns w n kinds p k).last

    still : (s.rounds ≡ p.state.rounds) × (some_live n s.table ≡ true)
    still = not-ended n p.state.rounds s (d.going k (omega arith))

    turn-within : suc k ≤ n * n
    turn-within = omega (arith, turn-fewer w n s last (kinds k) d.ok still.1 (no-crash (kinds k) (turns k)), d.room)

    turning-on : over_after w n kinds p (suc k) ≡ false → Turning w n kinds p (suc k)
    unfolding after_turns
    turning-on o =
        let same = (not-ended n p.state.rounds (after_turns w n kinds p (suc k)).state o).0 ∙ sym still.0 in
        record {
          ok = accepted-kept w n s _ d.ok (taken k turn-within d.going);
          going = λ j h. by_cases (dec_lt j (suc k)) (λ l. d.going j (omega arith)) (λ l. let e : j ≡ suc k = omega arith in rw e o);
          room = omega (arith, fewer-after w n s last (kinds k) d.ok still.1 (no-crash (kinds k) (turns k)) same, d.room);
        }

  ending-on : (left k : ℕ) → k + left ≡ n * n → Turning w n kinds p k → (g : ℕ) × (g ≤ n * n) × (over_after w n kinds p g ≡ true)
  ending-on zero k e d = absurd (omega (arith, turn-within k d))
  ending-on (suc left) k e d =
      by_bool (over_after w n kinds p (suc k)) (λ o. (suc k, turn-within k d, o)) (λ o. ending-on left (suc k) (omega arith) (turning-on k d o))

-- a round closes, or nobody is left live, an end in itself
pub round-ends-in-square : RoundEndsInSquare
unfolding after_turns after_grants
round-ends-in-square w n kinds s last turns z taken =
    let d = driving-start w n s last (grantable w n s.table last z) in
    ending-on w n kinds (stand_at s last) turns taken (n * n) 0 (omega arith) (record {
      ok = (grantable w n s.table last z).ok;
      going = λ j h. let e : j ≡ 0 = omega arith in rw e d.open-still;
      room = d.room;
    })

-- turns of kind 1 are the drive's, an end in itself
pub kind-one-is-driven : KindOneIsDriven
unfolding after_turns after_grants grant_turn
kind-one-is-driven w n p zero = refl
kind-one-is-driven w n p (suc k) = rw (kind-one-is-driven w n p k)

-- every drive stops, an end in itself
pub drive-stops : DriveStops
drive-stops w n s last z =
    let p = stand_at s last in
    let found = search-on w n p (n * n) 0 (omega arith) (driving-start w n s last (grantable w n s.table last z)) in
    rw (made-is w n p found.0 found.1) found.1
