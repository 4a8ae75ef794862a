-- The drive, which repeats a grant and its turn, for all inputs. w is the wiring.
-- Assumes nothing.
use Rattle.std.specs.Prelude.{Ok, ◌≡◌, ℕ, zero, suc, ◌*◌, ◌≤◌, ◌<◌, Bool, true, false, not, ◌||◌, List, Option, Some, None, if◌then◌else◌, ◌==◌}
use Rattle.lists.specs.Search.{least}
use Rattle.table.specs.Rules.{some_live}
use Rattle.std.specs.Result.{result_err}
use Rattle.lists.specs.declared.refusal.Refusal.{Refusal}
use Rattle.lists.specs.declared.refusal.Refusal.TheVariants.{TallyFull}
use Rattle.lists.specs.Refusal.{unless_refused}
use Rattle.table.specs.declared.wiring.Wiring.{Wiring}
use Rattle.plant.specs.Turn.{kind_turn}
use Rattle.plant.specs.Entry.{State, state_with, entry_of, tally_full, after}
use Rattle.granter.specs.declared.Driven.{Driven}
use Rattle.granter.specs.Grant.{granted, grant_check}

-- where a drive stands: table and tally, and the last granted number
pub record Stand : Type 0 where
  pub state : State
  pub last : ℕ

-- where it stands, by its parts
abbrev pub stand_at : State → ℕ → Stand
stand_at s last = record { state = s; last = last }

-- the station that is granted there
abbrev pub granted_at : ℕ → Stand → ℕ
granted_at n p = granted n p.state.table p.last

-- Rule Drive: a grant, and that station's turn of kind 1. The granted station becomes the last one
unfoldable pub grant_turn : Wiring → ℕ → Stand → Stand
grant_turn w n p = stand_at (after w n p.state (entry_of kind_turn (granted_at n p))) (granted_at n p)

-- where a drive stands after k grants, each with its turn
unfoldable pub after_grants : Wiring → ℕ → Stand → ℕ → Stand
after_grants w n p zero = p
after_grants w n p (suc k) = grant_turn w n (after_grants w n p k)

-- Rule Drive ends: a round has closed, or no station is live. A round has closed if the tally has other rounds than the drive began with
unfoldable pub ended : ℕ → ℕ → State → Bool
ended n rounds s = not (s.rounds == rounds) || not (some_live n s.table)

-- whether it has, after k grants
abbrev pub ended_after : Wiring → ℕ → Stand → ℕ → Bool
ended_after w n p k = ended n p.state.rounds (after_grants w n p k).state

-- whether a counter is full after k grants
abbrev pub full_after : Wiring → ℕ → Stand → ℕ → Bool
full_after w n p k = tally_full (after_grants w n p k).state.rounds (after_grants w n p k).state.tests

-- Rule Drive stops: whether a drive stops after k grants, because it has ended or because a counter is full
unfoldable pub stops : Wiring → ℕ → Stand → ℕ → Bool
stops w n p k = ended_after w n p k || full_after w n p k

-- Rule Grants made: the least number of grants after which it stops. That it stops within n·n is part of `Stopped`
unfoldable pub grants_made : Wiring → ℕ → Stand → ℕ
grants_made w n p = least (stops w n p) (n * n) 0

-- what a drive answers and leaves: the refusal that stopped it, if one did, table and tally, the last granted number and the grants made
pub record DriveResult : Type 0 where
  pub stopped : Option Refusal
  pub state : State
  pub last : ℕ
  pub grants : ℕ

-- an outcome by its parts
abbrev pub drive_outcome : Option Refusal → State → ℕ → ℕ → DriveResult
drive_outcome stopped s last grants = record { stopped = stopped; state = s; last = last; grants = grants }

-- the outcome of a call: what it answers, and the table as it left it
abbrev pub drive_result : Driven → List ℕ → DriveResult
drive_result d t = drive_outcome d.stopped (state_with t d.tally) d.last d.grants

-- the outcome after k grants: refusal 7 unless the drive has ended. The turns that were made stay
unfoldable pub outcome_after : Wiring → ℕ → Stand → ℕ → DriveResult
outcome_after w n p k =
    drive_outcome (if ended_after w n p k then None else Some TallyFull) (after_grants w n p k).state (after_grants w n p k).last k

-- Rule Drive call: the drive, for all inputs. Refused by 1 to 4, 16 or 17 it gives back the tally and last number handed in, and 0 grants
unfoldable pub drive : Wiring → ℕ → State → ℕ → DriveResult
drive w n s last =
    let check = grant_check w n s.table last in
    unless_refused check (drive_outcome (result_err check) s last 0)
    (outcome_after w n (stand_at s last) (grants_made w n (stand_at s last)))

-- a drive that is not refused at its start makes n·n grants at the most, stopped for one of the three reasons, and none of them held
-- after fewer grants
pub record Stopped (w : Wiring) (n : ℕ) (p : Stand) (grants : ℕ) : Type 0 where
  pub within : grants ≤ n * n
  pub stopped : stops w n p grants ≡ true
  pub first : (k : ℕ) → k < grants → stops w n p k ≡ false

-- of any drive: if it is not refused at its start, it stopped so
abbrev pub StoppedIfTaken : Wiring → ℕ → State → ℕ → ℕ → Type 0
StoppedIfTaken w n s last grants = grant_check w n s.table last ≡ Ok tt → Stopped w n (stand_at s last) grants
