-- That a drive does what its grants and their runs of one entry do, so that detection holds of plants that are driven.
-- Assumes nothing.
use Rattle.std.specs.Prelude.{Ok, ◌≡◌, List, [], ◌∷◌, ◌++◌, map, ℕ, zero, suc, ◌+◌, ◌≤◌, ◌<◌, length, Some, is_none, Result, Err}
use Rattle.lists.specs.Sums.{bit}
use Rattle.table.specs.declared.wiring.Wiring.{Wiring}
use Rattle.plant.specs.Turn.{kind_turn}
use Rattle.plant.specs.Entry.{State, entry_of, entry_check}
use Rattle.detection.specs.Runs.{Call, turn_run, after_run, after_runs, taken_all}
use Rattle.detection.specs.Claim.{rounds_of, AllKnow, DetectionPremises, DetectionConclusion, square_rounds}
use Rattle.granter.specs.Grant.{grant_check}
use Rattle.granter.specs.Drive.{DriveResult, drive_outcome, Stand, stand_at, granted_at, after_grants, drive}
use Rattle.lists.specs.declared.refusal.Refusal.{Refusal}
use Rattle.lists.specs.declared.refusal.Refusal.TheVariants.{TallyFull}

-- the runs (1, g1), (1, g2), .. of the first k grants
unfoldable pub runs_of : Wiring → ℕ → Stand → ℕ → List Call
runs_of w n p zero = []
runs_of w n p (suc k) = runs_of w n p k ++ (turn_run w n (granted_at n (after_grants w n p k)) ∷ [])

-- those of a drive, as many as it says that it made
abbrev pub runs_of_drive : Wiring → ℕ → State → ℕ → List Call
runs_of_drive w n s last = runs_of w n (stand_at s last) (drive w n s last).grants

-- its answer and table are those of the list of these runs
pub record TurnByTurn (w : Wiring) (n : ℕ) (s : State) (last : ℕ) : Type 0 where
  -- no grant is refused
  pub granted : (k : ℕ) → k < (drive w n s last).grants
      → grant_check w n (after_grants w n (stand_at s last) k).state.table (after_grants w n (stand_at s last) k).last ≡ Ok tt
  -- each run takes its entry
  pub taken : length (taken_all s (runs_of_drive w n s last)) ≡ (drive w n s last).grants
  -- the same table and tally, and the same last granted number
  pub left : after_runs s (runs_of_drive w n s last) ≡ (drive w n s last).state
  pub last_is : (drive w n s last).last ≡ (after_grants w n (stand_at s last) (drive w n s last).grants).last
  -- where the drive stops with 7, the next turn would meet it
  pub seven : grant_check w n s.table last ≡ Ok tt → (drive w n s last).stopped ≡ Some TallyFull
      → let end = drive w n s last in
      entry_check n end.state (entry_of kind_turn (granted_at n (stand_at end.state end.last))) ≡ Err TallyFull

-- Rule Drive is turns: for all inputs
abbrev pub DriveIsTurns : Type 0
DriveIsTurns = (w : Wiring) (n : ℕ) (s : State) (last : ℕ) → TurnByTurn w n s last

-- Rule Wiring number: a drive whose wiring may be refused by 24. That comes first, and changes nothing
abbrev pub drive_by : Result Wiring Refusal → ℕ → State → ℕ → DriveResult
drive_by (Ok w) n s last = drive w n s last
drive_by (Err r) n s last = drive_outcome (Some r) s last 0

-- a list that mixes runs and drives; a drive has any wiring or one that 24 refuses, any size and any last number
pub data RunOrDrive : Type 0 where
  a_run : Call → RunOrDrive
  a_drive : Result Wiring Refusal → ℕ → ℕ → RunOrDrive

-- table and tally after one of them, and the runs that it is
abbrev pub after_one : State → RunOrDrive → State
after_one s (a_run c) = after_run s c
after_one s (a_drive v n last) = (drive_by v n s last).state

abbrev pub runs_of_one : State → RunOrDrive → List Call
runs_of_one s (a_run c) = c ∷ []
runs_of_one s (a_drive (Ok w) n last) = runs_of_drive w n s last
runs_of_one s (a_drive (Err r) n last) = []

-- and of the list, each with the table and tally that the one before left
unfoldable pub after_mixed : State → List RunOrDrive → State
after_mixed s [] = s
after_mixed s (x ∷ xs) = after_mixed (after_one s x) xs

unfoldable pub runs_of_mixed : State → List RunOrDrive → List Call
runs_of_mixed s [] = []
runs_of_mixed s (x ∷ xs) = runs_of_one s x ++ runs_of_mixed (after_one s x) xs

-- Rule Detection by drives: detection of such a list, within so many rounds by wiring and size, of the runs that it is
abbrev pub MixedDetection : (Wiring → ℕ → ℕ) → Type 0
MixedDetection rounds =
    (w : Wiring) (n : ℕ) (s : State) (xs : List RunOrDrive) → DetectionPremises w n s (runs_of_mixed s xs)
    → DetectionConclusion (rounds w n) w n s (runs_of_mixed s xs) (after_mixed s xs)

-- drives of one size, each with any last number (a drive of another size is refused): table and tally after them, the runs that they are, and
-- how many of them no refusal stops
abbrev pub after_drives : Wiring → ℕ → State → List ℕ → State
after_drives w n s lasts = after_mixed s (map (a_drive (Ok w) n) lasts)

abbrev pub runs_of_drives : Wiring → ℕ → State → List ℕ → List Call
runs_of_drives w n s lasts = runs_of_mixed s (map (a_drive (Ok w) n) lasts)

unfoldable pub ending : Wiring → ℕ → State → List ℕ → ℕ
ending w n s [] = 0
ending w n s (last ∷ lasts) = bit (is_none (drive w n s last).stopped) + ending w n (drive w n s last).state lasts

-- what the claim says of driven plants, where so many rounds are enough
pub record DrivenDetectionConclusion (enough : ℕ) (w : Wiring) (n : ℕ) (s : State) (lasts : List ℕ) (end : State) : Type 0 where
  -- detection, of the list of their runs
  pub detection : DetectionConclusion enough w n s (runs_of_drives w n s lasts) end
  -- each drive that no refusal stops closes one round, and no other closes one
  pub rounds : length (rounds_of s (runs_of_drives w n s lasts)).closed ≡ ending w n s lasts
  -- after enough such drives each live board suspects exactly the boards that are not live
  pub exact_rows : enough ≤ ending w n s lasts → AllKnow n s.table end.table

-- Rule Detection by drives: the claim, within so many rounds by wiring and size. It supposes the detection conditions on the table: those of no
-- run at all. Drives have no crash and no late reply
abbrev pub DrivenDetection : (Wiring → ℕ → ℕ) → Type 0
DrivenDetection rounds =
    (w : Wiring) (n : ℕ) (s : State) (lasts : List ℕ) → DetectionPremises w n s []
    → DrivenDetectionConclusion (rounds w n) w n s lasts (after_drives w n s lasts)

-- detection of driven plants within d·d rounds on the cube, n − 1 on the ring
abbrev pub DrivenDetectionInSquare : Type 0
DrivenDetectionInSquare = DrivenDetection square_rounds

-- the same of one drive, from `before` to `after`: wherever it stands behind other drives, the claim about the whole list with it holds of
-- the state that it leaves
abbrev pub DrivenDetectionAfter : (Wiring → ℕ → ℕ) → Wiring → ℕ → ℕ → State → State → Type 0
DrivenDetectionAfter rounds w n last before after =
    (s : State) (lasts : List ℕ) → after_drives w n s lasts ≡ before → DetectionPremises w n s []
    → DrivenDetectionConclusion (rounds w n) w n s (lasts ++ (last ∷ [])) after
