-- The same by drives one behind the other, each from the last granted number that the one before gave back.
-- Assumes nothing.
use Rattle.std.specs.Prelude.{◌≡◌, ℕ, zero, suc, ◌+◌, ◌≤◌, ◌<◌, None}
use Rattle.granter.specs.Drive.{Stand, stand_at, after_grants, DriveResult, drive}
use Rattle.single_crash.specs.Setting.{Sound, crash_at, KnownDead, KnownInRounds}
use Rattle.table.specs.declared.wiring.Wiring.{Wiring}

-- where the plant stands after k drives
unfoldable pub after_drives : Wiring → ℕ → Stand → ℕ → Stand
after_drives w n p zero = p
after_drives w n p (suc k) =
    let q = after_drives w n p k in
    let d = drive w n q.state q.last in
    stand_at d.state d.last

-- what the next drive answers then
abbrev pub next_drive : Wiring → ℕ → Stand → ℕ → DriveResult
next_drive w n p k = let q = after_drives w n p k in drive w n q.state q.last

-- how many grants k drives have made
unfoldable pub grants_of_drives : Wiring → ℕ → Stand → ℕ → ℕ
grants_of_drives w n p zero = 0
grants_of_drives w n p (suc k) = grants_of_drives w n p k + (next_drive w n p k).grants

-- Rule Drives are grants: they are so many grants, each followed by its turn
abbrev pub DrivesAreGrants : Type 0
DrivesAreGrants = (w : Wiring) (n : ℕ) (p : Stand) (k : ℕ) → after_drives w n p k ≡ after_grants w n p (grants_of_drives w n p k)

-- Rule One dead board: b is known after so many drives behind the crash, if no refusal stops one of them
abbrev pub KnownInDrives : Wiring → ℕ → ℕ → Type 0
KnownInDrives w n drives =
    (p : Stand) (k b : ℕ) → Sound w n p → b < n
    → ((i : ℕ) → i < drives → (next_drive w n (crash_at w n (after_grants w n p k) b) i).stopped ≡ None)
    → KnownDead n (after_drives w n (crash_at w n (after_grants w n p k) b) drives).state.table b

-- Rule One dead board: since a drive that no refusal stops has closed a round, as many drives are enough as rounds, from three boards on
abbrev pub RoundsByDrives : Type 0
RoundsByDrives = (w : Wiring) (n rounds : ℕ) → 3 ≤ n → KnownInRounds w n rounds → KnownInDrives w n rounds
