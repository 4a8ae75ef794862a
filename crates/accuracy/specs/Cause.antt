-- What a live station that is suspected has to show for it: a suspicion that was there at first, or a late reply of its own.
-- Assumes nothing.
use Rattle.std.specs.Prelude.{◌≡◌, ◌⊎◌, ℕ, ◌<◌, Bool, true, ◌&&◌, List, ◌==◌}
use Rattle.table.specs.Table.{suspects, live}
use Rattle.detection.specs.Runs.{Taken, is_late, crashes}
use Rattle.detection.specs.Rounds.{any_taken}
use Rattle.detection.specs.Boards.{station_tested}

-- stations i and j are live, and i suspects j
pub record Suspicion (n : ℕ) (t : List ℕ) (i j : ℕ) : Type 0 where
  pub by_live : live n t i ≡ true
  pub of_live : live n t j ≡ true
  pub suspected : suspects n t i j ≡ 1

-- some station has that suspicion of j
abbrev pub IsSuspected : ℕ → List ℕ → ℕ → Type 0
IsSuspected n t j = (i : ℕ) × (i < n) × Suspicion n t i j

-- Rule Late: the reply of station j is late at the taken entry, one of kind 2 that tests j while j is live
unfoldable pub late_of : ℕ → Taken → Bool
late_of j x = is_late x && station_tested x == j

-- it was late at one of the entries
abbrev pub was_late : ℕ → List Taken → Bool
was_late j xs = any_taken (late_of j) xs

-- station i crashes with the taken entry, and it crashed with one of the entries
unfoldable pub crash_of : ℕ → Taken → Bool
crash_of i x = crashes x && x.entry.station == i

abbrev pub has_crashed : ℕ → List Taken → Bool
has_crashed i xs = any_taken (crash_of i) xs

-- Rule Cause: entries, of which the first finds table t, hold a cause for station j: a live station suspected the live j in t, or the reply of j
-- was late at one of them
abbrev pub HasCause : ℕ → List ℕ → List Taken → ℕ → Type 0
HasCause n t xs j = IsSuspected n t j ⊎ (was_late j xs ≡ true)
