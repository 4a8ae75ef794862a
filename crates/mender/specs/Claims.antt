-- What is claimed of mending, for each wiring w, size n and table t of n(n + 6) bytes.
-- Assumes nothing.
use Rattle.std.specs.Prelude.{ℕ, ◌*◌, ◌≡◌, ◌≢◌, ◌<◌, ◌≤◌, true, List, [], length, All, Ok, slice_index}
use Rattle.table.specs.Sizes.{is_size}
use Rattle.table.specs.Table.{table_length, status, suspects}
use Rattle.table.specs.Rules.{table_check}
use Rattle.table.specs.declared.wiring.Wiring.{Wiring}
use Rattle.mender.specs.declared.report.Change.{Change}
use Rattle.mender.specs.Mended.{mended}
use Rattle.mender.specs.Report.{mends}

-- what holds of all tables of n stations on each wiring: n is a size, and t has n(n + 6) bytes
abbrev pub OfEachTable : (Wiring → ℕ → List ℕ → Type 0) → Type 0
OfEachTable P = (w : Wiring) (n : ℕ) (t : List ℕ) → is_size n ≡ true → length t ≡ table_length n → P w n t

-- Rule Mended passes: refusals 1 to 4 let the mended table through
abbrev pub MendedPasses : Type 0
MendedPasses = OfEachTable (λ w n t. table_check w n (mended w n t) ≡ Ok tt)

-- Rule Mended once: a mended table is not changed again, and nothing is listed
abbrev pub MendedOnce : Type 0
MendedOnce = OfEachTable (λ w n t. (mended w n (mended w n t) ≡ mended w n t) × (mends w n (mended w n t) ≡ []))

-- Rule Good table stays: a table that refusals 1 to 4 let through is not changed, and nothing is listed
abbrev pub GoodTableStays : Type 0
GoodTableStays = (w : Wiring) (n : ℕ) (t : List ℕ) → table_check w n t ≡ Ok tt → (mended w n t ≡ t) × (mends w n t ≡ [])

-- a listed change: there the byte was the old one, is the new one, and these two differ
abbrev pub IsTrueChange : Wiring → ℕ → List ℕ → Change → Type 0
IsTrueChange w n t c = (slice_index t c.offset ≡ c.before) × (slice_index (mended w n t) c.offset ≡ c.after) × (c.before ≢ c.after)

-- Rule Listed is true
abbrev pub ListedIsTrue : Type 0
ListedIsTrue = OfEachTable (λ w n t. All (IsTrueChange w n t) (mends w n t))

-- Rule Unlisted stays: where no change is listed the byte is what it was
abbrev pub UnlistedStays : Type 0
UnlistedStays =
    OfEachTable (λ w n t.
    (p : ℕ) → All (λ c. c.offset ≢ p) (mends w n t) → slice_index (mended w n t) p ≡ slice_index t p)

-- Rule Report has room: no table has more changes than a report of 4n(n + 6) bytes takes
abbrev pub ReportHasRoom : Type 0
ReportHasRoom = OfEachTable (λ w n t. 4 * length (mends w n t) ≤ 4 * table_length n)

-- Rule Status stays: a status from 0 to 3 stays
abbrev pub StatusStays : Type 0
StatusStays = OfEachTable (λ w n t. (i : ℕ) → i < n → status n t i ≤ 3 → status n (mended w n t) i ≡ status n t i)

-- Rule No suspicion invented: a byte of a row that is 1 after mending was 1 before
abbrev pub NoSuspicionInvented : Type 0
NoSuspicionInvented =
    OfEachTable (λ w n t. (i k : ℕ) → i < n → k < n → suspects n (mended w n t) i k ≡ 1 → suspects n t i k ≡ 1)
