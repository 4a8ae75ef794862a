-- The report of what was mended, and the call.
-- Assumes nothing.
use Rattle.std.specs.Prelude.{ℕ, ◌*◌, ◌-◌, ◌/◌, ◌%◌, Bool, not, ◌==◌, nat_le, Result, Ok}
use Rattle.std.specs.Prelude.{List, [], ◌∷◌, ◌++◌, map, flat_map, length, replicate, slice_index}
use Rattle.lists.specs.Search.{select}
use Rattle.lists.specs.declared.refusal.Refusal.{Refusal}
use Rattle.lists.specs.declared.refusal.Refusal.TheVariants.{ReportTooShort}
use Rattle.lists.specs.Refusal.{Check, ensure, ◌and◌, unless_refused}
use Rattle.table.specs.Table.{table_length}
use Rattle.table.specs.Rules.{shape_check}
use Rattle.table.specs.declared.wiring.Wiring.{Wiring}
use Rattle.mender.specs.declared.report.Change.{Change}
use Rattle.mender.specs.Mended.{mended}

-- the byte at place p is not the same in both tables
abbrev pub differs : List ℕ → List ℕ → ℕ → Bool
differs old new p = not (slice_index old p == slice_index new p)

-- the change there
abbrev pub change_at : List ℕ → List ℕ → ℕ → Change
change_at old new p = record { offset = p; before = slice_index old p; after = slice_index new p }

-- Rule Changes: the bytes that differ, by rising offset, each with what it was and what it is
unfoldable pub changes : List ℕ → List ℕ → List Change
changes old new = map (change_at old new) (select (differs old new) (length old))

-- Rule Report, of one change: its offset in two bytes, the high one first; the old byte; the new byte
abbrev pub change_bytes : Change → List ℕ
change_bytes c = c.offset / 256 ∷ c.offset % 256 ∷ c.before ∷ c.after ∷ []

-- Rule Report: in a report of so many bytes the changes one behind the other, then zeros
unfoldable pub report_of : List Change → ℕ → List ℕ
report_of cs len = let listed = flat_map change_bytes cs in listed ++ replicate (len - length listed) 0

-- what mending changes in the table
abbrev pub mends : Wiring → ℕ → List ℕ → List Change
mends w n t = changes t (mended w n t)

-- Rule Mend, its refusals: 1, 2, then 23: the buffer for the report has fewer than 4n(n + 6) bytes
abbrev pub mend_check : ℕ → ℕ → ℕ → Check
mend_check n len room = shape_check n len and ensure (nat_le (4 * table_length n) room) ReportTooShort

-- Rule Mend: the number of changes
unfoldable pub mend : Wiring → ℕ → List ℕ → ℕ → Result ℕ Refusal
mend w n t room = mend_check n (length t) room and Ok (length (mends w n t))

-- Rule Mend: the table after the call
unfoldable pub mended_after : Wiring → ℕ → List ℕ → ℕ → List ℕ
mended_after w n t room = unless_refused (mend_check n (length t) room) t (mended w n t)

-- Rule Mend: the report after the call
unfoldable pub report_after : Wiring → ℕ → List ℕ → List ℕ → List ℕ
report_after w n t report =
    unless_refused (mend_check n (length t) (length report)) report (report_of (mends w n t) (length report))
