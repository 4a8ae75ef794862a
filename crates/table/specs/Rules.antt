-- The line rules, and refusals 1 to 4, 9 and 13, which several calls have.
-- Assumes nothing.
use Rattle.std.specs.Prelude.{ℕ, ◌-◌, Bool, not, ◌&&◌, ◌||◌, List, length, if◌then◌else◌, ◌==◌, nat_lt, nat_le}
use Rattle.lists.specs.Search.{every}
use Rattle.table.specs.Sizes.{is_size}
use Rattle.table.specs.Wiring.{end_distance}
use Rattle.table.specs.declared.wiring.Wiring.{Wiring}
use Rattle.table.specs.Table.{table_length, cell, status_column, status_told, next_column, finished_column, tests_column, finished, told_by_column}
use Rattle.table.specs.Table.{told_by_none, not_recorded, rounds_ago_column, suspects, live}
use Rattle.lists.specs.declared.refusal.Refusal.TheVariants.{SizeOutOfRange, TableLength, LineRule, RoundNotClosed, NoSuchStation, ListLength}
use Rattle.lists.specs.Refusal.{Check, ensure, ◌and◌}

-- Rule Status range: byte 0 is 0 to 3
abbrev pub status_rule : ℕ → Bool
status_rule status = nat_le status 3

-- Rules Next distance range, Finished range, Tests range and Finished at the end, by the end distance: next distance is 1 to that; finished is 0
-- or 1; there are fewer tests than the next distance; a finished line has the end distance as next distance
abbrev pub pass_rule : ℕ → ℕ → ℕ → ℕ → Bool
pass_rule end next finished tests =
    nat_le 1 next && nat_le next end && nat_le finished 1 && nat_le tests (next - 1) && (finished == 0 || next == end)

-- Rule Told line: byte 4 of a line with status 2 is 254, or a number below n that is not i, the line's own
abbrev pub told_by_rule : ℕ → ℕ → ℕ → Bool
told_by_rule n i by = by == not_recorded || (nat_lt by n && not (by == i))

-- Rules Live line, Crashed or alone line and Told line, for bytes 4 and 5 of line i: a live line has 255 and 0, status 1 or 3 has 255 in byte 4,
-- status 2 has 254 or another number
unfoldable pub exit_rule : ℕ → ℕ → ℕ → ℕ → ℕ → Bool
exit_rule n i status by ago =
    if status == 0 then by == told_by_none && ago == 0 else (if status == status_told then told_by_rule n i by else by == told_by_none)

-- Rule Row range: byte k of the row is 0 or 1
abbrev pub suspicion_rule : ℕ → List ℕ → ℕ → ℕ → Bool
suspicion_rule n t i k = nat_le (suspects n t i k) 1

-- Rules Own byte and Row range, of the row of station i by its bytes: the byte about i itself is 0, and each is 0 or 1
abbrev pub row_rule_by : ℕ → ℕ → (ℕ → ℕ) → Bool
row_rule_by n i suspicion = suspicion i == 0 && every (λ k. nat_le (suspicion k) 1) n

-- and of the row of line i of a table
unfoldable pub row_rule : ℕ → List ℕ → ℕ → Bool
row_rule n t i = row_rule_by n i (suspects n t i)

-- the rules of bytes 0 to 5 of the line of station i, by its bytes
abbrev pub head_rules_by : Wiring → ℕ → ℕ → (ℕ → ℕ) → Bool
head_rules_by w n i byte =
    status_rule (byte status_column) && pass_rule (end_distance w n) (byte next_column) (byte finished_column) (byte tests_column)
    && exit_rule n i (byte status_column) (byte told_by_column) (byte rounds_ago_column)

-- all line rules, of line i of a plant with wiring w
unfoldable pub line_rules : Wiring → ℕ → List ℕ → ℕ → Bool
line_rules w n t i = head_rules_by w n i (cell n t i) && row_rule n t i

-- station i is not live
abbrev pub not_live : ℕ → List ℕ → ℕ → Bool
not_live n t i = not (live n t i)

-- some station is live
unfoldable pub some_live : ℕ → List ℕ → Bool
some_live n t = not (every (not_live n t) n)

-- station i is finished if it is live
abbrev pub finished_if_live : ℕ → List ℕ → ℕ → Bool
finished_if_live n t i = not_live n t i || finished n t i == 1

-- every live station has finished its pass
unfoldable pub live_finished : ℕ → List ℕ → Bool
live_finished n t = every (finished_if_live n t) n

-- rules Round not over and Round closes: some station is live, and every live one has finished its pass
abbrev pub round_over : ℕ → List ℕ → Bool
round_over n t = some_live n t && live_finished n t

-- refusals 1 and 2: n is not 2 to 64; the table's length is not n·(n + 6)
unfoldable pub shape_check : ℕ → ℕ → Check
shape_check n len = ensure (is_size n) SizeOutOfRange and ensure (len == table_length n) TableLength

-- refusals 1 to 4: then a line breaks a line rule; the round is over and was not closed
unfoldable pub table_check : Wiring → ℕ → List ℕ → Check
table_check w n t =
    shape_check n (length t) and ensure (every (line_rules w n t) n) LineRule and ensure (not (round_over n t)) RoundNotClosed

-- refusal 9: the station's number is n or more
abbrev pub station_check : ℕ → ℕ → Check
station_check n i = ensure (nat_lt i n) NoSuchStation

-- refusal 13: the list or buffer for the answer has the wrong length
abbrev pub length_check : ℕ → ℕ → Check
length_check stated len = ensure (len == stated) ListLength
