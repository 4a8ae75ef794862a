-- The mended table: what each byte of a line becomes, and then, if the round would be over, bytes 1 to 3 of all lines. w is the wiring.
-- Assumes nothing.
use Rattle.std.specs.Prelude.{ℕ, ◌/◌, ◌%◌, ◌-◌, Bool, ◌&&◌, ◌||◌, List, if◌then◌else◌, ◌==◌, nat_lt, nat_le}
use Rattle.lists.specs.Search.{list_of}
use Rattle.table.specs.Table.{head, stride, table_length, cell, status_crashed, status_told, told_by_none, not_recorded}
use Rattle.table.specs.Table.{status_column, next_column, tests_column, told_by_column, rounds_ago_column}
use Rattle.table.specs.Table.{status, next_distance, finished, tests_made, told_by, rounds_ago}
use Rattle.table.specs.Wiring.{end_distance}
use Rattle.table.specs.Rules.{status_rule, pass_rule, exit_rule, round_over}
use Rattle.table.specs.declared.wiring.Wiring.{Wiring}

-- Rule Mended status: a status above 3 becomes 1
abbrev pub mended_status : ℕ → ℕ
mended_status status = if status_rule status then status else status_crashed

-- bytes 1 to 3 as they stand at the start of a round: 1, 0, 0
abbrev pub start_byte : ℕ → ℕ
start_byte c = if c == next_column then 1 else 0

-- bytes 1 to 3 of line i keep their rules
abbrev pub keeps_pass : Wiring → ℕ → List ℕ → ℕ → Bool
keeps_pass w n t i = pass_rule (end_distance w n) (next_distance n t i) (finished n t i) (tests_made n t i)

-- Rule Mended pass, of byte c: if bytes 1 to 3 of the line break a rule, they become 1, 0, 0
abbrev pub mended_pass : Wiring → ℕ → List ℕ → ℕ → ℕ → ℕ
mended_pass w n t i c = if keeps_pass w n t i then cell n t i c else start_byte c

-- Rule Mended told by: if byte 4 is wrong for the line's status, it becomes 254 for status 2, else 255. Byte 5 is looked at by itself: with 0 it
-- breaks no rule
abbrev pub mended_told_by : ℕ → ℕ → ℕ → ℕ → ℕ
mended_told_by n i status by =
    if exit_rule n i status by 0 then by else (if status == status_told then not_recorded else told_by_none)

-- Rule Mended rounds ago: if byte 5 is wrong for the line's status and byte 4, it becomes 0
abbrev pub mended_rounds_ago : ℕ → ℕ → ℕ → ℕ → ℕ → ℕ
mended_rounds_ago n i status by ago = if exit_rule n i status by ago then ago else 0

-- Rule Mended row: of station i's row the byte about itself, and each above 1, becomes 0
abbrev pub mended_suspicion : ℕ → ℕ → ℕ → ℕ
mended_suspicion i k byte = if k == i || nat_lt 1 byte then 0 else byte

-- status and byte 4 of line i, mended
abbrev pub new_status : ℕ → List ℕ → ℕ → ℕ
new_status n t i = mended_status (status n t i)

abbrev pub new_told_by : ℕ → List ℕ → ℕ → ℕ
new_told_by n t i = mended_told_by n i (new_status n t i) (told_by n t i)

-- Rule Mended line: byte c of line i. Bytes 4 and 5 go by the mended status
unfoldable pub line_byte : Wiring → ℕ → List ℕ → ℕ → ℕ → ℕ
line_byte w n t i c =
    if c == status_column then new_status n t i
    else (if nat_le c tests_column then mended_pass w n t i c
    else (if c == told_by_column then new_told_by n t i
    else (if c == rounds_ago_column then mended_rounds_ago n i (new_status n t i) (new_told_by n t i) (rounds_ago n t i)
    else mended_suspicion i (c - head) (cell n t i c))))

-- the table in which f i c is byte c of line i
unfoldable pub table_of : ℕ → (ℕ → ℕ → ℕ) → List ℕ
table_of n f = list_of (λ p. f (p / stride n) (p % stride n)) (table_length n)

-- the table with each line mended
abbrev pub lines_mended : Wiring → ℕ → List ℕ → List ℕ
lines_mended w n t = table_of n (line_byte w n t)

-- Rule Mended round, of byte c of line i: if the round is over, bytes 1 to 3 of all lines become 1, 0, 0
unfoldable pub mended_byte : Wiring → ℕ → List ℕ → Bool → ℕ → ℕ → ℕ
mended_byte w n t over i c = if over && nat_le next_column c && nat_le c tests_column then start_byte c else line_byte w n t i c

-- Rule Mended table: each line mended; then, if with these lines the round is over (refusal 4 would apply), bytes 1 to 3 of all
unfoldable pub mended : Wiring → ℕ → List ℕ → List ℕ
mended w n t = table_of n (mended_byte w n t (round_over n (lines_mended w n t)))
