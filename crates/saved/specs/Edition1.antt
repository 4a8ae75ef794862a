-- Edition 1, of which only the converter takes files: the head of a line has four bytes, nothing opens the file, the fields stand in any order, and
-- the reader passed over fields of other tags.
-- Assumes nothing.
use Rattle.std.specs.Prelude.{ℕ, ◌+◌, ◌*◌, Bool, not, ◌&&◌, ◌||◌, List, ◌∷◌, ◌++◌, length, take, drop, Result, Ok, if◌then◌else◌, ◌==◌, nat_le}
use Rattle.std.specs.Prelude.{slice_index}
use Rattle.lists.specs.declared.refusal.Refusal.{Refusal}
use Rattle.lists.specs.declared.refusal.Refusal.TheVariants.{TableLength, LineRule, RoundNotClosed, FieldPastEnd, LineField}
use Rattle.lists.specs.Refusal.{Check, ensure, ◌and◌, unless_refused}
use Rattle.lists.specs.Search.{every}
use Rattle.table.specs.Table.{status_column, next_column, finished_column, tests_column, status_told, told_by_none, not_recorded}
use Rattle.table.specs.Wiring.{end_distance}
use Rattle.table.specs.Rules.{status_rule, pass_rule}
use Rattle.table.specs.declared.wiring.Wiring.TheVariants.{Cube}
use Rattle.saved.specs.Bytes.{concat_of}
use Rattle.saved.specs.Fields.{runs_past, fields_of}
use Rattle.saved.specs.Plant.{plant_check, lines_right}
use Rattle.saved.specs.Load.{file_size, file_lines, file_table, loaded_of}
use Rattle.saved.specs.declared.Loaded.{Loaded}

-- how many bytes of a line stand before its row
abbrev pub head : ℕ
head = 4

-- Rule Table of edition 1: n lines of n + 4 bytes
abbrev pub stride : ℕ → ℕ
stride n = n + head

abbrev pub table_length : ℕ → ℕ
table_length n = n * stride n

-- Rule Line field of edition 1: tag 3, a station's number, then its line of n + 4 bytes
abbrev pub line_field_length : ℕ → ℕ
line_field_length n = 1 + stride n

-- byte c of line i, and whether station i suspects station k
unfoldable pub cell : ℕ → List ℕ → ℕ → ℕ → ℕ
cell n t i c = slice_index t (i * stride n + c)

abbrev pub suspects : ℕ → List ℕ → ℕ → ℕ → ℕ
suspects n t i k = cell n t i (head + k)

-- Rules Row range and Own byte of edition 1
unfoldable pub row_rule : ℕ → List ℕ → ℕ → Bool
row_rule n t i = suspects n t i i == 0 && every (λ k. nat_le (suspects n t i k) 1) n

-- Rule Line rules of edition 1: bytes 0 to 3 and the row obey the rules that they obey in edition 2
unfoldable pub line_rules : ℕ → List ℕ → ℕ → Bool
line_rules n t i =
    status_rule (cell n t i status_column)
    && pass_rule (end_distance Cube n) (cell n t i next_column) (cell n t i finished_column) (cell n t i tests_column) && row_rule n t i

-- station i is not live
abbrev pub not_live : ℕ → List ℕ → ℕ → Bool
not_live n t i = not (cell n t i status_column == 0)

-- Rule Round not over of edition 1: the round is over where some station is live and every live one has finished its pass
unfoldable pub round_over : ℕ → List ℕ → Bool
round_over n t = not (every (not_live n t) n) && every (λ i. not_live n t i || cell n t i finished_column == 1) n

-- 3, then 4
unfoldable pub rules_check : ℕ → List ℕ → Check
rules_check n t = ensure (every (line_rules n t) n) LineRule and ensure (not (round_over n t)) RoundNotClosed

-- the reader of edition 1, which is no more: 18, 19, 1, 20, 2, 3, 4; what it answered, and the table that it left, given t
unfoldable pub reader_check : List ℕ → ℕ → Check
reader_check file len =
    ensure (not (runs_past file)) FieldPastEnd and plant_check (fields_of file)
    and ensure (lines_right (line_field_length (file_size file)) (file_size file) (file_lines file)) LineField
    and ensure (len == table_length (file_size file)) TableLength and rules_check (file_size file) (file_table file)

unfoldable pub reader_answer : List ℕ → ℕ → Result Loaded Refusal
reader_answer file len = reader_check file len and Ok (loaded_of (fields_of file))

unfoldable pub reader_after : List ℕ → List ℕ → List ℕ
reader_after file t = unless_refused (reader_check file (length t)) t (file_table file)

-- Rule Converted line: bytes 0 to 3 stay; byte 4 is 254 for status 2 and 255 otherwise, byte 5 is 0; the row stays
abbrev pub told_by_of : ℕ → ℕ
told_by_of status = if status == status_told then not_recorded else told_by_none

unfoldable pub converted_line : List ℕ → List ℕ
converted_line l = take head l ++ (told_by_of (slice_index l status_column) ∷ 0 ∷ drop head l)

-- line i of a table, and the table with all lines converted
unfoldable pub line_of : ℕ → List ℕ → ℕ → List ℕ
line_of n t i = take (stride n) (drop (i * stride n) t)

unfoldable pub converted_table : ℕ → List ℕ → List ℕ
converted_table n t = concat_of (λ i. converted_line (line_of n t i)) n
