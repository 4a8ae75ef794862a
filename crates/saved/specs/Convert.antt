-- The converter of files of edition 1, for all files and buffers. Its refusals, in this order: 18, 22, 19, 1, 20, 3, 4, 13.
-- Assumes nothing.
use Rattle.std.specs.Prelude.{ℕ, Bool, true, not, ◌&&◌, List, [], ◌∷◌, length, Result, Ok}
use Rattle.std.specs.Result.{result_unwrap_or}
use Rattle.lists.specs.declared.refusal.Refusal.{Refusal}
use Rattle.lists.specs.declared.refusal.Refusal.TheVariants.{FieldPastEnd, LineField, FieldOrder}
use Rattle.lists.specs.Refusal.{Check, ensure, ◌and◌, unless_refused}
use Rattle.table.specs.Rules.{length_check}
use Rattle.saved.specs.Fields.{Field, runs_past, fields_of}
use Rattle.saved.specs.Plant.{plant_check, lines_right, table_in}
use Rattle.saved.specs.Order.{is_known}
use Rattle.saved.specs.Load.{file_size, file_tally, file_lines, file_table}
use Rattle.saved.specs.Save.{saved, saved_length}
use Rattle.saved.specs.Edition1.{line_field_length, rules_check, converted_table}

-- whether the tags of all fields are known; if not, refusal 22. The opening's is not
unfoldable pub all_known : List Field → Bool
all_known [] = true
all_known (f ∷ fs) = is_known f.tag && all_known fs

-- the refusals of the length: 18, 22, 19, 1
unfoldable pub old_check : List ℕ → Check
old_check file =
    ensure (not (runs_past file)) FieldPastEnd and ensure (all_known (fields_of file)) FieldOrder and plant_check (fields_of file)

-- those of the lines: 20, 3, 4
unfoldable pub old_lines_check : ℕ → List (List ℕ) → Check
old_lines_check n cs = ensure (lines_right (line_field_length n) n cs) LineField and rules_check n (table_in n cs)

-- Rule Converted: the file of edition 2
unfoldable pub converted : List ℕ → List ℕ
converted file = saved (file_size file) (converted_table (file_size file) (file_table file)) (file_tally file)

-- all refusals of the converter
unfoldable pub convert_check : List ℕ → ℕ → Check
convert_check file len =
    old_check file and old_lines_check (file_size file) (file_lines file) and length_check (length (converted file)) len

-- Rule Convert: the buffer after the call, given b
unfoldable pub convert_after : List ℕ → List ℕ → List ℕ
convert_after file b = unless_refused (convert_check file (length b)) b (converted file)

-- Rule Converted length: the length of the buffer that the converter needs
unfoldable pub converted_length : List ℕ → Result ℕ Refusal
converted_length file = old_check file and Ok (saved_length (file_size file))

-- rule Refused means untouched: a refused call answers 0
abbrev pub length_figure : Result ℕ Refusal → ℕ
length_figure answer = result_unwrap_or answer 0
