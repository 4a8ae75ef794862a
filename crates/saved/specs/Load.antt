-- The reader, for all files and buffers. Its refusals, in this order: 18, 21, 22, 19, 1, 20, 2, 3, 4.
-- Assumes nothing.
use Rattle.std.specs.Prelude.{ℕ, not, List, length, Result, Ok, ◌==◌}
use Rattle.std.specs.Result.{result_unwrap_or}
use Rattle.lists.specs.declared.refusal.Refusal.{Refusal}
use Rattle.lists.specs.declared.refusal.Refusal.TheVariants.{TableLength, FieldPastEnd, LineField}
use Rattle.lists.specs.Refusal.{Check, ensure, ◌and◌, unless_refused}
use Rattle.table.specs.Table.{table_length}
use Rattle.table.specs.Rules.{table_check}
use Rattle.table.specs.declared.wiring.Wiring.TheVariants.{Cube}
use Rattle.saved.specs.Fields.{Field, runs_past, fields_of, tagged}
use Rattle.saved.specs.Plant.{size_in, tally_in, plant_check, line_tag, line_field_length, lines_right, table_in}
use Rattle.saved.specs.Order.{order_check}
use Rattle.plant.specs.declared.Tally.{Tally}
use Rattle.saved.specs.declared.Loaded.{Loaded}

-- what a file says: size, tally, the contents with tag 3, and the table
abbrev pub file_size : List ℕ → ℕ
file_size file = size_in (fields_of file)

abbrev pub file_tally : List ℕ → Tally
file_tally file = tally_in (fields_of file)

abbrev pub file_lines : List ℕ → List (List ℕ)
file_lines file = tagged line_tag (fields_of file)

abbrev pub file_table : List ℕ → List ℕ
file_table file = table_in (file_size file) (file_lines file)

-- the size's own refusals: 18, 21, 22, 19, 1
unfoldable pub size_check : List ℕ → Check
size_check file = ensure (not (runs_past file)) FieldPastEnd and order_check (fields_of file) and plant_check (fields_of file)

-- of a file of that size with those contents of tag 3, for a table buffer of length len: 20, 2, 3, 4. The file's own table has that size and the
-- right length, so that of table_check's refusals only 3 and 4 are left
unfoldable pub rest_check : ℕ → List (List ℕ) → ℕ → Check
rest_check n cs len =
    ensure (lines_right (line_field_length n) n cs) LineField and ensure (len == table_length n) TableLength and table_check Cube n (table_in n cs)

-- Rule Judged as a whole: all refusals of the reader
unfoldable pub load_check : List ℕ → ℕ → Check
load_check file len = size_check file and rest_check (file_size file) (file_lines file) len

-- Rule Saved size: the size of a saved plant
unfoldable pub saved_size : List ℕ → Result ℕ Refusal
saved_size file = size_check file and Ok (file_size file)

-- what the reader answers: size and tally
abbrev pub loaded_of : List Field → Loaded
loaded_of fs = record { size = size_in fs; tally = tally_in fs }

unfoldable pub load_answer : List ℕ → ℕ → Result Loaded Refusal
load_answer file len = load_check file len and Ok (loaded_of (fields_of file))

-- rule Refused means untouched: a refused call answers 0 for every figure
abbrev pub size_figure : Result ℕ Refusal → ℕ
size_figure answer = result_unwrap_or answer 0

abbrev pub loaded_figures : Result Loaded Refusal → Loaded
loaded_figures answer = result_unwrap_or answer (record { size = 0; tally = record { rounds = 0; tests = 0 } })

-- Rule Load: the table after the call, given t; and after the part of it that follows the size's refusals
unfoldable pub load_after : List ℕ → List ℕ → List ℕ
load_after file t = unless_refused (load_check file (length t)) t (file_table file)

abbrev pub rest_after : ℕ → List (List ℕ) → List ℕ → List ℕ
rest_after n cs t = unless_refused (rest_check n cs (length t)) t (table_in n cs)
