-- The writer, for all inputs. Its refusals, in this order: 1 to 4; 13, if the buffer has not the saved plant's length.
-- Assumes nothing.
use Rattle.std.specs.Prelude.{ℕ, ◌+◌, ◌*◌, List, [], ◌∷◌, ◌++◌, length, take, drop}
use Rattle.lists.specs.Refusal.{Check, ◌and◌, unless_refused}
use Rattle.table.specs.Table.{stride, line_start}
use Rattle.table.specs.Rules.{table_check, length_check}
use Rattle.table.specs.declared.wiring.Wiring.TheVariants.{Cube}
use Rattle.plant.specs.declared.Tally.{Tally}
use Rattle.saved.specs.Bytes.{bytes_of, concat_of}
use Rattle.saved.specs.Fields.{Field, field, field_bytes}
use Rattle.saved.specs.Plant.{size_tag, tally_tag, line_tag}
use Rattle.saved.specs.Order.{opening}

-- line i of a table
unfoldable pub line_of : ℕ → List ℕ → ℕ → List ℕ
line_of n t i = take (stride n) (drop (line_start n i) t)

-- the fields behind the opening
abbrev pub size_field : ℕ → Field
size_field n = field size_tag (n ∷ [])

abbrev pub tally_field : Tally → Field
tally_field tally = field tally_tag (bytes_of 4 tally.rounds ++ bytes_of 4 tally.tests)

abbrev pub line_field : ℕ → List ℕ → ℕ → Field
line_field n t i = field line_tag (i ∷ line_of n t i)

-- the opening, size and tally
unfoldable pub front_fields : ℕ → Tally → List ℕ
front_fields n tally = field_bytes opening ++ (field_bytes (size_field n) ++ field_bytes (tally_field tally))

-- the lines ascending
unfoldable pub saved_lines : ℕ → List ℕ → ℕ → List ℕ
saved_lines n t k = concat_of (λ i. field_bytes (line_field n t i)) k

-- Rule Writer's form: the saved plant: the opening, size, tally, and the lines ascending
unfoldable pub saved : ℕ → List ℕ → Tally → List ℕ
saved n t tally = front_fields n tally ++ saved_lines n t n

-- the length of a saved plant of n stations
abbrev pub saved_length : ℕ → ℕ
saved_length n = 19 + n * (n + 10)

unfoldable pub save_check : ℕ → List ℕ → Tally → ℕ → Check
save_check n t tally len = table_check Cube n t and length_check (length (saved n t tally)) len

-- Rule Save: the buffer after the call, given b
unfoldable pub save_after : ℕ → List ℕ → Tally → List ℕ → List ℕ
save_after n t tally b = unless_refused (save_check n t tally (length b)) b (saved n t tally)
