-- Lengths of fields, of lines and of a saved plant.
-- Assumes nothing.
use mathlib.Core.Path.{◌≡◌, ap, ap₂, ◌∙◌}
use mathlib.Core.List.{List, ◌++◌, append_assoc}
use Prim.Native.Nat.{ℕ, ◌+◌, ◌*◌, ◌<◌}
use native.Mathlib.Omega.{arith}
use lib.ListN.{length, drop, length-append, length-drop}
use lib.Seq.{length-take-le}
use Rattle.table.specs.Table.{stride, table_length, line_start}
use Rattle.table.proofs.CellLaws.{line-inside}
use Rattle.plant.specs.declared.Tally.{Tally}
use Rattle.saved.specs.Bytes.{bytes_of}
use Rattle.saved.specs.Fields.{Field, field_bytes}
use Rattle.saved.specs.Order.{opening}
use Rattle.saved.specs.Save.{line_of, size_field, tally_field, line_field, front_fields, saved_lines, saved, saved_length}
use Rattle.saved.proofs.NumberLaws.{bytes-length}
use Rattle.saved.proofs.ConcatLaws.{concat-length}

-- three bytes are the head
pub field-length : (f : Field) → length (field_bytes f) ≡ 3 + length f.contents
unfolding field_bytes
field-length f = omega (arith, length-append (bytes_of 2 (length f.contents)) f.contents, bytes-length 2 (length f.contents))

pub tally-length : (tally : Tally) → length (tally_field tally).contents ≡ 8
tally-length tally =
    let a = length-append (bytes_of 4 tally.rounds) (bytes_of 4 tally.tests) in
    omega (arith, bytes-length 4 tally.rounds, bytes-length 4 tally.tests)

-- its fields, one behind the other
pub saved-parts : (n : ℕ) (t : List ℕ) (tally : Tally)
    → saved n t tally
    ≡ field_bytes opening ++ (field_bytes (size_field n) ++ (field_bytes (tally_field tally) ++ saved_lines n t n))
unfolding saved front_fields
saved-parts n t tally = rw (append_assoc, append_assoc)

pub front-length : (n : ℕ) (tally : Tally) → length (front_fields n tally) ≡ 19
unfolding front_fields
front-length n tally =
    omega (
      arith,
      length-append (field_bytes opening) (field_bytes (size_field n) ++ field_bytes (tally_field tally)),
      length-append (field_bytes (size_field n)) (field_bytes (tally_field tally)),
      field-length opening,
      field-length (size_field n),
      field-length (tally_field tally),
      tally-length tally,
    )

module _ (n : ℕ) (t : List ℕ) (long : length t ≡ table_length n) where
  pub line-length : (i : ℕ) → i < n → length (line_of n t i) ≡ stride n
  unfolding line_of
  line-length i h = length-take-le (stride n) (drop (line_start n i) t) (omega (arith, length-drop (line_start n i) t, line-inside n i h))

  pub field_of : (i : ℕ) → i < n → length (field_bytes (line_field n t i)) ≡ stride n + 4
  field_of i h = omega (arith, field-length (line_field n t i), line-length i h)

  pub lines-length : length (saved_lines n t n) ≡ n * (stride n + 4)
  unfolding saved_lines
  lines-length = concat-length _ (stride n + 4) n (λ i h. field_of _ (omega arith))

  pub length-saved : (tally : Tally) → length (saved n t tally) ≡ saved_length n
  unfolding saved
  length-saved tally =
      let e : stride n + 4 ≡ n + 10 = omega arith in
      length-append (front_fields n tally) (saved_lines n t n) ∙ ap₂ (λ (a b : ℕ). a + b) (front-length n tally) (lines-length ∙ ap (λ k. n * k) e)
