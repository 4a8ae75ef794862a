-- Laws of what is wrong with a file, of specs/What.
-- Assumes nothing.
use mathlib.Core.Path.{◌≡◌, refl, sym, ap, ◌∙◌}
use mathlib.Core.Bool.{false}
use mathlib.Core.List.{List, [], ◌∷◌, ◌++◌, append_assoc}
use Rattle.std.specs.Prelude.{Ok, Err}
use Rattle.std.specs.Result.{result_map_both}
use Prim.Native.Nat.{ℕ, ◌+◌, ◌≤◌, ◌<◌}
use native.Mathlib.Nat.{mul-le-mul}
use native.Mathlib.Omega.{arith}
use borrow.Author.Tests.{eqb-true, lt-ltb, le-ltb}
use lib.ListN.{length, take, length-append}
use lib.Seq.{take-append_seam}
use Rattle.lists.specs.declared.refusal.Refusal.{Refusal}
use Rattle.lists.specs.declared.refusal.Refusal.TheVariants.{FieldOrder}
use Rattle.lists.specs.Refusal.{Check, ensure}
use Rattle.lists.proofs.RefusalLaws.{ensure_ok, and_ok}
use Rattle.table.specs.Sizes.{is_size}
use Rattle.table.specs.Table.{table_length, greatest_table}
use Rattle.table.proofs.SizeLaws.{size-bounds}
use Rattle.saved.specs.Bytes.{bytes_of}
use Rattle.saved.specs.Fields.{fields_of, field_bytes}
use Rattle.saved.specs.Plant.{plant_check}
use Rattle.saved.specs.Order.{opening, order_check}
use Rattle.saved.specs.Load.{file_size, file_lines, size_check, load_check, saved_size, load_answer, loaded_of}
use Rattle.saved.specs.Save.{saved_length}
use Rattle.saved.specs.Convert.{all_known, old_check, old_lines_check, converted, convert_check, convert_after, converted_length}
use Rattle.saved.specs.declared.Loaded.{Loaded}
use Rattle.saved.proofs.Loading.{table_fits, answer_ok, answer_err}
use Rattle.saved.specs.declared.edition.Edition.{Edition}
use Rattle.saved.specs.declared.edition.Edition.TheVariants.{Two}
use Rattle.convert.specs.declared.what.Fault.TheVariants.{TooLong}
use Rattle.convert.specs.What.{greatest_saved, reader_check, converter_check, edition_check, fault_at, read_as, lacks_opening}

-- the size of a file, or its refusal
pub size_known : (file : List ℕ) (n : ℕ) → Ok n ≡ saved_size file → (n ≡ file_size file) × (table_length n ≤ greatest_table)
unfolding saved_size size_check plant_check
size_known file n e =
    let p = answer_ok (size_check file) (file_size file) n e in
    let q = and_ok _ _ tt p.0 in
    let r = and_ok _ _ tt (and_ok (order_check (fields_of file)) _ tt q.1).1 in
    (p.1, table_fits n (ap is_size p.1 ∙ ensure_ok _ _ tt r.1))

pub size_refused : (file : List ℕ) (r : Refusal) → Err r ≡ saved_size file → Err r ≡ reader_check file
unfolding saved_size load_check
size_refused file r e = sym (rw (answer_err (size_check file) (file_size file) r e) refl)

-- what the reader answers
module _ (file : List ℕ) (len : ℕ) (right : len ≡ table_length (file_size file)) where
  pub load_refused : (r : Refusal) → Err r ≡ load_answer file len → Err r ≡ reader_check file
  unfolding load_answer
  load_refused r e = sym (answer_err (load_check file len) (loaded_of (fields_of file)) r e) ∙ ap (load_check file) right

  pub load_taken : (x : Loaded) → Ok x ≡ load_answer file len → Ok tt ≡ reader_check file
  unfolding load_answer
  load_taken x e = sym (answer_ok (load_check file len) (loaded_of (fields_of file)) x e).0 ∙ ap (load_check file) right

-- the length of what is converted, or the refusal
pub length_known : (file : List ℕ) (len : ℕ) → Ok len ≡ converted_length file → (len ≡ saved_length (file_size file)) × (len ≤ greatest_saved)
unfolding converted_length old_check plant_check
length_known file len e =
    let p = answer_ok (old_check file) (saved_length (file_size file)) len e in
    let q = and_ok _ _ tt p.0 in
    let r = and_ok _ _ tt (and_ok (ensure (all_known (fields_of file)) FieldOrder) _ tt q.1).1 in
    let s = size-bounds (file_size file) (ensure_ok _ _ tt r.1) in
    let n : ℕ = file_size file in
    (p.1, omega (arith, p.1, mul-le-mul {n₁ = n} {m₁ = n + 10} {n₂ = 64} {m₂ = 74} s.1 (omega arith)))

pub length_refused : (file : List ℕ) (r : Refusal) → Err r ≡ converted_length file → Err r ≡ converter_check file
unfolding converted_length convert_check
length_refused file r e = sym (rw (answer_err (old_check file) (saved_length (file_size file)) r e) refl)

-- what the converter answers and leaves, in a part of the buffer that has the right length
module _ (file part after : List ℕ) (len : ℕ) (e : Ok len ≡ converted_length file) (long : length part ≡ len)
    (gives : after ≡ convert_after file part) where
  right : length part ≡ saved_length (file_size file)
  right = long ∙ (length_known file len e).0

  pub convert_refused : (r : Refusal) → Err r ≡ convert_check file (length part) → (Err r ≡ converter_check file) × (after ≡ part)
  unfolding convert_after
  convert_refused r c = (c ∙ ap (convert_check file) right, gives ∙ rw (← c) refl)

  pub convert_taken : (u : Unit {0}) → Ok u ≡ convert_check file (length part)
      → (Ok u ≡ converter_check file) × (after ≡ converted file) × (length (converted file) ≡ len)
  unfolding convert_after convert_check
  convert_taken u c =
      let p = and_ok (old_check file) _ u (sym c) in
      let q = and_ok (old_lines_check (file_size file) (file_lines file)) _ u p.1 in
      let l : length part ≡ length (converted file) = eqb-true (length part) (length (converted file)) (ensure_ok _ _ u q.1) in
      (c ∙ ap (convert_check file) right, gives ∙ rw (← c) refl, sym l ∙ long)

-- a file that is longer than any saved plant, and another
pub read_long : (e : Edition) (file : List ℕ) → greatest_saved < length file → Err TooLong ≡ read_as e file
unfolding read_as
read_long e file h = rw (lt-ltb greatest_saved (length file) h) refl

pub read_short : (e : Edition) (file : List ℕ) → length file ≤ greatest_saved → (c : Check) → c ≡ edition_check e file
    → result_map_both (λ u. u) (fault_at e file) c ≡ read_as e file
unfolding read_as
read_short e file h c z = rw (z, le-ltb greatest_saved (length file) h) refl

-- a file with the opening in front
pub opening_bytes : field_bytes opening ≡ 4 ∷ 0 ∷ 1 ∷ 2 ∷ []
unfolding field_bytes bytes_of
opening_bytes = refl

pub opened_front : (file front rest : List ℕ) → front ≡ field_bytes opening
    → take (4 + length file) (front ++ (file ++ rest)) ≡ field_bytes opening ++ file
opened_front file front rest e =
    let n : length (front ++ file) ≡ 4 + length file = length-append front file ∙ ap (λ l. length l + length file) (e ∙ opening_bytes) in
    ap (λ k. take k (front ++ (file ++ rest))) (sym n)
    ∙ ap (take (length (front ++ file))) (sym (append_assoc front file rest))
    ∙ take-append_seam (front ++ file) rest ∙ ap (λ f. f ++ file) e

pub long_opened : (file : List ℕ) → 4751 < length file → false ≡ lacks_opening file
long_opened file h =
    let whole : List ℕ = field_bytes opening ++ file in
    let n : length whole ≡ 4 + length file = length-append (field_bytes opening) file ∙ ap (λ l. length l + length file) opening_bytes in
    rw (← read_long Two whole (omega (arith, n))) refl
