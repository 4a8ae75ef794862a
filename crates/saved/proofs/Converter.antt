-- Laws of what the converter answers and leaves, of specs/Convert.
-- Assumes nothing.
use mathlib.Core.Path.{◌≡◌, refl, sym, ap, ◌∙◌}
use mathlib.Core.Bool.{true, false}
use mathlib.Core.List.{List}
use Rattle.std.specs.Prelude.{Ok, Err}
use Prim.Native.Nat.{ℕ}
use borrow.Author.Tests.{not-true}
use lib.ListN.{length}
use Rattle.lists.specs.declared.refusal.Refusal.{Refusal}
use Rattle.lists.specs.declared.refusal.Refusal.TheVariants.{LineField, FieldOrder}
use Rattle.lists.specs.Refusal.{Check, ensure, ◌and◌}
use Rattle.lists.proofs.RefusalLaws.{ensure_ok, and_ok}
use Rattle.table.specs.Sizes.{is_size}
use Rattle.table.specs.Rules.{table_check}
use Rattle.table.specs.declared.wiring.Wiring.TheVariants.{Cube}
use Rattle.saved.specs.Fields.{runs_past, fields_of}
use Rattle.saved.specs.Plant.{plant_check, lines_right}
use Rattle.saved.specs.Load.{file_size, file_lines, file_table, loaded_of}
use Rattle.saved.specs.Save.{saved_length, save_check, save_after}
use Rattle.saved.specs.Edition1.{line_field_length, rules_check, converted_table}
use Rattle.saved.specs.Convert.{all_known, old_check, old_lines_check, converted, convert_check, convert_after, converted_length}
use Rattle.saved.specs.Reading.{opened, table_read}
use Rattle.saved.specs.declared.Loaded.{Loaded}
use Rattle.saved.specs.declared.edition.Edition.TheVariants.{One}
use Rattle.saved.proofs.Loading.{checks_joined, answer_ok, answer_err}
use Rattle.saved.proofs.Edition1Laws.{rules-converted, length-in, read-converted}

opened_one : (file : List ℕ) → opened One file ≡ (old_check file and Ok (loaded_of (fields_of file)))
unfolding opened old_check
opened_one file = checks_joined _ (ensure (all_known (fields_of file)) FieldOrder) _ _

-- the length of a file that is refused, and of one that is not
pub length_err : (file : List ℕ) (r : Refusal) → Err r ≡ opened One file → Err r ≡ converted_length file
unfolding converted_length
length_err file r e = rw (answer_err (old_check file) _ r (e ∙ opened_one file))

pub length_ok : (file : List ℕ) (x : Loaded) → Ok x ≡ opened One file → Ok (saved_length x.size) ≡ converted_length file
unfolding converted_length
length_ok file x e = let p = answer_ok (old_check file) _ x (e ∙ opened_one file) in rw (p.0, p.1)

-- what a call answers and leaves
module _ (file b : List ℕ) where
  abbrev Gives : Check → List ℕ → Type 0
  Gives answer after = (answer ≡ convert_check file (length b)) × (after ≡ convert_after file b)

  refused : (r : Refusal) → convert_check file (length b) ≡ Err r → Gives (Err r) b
  unfolding convert_after
  refused r e = rw e (refl, refl)

  pub convert_err : (r : Refusal) → Err r ≡ opened One file → Gives (Err r) b
  unfolding convert_check
  convert_err r e = refused r (rw (answer_err (old_check file) _ r (e ∙ opened_one file)))

  module _ (x : Loaded) (e : Ok x ≡ opened One file) where
    known : (old_check file ≡ Ok tt) × (x ≡ loaded_of (fields_of file))
    known = answer_ok (old_check file) _ x (e ∙ opened_one file)

    pub old_right : (runs_past file ≡ false) × (is_size x.size ≡ true)
    unfolding old_check plant_check
    old_right =
        let p = and_ok _ _ tt known.0 in
        let q = and_ok _ _ tt (and_ok (ensure (all_known (fields_of file)) FieldOrder) _ tt p.1).1 in
        (not-true _ (ensure_ok _ _ tt p.0), ap (λ l. is_size l.size) known.1 ∙ ensure_ok _ _ tt q.1)

    -- lines that are not right
    pub old_lines_err : (r : Refusal) → Err r ≡ ensure (lines_right (line_field_length x.size) x.size (file_lines file)) LineField → Gives (Err r) b
    unfolding convert_check old_lines_check
    old_lines_err r h =
        let k : ensure (lines_right (line_field_length (file_size file)) (file_size file) (file_lines file)) LineField ≡ Err r =
        sym (h ∙ ap (λ l. ensure (lines_right (line_field_length l.size) l.size (file_lines file)) LineField) known.1) in
        refused r (rw (known.0, k))

    -- lines that are right: then saving their table gives the rest
    module _ (u : Unit {0}) (own : List ℕ) (fine : Ok u ≡ ensure (lines_right (line_field_length x.size) x.size (file_lines file)) LineField)
        (built : own ≡ table_read One x.size (file_lines file)) where
      right : lines_right (line_field_length (file_size file)) (file_size file) (file_lines file) ≡ true
      right = ap (λ l. lines_right (line_field_length l.size) l.size (file_lines file)) (sym known.1) ∙ ensure_ok _ LineField u (sym fine)

      own_is : own ≡ converted_table (file_size file) (file_table file)
      own_is = built ∙ ap (λ l. table_read One l.size (file_lines file)) known.1 ∙ read-converted (file_size file) (file_lines file) right

      size : is_size (file_size file) ≡ true
      size = ap (λ l. is_size l.size) (sym known.1) ∙ old_right.1

      judged : table_check Cube (file_size file) own ≡ rules_check (file_size file) (file_table file)
      judged =
          ap (table_check Cube (file_size file)) own_is
          ∙ rules-converted (file_size file) (file_table file) size (length-in (file_size file) (file_lines file) right)

      same_check : save_check x.size own x.tally (length b) ≡ convert_check file (length b)
      unfolding save_check convert_check old_lines_check converted
      same_check = rw (known.0, known.1, right, judged, own_is)

      pub saved_gives : (c : Check) (after : List ℕ) → c ≡ save_check x.size own x.tally (length b)
          → after ≡ save_after x.size own x.tally b → Gives c after
      unfolding save_after convert_after converted
      saved_gives c after p q = (p ∙ same_check, q ∙ rw (same_check, known.1, own_is))
