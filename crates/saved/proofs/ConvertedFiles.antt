-- The claims ConverterTakes and ConvertedLoads of specs/Converting hold: which files are converted, and what is read of what is written.
-- Assumes nothing.
use mathlib.Core.Path.{◌≡◌, refl, sym, ◌∙◌}
use mathlib.Core.Bool.{Bool, true, false, not, ◌&&◌}
use mathlib.Core.List.{List}
use Rattle.std.specs.Prelude.{Ok, Err}
use Rattle.std.specs.Result.{is_ok}
use Prim.Native.Nat.{ℕ}
use native.Mathlib.Omega.{arith}
use borrow.Author.Tests.{eq-eqb, not-true}
use lib.Dec.{eqb}
use lib.ListN.{length, take, drop, length-drop}
use lib.Seq.{length-take-le}
use Rattle.lists.specs.declared.refusal.Refusal.{Refusal}
use Rattle.lists.specs.declared.refusal.Refusal.TheVariants.{TableLength, FieldPastEnd, LineField, FieldOrder, ListLength}
use Rattle.lists.specs.Refusal.{Check, ensure, ◌and◌}
use Rattle.lists.proofs.BoolLaws.{by_bool}
use Rattle.lists.proofs.SearchLaws.{both}
use Rattle.lists.proofs.RefusalLaws.{ensure_ok, and_ok}
use Rattle.table.specs.Sizes.{is_size}
use Rattle.table.specs.Table.{table_length}
use Rattle.table.specs.Rules.{table_check}
use Rattle.table.specs.declared.wiring.Wiring.TheVariants.{Cube}
use Rattle.saved.specs.Fields.{runs_past, fields_of, tagged, only_one, only_contents}
use Rattle.saved.specs.Plant.{size_tag, size_length, tally_tag, tally_length, tally_rounds, tally_tests, size_and_tally, plant_check}
use Rattle.saved.specs.Plant.{lines_right, table_in}
use Rattle.saved.specs.Load.{file_size, file_tally, file_lines, file_table}
use Rattle.saved.specs.Save.{saved, saved_length}
use Rattle.saved.specs.Edition1.{line_field_length, rules_check, converted_table, reader_check, reader_answer, reader_after}
use Rattle.saved.specs.Edition1.{table_length as old_table_length}
use Rattle.saved.specs.Convert.{all_known, old_check, old_lines_check, converted, convert_check, convert_after}
use Rattle.saved.specs.Files.{AreBytes}
use Rattle.saved.specs.Restoring.{IsTally}
use Rattle.saved.specs.Converting.{ConverterTakes, ConvertedLoads}
use Rattle.saved.proofs.NumberLaws.{number_lt}
use Rattle.saved.proofs.LineLaws.{only_one-length}
use Rattle.saved.proofs.SaveLaws.{length-saved}
use Rattle.saved.proofs.Edition1Laws.{length-converted, rules-converted, length-in}
use Rattle.saved.proofs.Restored.{load-restores}
use Rattle.saved.proofs.OneForm.{first-are-bytes, take-bytes, drop-bytes}

ok-and : (a b : Check) → is_ok (a and b) ≡ (is_ok a && is_ok b)
ok-and (Ok x) b = refl
ok-and (Err r) b = refl

ok-ensure : (b : Bool) (r : Refusal) → is_ok (ensure b r) ≡ b
ok-ensure true r = refl
ok-ensure false r = refl

-- the same tests in another order, where the lines are right, and where they are not
reordered : (p k q r : Bool) → ((p && (k && q)) && (r && true)) ≡ ((p && (q && r)) && k)
reordered false k q r = refl
reordered true true true true = refl
reordered true true true false = refl
reordered true true false r = refl
reordered true false true true = refl
reordered true false true false = refl
reordered true false false r = refl

neither_takes : (p k q : Bool) → ((p && (k && q)) && false) ≡ ((p && (q && false)) && k)
neither_takes false k q = refl
neither_takes true true true = refl
neither_takes true true false = refl
neither_takes true false true = refl
neither_takes true false false = refl

pub converter-takes : ConverterTakes
unfolding convert_check old_check old_lines_check converted reader_check
converter-takes file t b long wide =
    let n : ℕ = file_size file in
    let cs : List (List ℕ) = file_lines file in
    let whole : Bool = not (runs_past file) in
    let known : Bool = all_known (fields_of file) in
    let plant : Check = plant_check (fields_of file) in
    let lines : Bool = lines_right (line_field_length n) n cs in
    let old_rules : Check = rules_check n (table_in n cs) in
    let same : Bool = eqb (length b) (length (saved n (converted_table n (table_in n cs)) (file_tally file))) in
    let old_same : Bool = eqb (length t) (old_table_length n) in
    let left : is_ok (convert_check file (length b)) ≡ ((whole && (known && is_ok plant)) && ((lines && is_ok old_rules) && same)) =
    rw (
      ok-and ((ensure whole FieldPastEnd) and (ensure known FieldOrder) and plant)
          ((ensure lines LineField and old_rules) and ensure same ListLength),
      ok-and (ensure whole FieldPastEnd) (ensure known FieldOrder and plant),
      ok-and (ensure known FieldOrder) plant,
      ok-and (ensure lines LineField and old_rules) (ensure same ListLength),
      ok-and (ensure lines LineField) old_rules,
      ok-ensure whole FieldPastEnd,
      ok-ensure known FieldOrder,
      ok-ensure lines LineField,
      ok-ensure same ListLength,
    ) in
    let right : is_ok (reader_check file (length t)) ≡ (whole && (is_ok plant && (lines && (old_same && is_ok old_rules)))) =
    rw (
      ok-and (ensure whole FieldPastEnd) (plant and ensure lines LineField and ensure old_same TableLength and old_rules),
      ok-and plant (ensure lines LineField and ensure old_same TableLength and old_rules),
      ok-and (ensure lines LineField) (ensure old_same TableLength and old_rules),
      ok-and (ensure old_same TableLength) old_rules,
      ok-ensure whole FieldPastEnd,
      ok-ensure lines LineField,
      ok-ensure old_same TableLength,
    ) in
    left
    ∙ by_bool lines
    (λ h. let c : length (saved n (converted_table n (table_in n cs)) (file_tally file)) ≡ saved_length n =
    length-saved n (converted_table n (table_in n cs)) (length-converted n (table_in n cs) (length-in n cs h)) (file_tally file) in
    let s : same ≡ true = eq-eqb (length b) (length (saved n (converted_table n (table_in n cs)) (file_tally file))) (wide ∙ sym c) in
    let o : old_same ≡ true = eq-eqb (length t) (old_table_length n) long in
    rw (right, h, s, o) (reordered whole known (is_ok plant) (is_ok old_rules)))
    (λ h. rw (right, h) (neither_takes whole known (is_ok plant)))

-- a file that is converted
record Taken (file : List ℕ) : Type 0 where
  whole : runs_past file ≡ false
  known : plant_check (fields_of file) ≡ Ok tt
  lines : lines_right (line_field_length (file_size file)) (file_size file) (file_lines file) ≡ true
  sound : rules_check (file_size file) (file_table file) ≡ Ok tt

taken : (file : List ℕ) (len : ℕ) → convert_check file len ≡ Ok tt → Taken file
unfolding convert_check old_check old_lines_check
taken file len e =
    let p = and_ok (old_check file) _ tt e in
    let a = and_ok _ _ tt p.0 in
    let k = and_ok (ensure (all_known (fields_of file)) FieldOrder) _ tt a.1 in
    let l = and_ok _ _ tt (and_ok (old_lines_check (file_size file) (file_lines file)) _ tt p.1).0 in
    record { whole = not-true _ (ensure_ok _ _ tt a.0); known = k.1; lines = ensure_ok _ _ tt l.0; sound = l.1 }

-- a tally of a file of bytes has 32 bits
module _ (file : List ℕ) (small : AreBytes file) (k : Taken file) where
  abbrev contents : List ℕ
  contents = only_contents (tagged tally_tag (fields_of file))

  sizes : (size_and_tally (fields_of file) ≡ true) × (is_size (file_size file) ≡ true)
  unfolding plant_check
  sizes = let p = and_ok _ _ tt k.known in (ensure_ok _ _ tt p.0, ensure_ok _ _ tt p.1)

  eight : length contents ≡ 8
  unfolding size_and_tally
  eight =
      only_one-length tally_length (tagged tally_tag (fields_of file)) (both (only_one size_length (tagged size_tag (fields_of file))) _ sizes.0).1

  are_bytes : AreBytes contents
  are_bytes = first-are-bytes tally_tag file small

  is_tally : IsTally (file_tally file)
  unfolding tally_rounds tally_tests
  is_tally =
      let a : length (take 4 contents) ≡ 4 = length-take-le 4 contents (omega (arith, eight)) in
      let b : length (drop 4 contents) ≡ 4 = omega (arith, eight, length-drop 4 contents) in
      let p = number_lt (take 4 contents) (λ i h. take-bytes 4 contents are_bytes i) in
      let q = number_lt (drop 4 contents) (λ i h. drop-bytes 4 contents are_bytes i) in
      (rw a at p, rw b at q)

  table-sound : table_check Cube (file_size file) (converted_table (file_size file) (file_table file)) ≡ Ok tt
  table-sound =
      let long = length-in (file_size file) (file_lines file) k.lines in
      rules-converted (file_size file) (file_table file) sizes.1 long ∙ k.sound

  table-long : length (converted_table (file_size file) (file_table file)) ≡ table_length (file_size file)
  table-long = length-converted (file_size file) (file_table file) (length-in (file_size file) (file_lines file) k.lines)

  reader-takes : (t : List ℕ) → length t ≡ old_table_length (file_size file) → reader_check file (length t) ≡ Ok tt
  unfolding reader_check
  reader-takes t long =
      let o : eqb (length t) (old_table_length (file_size file)) ≡ true = eq-eqb _ _ long in rw (k.whole, k.known, k.lines, o, k.sound)

pub converted-loads : ConvertedLoads
unfolding convert_after converted reader_answer reader_after
converted-loads file b t t' small z long wide =
    let k = taken file (length b) z in
    let n : ℕ = file_size file in
    let C : List ℕ = converted_table n (file_table file) in
    let r = reader-takes file small k t long in
    let l = table-long file small k in
    let s = load-restores n C (file_tally file) t' (table-sound file small k) (is_tally file small k) (wide ∙ sym l) in
    (rw (z, r) s.1, rw (z, r) s.2)
