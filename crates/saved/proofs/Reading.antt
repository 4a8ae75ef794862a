-- Laws of reading one field of a file's rest, of specs/Reading.
-- Assumes nothing.
use mathlib.Core.Path.{◌≡◌, refl, sym, ◌∙◌}
use mathlib.Core.Bool.{true, false}
use mathlib.Core.List.{List, [], ◌∷◌}
use Rattle.std.specs.Prelude.{Option, Some, None, is_none, unwrap_or, Ok}
use Rattle.std.specs.List.{IsSplitAt}
use Prim.Native.Nat.{ℕ, ◌+◌, ◌*◌, ◌-◌, ◌≤◌, ◌<◌}
use native.Mathlib.Omega.{arith}
use lib.ListN.{length, get_or, take, drop, length-drop}
use lib.Seq.{take_all, drop-drop}
use Rattle.saved.specs.Bytes.{bytes_value}
use Rattle.saved.specs.Fields.{Field, field, infront, length_in, extent, first_field, fields, runs_past, fields_of}
use Rattle.saved.specs.Reading.{field_value, Reads}
use Rattle.saved.specs.declared.fields.Field.{Field as FieldRead}
use Rattle.saved.proofs.FieldLaws.{fields-nil, fields-cut, fields-cons}

pub read_end : (rest : List ℕ) → length rest < 1 → fields rest ≡ Some []
read_end [] h = fields-nil
read_end (x ∷ rest) h = absurd (omega arith)

pub read_cut : (rest : List ℕ) → 1 ≤ length rest → length rest < 3 → fields rest ≡ None
read_cut rest h l = fields-cut rest h (omega arith)

-- what follows the head of three bytes
abbrev pub behind_head : List ℕ → List ℕ
behind_head rest = take (length rest - 3) (drop 3 rest)

-- len is the length that the head says
module _ (rest : List ℕ) (len : ℕ) (head : 3 ≤ length rest) (said : len ≡ get_or rest 1 0 * 256 + get_or rest 2 0) where
  says : length_in rest ≡ len
  unfolding bytes_value
  says = omega arith

  whole : behind_head rest ≡ drop 3 rest
  whole = take_all (length rest - 3) (drop 3 rest) (omega (arith, length-drop 3 rest))

  pub read_past : length (behind_head rest) < len → fields rest ≡ None
  read_past h = fields-cut rest (omega arith) (omega (arith, says, length-drop 3 rest, rw whole at h))

  pub read_field : (contents left : List ℕ) → IsSplitAt (behind_head rest) len contents left
      → (fields rest ≡ infront (field (get_or rest 0 0) contents) (fields left)) × (length left < length rest)
  read_field contents left s =
      let t = rw whole at s in (
        fields-cons rest (omega arith) (omega (arith, says, length-drop 3 rest, t.0)) ∙ rw (says, t.1, t.2, drop-drop),
        omega (arith, length-drop 3 rest, t.4),
      )

  pub first_past : length (behind_head rest) < len → length rest < extent rest
  first_past h = omega (arith, says, length-drop 3 rest, rw whole at h)

  pub first_read : (contents left : List ℕ) → IsSplitAt (behind_head rest) len contents left
      → (field (get_or rest 0 0) contents ≡ first_field rest) × (extent rest ≤ length rest) × (left ≡ drop (extent rest) rest)
  first_read contents left s =
      let t = rw whole at s in (rw (says, t.1), omega (arith, says, length-drop 3 rest, t.0), rw (says, t.2, drop-drop))

-- what an answer of the cursor tells of the fields of the rest: a field and those of what is left; none
module _ (rest left : List ℕ) (o : Option FieldRead) (reads : Reads rest (Ok o) left) where
  pub tells_more : (f : FieldRead) → o ≡ Some f
      → (runs_past left ≡ runs_past rest) × (runs_past rest ≡ false → fields_of rest ≡ field_value f ∷ fields_of left)
  unfolding runs_past fields_of
  tells_more f e = go (fields rest) (fields left) (rw e at reads).0
    where
      go : (all behind : Option (List Field)) → all ≡ infront (field_value f) behind
          → (is_none behind ≡ is_none all) × (is_none all ≡ false → unwrap_or all [] ≡ field_value f ∷ unwrap_or behind [])
      go all None h = rw h (refl, λ w. cc)
      go all (Some fs) h = rw h (refl, λ w. refl)

  pub tells_none : o ≡ None → (runs_past rest ≡ false) × (fields_of rest ≡ [])
  unfolding runs_past fields_of
  tells_none e = let h : fields rest ≡ Some [] = (rw e at reads).0 in rw h (refl, refl)

  pub ends : o ≡ None → left ≡ rest
  ends e = (rw e at reads).1

-- a field or its head that runs past the end
pub tells_cut : (rest : List ℕ) → fields rest ≡ None → runs_past rest ≡ true
unfolding runs_past
tells_cut rest e = rw e

pub cut_not : (rest : List ℕ) → runs_past rest ≡ false → fields rest ≡ None → ⊥
cut_not rest w e = let z : true ≡ false = sym (tells_cut rest e) ∙ w in cc
