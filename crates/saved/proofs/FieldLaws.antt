-- Laws of the fields of a file: none in an empty one, and otherwise the first field and those of the rest.
-- Assumes nothing.
use mathlib.Core.Path.{◌≡◌, refl, sym, ◌∙◌}
use mathlib.Core.List.{List, [], ◌++◌}
use Rattle.std.specs.Prelude.{Some, None}
use Prim.Native.Nat.{ℕ, zero, suc, ◌+◌, ◌^◌, ◌≤◌, ◌<◌}
use native.Mathlib.Omega.{arith}
use borrow.Author.Tests.{lt-ltb, le-ltb, eq-eqb, ne_eqb}
use lib.ListN.{length, get_or, take, drop, length-append, length-drop}
use lib.Seq.{take-append_seam, drop-append_seam, drop-drop}
use Rattle.saved.specs.Bytes.{bytes_value, bytes_of}
use Rattle.saved.specs.Fields.{Field, field, field_bytes, infront, length_in, extent, fields_up_to, fields}

-- an empty file has none
up_to-empty : (k : ℕ) (file : List ℕ) → length file ≤ 0 → fields_up_to k file ≡ Some []
unfolding fields_up_to
up_to-empty zero file h = refl
up_to-empty (suc k) file h = rw (eq-eqb (length file) 0 (omega arith))

-- how many fields at most does not matter, if it is no less than the bytes
pub fields-more : (m k : ℕ) (file : List ℕ) → length file ≤ m → length file ≤ k → fields_up_to m file ≡ fields_up_to k file
unfolding fields_up_to
fields-more zero k file h h' = sym (up_to-empty k file h)
fields-more (suc m) zero file h h' = up_to-empty (suc m) file h'
fields-more (suc m) (suc k) file h h' =
    let s = length-drop (extent file) file in rw (fields-more m k (drop (extent file) file) (omega arith) (omega arith))

pub fields-nil : fields [] ≡ Some []
unfolding fields fields_up_to
fields-nil = refl

module _ (file : List ℕ) (some_byte : 0 < length file) where
  one_more : fields file ≡ fields_up_to (suc (length file)) file
  unfolding fields
  one_more = fields-more (length file) (suc (length file)) file (omega arith) (omega arith)

  -- the first field or its head runs past the end
  pub fields-cut : length file < extent file → fields file ≡ None
  unfolding fields_up_to
  fields-cut h = one_more ∙ rw (ne_eqb (length file) 0 (λ e. omega arith), lt-ltb (length file) (extent file) h)

  -- the first field, and those of the rest
  pub fields-cons : extent file ≤ length file
      → fields file ≡ infront (field (get_or file 0 0) (take (length_in file) (drop 3 file))) (fields (drop (extent file) file))
  unfolding fields fields_up_to
  fields-cons h =
      let rest : List ℕ = drop (extent file) file in
      let s = length-drop (extent file) file in
      let r = fields-more (length file) (length rest) rest (omega arith) (omega arith) in
      one_more ∙ rw (ne_eqb (length file) 0 (λ e. omega arith), le-ltb (length file) (extent file) h, r)

-- a file that begins with the bytes of a field
pub fields-first : (f : Field) (rest : List ℕ) → length f.contents < 2 ^ 16 → fields (field_bytes f ++ rest) ≡ infront f (fields rest)
unfolding field_bytes bytes_of bytes_value
fields-first f rest h =
    let file : List ℕ = field_bytes f ++ rest in
    let l : length_in file ≡ length f.contents = omega arith in
    let s = length-append f.contents rest in
    let c : take (length f.contents) (drop 3 file) ≡ f.contents = take-append_seam f.contents rest in
    let r : drop (3 + length f.contents) file ≡ rest = sym (drop-drop (length f.contents) 3 file) ∙ drop-append_seam f.contents rest in
    fields-cons file (omega arith) (omega arith) ∙ rw (l, c, r)
