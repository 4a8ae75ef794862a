-- Laws of the place of a fault, of specs/Place.
-- Assumes nothing.
use mathlib.Core.Path.{◌≡◌, refl, sym, ap, ◌∙◌}
use mathlib.Core.Bool.{true, false}
use mathlib.Core.List.{List}
use Rattle.std.specs.Prelude.{Option, Some, None, Result, Ok, Err}
use Rattle.std.proofs.lemmas.List.Edits.{sets}
use Prim.Native.Nat.{ℕ, zero, suc, ◌+◌, ◌≤◌, ◌<◌}
use native.Mathlib.Omega.{arith}
use borrow.Author.Tests.{lt-ltb, le-ltb, ne_eqb, eq-eqb}
use lib.ListN.{length, drop, length-drop}
use Rattle.lists.specs.declared.refusal.Refusal.{Refusal}
use Rattle.lists.specs.declared.refusal.Refusal.TheVariants.{SizeOutOfRange, LineRule}
use Rattle.lists.specs.Refusal.{Check}
use Rattle.table.specs.Sizes.{is_size}
use Rattle.table.specs.Table.{line_start, table_length}
use Rattle.table.specs.Fresh.{fresh_table, fresh_after}
use Rattle.table.specs.Rules.{shape_check, table_check}
use Rattle.table.specs.declared.wiring.Wiring.TheVariants.{Cube}
use Rattle.saved.specs.Fields.{extent, first_field}
use Rattle.saved.specs.Plant.{station_in}
use Rattle.saved.specs.Reading.{field_value, contents_length, line_as}
use Rattle.saved.specs.declared.fields.Field.{Field as FieldRead}
use Rattle.convert.specs.declared.place.Form.{Form}
use Rattle.convert.specs.declared.place.Search.{Search}
use Rattle.convert.specs.Place.{is_line, rules_check, search_with, and_behind, place_up_to, place, ReadsWhole}

-- contents of a line field that are none
pub empty_line : (form : Form) (c : List ℕ) → length c < 1 → is_line form c ≡ false
empty_line form c h = rw (ne_eqb (length c) (contents_length form.edition form.size) (λ e. omega arith))

pub rules_not : (form : Form) (c : List ℕ) → is_line form c ≡ false → Err LineRule ≡ rules_check form c
unfolding rules_check
rules_not form c h = rw h refl

module _ (form : Form) (c : List ℕ) (line : is_line form c ≡ true) where
  pub rules_size : is_size form.size ≡ false → Err SizeOutOfRange ≡ rules_check form c
  unfolding rules_check table_check shape_check
  rules_size z = rw (line, z) refl

  -- a fresh table, with the line in it
  pub rules_in : (l : List ℕ) (answer : Check) → l ≡ drop 1 c
      → answer ≡ table_check Cube form.size (sets (fresh_table form.size) (line_start form.size (station_in c)) (line_as form.edition l))
      → answer ≡ rules_check form c
  unfolding rules_check
  rules_in l answer e z = z ∙ rw (line, e) refl

-- what the goals of judging a line want of these
pub ruleset line_judged = (empty_line, rules_not, rules_size, rules_in)

-- a buffer of the right length is one of a table of that size
pub right_shape : (n : ℕ) (t : List ℕ) → is_size n ≡ true → length t ≡ table_length n → shape_check n (length t) ≡ Ok tt
unfolding shape_check
right_shape n t z l = rw (z, eq-eqb (length t) (table_length n) l) refl

pub made_fresh : (n : ℕ) (t : List ℕ) → is_size n ≡ true → length t ≡ table_length n → fresh_after n t ≡ fresh_table n
unfolding fresh_after
made_fresh n t z l = rw (right_shape n t z l) refl

-- how many fields at most does not matter, if it is no less than the bytes
behind_same : (len : ℕ) (f g : Search → ℕ) (r : Result Search Refusal) → ((s : Search) → f s ≡ g s) → and_behind len f r ≡ and_behind len g r
behind_same len f g (Ok s) h = ap (λ k. len + k) (h s)
behind_same len f g (Err r) h = refl

place-more : (m k : ℕ) (s : Search) (file : List ℕ) → length file ≤ m → length file ≤ k → place_up_to m s file ≡ place_up_to k s file
unfolding place_up_to
place-more zero zero s file h h' = refl
place-more zero (suc k) s file h h' = sym (rw (lt-ltb (length file) (extent file) (omega arith)) refl)
place-more (suc m) zero s file h h' = rw (lt-ltb (length file) (extent file) (omega arith)) refl
place-more (suc m) (suc k) s file h h' =
    let d = length-drop (extent file) file in
    let rest : List ℕ = drop (extent file) file in
    rw (behind_same (extent file) (λ x. place_up_to m x rest) (λ x. place_up_to k x rest) (search_with s (first_field file))
    (λ x. place-more m k x rest (omega arith) (omega arith))) refl

-- a field that goes past the end, or none
pub place_end : (s : Search) (file : List ℕ) → length file < extent file → place s file ≡ 0
unfolding place place_up_to
place_end s file h = place-more (length file) (suc (length file)) s file (omega arith) (omega arith) ∙ rw (lt-ltb (length file) (extent file) h) refl

-- a field that lies whole in the file
module _ (s : Search) (file : List ℕ) (whole : extent file ≤ length file) where
  go_on : place s file ≡ and_behind (extent file) (λ x. place_up_to (length file) x (drop (extent file) file)) (search_with s (first_field file))
  unfolding place place_up_to
  go_on =
      place-more (length file) (suc (length file)) s file (omega arith) (omega arith)
      ∙ rw (le-ltb (length file) (extent file) whole) refl

  pub place_here : (r : Refusal) → Err r ≡ search_with s (first_field file) → place s file ≡ 0
  place_here r e = go_on ∙ rw (← e) refl

  pub place_behind : (x : Search) → Ok x ≡ search_with s (first_field file) → place s file ≡ extent file + place x (drop (extent file) file)
  unfolding place
  place_behind x e =
      let rest : List ℕ = drop (extent file) file in
      let d = length-drop (extent file) file in
      go_on ∙ rw (← e) (ap (λ k. extent file + k) (place-more (length file) (length rest) x rest (omega arith) (omega arith)))

-- what the code reads at the cursor, with a search that goes on there, or that the field ends
module _ (rest left : List ℕ) (o : Option FieldRead) (reads : ReadsWhole rest o left) where
  pub read_none : o ≡ None → (s : Search) → place s rest ≡ 0
  read_none e s = place_end s rest (rw e at reads)

  module _ (f : FieldRead) (e : o ≡ Some f) where
    read_some : (field_value f ≡ first_field rest) × (extent rest ≤ length rest) × (left ≡ drop (extent rest) rest)
    read_some = rw e at reads

    pub read_less : length left < length rest
    read_less = omega (arith, read_some.1, ap length read_some.2, length-drop (extent rest) rest)

    pub read_fault : (s : Search) (r : Refusal) → Err r ≡ search_with s (field_value f) → place s rest ≡ 0
    read_fault s r h = place_here s rest read_some.1 r (h ∙ ap (search_with s) read_some.0)

    pub read_on : (s x : Search) → Ok x ≡ search_with s (field_value f) → place s rest ≡ extent rest + place x left
    read_on s x h = place_behind s rest read_some.1 x (h ∙ ap (search_with s) read_some.0) ∙ ap (λ l. extent rest + place x l) (sym read_some.2)

    pub read_length : length left + extent rest ≡ length rest
    read_length = omega (arith, read_some.1, ap length read_some.2, length-drop (extent rest) rest)
