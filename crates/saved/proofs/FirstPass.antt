-- Laws of the first pass over a file's fields: whether they stand in order, what is found of size and tally, and what the pass answers.
-- Assumes nothing.
use mathlib.Core.Path.{◌≡◌, refl, sym, ap, ap₂, ◌∙◌}
use mathlib.Core.Bool.{Bool, true, false, not, ◌&&◌, ◌||◌, and-false, and-true}
use mathlib.Core.List.{List, [], ◌∷◌}
use Rattle.std.specs.Int.{w32, from_be_bytes}
use native.Mathlib.Omega.{arith}
use Rattle.std.specs.Prelude.{Option, Some, None, is_none, Result, Ok, Err, nat_le}
use Prim.Native.Nat.{ℕ}
use borrow.Author.Tests.{eqb-true}
use lib.ListN.{length, get_or, take, drop, length-drop}
use lib.Seq.{drop-cons}
use lib.Dec.{eqb}
use Rattle.std.proofs.Math.Dec.{leb-zero}
use Rattle.lists.specs.declared.refusal.Refusal.{Refusal}
use Rattle.lists.specs.declared.refusal.Refusal.TheVariants.{FieldPastEnd, SizeOrTallyField, NoOpening, FieldOrder}
use Rattle.lists.specs.Refusal.{ensure, ◌and◌}
use Rattle.lists.proofs.BoolLaws.{by_bool}
use Rattle.plant.specs.declared.Tally.{Tally}
use Rattle.saved.specs.Bytes.{bytes_value}
use Rattle.saved.specs.Fields.{Field, runs_past, fields_of, tagged, only_one, only_contents}
use Rattle.saved.specs.Plant.{size_tag, size_length, tally_tag, tally_length, size_in, tally_rounds, tally_tests, size_and_tally}
use Rattle.saved.specs.Plant.{plant_check, line_tag, station_in}
use Rattle.saved.specs.Order.{opening_tag, after_opening, is_known, is_line, nothing_before, behind, follows, in_order, order_check}
use Rattle.saved.specs.Load.{loaded_of}
use Rattle.saved.specs.Convert.{all_known}
use Rattle.saved.specs.Reading.{opens_as, behind_opening, behind_as, fields_check, found_with, with_size, both_found, complete, opened}
use Rattle.saved.specs.declared.edition.Edition.{Edition}
use Rattle.saved.specs.declared.edition.Edition.TheVariants.{One, Two}
use Rattle.saved.specs.declared.order.Previous.{Previous}
use Rattle.saved.specs.declared.Loaded.{Loaded}
use Rattle.saved.specs.declared.first_pass.Found.{Found}

-- there is none
abbrev pub is_empty : List (List ℕ) → Bool
is_empty [] = true
is_empty (c ∷ cs) = false

-- whether the contents with a tag that are left complete what is found: one of that length, or none where one is found
abbrev completes : {A : Type 0} → ℕ → Option A → List (List ℕ) → Bool
completes len None cs = only_one len cs
completes len (Some v) cs = is_empty cs

-- what is found then
abbrev found_then : {A : Type 0} → (List ℕ → A) → Option A → List (List ℕ) → A
found_then read None cs = read (only_contents cs)
found_then read (Some v) cs = v

abbrev tally_read : List ℕ → Tally
tally_read c = record { rounds = bytes_value (take 4 c); tests = bytes_value (drop 4 c) }

-- size and tally where both are right
abbrev pub gives : Bool → Bool → ℕ → Tally → Result Loaded Refusal
gives a b size tally = ensure (a && b) SizeOrTallyField and Ok (record { size = size; tally = tally })

-- what is found of a file in the end, by what is found so far and the fields that are left
abbrev pub completed : Result Found Refusal → List Field → Result Loaded Refusal
completed (Err r) fs = Err r
completed (Ok o) fs =
    gives (completes size_length o.size (tagged size_tag fs)) (completes tally_length o.tally (tagged tally_tag fs))
    (found_then bytes_value o.size (tagged size_tag fs)) (found_then tally_read o.tally (tagged tally_tag fs))

abbrev pub nothing_found : Found
nothing_found = record { size = None; tally = None }

pub completed_start : (fs : List Field) → completed (Ok nothing_found) fs ≡ (ensure (size_and_tally fs) SizeOrTallyField and Ok (loaded_of fs))
unfolding size_and_tally size_in tally_rounds tally_tests
completed_start fs = refl

-- one more with a tag: the first, of the right length, or not
found_one : {A : Type 0} (len : ℕ) (o : Option A) (c : List ℕ) (cs : List (List ℕ))
    → (eqb (length c) len && is_none o) ≡ true → is_empty cs ≡ completes len o (c ∷ cs)
found_one len None c [] e = sym (rw and-true at e)
found_one len None c (d ∷ cs) e = refl
found_one len (Some w) c cs e = let z : false ≡ true = rw and-false at e in cc

found_then_one : {A : Type 0} (read : List ℕ → A) (len : ℕ) (o : Option A) (c : List ℕ) (cs : List (List ℕ))
    → (eqb (length c) len && is_none o) ≡ true → read c ≡ found_then read o (c ∷ cs)
found_then_one read len None c cs e = refl
found_then_one read len (Some w) c cs e = let z : false ≡ true = rw and-false at e in cc

found_not : {A : Type 0} (len : ℕ) (o : Option A) (c : List ℕ) (cs : List (List ℕ))
    → (eqb (length c) len && is_none o) ≡ false → completes len o (c ∷ cs) ≡ false
found_not len None c [] e = rw and-true at e
found_not len None c (d ∷ cs) e = refl
found_not len (Some w) c cs e = refl

-- the pass, one field more
completed_more : (o : Found) (f : Field) (fs : List Field) → completed (found_with o f) fs ≡ completed (Ok o) (f ∷ fs)
unfolding found_with tagged
completed_more o f fs =
    by_bool (eqb f.tag size_tag) sized (λ e. by_bool (eqb f.tag tally_tag) (tallied e) (λ h. rw (e, h)))
  where
    sizes : List (List ℕ)
    sizes = tagged size_tag fs

    tallies : List (List ℕ)
    tallies = tagged tally_tag fs

    other : eqb f.tag size_tag ≡ true → eqb f.tag tally_tag ≡ false
    other e = let t : f.tag ≡ size_tag = eqb-true f.tag size_tag e in rw t

    sized : eqb f.tag size_tag ≡ true → completed (found_with o f) fs ≡ completed (Ok o) (f ∷ fs)
    sized e =
        by_bool (eqb (length f.contents) size_length && is_none o.size)
        (λ h. rw (e, other e, h)
        (ap₂ (λ a s. gives a (completes tally_length o.tally tallies) s (found_then tally_read o.tally tallies))
        (found_one size_length o.size f.contents sizes h) (found_then_one bytes_value size_length o.size f.contents sizes h)))
        (λ h. rw (e, other e, h, found_not size_length o.size f.contents sizes h))

    tallied : eqb f.tag size_tag ≡ false → eqb f.tag tally_tag ≡ true → completed (found_with o f) fs ≡ completed (Ok o) (f ∷ fs)
    tallied e g =
        by_bool (eqb (length f.contents) tally_length && is_none o.tally)
        (λ h. rw (e, g, h)
        (ap₂ (λ a t. gives (completes size_length o.size sizes) a (found_then bytes_value o.size sizes) t)
        (found_one tally_length o.tally f.contents tallies h) (found_then_one tally_read tally_length o.tally f.contents tallies h)))
        (λ h. rw (e, g, h, found_not tally_length o.tally f.contents tallies h, and-false))

-- a list of eight, by its elements
none_behind : (c : List ℕ) → length c ≡ 0 → c ≡ []
none_behind [] e = refl
none_behind (x ∷ c) e = absurd (omega arith)

eight : (c : List ℕ) → length c ≡ 8
    → c ≡ get_or c 0 0 ∷ get_or c 1 0 ∷ get_or c 2 0 ∷ get_or c 3 0 ∷ get_or c 4 0 ∷ get_or c 5 0 ∷ get_or c 6 0 ∷ get_or c 7 0 ∷ []
eight c e =
    let d0 : c ≡ get_or c 0 0 ∷ drop 1 c = drop-cons c 0 0 (omega arith) in
    let d1 : drop 1 c ≡ get_or c 1 0 ∷ drop 2 c = drop-cons c 1 0 (omega arith) in
    let d2 : drop 2 c ≡ get_or c 2 0 ∷ drop 3 c = drop-cons c 2 0 (omega arith) in
    let d3 : drop 3 c ≡ get_or c 3 0 ∷ drop 4 c = drop-cons c 3 0 (omega arith) in
    let d4 : drop 4 c ≡ get_or c 4 0 ∷ drop 5 c = drop-cons c 4 0 (omega arith) in
    let d5 : drop 5 c ≡ get_or c 5 0 ∷ drop 6 c = drop-cons c 5 0 (omega arith) in
    let d6 : drop 6 c ≡ get_or c 6 0 ∷ drop 7 c = drop-cons c 6 0 (omega arith) in
    let d7 : drop 7 c ≡ get_or c 7 0 ∷ drop 8 c = drop-cons c 7 0 (omega arith) in
    let d8 : drop 8 c ≡ [] = none_behind (drop 8 c) (omega (arith, length-drop 8 c)) in
    cc

pub pass_on : (found next : Result Found Refusal) (o : Found) (f : Field) (fs rest : List Field)
    → found ≡ Ok o → next ≡ found_with o f → rest ≡ f ∷ fs → completed next fs ≡ completed found rest
pass_on found next o f fs rest e h k = rw (e, h, k) (completed_more o f fs)

-- size and tally, as the code reads them
bytes_four : (a b c d : ℕ) → from_be_bytes w32 (a ∷ b ∷ c ∷ d ∷ []) ≡ bytes_value (a ∷ b ∷ c ∷ d ∷ [])
unfolding bytes_value
bytes_four a b c d = omega arith

pub rounds_read : (c : List ℕ) → length c ≡ 8
    → from_be_bytes w32 (get_or c 0 0 ∷ get_or c 1 0 ∷ get_or c 2 0 ∷ get_or c 3 0 ∷ []) ≡ bytes_value (take 4 c)
rounds_read c e = bytes_four _ _ _ _ ∙ ap (λ l. bytes_value (take 4 l)) (sym (eight c e))

pub tests_read : (c : List ℕ) → length c ≡ 8
    → from_be_bytes w32 (get_or c 4 0 ∷ get_or c 5 0 ∷ get_or c 6 0 ∷ get_or c 7 0 ∷ []) ≡ bytes_value (drop 4 c)
tests_read c e = bytes_four _ _ _ _ ∙ ap (λ l. bytes_value (drop 4 l)) (sym (eight c e))

pub size_read : (c : List ℕ) → length c ≡ 1 → get_or c 0 0 ≡ bytes_value c
unfolding bytes_value
size_read [] e = omega arith
size_read (x ∷ []) e = omega arith
size_read (x ∷ y ∷ c) e = omega arith

-- a line field says nothing of size and tally
pub pass_line : (found : Result Found Refusal) (f : Field) (fs rest : List Field)
    → f.tag ≡ line_tag → rest ≡ f ∷ fs → completed found fs ≡ completed found rest
unfolding tagged
pass_line (Err r) f fs rest h k = refl
pass_line (Ok o) f fs rest h k = rw (k, h) refl

-- whether the fields that are left are in order, by edition
unfoldable pub keeps : Edition → Previous → List Field → Bool
keeps e b [] = true
keeps e b (f ∷ fs) = follows b f && keeps e (behind_as e b f) fs

keeps_two : (b : Previous) (fs : List Field) → keeps Two b fs ≡ in_order b fs
unfolding keeps in_order
keeps_two b [] = refl
keeps_two b (f ∷ fs) = ap (λ r. follows b f && r) (keeps_two (behind b f) fs)

follows_nothing : (f : Field) → follows nothing_before f ≡ is_known f.tag
follows_nothing f = ap (λ r. is_known f.tag && r) (free (is_line f) f.tag (station_in f.contents)) ∙ and-true (is_known f.tag)
  where
    free : (line : Bool) (tag station : ℕ) → (nat_le 0 tag && (not line || nat_le 0 station)) ≡ true
    free true tag station = rw (leb-zero, leb-zero) refl
    free false tag station = rw leb-zero refl

keeps_one : (fs : List Field) → keeps One nothing_before fs ≡ all_known fs
unfolding keeps all_known
keeps_one [] = refl
keeps_one (f ∷ fs) = ap₂ (λ a b. a && b) (follows_nothing f) (keeps_one fs)

-- the fields of a file are in order, behind the opening
abbrev pub all_keep : Edition → List Field → Bool
all_keep e fs = keeps e nothing_before (behind_opening e fs)

checked : (e : Edition) (fs : List Field) → fields_check e fs ≡ (ensure (opens_as e fs) NoOpening and ensure (all_keep e fs) FieldOrder)
unfolding order_check
checked One fs = rw (keeps_one fs) refl
checked Two fs = rw (keeps_two nothing_before (after_opening fs)) refl

pub keeps_on : (e : Edition) (so_far allowed : Bool) (b next : Previous) (f : Field) (fs rest : List Field)
    → allowed ≡ follows b f → next ≡ behind_as e b f → rest ≡ f ∷ fs
    → ((so_far && allowed) && keeps e next fs) ≡ (so_far && keeps e b rest)
unfolding keeps
keeps_on e so_far allowed b next f fs rest a h k = rw (a, h, k) (by_bool so_far (λ w. rw w) (λ w. rw w))

pub keeps_end : (e : Edition) (so_far : Bool) (b : Previous) (fs : List Field) → fs ≡ [] → (so_far && keeps e b fs) ≡ so_far
unfolding keeps
keeps_end e so_far b fs h = rw (h, and-true)

-- the opening says nothing of size and tally
pass_opening : (e : Edition) (fs : List Field) → opens_as e fs ≡ true
    → completed (Ok nothing_found) (behind_opening e fs) ≡ completed (Ok nothing_found) fs
unfolding tagged
pass_opening One fs h = refl
pass_opening Two [] h = refl
pass_opening Two (f ∷ fs) h =
    by_bool (eqb f.tag opening_tag) (λ t. let z : f.tag ≡ opening_tag = eqb-true f.tag opening_tag t in rw z refl)
    (λ t. let z : false ≡ true = rw t at h in cc)

-- the whole file settles 18, 21 and 22, 19 and 1, and size and tally
pub opened_cut : (e : Edition) (file : List ℕ) → runs_past file ≡ true → Err FieldPastEnd ≡ opened e file
unfolding opened
opened_cut e file h = rw h

opened_plant : (fs : List Field) (found : Result Found Refusal) → completed found [] ≡ completed (Ok nothing_found) fs
    → with_size (completed found []) ≡ (plant_check fs and Ok (loaded_of fs))
unfolding plant_check tagged
opened_plant fs found e = rw (e, completed_start fs) (by_bool (size_and_tally fs) (λ h. rw h) (λ h. rw h))

module _ (e : Edition) (file : List ℕ) (whole : runs_past file ≡ false) where
  abbrev all : List Field
  all = fields_of file

  pub opened_unopened : opens_as e all ≡ false → Err NoOpening ≡ opened e file
  unfolding opened
  opened_unopened h = rw (whole, checked e all, h) refl

  module _ (opening : opens_as e all ≡ true) where
    pub opened_disordered : all_keep e all ≡ false → Err FieldOrder ≡ opened e file
    unfolding opened
    opened_disordered h = rw (whole, checked e all, opening, h) refl

    module _ (keep : all_keep e all ≡ true) where
      opened_ordered : (plant_check all and Ok (loaded_of all)) ≡ opened e file
      unfolding opened
      opened_ordered = rw (whole, checked e all, opening, keep) refl

      -- then what is found
      pub opened_wrong : (r : Refusal) → completed (Err r) [] ≡ completed (Ok nothing_found) (behind_opening e all) → Err r ≡ opened e file
      opened_wrong r g = opened_plant all (Err r) (g ∙ pass_opening e all opening) ∙ opened_ordered

      pub opened_found : (f : Found) → completed (Ok f) [] ≡ completed (Ok nothing_found) (behind_opening e all) → complete f ≡ opened e file
      unfolding tagged
      opened_found f g =
          ap with_size (both f.size f.tally) ∙ opened_plant all (Ok f) (g ∙ pass_opening e all opening) ∙ opened_ordered
        where
          both : (a : Option ℕ) (b : Option Tally) → both_found a b ≡ completed (Ok (record { size = a; tally = b })) []
          both (Some a) (Some b) = refl
          both (Some a) None = refl
          both None (Some b) = refl
          both None None = refl
