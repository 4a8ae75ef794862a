-- The claim OrderIsFree of specs/Converting holds: the order of the fields does not matter to the converter.
-- Assumes nothing.
use mathlib.Core.Path.{◌≡◌, refl, ap, ap₂, sym, ◌∙◌}
use mathlib.Core.Bool.{Bool, true, false, cond, ◌&&◌}
use mathlib.Core.List.{List, [], ◌∷◌, Permᴰ}
use Prim.Native.Nat.{ℕ}
use lib.Dec.{eqb}
use Rattle.lists.specs.Search.{every}
use Rattle.lists.proofs.BoolLaws.{by_bool, every-same}
use Rattle.lists.proofs.SearchLaws.{both, every-at}
use Rattle.table.specs.Sizes.{is_size}
use Rattle.saved.specs.Fields.{Field, fields_of, tagged, only_one, only_contents}
use Rattle.saved.specs.Plant.{size_tag, size_length, tally_tag, tally_length, line_tag}
use Rattle.saved.specs.Plant.{size_in, tally_rounds, tally_tests, size_and_tally, plant_check, station_in, line_in, of_station, fits, all_fit}
use Rattle.saved.specs.Plant.{lines_right, table_in}
use Rattle.saved.specs.Order.{is_known}
use Rattle.saved.specs.Load.{file_lines}
use Rattle.saved.specs.Edition1.{line_field_length}
use Rattle.saved.specs.Convert.{all_known, old_check, old_lines_check, converted, convert_check, convert_after, converted_length}
use Rattle.saved.specs.Converting.{OrderIsFree}
use Rattle.saved.proofs.ConcatLaws.{concat-same}

-- an answer about a list that does not depend on the order of its elements
record Blind {A B : Type 0} (F : List A → B) : Type 0 where
  under : (a : A) (l m : List A) → F l ≡ F m → F (a ∷ l) ≡ F (a ∷ m)
  past : (a b : A) (l : List A) → F (a ∷ b ∷ l) ≡ F (b ∷ a ∷ l)

perm_same : {A B : Type 0} (F : List A → B) → Blind F → {l m : List A} → Permᴰ l m → F l ≡ F m
perm_same F blind Permᴰ.nil = refl
perm_same F blind (Permᴰ.cons {a} {b} {l₁} {l₂} e p) = blind.under a l₁ l₂ (perm_same F blind p) ∙ rw e
perm_same F blind (Permᴰ.swap {a} {b} {a'} {b'} {l} e e') = blind.past a b l ∙ rw (e, e')
perm_same F blind (Permᴰ.trans p q) = perm_same F blind p ∙ perm_same F blind q

-- then it does not if it is about those picked by a tag or a station either
module _ {C B : Type 0} (F : List C → B) (blind : Blind F) where
  pick_under : (p : Bool) (x : C) (l m : List C) → F l ≡ F m → F (cond p (x ∷ l) l) ≡ F (cond p (x ∷ m) m)
  pick_under true x l m e = blind.under x l m e
  pick_under false x l m e = e

  pick-past : (p q : Bool) (x y : C) (l : List C)
      → F (cond p (x ∷ cond q (y ∷ l) l) (cond q (y ∷ l) l)) ≡ F (cond q (y ∷ cond p (x ∷ l) l) (cond p (x ∷ l) l))
  pick-past true true x y l = blind.past x y l
  pick-past true false x y l = refl
  pick-past false true x y l = refl
  pick-past false false x y l = refl

module _ {B : Type 0} (F : List (List ℕ) → B) (blind : Blind F) (k : ℕ) where
  blind-tagged : Blind (λ fs. F (tagged k fs))
  unfolding tagged
  blind-tagged =
      record {
        under = λ f l m. pick_under F blind (eqb f.tag k) f.contents (tagged k l) (tagged k m);
        past = λ f g l. pick-past F blind (eqb f.tag k) (eqb g.tag k) f.contents g.contents (tagged k l);
      }

  blind-station : Blind (λ cs. F (of_station k cs))
  unfolding of_station
  blind-station =
      record {
        under = λ c l m. pick_under F blind (eqb (station_in c) k) c (of_station k l) (of_station k m);
        past = λ c d l. pick-past F blind (eqb (station_in c) k) (eqb (station_in d) k) c d (of_station k l);
      }

-- a list of one, as it is; longer ones are all made the same
once : List (List ℕ) → List (List ℕ)
once [] = []
once (c ∷ []) = c ∷ []
once (c ∷ d ∷ cs) = [] ∷ [] ∷ []

once-once : (c : List ℕ) (cs : List (List ℕ)) → once (c ∷ cs) ≡ once (c ∷ once cs)
unfolding once
once-once c [] = refl
once-once c (d ∷ []) = refl
once-once c (d ∷ d' ∷ cs) = refl

blind-once : Blind once
unfolding once
blind-once = record { under = λ c l m e. cc (once-once c l, once-once c m); past = λ c d l. refl }

swapped : (a b c : Bool) → (a && (b && c)) ≡ (b && (a && c))
swapped true b c = refl
swapped false true c = refl
swapped false false c = refl

blind-fits : (len n : ℕ) → Blind (all_fit len n)
unfolding all_fit
blind-fits len n = record { under = λ c l m e. rw e; past = λ c d l. swapped (fits len n c) (fits len n d) (all_fit len n l) }

blind-known : Blind all_known
unfolding all_known
blind-known = record { under = λ f l m e. rw e; past = λ f g l. swapped (is_known f.tag) (is_known g.tag) (all_known l) }

-- that keeps whether there is one, and which
only_one-once : (len : ℕ) (cs : List (List ℕ)) → only_one len cs ≡ only_one len (once cs)
unfolding once
only_one-once len [] = refl
only_one-once len (c ∷ []) = refl
only_one-once len (c ∷ d ∷ cs) = refl

first-once : (len : ℕ) (cs : List (List ℕ)) → only_one len cs ≡ true → only_contents cs ≡ only_contents (once cs)
unfolding once
first-once len [] e = refl
first-once len (c ∷ []) e = refl
first-once len (c ∷ d ∷ cs) e = cc

module _ (len : ℕ) (cs cs' : List (List ℕ)) (same : once cs ≡ once cs') where
  only_one-same : only_one len cs ≡ only_one len cs'
  only_one-same = cc (only_one-once len cs, only_one-once len cs')

  first-same : only_one len cs ≡ true → only_contents cs ≡ only_contents cs'
  first-same e = cc (first-once len cs e, first-once len cs' (sym only_one-same ∙ e))

-- two lists of fields, which are the same in some order
module _ (fs fs' : List Field) (perm : Permᴰ fs fs') where
  tagged-same : (k : ℕ) {B : Type 0} (F : List (List ℕ) → B) → Blind F → F (tagged k fs) ≡ F (tagged k fs')
  tagged-same k F blind = perm_same (λ gs. F (tagged k gs)) (blind-tagged F blind k) perm

  known-same : all_known fs ≡ all_known fs'
  known-same = perm_same all_known blind-known perm

  size-once : once (tagged size_tag fs) ≡ once (tagged size_tag fs')
  size-once = tagged-same size_tag once blind-once

  tally-once : once (tagged tally_tag fs) ≡ once (tagged tally_tag fs')
  tally-once = tagged-same tally_tag once blind-once

  station-once : (i : ℕ) → once (of_station i (tagged line_tag fs)) ≡ once (of_station i (tagged line_tag fs'))
  station-once i = tagged-same line_tag (λ cs. once (of_station i cs)) (blind-station once blind-once i)

  -- size and tally: where they stand there once, they are the same
  right-same : size_and_tally fs ≡ size_and_tally fs'
  unfolding size_and_tally
  right-same =
      ap₂ ◌&&◌ (only_one-same size_length (tagged size_tag fs) (tagged size_tag fs') size-once)
      (only_one-same tally_length (tagged tally_tag fs) (tagged tally_tag fs') tally-once)

  module _ (right : size_and_tally fs ≡ true) where
    parts : (only_one size_length (tagged size_tag fs) ≡ true) × (only_one tally_length (tagged tally_tag fs) ≡ true)
    unfolding size_and_tally
    parts = both (only_one size_length (tagged size_tag fs)) (only_one tally_length (tagged tally_tag fs)) right

    size_same : size_in fs ≡ size_in fs'
    unfolding size_in
    size_same = rw (first-same size_length (tagged size_tag fs) (tagged size_tag fs') size-once parts.0)

    tally-same : only_contents (tagged tally_tag fs) ≡ only_contents (tagged tally_tag fs')
    tally-same = first-same tally_length (tagged tally_tag fs) (tagged tally_tag fs') tally-once parts.1

  -- the lines: where they are right, the table is the same
  module _ (len n : ℕ) where
    abbrev cs : List (List ℕ)
    cs = tagged line_tag fs

    abbrev cs' : List (List ℕ)
    cs' = tagged line_tag fs'

    -- whether there is one line of station i
    abbrev has : List (List ℕ) → ℕ → Bool
    has ds i = only_one len (of_station i ds)

    lines_same : lines_right len n cs ≡ lines_right len n cs'
    unfolding lines_right
    lines_same =
        ap₂ ◌&&◌ (tagged-same line_tag (all_fit len n) (blind-fits len n))
        (every-same (has cs) (has cs') n (λ i h. only_one-same len (of_station i cs) (of_station i cs') (station-once i)))

    table_same : lines_right len n cs ≡ true → table_in n cs ≡ table_in n cs'
    unfolding lines_right table_in
    table_same e =
        let all = (both (all_fit len n cs) (every (has cs) n) e).1 in
        concat-same _ _ n
        (λ i h. ap line_in (first-same len (of_station i cs) (of_station i cs') (station-once i) (every-at (has cs) n i all h)))

-- the claim, an end in itself: the files are both converted, or refused by 3, 4 or 13, by 20, by 1, by 19, or by 22
pub order_is_free : OrderIsFree
unfolding converted_length convert_check convert_after converted old_check old_lines_check plant_check tally_rounds tally_tests
order_is_free file file' past past' perm b =
    let fs : List Field = fields_of file in
    let fs' : List Field = fields_of file' in
    let n : ℕ = size_in fs' in
    let right = right-same fs fs' perm in
    let known = known-same fs fs' perm in
    let lines = lines_same fs fs' perm (line_field_length n) n in
    rw (past, past', ← right, ← known)
    (by_bool (all_known fs)
    (λ k. rw k
    (by_bool (size_and_tally fs)
    (λ e. rw (e, size_same fs fs' perm e)
    (by_bool (is_size n)
    (λ s. rw s
    (by_bool (lines_right (line_field_length n) n (file_lines file))
    (λ h. rw (← lines, h, table_same fs fs' perm (line_field_length n) n h, tally-same fs fs' perm e) (refl, refl, refl))
    (λ h. rw (← lines, h) (refl, refl, refl))))
    (λ s. rw s (refl, refl, refl))))
    (λ e. rw e (refl, refl, refl))))
    (λ k. rw k (refl, refl, refl)))
