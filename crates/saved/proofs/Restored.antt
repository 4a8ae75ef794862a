-- Reading a saved plant restores table and tally.
-- Assumes nothing.
use mathlib.Core.Path.{◌≡◌, refl, ap, ◌∙◌}
use mathlib.Core.Bool.{true, false, cond}
use Rattle.std.specs.Prelude.{nat_le}
use Rattle.std.proofs.lemmas.Bool.{leb-true, le-leb}
use mathlib.Core.List.{List, [], ◌∷◌, ◌++◌, append-nil, append_assoc}
use Rattle.std.specs.Prelude.{Some, Ok}
use Prim.Native.Nat.{ℕ, zero, suc, ◌^◌, ◌≤◌, ◌<◌}
use native.Mathlib.Decide.{dec_lt}
use native.Mathlib.Omega.{arith}
use borrow.Author.Tests.{lt-ltb, eq-eqb, ne_eqb}
use lib.Dec.{eqb}
use lib.ListN.{length}
use lib.Seq.{take_at, drop_at}
use Rattle.lists.proofs.BoolLaws.{by_bool}
use Rattle.lists.proofs.SearchLaws.{both, every-all}
use Rattle.table.specs.Sizes.{is_size}
use Rattle.table.specs.Table.{stride, table_length, line_start}
use Rattle.table.specs.Rules.{table_check}
use Rattle.table.proofs.Accepting.{accepted}
use Rattle.table.proofs.SizeLaws.{size-bounds}
use Rattle.table.specs.declared.wiring.Wiring.TheVariants.{Cube}
use Rattle.plant.specs.declared.Tally.{Tally}
use Rattle.saved.specs.Bytes.{bytes_value, bytes_of, concat_of}
use Rattle.saved.specs.Fields.{Field, field_bytes, fields, runs_past, fields_of, tagged, only_one, only_contents}
use Rattle.saved.specs.Plant.{size_tag, tally_tag, line_tag, line_field_length, size_in, tally_rounds, tally_tests, size_and_tally}
use Rattle.saved.specs.Plant.{plant_check, station_in, of_station, line_in, all_fit, lines_right, table_in}
use Rattle.saved.specs.Order.{opening, is_known, is_line, behind, follows, in_order, order_check}
use Rattle.saved.specs.declared.order.Previous.{Previous}
use Rattle.saved.specs.Load.{size_check, rest_check, load_check, saved_size, load_answer, load_after}
use Rattle.saved.specs.Save.{line_of, size_field, tally_field, line_field, saved_lines, saved}
use Rattle.saved.proofs.NumberLaws.{bytes-length, number-bytes}
use Rattle.saved.proofs.ConcatLaws.{concat-same, concat-parts}
use Rattle.saved.proofs.FieldLaws.{fields-nil, fields-first}
use Rattle.saved.proofs.SaveLaws.{tally-length, line-length, saved-parts}
use Rattle.saved.specs.Restoring.{IsTally, LoadRestores}

-- g 0, g 1, .., g (k − 1) in front of a list
abbrev front : {A : Type 0} → (ℕ → A) → ℕ → List A → List A
front g zero l = l
front g (suc k) l = front g k (g k ∷ l)

-- the fields of fields one behind the other
fields-front : (g : ℕ → Field) (k : ℕ) (rest : List ℕ) (fs : List Field) → ((i : ℕ) → i < k → length (g i).contents < 2 ^ 16)
    → fields rest ≡ Some fs → fields (concat_of (λ i. field_bytes (g i)) k ++ rest) ≡ Some (front g k fs)
unfolding concat_of
fields-front g zero rest fs short e = e
fields-front g (suc k) rest fs short e =
    let first : fields (field_bytes (g k) ++ rest) ≡ Some (g k ∷ fs) = fields-first (g k) rest (short k (omega arith)) ∙ rw e in
    rw append_assoc (fields-front g k (field_bytes (g k) ++ rest) (g k ∷ fs) (λ i h. short i (omega arith)) first)

-- the lines of a table as fields
module _ (n : ℕ) (t : List ℕ) where
  -- what line i's field holds
  abbrev line : ℕ → List ℕ
  line i = (line_field n t i).contents

  abbrev lines : List (List ℕ)
  lines = front line n []

  -- the lines' fields in front of others: by another tag, and by theirs
  tagged-other : (j k : ℕ) (fs : List Field) → eqb line_tag j ≡ false → tagged j (front (line_field n t) k fs) ≡ tagged j fs
  unfolding tagged
  tagged-other j zero fs e = refl
  tagged-other j (suc k) fs e = tagged-other j k (line_field n t k ∷ fs) e ∙ rw e

  tagged-lines : (k : ℕ) (fs : List Field) → tagged line_tag (front (line_field n t) k fs) ≡ front line k (tagged line_tag fs)
  unfolding tagged
  tagged-lines zero fs = refl
  tagged-lines (suc k) fs = tagged-lines k (line_field n t k ∷ fs)

  -- a station that has no line in front
  station-after : (i k : ℕ) (cs : List (List ℕ)) → k ≤ i → of_station i (front line k cs) ≡ of_station i cs
  unfolding of_station
  station-after i zero cs h = refl
  station-after i (suc k) cs h = station-after i k (line k ∷ cs) (omega arith) ∙ rw (ne_eqb k i (λ e. omega arith))

  -- and one that has
  station-front : (i k : ℕ) (cs : List (List ℕ)) → i < k → of_station i (front line k cs) ≡ line i ∷ of_station i cs
  unfolding of_station
  station-front i zero cs h = absurd (omega arith)
  station-front i (suc k) cs h = pick (dec_lt i k) (station-front i k (line k ∷ cs))
    where
      pick : Dec (i < k) → (i < k → of_station i (front line k (line k ∷ cs)) ≡ line i ∷ cond (eqb k i) (line k ∷ of_station i cs) (of_station i cs))
          → of_station i (front line k (line k ∷ cs)) ≡ line i ∷ of_station i cs
      pick (yes b) rest = rest b ∙ rw (ne_eqb k i (λ e. omega arith))
      pick (no b) rest =
          let e : k ≡ i = omega arith in
          station-after i k (line k ∷ cs) (omega arith) ∙ rw (eq-eqb k i e) (ap {B = List (List ℕ)} (λ j. line j ∷ of_station i cs) e)

-- of a table of the right length
module _ (n : ℕ) (t : List ℕ) (long : length t ≡ table_length n) where
  abbrev len : ℕ
  len = line_field_length n

  lines_fit : (k : ℕ) (cs : List (List ℕ)) → k ≤ n → all_fit len n cs ≡ true → all_fit len n (front (line n t) k cs) ≡ true
  unfolding all_fit
  lines_fit zero cs h e = e
  lines_fit (suc k) cs h e =
      lines_fit k (line n t k ∷ cs) (omega arith)
      (rw (eq-eqb (length (line n t k)) (line_field_length n) (omega (arith, line-length n t long k h)), lt-ltb k n h, e))

  lines-station : (i : ℕ) → i < n → of_station i (lines n t) ≡ line n t i ∷ []
  unfolding of_station
  lines-station i h = station-front n t i n [] h

  lines-right : lines_right len n (lines n t) ≡ true
  unfolding lines_right all_fit
  lines-right =
      rw (lines_fit n [] (omega arith) refl)
      (every-all (λ i. only_one (line_field_length n) (of_station i (lines n t))) n
      (λ i h. rw (lines-station i h) (eq-eqb (length (line n t i)) (line_field_length n) (omega (arith, line-length n t long i h)))))

  lines-table : table_in n (lines n t) ≡ t
  unfolding table_in line_of line_start table_length
  lines-table =
      concat-same (λ i. line_in (only_contents (of_station i (lines n t)))) (line_of n t) n (λ i h. rw (lines-station i h))
      ∙ concat-parts t (stride n) n long

-- what is in order behind others is in order behind fewer
weaker : (fs : List Field) (b b' : Previous) → b'.tag ≤ b.tag → b'.station ≤ b.station → in_order b fs ≡ true → in_order b' fs ≡ true
unfolding in_order
weaker [] b b' h g e = refl
weaker (f ∷ fs) b b' h g e =
    let p = both (follows b f) (in_order (behind b f) fs) e in
    let q = both (is_known f.tag) _ p.0 in
    let r = both (nat_le b.tag f.tag) _ q.1 in
    let tag : nat_le b'.tag f.tag ≡ true = le-leb b'.tag f.tag (omega (arith, leb-true b.tag f.tag r.0)) in
    by_bool (is_line f)
    (λ l. let s : nat_le b.station (station_in f.contents) ≡ true = rw l at r.1 in
    let station : nat_le b'.station (station_in f.contents) ≡ true =
    le-leb b'.station (station_in f.contents) (omega (arith, leb-true b.station (station_in f.contents) s)) in
    rw (q.0, tag, l, station) (rw l at p.1))
    (λ l. let rest : in_order (record { tag = f.tag; station = b.station }) fs ≡ true = rw l at p.1 in
    rw (q.0, tag, l) (weaker fs (record { tag = f.tag; station = b.station }) (record { tag = f.tag; station = b'.station }) (omega arith) g rest))

-- the lines of a table are in order
ordered-lines : (n : ℕ) (t : List ℕ) (k : ℕ) (fs : List Field) → in_order (record { tag = line_tag; station = k }) fs ≡ true
    → in_order (record { tag = tally_tag; station = 0 }) (front (line_field n t) k fs) ≡ true
unfolding in_order
ordered-lines n t zero fs e =
    weaker fs (record { tag = line_tag; station = 0 }) (record { tag = tally_tag; station = 0 }) (omega arith) (omega arith) e
ordered-lines n t (suc k) fs e =
    ordered-lines n t k (line_field n t k ∷ fs)
    (rw (le-leb k k (omega arith))
    (weaker fs (record { tag = line_tag; station = suc k }) (record { tag = line_tag; station = k }) (omega arith) (omega arith) e))

-- what a saved plant says
module _ (n : ℕ) (t : List ℕ) (tally : Tally) (z : table_check Cube n t ≡ Ok tt) (small : IsTally tally) where
  long : length t ≡ table_length n
  long = (accepted Cube n t z).long

  size : is_size n ≡ true
  size = (accepted Cube n t z).size

  abbrev plant_fields : List Field
  plant_fields = opening ∷ size_field n ∷ tally_field tally ∷ front (line_field n t) n []

  lines-fields : fields (saved_lines n t n) ≡ Some (front (line_field n t) n [])
  unfolding saved_lines
  lines-fields =
      let b = size-bounds n size in
      let short : (i : ℕ) → i < n → length (line n t i) < 2 ^ 16 = λ i h. omega (arith, line-length n t long i h) in
      rw append-nil at (fields-front (line_field n t) n [] [] short fields-nil)

  saved-fields : fields (saved n t tally) ≡ Some plant_fields
  saved-fields =
      let behind : List ℕ = field_bytes (tally_field tally) ++ saved_lines n t n in
      let o = fields-first opening (field_bytes (size_field n) ++ behind) (omega arith) in
      let s = fields-first (size_field n) behind (omega arith) in
      let r = fields-first (tally_field tally) (saved_lines n t n) (omega (arith, tally-length tally)) in
      rw (saved-parts n t tally, o, s, r, lines-fields)

  of-saved : fields_of (saved n t tally) ≡ plant_fields
  unfolding fields_of
  of-saved = rw saved-fields

  size-contents : tagged size_tag plant_fields ≡ (n ∷ []) ∷ []
  unfolding tagged
  size-contents = rw (tagged-other n t size_tag n [] refl)

  tally-contents : tagged tally_tag plant_fields ≡ (tally_field tally).contents ∷ []
  unfolding tagged
  tally-contents = rw (tagged-other n t tally_tag n [] refl)

  line-contents : tagged line_tag plant_fields ≡ lines n t
  unfolding tagged
  line-contents = tagged-lines n t n []

  size-restored : size_in plant_fields ≡ n
  unfolding size_in bytes_value
  size-restored = rw size-contents (omega arith)

  rounds-restored : tally_rounds plant_fields ≡ tally.rounds
  unfolding tally_rounds
  rounds-restored =
      rw (tally-contents, take_at (bytes_of 4 tally.rounds) (bytes_of 4 tally.tests) 4 (bytes-length 4 tally.rounds))
      (number-bytes 4 tally.rounds small.0)

  tests-restored : tally_tests plant_fields ≡ tally.tests
  unfolding tally_tests
  tests-restored =
      rw (tally-contents, drop_at (bytes_of 4 tally.rounds) (bytes_of 4 tally.tests) 4 (bytes-length 4 tally.rounds))
      (number-bytes 4 tally.tests small.1)

  both-only_one : size_and_tally plant_fields ≡ true
  unfolding size_and_tally
  both-only_one = rw (size-contents, tally-contents) (eq-eqb (length (tally_field tally).contents) 8 (tally-length tally))

  in-order : order_check plant_fields ≡ Ok tt
  unfolding order_check in_order
  in-order = rw (ordered-lines n t n [] refl)

  size-ok : size_check (saved n t tally) ≡ Ok tt
  unfolding size_check plant_check runs_past
  size-ok = rw (saved-fields, of-saved, in-order, both-only_one, size-restored, size)

  table-restored : table_in (size_in plant_fields) (tagged line_tag plant_fields) ≡ t
  table-restored = rw (size-restored, line-contents) (lines-table n t long)

  load-ok : (len : ℕ) → len ≡ length t → load_check (saved n t tally) len ≡ Ok tt
  unfolding load_check rest_check
  load-ok len e =
      let right : lines_right (line_field_length n) n (tagged line_tag plant_fields) ≡ true = rw line-contents (lines-right n t long) in
      let same : eqb len (table_length n) ≡ true = eq-eqb len (table_length n) (e ∙ long) in
      rw (size-ok, of-saved, table-restored, size-restored, right, same) z

pub load-restores : LoadRestores
unfolding saved_size load_answer load_after
load-restores n t tally b z small e =
    let s = size-ok n t tally z small in
    let f = of-saved n t tally z small in
    let l = load-ok n t tally z small (length b) e in
    let i = size-restored n t tally z small in
    let r = rounds-restored n t tally z small in
    let q = tests-restored n t tally z small in
    (rw (s, f, i), rw (l, f, i, r, q), rw (l, f) (table-restored n t tally z small))
