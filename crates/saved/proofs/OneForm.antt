-- The claim OneForm of specs/Restoring holds: a file that the reader takes is what saving gives for what it reads.
-- Assumes nothing.
use mathlib.Core.Path.{◌≡◌, refl, sym, ap, ap₂, ◌∙◌}
use mathlib.Core.Logic.{by_cases}
use mathlib.Core.Bool.{Bool, true, false, cond, ◌&&◌}
use mathlib.Core.List.{List, [], ◌∷◌, ◌++◌, append-nil, append_assoc}
use Rattle.std.specs.Prelude.{Option, Some, None, is_none, unwrap_or, Ok, nat_le}
use Rattle.std.proofs.lemmas.Bool.{eqb-false, leb-true, le-leb}
use Prim.Native.Nat.{ℕ, zero, suc, ◌+◌, ◌*◌, ◌^◌, ◌≤◌, ◌<◌}
use native.Mathlib.Decide.{dec_lt, ℕ_discrete}
use native.Mathlib.Omega.{arith}
use borrow.Author.Tests.{eqb-true, eq-eqb, ne_eqb, ltb-true, not-true}
use lib.Dec.{ltb, eqb}
use lib.ListN.{length, get_or, take, drop, length-drop, take-append-drop}
use lib.Seq.{length-take-le, get_or-drop}
use Rattle.lists.proofs.BoolLaws.{by_bool}
use Rattle.lists.proofs.SearchLaws.{both}
use Rattle.lists.proofs.RefusalLaws.{ensure_ok, and_ok}
use Rattle.table.specs.Table.{stride, line_start}
use Rattle.table.specs.Rules.{table_check}
use Rattle.table.specs.declared.wiring.Wiring.TheVariants.{Cube}
use Rattle.saved.specs.Bytes.{bytes_value, bytes_of, concat_of}
use Rattle.saved.specs.Fields.{Field, field, field_bytes, infront, length_in, extent, fields_up_to, fields, runs_past}
use Rattle.saved.specs.Fields.{fields_of, tagged, only_one, only_contents}
use Rattle.saved.specs.Plant.{size_tag, size_length, tally_tag, tally_length, line_tag, line_field_length, size_in, tally_rounds, tally_tests}
use Rattle.saved.specs.Plant.{size_and_tally}
use Rattle.saved.specs.Plant.{plant_check, station_in, line_in, of_station, fits, all_fit, lines_right, table_in}
use Rattle.saved.specs.Order.{opening_tag, edition, opening, is_opening, opens, after_opening, is_known, is_line, nothing_before, behind}
use Rattle.saved.specs.Order.{follows, in_order, order_check}
use Rattle.saved.specs.Load.{file_size, file_tally, file_lines, file_table, size_check, rest_check, load_check, load_answer, loaded_figures}
use Rattle.saved.specs.Load.{load_after}
use Rattle.saved.specs.Save.{line_of, line_field, saved_lines, saved, save_check, save_after}
use Rattle.saved.specs.Files.{fields_bytes, AreBytes}
use Rattle.saved.specs.Restoring.{OneForm}
use Rattle.saved.specs.declared.order.Previous.{Previous}
use Rattle.saved.proofs.NumberLaws.{bytes-number}
use Rattle.saved.proofs.ConcatLaws.{concat-same, concat-at}
use Rattle.saved.proofs.FileLaws.{bytes-of-fields}
use Rattle.saved.proofs.LineLaws.{only_one-length, only_one-station, one-of-station}
use Rattle.saved.proofs.SaveLaws.{saved-parts}

-- a file in which no field goes past the end has its fields
fields-some : (file : List ℕ) → runs_past file ≡ false → fields file ≡ Some (fields_of file)
unfolding runs_past fields_of
fields-some file w = go (fields file) w
  where
    go : (o : Option (List Field)) → is_none o ≡ false → o ≡ Some (unwrap_or o [])
    go None e = cc
    go (Some fs) e = refl

-- parts of a list of bytes
pub drop-bytes : (k : ℕ) (l : List ℕ) → AreBytes l → AreBytes (drop k l)
drop-bytes k l small i = rw get_or-drop (small (k + i))

pub take-bytes : (k : ℕ) (l : List ℕ) → AreBytes l → AreBytes (take k l)
take-bytes zero l small i = omega arith
take-bytes (suc k) [] small i = omega arith
take-bytes (suc k) (x ∷ l) small zero = small 0
take-bytes (suc k) (x ∷ l) small (suc i) = take-bytes k l (λ j. small (suc j)) i

-- the first contents with a tag, of a file of bytes, are bytes
first-up_to : (k most : ℕ) (file : List ℕ) → AreBytes file → AreBytes (only_contents (tagged k (unwrap_or (fields_up_to most file) [])))
unfolding fields_up_to tagged
first-up_to k zero file small = λ i. omega arith
first-up_to k (suc most) file small =
    pick (eqb (length file) 0) (ltb (length file) (extent file)) (fields_up_to most (drop (extent file) file))
    (first-up_to k most (drop (extent file) file) (drop-bytes (extent file) file small))
  where
    first : Field
    first = field (get_or file 0 0) (take (length_in file) (drop 3 file))

    Fine : Option (List Field) → Type 0
    Fine o = AreBytes (only_contents (tagged k (unwrap_or o [])))

    pick : (a b : Bool) (o : Option (List Field)) → Fine o → Fine (cond a (Some []) (cond b None (infront first o)))
    pick true b o rest = λ i. omega arith
    pick false true o rest = λ i. omega arith
    pick false false None rest = rest
    pick false false (Some fs) rest =
        let c = take-bytes (length_in file) (drop 3 file) (drop-bytes 3 file small) in
        by_bool (eqb first.tag k) (λ e. rw e c) (λ e. rw e rest)

pub first-are-bytes : (k : ℕ) (file : List ℕ) → AreBytes file → AreBytes (only_contents (tagged k (fields_of file)))
unfolding fields_of fields
first-are-bytes k file small = first-up_to k (length file) file small

-- contents of one byte, of eight, and of a line
one_byte : (c : List ℕ) → length c ≡ 1 → bytes_value c ∷ [] ≡ c
unfolding bytes_value
one_byte [] e = absurd (omega arith)
one_byte (x ∷ []) e = let v : x * 256 ^ 0 + 0 ≡ x = omega arith in rw v
one_byte (x ∷ y ∷ c) e = absurd (omega arith)

eight-bytes : (c : List ℕ) → AreBytes c → length c ≡ 8 → bytes_of 4 (bytes_value (take 4 c)) ++ bytes_of 4 (bytes_value (drop 4 c)) ≡ c
eight-bytes c small e =
    let a : length (take 4 c) ≡ 4 = length-take-le 4 c (omega arith) in
    let b : length (drop 4 c) ≡ 4 = omega (arith, length-drop 4 c) in
    let p : bytes_of 4 (bytes_value (take 4 c)) ≡ take 4 c = rw a at (bytes-number (take 4 c) (λ k h. take-bytes 4 c small k)) in
    let q : bytes_of 4 (bytes_value (drop 4 c)) ≡ drop 4 c = rw b at (bytes-number (drop 4 c) (λ k h. drop-bytes 4 c small k)) in
    rw (p, q) (take-append-drop 4 c)

station-line : (c : List ℕ) (i len : ℕ) → length c ≡ 1 + len → station_in c ≡ i → i ∷ line_in c ≡ c
station-line [] i len e s = absurd (omega arith)
station-line (x ∷ c) i len e s = rw s

-- fields in order: none is of a tag below the one before
nothing-below : (k : ℕ) (fs : List Field) (b : Previous) → k < b.tag → in_order b fs ≡ true → tagged k fs ≡ []
unfolding in_order tagged
nothing-below k [] b h e = refl
nothing-below k (f ∷ fs) b h e =
    let p = both (follows b f) (in_order (behind b f) fs) e in
    let q = both (is_known f.tag) _ p.0 in
    let r = leb-true b.tag f.tag (both (nat_le b.tag f.tag) _ q.1).0 in
    rw (ne_eqb f.tag k (λ d. omega arith)) (nothing-below k fs (behind b f) (omega arith) p.1)

-- contents as fields of a tag
as_fields : ℕ → List (List ℕ) → List Field
as_fields k [] = []
as_fields k (c ∷ cs) = field k c ∷ as_fields k cs

-- fields in order are those of the three tags, one tag behind the other
abbrev by_tag : List Field → List Field
by_tag fs = as_fields size_tag (tagged size_tag fs) ++ (as_fields tally_tag (tagged tally_tag fs) ++ as_fields line_tag (tagged line_tag fs))

by_tag_more : (k : ℕ) (c : List ℕ) (s : ℕ) (fs : List Field) → is_known k ≡ true → in_order (record { tag = k; station = s }) fs ≡ true
    → fs ≡ by_tag fs → field k c ∷ fs ≡ by_tag (field k c ∷ fs)
unfolding tagged as_fields
by_tag_more k c s fs known e r =
    by_bool (eqb k size_tag) (λ h. sized (eqb-true k size_tag h))
    (λ h. by_bool (eqb k tally_tag) (λ g. tallied (eqb-true k tally_tag g)) (λ g. lined (line h g)))
  where
    line : eqb k size_tag ≡ false → eqb k tally_tag ≡ false → k ≡ line_tag
    line h g = eqb-true k line_tag (rw (h, g) at known)

    sized : k ≡ size_tag → field k c ∷ fs ≡ by_tag (field k c ∷ fs)
    sized q = rw q (ap {B = List Field} (λ l. field size_tag c ∷ l) r)

    tallied : k ≡ tally_tag → field k c ∷ fs ≡ by_tag (field k c ∷ fs)
    tallied q =
        let z : tagged size_tag fs ≡ [] = nothing-below size_tag fs (record { tag = k; station = s }) (omega arith) e in
        let t : fs ≡ as_fields tally_tag (tagged tally_tag fs) ++ as_fields line_tag (tagged line_tag fs) = r ∙ rw z in
        rw (q, z) (ap {B = List Field} (λ l. field tally_tag c ∷ l) t)

    lined : k ≡ line_tag → field k c ∷ fs ≡ by_tag (field k c ∷ fs)
    lined q =
        let z : tagged size_tag fs ≡ [] = nothing-below size_tag fs (record { tag = k; station = s }) (omega arith) e in
        let y : tagged tally_tag fs ≡ [] = nothing-below tally_tag fs (record { tag = k; station = s }) (omega arith) e in
        let t : fs ≡ as_fields line_tag (tagged line_tag fs) = r ∙ rw (z, y) in
        rw (q, z, y) (ap {B = List Field} (λ l. field line_tag c ∷ l) t)

ordered-by_tag : (fs : List Field) (b : Previous) → in_order b fs ≡ true → fs ≡ by_tag fs
unfolding in_order tagged as_fields
ordered-by_tag [] b e = refl
ordered-by_tag (f ∷ fs) b e =
    let p = both (follows b f) (in_order (behind b f) fs) e in
    let q = both (is_known f.tag) _ p.0 in
    by_tag_more f.tag f.contents (behind b f).station fs q.0 p.1 (ordered-by_tag fs (behind b f) p.1)

-- the stations of lines in order rise
rising : ℕ → List (List ℕ) → Bool
rising m [] = true
rising m (c ∷ cs) = nat_le m (station_in c) && rising (station_in c) cs

ordered-rising : (fs : List Field) (b : Previous) → in_order b fs ≡ true → rising b.station (tagged line_tag fs) ≡ true
unfolding in_order tagged rising
ordered-rising [] b e = refl
ordered-rising (f ∷ fs) b e =
    let p = both (follows b f) (in_order (behind b f) fs) e in
    let q = both (is_known f.tag) _ p.0 in
    let r = both (nat_le b.tag f.tag) _ q.1 in
    let rest = ordered-rising fs (behind b f) p.1 in
    by_bool (is_line f)
    (λ l. let s : nat_le b.station (station_in f.contents) ≡ true = rw l at r.1 in rw (l, s) (rw l at rest))
    (λ l. rw l (rw l at rest))

rising-skips : (cs : List (List ℕ)) (m i : ℕ) → i < m → rising m cs ≡ true → of_station i cs ≡ []
unfolding rising of_station
rising-skips [] m i h e = refl
rising-skips (c ∷ cs) m i h e =
    let p = both (nat_le m (station_in c)) (rising (station_in c) cs) e in
    let l = leb-true m (station_in c) p.0 in
    rw (ne_eqb (station_in c) i (λ d. omega arith)) (rising-skips cs (station_in c) i (omega arith) p.1)

rising-later : (cs : List (List ℕ)) (m : ℕ) → rising m cs ≡ true → of_station m cs ≡ [] → rising (suc m) cs ≡ true
unfolding rising of_station
rising-later [] m e z = refl
rising-later (c ∷ cs) m e z =
    let p = both (nat_le m (station_in c)) (rising (station_in c) cs) e in
    let l = leb-true m (station_in c) p.0 in
    by_bool (eqb (station_in c) m)
    (λ q. let y : c ∷ of_station m cs ≡ [] = rw q at z in cc)
    (λ q. let d = eqb-false (station_in c) m q in rw (le-leb (suc m) (station_in c) (omega arith)) p.1)

-- one alone: there is no other, and it is the list
only_one-rest : (len : ℕ) (c : List ℕ) (cs : List (List ℕ)) → only_one len (c ∷ cs) ≡ true → cs ≡ []
only_one-rest len c [] e = refl
only_one-rest len c (d ∷ cs) e = cc

only_one-list : (len : ℕ) (cs : List (List ℕ)) → only_one len cs ≡ true → cs ≡ only_contents cs ∷ []
only_one-list len [] e = cc
only_one-list len (c ∷ []) e = refl
only_one-list len (c ∷ d ∷ cs) e = cc

-- rising lines, one for each station: those of the stations from m on behind those below it
module _ (len n : ℕ) (g : ℕ → List ℕ) where
  abbrev its_field : ℕ → List ℕ
  its_field i = field_bytes (field line_tag (g i))

  rising-lines : (cs : List (List ℕ)) (m : ℕ) → m ≤ n → rising m cs ≡ true → all_fit len n cs ≡ true
      → ((i : ℕ) → m ≤ i → i < n → only_one len (of_station i cs) ≡ true) → ((i : ℕ) → m ≤ i → i < n → g i ≡ only_contents (of_station i cs))
      → concat_of its_field m ++ fields_bytes (as_fields line_tag cs) ≡ concat_of its_field n
  unfolding rising all_fit of_station fields_bytes as_fields concat_of
  rising-lines [] m h r f one same = pick (dec_lt m n)
    where
      pick : Dec (m < n) → concat_of its_field m ++ [] ≡ concat_of its_field n
      pick (yes b) = cc (one m (omega arith) b)
      pick (no b) = let e : m ≡ n = omega arith in append-nil (concat_of its_field m) ∙ ap (concat_of its_field) e
  rising-lines (c ∷ cs) m h r f one same = by_cases (ℕ_discrete (station_in c) m) (here (rising-lines cs (suc m))) there
    where
      p : (nat_le m (station_in c) ≡ true) × (rising (station_in c) cs ≡ true)
      p = both (nat_le m (station_in c)) (rising (station_in c) cs) r

      q : (fits len n c ≡ true) × (all_fit len n cs ≡ true)
      q = both (fits len n c) (all_fit len n cs) f

      low : station_in c < n
      low = ltb-true (station_in c) n (both (eqb (length c) len) _ q.0).1

      there : (station_in c ≡ m → ⊥) → concat_of its_field m ++ fields_bytes (as_fields line_tag (c ∷ cs)) ≡ concat_of its_field n
      there d =
          let l = leb-true m (station_in c) p.0 in
          let z : of_station m cs ≡ [] = rising-skips cs (station_in c) m (omega arith) p.1 in
          let o : false ≡ true = rw (ne_eqb (station_in c) m d, z) at (one m (omega arith) (omega (arith, low))) in
          cc

      here : (suc m ≤ n → rising (suc m) cs ≡ true → all_fit len n cs ≡ true
          → ((i : ℕ) → suc m ≤ i → i < n → only_one len (of_station i cs) ≡ true)
          → ((i : ℕ) → suc m ≤ i → i < n → g i ≡ only_contents (of_station i cs))
          → concat_of its_field (suc m) ++ fields_bytes (as_fields line_tag cs) ≡ concat_of its_field n)
          → station_in c ≡ m → concat_of its_field m ++ fields_bytes (as_fields line_tag (c ∷ cs)) ≡ concat_of its_field n
      here further s =
          let k : eqb (station_in c) m ≡ true = eq-eqb (station_in c) m s in
          let b : m < n = rw (← s) low in
          let z : of_station m cs ≡ [] = only_one-rest len c (of_station m cs) (rw k at (one m (omega arith) b)) in
          let mine : g m ≡ c = rw k at (same m (omega arith) b) in
          let up : rising (suc m) cs ≡ true = rising-later cs m (rw s at p.1) z in
          let other : (i : ℕ) → suc m ≤ i → eqb (station_in c) i ≡ false = λ i w. ne_eqb (station_in c) i (λ d. omega arith) in
          let rest =
          further (omega arith) up q.1 (λ i w v. rw (other i w) at (one i (omega arith) v)) (λ i w v. rw (other i w) at (same i (omega arith) v)) in
          let first : concat_of its_field (suc m) ≡ concat_of its_field m ++ field_bytes (field line_tag c) =
          ap (λ l. concat_of its_field m ++ field_bytes (field line_tag l)) mine in
          sym (append_assoc (concat_of its_field m) (field_bytes (field line_tag c)) (fields_bytes (as_fields line_tag cs)))
          ∙ ap (λ (l : List ℕ). l ++ fields_bytes (as_fields line_tag cs)) (sym first) ∙ rest

-- a file that is read
record Opened (file : List ℕ) : Type 0 where
  whole : runs_past file ≡ false
  starts : opens (fields_of file) ≡ true
  follow : in_order nothing_before (after_opening (fields_of file)) ≡ true
  singles : size_and_tally (fields_of file) ≡ true
  right : lines_right (line_field_length (file_size file)) (file_size file) (file_lines file) ≡ true
  sound : table_check Cube (file_size file) (file_table file) ≡ Ok tt

opened : (file : List ℕ) (len : ℕ) → load_check file len ≡ Ok tt → Opened file
unfolding load_check size_check order_check plant_check rest_check
opened file len e =
    let p = and_ok (size_check file) _ tt e in
    let a = and_ok _ _ tt p.0 in
    let s = and_ok (order_check (fields_of file)) _ tt a.1 in
    let o = and_ok _ _ tt s.0 in
    let q = and_ok _ _ tt s.1 in
    let r = and_ok _ _ tt p.1 in
    record {
      whole = not-true _ (ensure_ok _ _ tt a.0);
      starts = ensure_ok _ _ tt o.0;
      follow = ensure_ok _ _ tt o.1;
      singles = ensure_ok _ _ tt q.0;
      right = ensure_ok _ _ tt r.0;
      sound = (and_ok _ _ tt r.1).1;
    }

-- its fields are those that are written of it
module _ (file : List ℕ) (o : Opened file) where
  size-again : file_size file ∷ [] ≡ only_contents (tagged size_tag (fields_of file))
  unfolding size_and_tally size_in
  size-again =
      let b = both _ _ o.singles in
      one_byte (only_contents (tagged size_tag (fields_of file))) (only_one-length 1 (tagged size_tag (fields_of file)) b.0)

  tally-again : AreBytes file
      → bytes_of 4 (tally_rounds (fields_of file)) ++ bytes_of 4 (tally_tests (fields_of file)) ≡ only_contents (tagged tally_tag (fields_of file))
  unfolding size_and_tally tally_rounds tally_tests
  tally-again small =
      let b = both (only_one size_length (tagged size_tag (fields_of file))) _ o.singles in
      eight-bytes (only_contents (tagged tally_tag (fields_of file))) (first-are-bytes tally_tag file small)
      (only_one-length 8 (tagged tally_tag (fields_of file)) b.1)

  -- the contents of station i
  abbrev its : ℕ → List ℕ
  its i = only_contents (of_station i (file_lines file))

  only : (i : ℕ) → i < file_size file → only_one (line_field_length (file_size file)) (of_station i (file_lines file)) ≡ true
  only = one-of-station (line_field_length (file_size file)) (file_size file) (file_lines file) o.right

  its-length : (i : ℕ) → i < file_size file → length (its i) ≡ 1 + stride (file_size file)
  its-length i h = only_one-length (line_field_length (file_size file)) (of_station i (file_lines file)) (only i h)

  its-line : (i : ℕ) → i < file_size file → length (line_in (its i)) ≡ stride (file_size file)
  its-line i h = omega (arith, length-drop 1 (its i), its-length i h)

  line-again : (i : ℕ) → i < file_size file → i ∷ line_of (file_size file) (file_table file) i ≡ its i
  unfolding line_of line_start table_in
  line-again i h =
      let s = only_one-station i (line_field_length (file_size file)) (file_lines file) (only i h) in
      rw (concat-at (λ j. line_in (its j)) (stride (file_size file)) (file_size file) i its-line h)
      (station-line (its i) i (stride (file_size file)) (its-length i h) s)

  lines-again : saved_lines (file_size file) (file_table file) (file_size file)
      ≡ concat_of (λ i. field_bytes (field line_tag (its i))) (file_size file)
  unfolding saved_lines
  lines-again =
      concat-same (λ i. field_bytes (line_field (file_size file) (file_table file) i)) (λ i. field_bytes (field line_tag (its i))) (file_size file)
      (λ i h. rw (line-again i h))

  -- the opening, and what stands behind it
  opening-is : (f : Field) → is_opening f ≡ true → f ≡ opening
  opening-is f e =
      let p = both (eqb f.tag opening_tag) _ e in
      let q = both (eqb (length f.contents) 1) _ p.1 in
      let t : f.tag ≡ opening_tag = eqb-true f.tag opening_tag p.0 in
      let c : f.contents ≡ edition ∷ [] = one f.contents (eqb-true (length f.contents) 1 q.0) (eqb-true (get_or f.contents 0 0) edition q.1) in
      ap₂ field t c
    where
      one : (c : List ℕ) → length c ≡ 1 → get_or c 0 0 ≡ edition → c ≡ edition ∷ []
      one [] h g = absurd (omega arith)
      one (x ∷ []) h g = ap (λ (y : ℕ). y ∷ []) g
      one (x ∷ y ∷ c) h g = absurd (omega arith)

  rest : List Field
  rest = after_opening (fields_of file)

  split : fields_of file ≡ opening ∷ after_opening (fields_of file)
  split = go (fields_of file) o.starts
    where
      go : (fs : List Field) → opens fs ≡ true → fs ≡ opening ∷ after_opening fs
      go [] e = cc
      go (f ∷ fs) e = ap {B = List Field} (λ g. g ∷ fs) (opening-is f e)

  -- the opening has none of the three tags
  tagged-behind : (k : ℕ) → eqb opening_tag k ≡ false → tagged k (fields_of file) ≡ tagged k (after_opening (fields_of file))
  unfolding tagged
  tagged-behind k e = ap (tagged k) split ∙ rw e

  abbrev size_contents : List ℕ
  size_contents = only_contents (tagged size_tag (fields_of file))

  abbrev tally_contents : List ℕ
  tally_contents = only_contents (tagged tally_tag (fields_of file))

  one-size : tagged size_tag (fields_of file) ≡ size_contents ∷ []
  unfolding size_and_tally
  one-size = only_one-list size_length (tagged size_tag (fields_of file)) (both _ _ o.singles).0

  one-tally : tagged tally_tag (fields_of file) ≡ tally_contents ∷ []
  unfolding size_and_tally
  one-tally =
      only_one-list tally_length (tagged tally_tag (fields_of file)) (both (only_one size_length (tagged size_tag (fields_of file))) _ o.singles).1

  fields-are : fields_of file ≡ opening ∷ field size_tag size_contents ∷ field tally_tag tally_contents ∷ as_fields line_tag (file_lines file)
  unfolding as_fields
  fields-are =
      let r = ordered-by_tag (after_opening (fields_of file)) nothing_before o.follow in
      let s = rw (← tagged-behind size_tag refl, ← tagged-behind tally_tag refl, ← tagged-behind line_tag refl) at r in
      split ∙ ap {B = List Field} (λ l. opening ∷ l) (s ∙ rw (one-size, one-tally))

  lines-rise : rising 0 (file_lines file) ≡ true
  lines-rise = rw (tagged-behind line_tag refl) (ordered-rising (after_opening (fields_of file)) nothing_before o.follow)

  lines-are : fields_bytes (as_fields line_tag (file_lines file)) ≡ concat_of (λ i. field_bytes (field line_tag (its i))) (file_size file)
  unfolding lines_right concat_of
  lines-are =
      let n : ℕ = file_size file in
      let fit = (both (all_fit (line_field_length n) n (file_lines file)) _ o.right).0 in
      rising-lines (line_field_length n) n its (file_lines file) 0 (omega arith) lines-rise fit (λ i w v. only i v) (λ i w v. refl)

  form : AreBytes file → saved (file_size file) (file_table file) (file_tally file) ≡ file
  unfolding fields_bytes
  form small =
      let whole : fields_bytes (fields_of file) ≡ file = (bytes-of-fields file (fields_of file) small (fields-some file o.whole)).0 in
      let again = tally-again small in
      saved-parts (file_size file) (file_table file) (file_tally file)
      ∙ rw (size-again, again, lines-again, ← lines-are) (ap fields_bytes (sym fields-are) ∙ whole)

-- table and tally after reading
table-read : (file b : List ℕ) → load_check file (length b) ≡ Ok tt → load_after file b ≡ file_table file
unfolding load_after
table-read file b e = rw e

answer-read : (file : List ℕ) (len : ℕ) → load_check file len ≡ Ok tt
    → loaded_figures (load_answer file len) ≡ record { size = file_size file; tally = file_tally file }
unfolding load_answer
answer-read file len e = rw e

pub one-form : OneForm
unfolding save_check save_after
one-form file b b' small z long =
    let o = opened file (length b) z in
    let s = form file o small in
    let e : eqb (length b') (length (saved (file_size file) (file_table file) (file_tally file))) ≡ true = eq-eqb _ _ (long ∙ ap length (sym s)) in
    let f = table-read file b z in
    let r = answer-read file (length b) z in
    (rw (f, r, o.sound, e), rw (f, r, o.sound, e) s)
