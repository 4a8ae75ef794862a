-- Laws of the second pass over a file's fields: which lines are taken, and what the table is in the end.
-- Assumes nothing.
use mathlib.Core.Path.{◌≡◌, refl, sym, ap, ◌∙◌}
use mathlib.Core.Logic.{by_cases}
use mathlib.Core.Bool.{Bool, true, false, cond, ◌&&◌, and-false}
use mathlib.Core.List.{List, [], ◌∷◌}
use Prim.Native.Nat.{ℕ, suc, ◌+◌, ◌≤◌, ◌<◌}
use native.Mathlib.Decide.{ℕ_discrete}
use native.Mathlib.Omega.{arith}
use borrow.Author.Tests.{eqb-true, eq-eqb, ne_eqb, ltb-true, not-true, not-false}
use lib.ListN.{length, get_or, set, take, drop, length-append, length-drop}
use lib.Seq.{sets, length-take-le, get_or-take, get_or-set_same, get_or-set_other}
use lib.Dec.{eqb}
use Rattle.std.specs.Prelude.{Err}
use Rattle.lists.specs.declared.refusal.Refusal.{Refusal}
use Rattle.lists.specs.Refusal.{ensure}
use Rattle.lists.specs.Search.{every}
use Rattle.lists.proofs.BoolLaws.{by_bool, every-same}
use Rattle.lists.proofs.SearchLaws.{both, every-at, every-not}
use Rattle.table.specs.Sizes.{is_size}
use Rattle.table.proofs.SizeLaws.{size-bounds}
use Rattle.table.specs.Table.{stride, table_length, line_start}
use Rattle.saved.specs.Fields.{Field, tagged, only_one, only_contents}
use Rattle.saved.specs.Plant.{line_tag, station_in, line_in, of_station, fits, all_fit, lines_right}
use Rattle.saved.specs.Save.{line_of}
use Rattle.saved.specs.Edition1.{told_by_of, converted_line}
use Rattle.saved.specs.Reading.{line_length, line_as, contents_length, line_read, table_read, is_new}
use Rattle.saved.specs.declared.edition.Edition.{Edition}
use Rattle.saved.specs.declared.edition.Edition.TheVariants.{One, Two}
use Rattle.saved.proofs.ConcatLaws.{concat-same}
use Rattle.saved.proofs.Copying.{sets_then}
use Rattle.saved.proofs.TableLines.{line_same, line_other, own-lines}
use Rattle.saved.proofs.FirstPass.{is_empty}

-- what the rest of the lines must be, by whether station i was seen: none of it, or one
abbrev wanted : ℕ → List Bool → List (List ℕ) → ℕ → Bool
wanted len seen cs i = cond (get_or seen i false) (is_empty (of_station i cs)) (only_one len (of_station i cs))

-- the rest of the lines are right
abbrev right_left : ℕ → ℕ → List Bool → List (List ℕ) → Bool
right_left len n seen cs = all_fit len n cs && every (wanted len seen cs) n

-- line i of the table in the end: the first that is left, or else as it stands
abbrev line_then : Edition → ℕ → List ℕ → List (List ℕ) → ℕ → List ℕ
line_then e n t cs i = cond (is_empty (of_station i cs)) (line_of n t i) (line_read e (only_contents (of_station i cs)))

-- how far the pass has come: all contents of lines, the table so far, the stations seen, and what is left of the contents
pub record Passed (e : Edition) (n : ℕ) (all : List (List ℕ)) (t : List ℕ) (seen : List Bool) (cs : List (List ℕ)) : Type 0 where
  pub right : right_left (contents_length e n) n seen cs ≡ lines_right (contents_length e n) n all
  pub lines : lines_right (contents_length e n) n all ≡ true → (i : ℕ) → i < n → line_then e n t cs i ≡ line_read e (only_contents (of_station i all))

-- one contents of that length: there is one, and it is not empty
not-empty : (len : ℕ) (cs : List (List ℕ)) → only_one len cs ≡ true → is_empty cs ≡ false
not-empty len [] e = sym e
not-empty len (c ∷ cs) e = refl

-- one more of a station that was not seen
only_one_more : (len : ℕ) (c : List ℕ) (cs : List (List ℕ)) → length c ≡ len → only_one len (c ∷ cs) ≡ is_empty cs
only_one_more len c [] e = eq-eqb (length c) len e
only_one_more len c (d ∷ cs) e = refl

-- the contents of a field that is a line, and of another
pub passed_line : (e : Edition) (n : ℕ) (all : List (List ℕ)) (t : List ℕ) (seen : List Bool) (f : Field) (fs rest : List Field) → rest ≡ f ∷ fs
    → f.tag ≡ line_tag → Passed e n all t seen (tagged line_tag rest) → Passed e n all t seen (f.contents ∷ tagged line_tag fs)
unfolding tagged
passed_line e n all t seen f fs rest q h p = let r = rw q at p in rw (eq-eqb f.tag line_tag h) at r

pub passed_other : (e : Edition) (n : ℕ) (all : List (List ℕ)) (t : List ℕ) (seen : List Bool) (f : Field) (fs rest : List Field) → rest ≡ f ∷ fs
    → (f.tag ≡ line_tag → ⊥) → Passed e n all t seen (tagged line_tag rest) → Passed e n all t seen (tagged line_tag fs)
unfolding tagged
passed_other e n all t seen f fs rest q h p = let r = rw q at p in rw (ne_eqb f.tag line_tag h) at r

-- before the first, where no station was seen
pub passed_none : (e : Edition) (n : ℕ) (all : List (List ℕ)) (t : List ℕ) (seen : List Bool) → ((i : ℕ) → i < n → get_or seen i false ≡ false)
    → Passed e n all t seen all
unfolding lines_right
passed_none e n all t seen fresh =
    let len : ℕ = contents_length e n in
    let q : every (wanted len seen all) n ≡ every (λ i. only_one len (of_station i all)) n = every-same _ _ n (λ i h. rw (fresh i h)) in
    record {
      right = rw q;
      lines = λ r i h. rw (not-empty len (of_station i all) (every-at _ n i (both (all_fit len n all) _ r).1 h));
    }

-- what a line that is new says
new_facts : (len n : ℕ) (c : List ℕ) (seen : List Bool) → is_new len n c seen ≡ true
    → (fits len n c ≡ true) × (length c ≡ len) × (station_in c < n) × (get_or seen (station_in c) false ≡ false)
new_facts len n c seen e =
    let p = both (fits len n c) _ e in
    let q = both (eqb (length c) len) _ p.0 in
    (p.0, eqb-true _ _ q.0, ltb-true _ _ q.1, not-true _ p.1)

-- a line that is not new spoils the rest
pub passed_not : (e : Edition) (n : ℕ) (c : List ℕ) (all cs : List (List ℕ)) (t : List ℕ) (seen : List Bool) → Passed e n all t seen (c ∷ cs)
    → is_new (contents_length e n) n c seen ≡ false → lines_right (contents_length e n) n all ≡ false
unfolding all_fit of_station
passed_not e n c all cs t seen p q = sym p.right ∙ by_bool (fits len n c) fitting (λ f. rw f)
  where
    len : ℕ
    len = contents_length e n

    fitting : fits len n c ≡ true → right_left len n seen (c ∷ cs) ≡ false
    fitting f =
        let y : get_or seen (station_in c) false ≡ true = not-false _ (rw f at q) in
        let l = ltb-true (station_in c) n (both (eqb (length c) len) _ f).1 in
        rw (every-not (wanted len seen (c ∷ cs)) n (station_in c) l (rw (y, eq-eqb (station_in c) (station_in c) refl)), and-false)

-- what a refused line says
pub line_err : (b : Bool) (r s : Refusal) → Err r ≡ ensure b s → (b ≡ false) × (r ≡ s)
line_err true r s e = cc
line_err false r s e = (refl, cc)

-- a line as it is read has the length of a line
pub as-long : (e : Edition) (n : ℕ) (l : List ℕ) → length l ≡ line_length e n → length (line_as e l) ≡ stride n
unfolding converted_line
as-long One n l h =
    let a = length-append (take 4 l) (told_by_of (get_or l 0 0) ∷ 0 ∷ drop 4 l) in
    omega (arith, length-take-le 4 l (omega arith), length-drop 4 l)
as-long Two n l h = h

pub read-long : (e : Edition) (n : ℕ) (c : List ℕ) → length c ≡ contents_length e n → length (line_read e c) ≡ stride n
read-long e n c h = as-long e n (line_in c) (omega (arith, length-drop 1 c))

-- a line that is new is taken
module _ (e : Edition) (n : ℕ) (c : List ℕ) (all cs : List (List ℕ)) (t : List ℕ) (seen : List Bool) (p : Passed e n all t seen (c ∷ cs))
    (new : is_new (contents_length e n) n c seen ≡ true) (wide : n ≤ length seen) (long : length t ≡ table_length n) where
  abbrev len : ℕ
  len = contents_length e n

  f : (fits len n c ≡ true) × (length c ≡ len) × (station_in c < n) × (get_or seen (station_in c) false ≡ false)
  f = new_facts len n c seen new

  line-long : length (line_read e c) ≡ stride n
  line-long = read-long e n c f.1

  wanted_next : (i : ℕ) → i < n → wanted len (set seen (station_in c) true) cs i ≡ wanted len seen (c ∷ cs) i
  unfolding of_station
  wanted_next i g = by_cases (ℕ_discrete (station_in c) i) here there
    where
      here : station_in c ≡ i → wanted len (set seen (station_in c) true) cs i ≡ wanted len seen (c ∷ cs) i
      here q =
          let s : get_or (set seen (station_in c) true) i false ≡ true =
          rw (← q) (get_or-set_same seen (station_in c) true false (omega (arith, f.2))) in
          let z : get_or seen i false ≡ false = rw (← q) f.3 in
          rw (s, z, eq-eqb (station_in c) i q) (sym (only_one_more len c (of_station i cs) f.1))

      there : (station_in c ≡ i → ⊥) → wanted len (set seen (station_in c) true) cs i ≡ wanted len seen (c ∷ cs) i
      there d = rw (get_or-set_other seen (station_in c) i true false (λ q. d (sym q)), ne_eqb (station_in c) i d)

  right_next : right_left len n (set seen (station_in c) true) cs ≡ lines_right len n all
  unfolding all_fit
  right_next = rw (every-same _ _ n wanted_next) (let h : right_left len n seen (c ∷ cs) ≡ lines_right len n all = p.right in rw f.0 at h)

  -- a station that was seen is not there again
  once : lines_right len n all ≡ true → is_empty (of_station (station_in c) cs) ≡ true
  once r =
      let s : get_or (set seen (station_in c) true) (station_in c) false ≡ true =
      get_or-set_same seen (station_in c) true false (omega (arith, f.2)) in
      rw s at (every-at (wanted len (set seen (station_in c) true) cs) n (station_in c) (both (all_fit len n cs) _ (right_next ∙ r)).1 f.2)

  line_next : lines_right len n all ≡ true → (i : ℕ) → i < n
      → line_then e n (sets t (line_start n (station_in c)) (line_read e c)) cs i ≡ line_then e n t (c ∷ cs) i
  unfolding of_station
  line_next r i g =
      by_cases (ℕ_discrete (station_in c) i)
      (λ q. rw (← q, once r, eq-eqb (station_in c) (station_in c) refl) (line_same n t (line_read e c) (station_in c) long f.2 line-long))
      (λ d. rw (ne_eqb (station_in c) i d, line_other n t (line_read e c) (station_in c) long f.2 line-long i g (λ q. d (sym q))))

  pub passed_more : Passed e n all (sets t (line_start n (station_in c)) (line_read e c)) (set seen (station_in c) true) cs
  passed_more = record { right = right_next; lines = λ r i g. line_next r i g ∙ p.lines r i g }

-- after the last: all stations were seen exactly where the lines are right, and then the table is theirs
module _ (e : Edition) (n : ℕ) (all : List (List ℕ)) (t : List ℕ) (seen : List Bool) (rest : List Field) (end : rest ≡ [])
    (p : Passed e n all t seen (tagged line_tag rest)) where
  none_left : Passed e n all t seen []
  unfolding tagged
  none_left = rw end at p

  pub passed_all : (b : Bool) → is_size n ≡ true → length seen ≡ 64
      → b ≡ every (λ i. get_or (take n seen) i false) (length (take n seen)) → b ≡ lines_right (contents_length e n) n all
  unfolding all_fit of_station
  passed_all b size wide q =
      let long : length (take n seen) ≡ n = length-take-le n seen (omega (arith, size-bounds n size)) in
      q ∙ rw long (every-same _ _ n (λ i h. get_or-take n seen i false h)
      ∙ (every-same _ _ n (λ i h. by_bool (get_or seen i false) (λ g. rw g) (λ g. rw g)) ∙ none_left.right))

  pub passed_table : length t ≡ table_length n → lines_right (contents_length e n) n all ≡ true → t ≡ table_read e n all
  unfolding table_read of_station
  passed_table long r = sym (own-lines n t long) ∙ concat-same _ _ n (none_left.lines r)

-- a line of edition 1 is written with two bytes more behind its first four
pub old_written : (b l : List ℕ) (at by : ℕ) → 4 ≤ length l → by ≡ told_by_of (get_or (take 4 l) 0 0)
    → sets (set (set (sets b at (take 4 l)) (at + 4) by) (at + 5) 0) (at + 6) (drop 4 l) ≡ sets b at (converted_line l)
unfolding converted_line
old_written b l at by h e =
    let long : length (take 4 l) ≡ 4 = length-take-le 4 l h in
    let five : at + 5 ≡ suc (at + 4) = omega arith in
    let six : at + 6 ≡ suc (suc (at + 4)) = omega arith in
    let whole = sets_then b (take 4 l) (by ∷ 0 ∷ drop 4 l) at in
    let first : get_or (take 4 l) 0 0 ≡ get_or l 0 0 = get_or-take 4 l 0 0 (omega arith) in
    let same : by ≡ told_by_of (get_or l 0 0) = e ∙ ap told_by_of first in
    rw (five, six, ← same) (rw long at whole)
