-- The entries of an assignment, as a loop that counts up writes them: their number, and that they fill the list.
-- Assumes nothing.
use mathlib.Core.Path.{◌≡◌, refl, sym, ap, ◌∙◌}
use mathlib.Core.Logic.{by_cases}
use mathlib.Core.Bool.{Bool, true, not, ◌&&◌, and-false, true≢false}
use mathlib.Core.List.{List, [], ◌∷◌, ◌++◌, map, map-append}
use Prim.Native.Nat.{ℕ, zero, suc, ◌+◌, ◌*◌, ◌-◌, ◌≤◌, ◌<◌}
use native.Mathlib.Decide.{dec_lt}
use native.Mathlib.Omega.{arith}
use borrow.Author.Tests.{lt-ltb}
use lib.Dec.{ltb}
use lib.ListN.{length, set, length-append, length-map}
use lib.Seq.{sets}
use Rattle.std.specs.List.{filter, range_with_len}
use Rattle.std.proofs.lemmas.List.Elements.{filter-append}
use Rattle.std.specs.Int.{from_bool}
use Rattle.std.proofs.lemmas.List.Filters.{length-filter_both}
use Rattle.table.specs.Sizes.{is_size, distances}
use Rattle.station.specs.Tests.{unsuspected, answer, stands, due, due_distances}
use Rattle.station.specs.Calls.{is_other, other_distances, answer_byte, assignment_entries}
use Rattle.lists.proofs.BoolLaws.{by_bool}
use Rattle.lists.proofs.FilterLaws.{filter-twice}
use Rattle.lists.proofs.Writing.{sets-two, sets-all}
use Rattle.lists.proofs.Enumerated.{filter-range, filter-from}
use Rattle.table.proofs.SizeLaws.{distances-pos}
use Rattle.station.proofs.DueLaws.{unsuspected-absent, due-zero, due-stands}
use Rattle.station.proofs.Presence.{others-all}

-- two bytes for each distance
pub entries-length : (r : List ℕ) (i : ℕ) (ms : List ℕ) → length (assignment_entries r i ms) ≡ 2 * length ms
unfolding assignment_entries
entries-length r i [] = refl
entries-length r i (m ∷ ms) = omega (arith, entries-length r i ms)

-- whom a row does not suspect is below its length
pub unsuspected-below : (r : List ℕ) (x : ℕ) → unsuspected r x ≡ true → x < length r
unsuspected-below r x e = by_cases (dec_lt x (length r)) (λ l. l) (λ l. absurd (true≢false (sym e ∙ unsuspected-absent r x l)))

-- one distance more
entries-more : (r : List ℕ) (i m : ℕ) (ms : List ℕ)
    → assignment_entries r i (ms ++ (m ∷ [])) ≡ assignment_entries r i ms ++ (m ∷ answer_byte (answer r i m) ∷ [])
unfolding assignment_entries
entries-more r i m [] = refl
entries-more r i m (k ∷ ms) = rw (entries-more r i m ms)

-- the distances of the other stations, as the code goes through them
module _ (n : ℕ) (r : List ℕ) (i : ℕ) (size : is_size n ≡ true) (long : length r ≡ n) (own : i < n) where
  pub others-walk : filter (stands r i) (range_with_len 1 (distances n - 1)) ≡ other_distances n i
  unfolding other_distances
  others-walk =
      filter-from (stands r i) (is_other n i) 1 (distances n - 1) (λ m pos. rw (long, lt-ltb 0 m pos))
      ∙ filter-range (is_other n i) (distances n) refl (distances-pos n)

  -- those of them that are due
  pub others-due : filter (due r i) (other_distances n i) ≡ due_distances r i n
  unfolding other_distances due_distances
  others-due = sym (filter-twice (due r i) (is_other n i) (due r i) due-other (range_with_len 0 (distances n)))
    where
      pos : (m : ℕ) → due r i m ≡ true → ltb 0 m ≡ true
      pos zero e = absurd (true≢false (sym e ∙ due-zero r i))
      pos (suc m) e = lt-ltb 0 (suc m) (omega arith)

      due-other : (m : ℕ) → due r i m ≡ (is_other n i m && due r i m)
      due-other m =
          by_bool (due r i m) (λ e. let here = due-stands r i m e in rw (e, pos m e, ← long, here)) (λ e. rw (e, and-false))

  -- an entry more: so many are before it, it fits the list, and it is written and counted
  module _ (l t : List ℕ) (ps : List (ℕ × ℕ)) (k m : ℕ) (fits : length l + 2 ≡ 2 * n) (at : k ≡ length ps) where
    abbrev ms : List ℕ
    ms = map (λ (p : ℕ × ℕ). p.1) ps

    pub entry-fits : length ps < length (filter (stands r i) (range_with_len 1 (distances n - 1))) → 2 * k + 1 < length l
    entry-fits h = omega (arith, at, h, ap length others-walk, others-all n i size own, fits)

    pub entry-written : t ≡ sets l 0 (assignment_entries r i ms)
        → set (set t (2 * k) m) (2 * k + 1) (answer_byte (answer r i m))
        ≡ sets l 0 (assignment_entries r i (map (λ (p : ℕ × ℕ). p.1) (ps ++ ((k, m) ∷ []))))
    entry-written e =
        let len : 2 * k ≡ length (assignment_entries r i ms) = omega (arith, at, entries-length r i ms, length-map ps (λ (p : ℕ × ℕ). p.1)) in
        rw (map-append (λ (p : ℕ × ℕ). p.1) ps, entries-more r i m ms)
        (sets-two l (assignment_entries r i ms) t (2 * k) m (answer_byte (answer r i m)) len e)

-- b says whether it is due
pub entry-counted : (q : ℕ → Bool) (ps : List (ℕ × ℕ)) (k m count : ℕ) (b : Bool) → b ≡ q m
    → count ≡ length (filter q (map (λ (p : ℕ × ℕ). p.1) ps))
    → count + from_bool b ≡ length (filter q (map (λ (p : ℕ × ℕ). p.1) (ps ++ ((k, m) ∷ []))))
entry-counted q ps k m count b f e =
    let ms : List ℕ = map (λ (p : ℕ × ℕ). p.1) ps in
    rw (f, map-append (λ (p : ℕ × ℕ). p.1) ps, filter-append q ms (m ∷ []), length-append (filter q ms), ← e)
    (by_bool (q m) (λ p. rw p refl) (λ p. rw p refl))

-- few are due
pub entry-few : (q : ℕ → Bool) (ps : List (ℕ × ℕ)) (count : ℕ) → count ≡ length (filter q (map (λ (p : ℕ × ℕ). p.1) ps)) → count ≤ length ps
entry-few q ps count e =
    let ms : List ℕ = map (λ (p : ℕ × ℕ). p.1) ps in
    omega (arith, length-filter_both q (λ m. not (q m)) (λ m. refl) ms, length-map ps (λ (p : ℕ × ℕ). p.1), e)

-- all is written
pub entry_done : (n : ℕ) (r : List ℕ) (i : ℕ) → is_size n ≡ true → i < n → (l : List ℕ) → length l + 2 ≡ 2 * n
    → sets l 0 (assignment_entries r i (other_distances n i)) ≡ assignment_entries r i (other_distances n i)
entry_done n r i size h l fits =
    sets-all l (assignment_entries r i (other_distances n i)) (omega (arith, entries-length r i (other_distances n i), others-all n i size h))
