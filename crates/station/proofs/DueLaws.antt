-- Laws of whom a row suspects, of the first station of a group that passes a test, of the answer that rests on it, and of the distances due, of
-- specs/Tests.
-- Assumes nothing.
use mathlib.Core.Path.{◌≡◌, refl, sym, ap, ◌∙◌}
use mathlib.Core.Logic.{by_cases}
use mathlib.Core.Bool.{Bool, true, false, ◌&&◌, and-false, true≢false}
use mathlib.Core.List.{List}
use Rattle.std.specs.Prelude.{Option, Some, None}
use Prim.Native.Nat.{ℕ, suc, ◌+◌, ◌-◌, ◌^◌, ◌≤◌, ◌<◌}
use native.Mathlib.Decide.{dec_lt}
use native.Mathlib.Omega.{arith}
use borrow.Author.Tests.{lt-ltb, le-ltb, ltb-true, ltb-false, ne_eqb}
use lib.ListN.{length, get_or, get_or-eq_default}
use lib.Dec.{ltb, eqb}
use Rattle.lists.specs.Search.{least}
use Rattle.station.specs.Groups.{station_at, width, member}
use Rattle.table.specs.Sizes.{level}
use Rattle.station.specs.Tests.{unsuspected, first_place, first, DueAnswer, answer_due, answer_ahead, answer_of, answer, says_due, stands, due}
use Rattle.lists.proofs.BoolLaws.{by_bool}
use Rattle.lists.proofs.SearchLaws.{get_d-within, both, least-is, least-none, least-passes, least-before}
use Rattle.table.proofs.Levels.{level-zero, level-split, level_in}

-- whom a row does not suspect, for a number within the row
pub unsuspected-at : (r : List ℕ) (x : ℕ) → x < length r → unsuspected r x ≡ eqb (get_or r x 0) 0
unfolding unsuspected
unsuspected-at r x h = rw (get_d-within r x 1 0 h)

-- and for an absent one
pub unsuspected-absent : (r : List ℕ) (x : ℕ) → ¬ (x < length r) → unsuspected r x ≡ false
unfolding unsuspected
unsuspected-absent r x h = rw (get_or-eq_default r 1 {n = x} (omega arith))

-- level 0 has no group
pub first-zero : (q : ℕ → Bool) (j : ℕ) → first q j 0 ≡ None
unfolding first first_place least width
first-zero q j = refl

-- the group of j at level s as the code walks it: from distance w, which is its width, on
module _ (q : ℕ → Bool) (j s w : ℕ) (e : w ≡ width s) where
  pub first-at : (k : ℕ) → k < w → q (station_at j (w + k)) ≡ true → ((y : ℕ) → y < k → q (station_at j (w + y)) ≡ false)
      → first q j s ≡ Some (station_at j (w + k))
  unfolding first first_place member
  first-at k h p before =
      let l : first_place q j s ≡ k =
      least-is (λ y. q (member j s y)) (width s) 0 k (omega arith) (omega arith) (rw e at p) (λ y a b. rw e at (before y b)) in
      rw (l, lt-ltb k (width s) (omega arith), e)

  pub first-nobody : ((y : ℕ) → y < w → q (station_at j (w + y)) ≡ false) → first q j s ≡ None
  unfolding first first_place member
  first-nobody fails =
      let l : first_place q j s ≡ 0 + width s = least-none (λ y. q (member j s y)) (width s) 0 (λ y a b. rw e at (fails y (omega arith))) in
      rw (le-ltb (first_place q j s) (width s) (omega arith))

-- whether a station was found and is i
abbrev pub is_station : ℕ → Option ℕ → Bool
is_station i None = false
is_station i (Some x) = eqb x i

-- the answer is "due" where that is so
says-due : (i : ℕ) (o : Option ℕ) → says_due (answer_of i o) ≡ is_station i o
says-due i None = refl
says-due i (Some x) = by_bool (eqb x i) (λ e. rw e) (λ e. rw e)

-- the first station of the group of j at level s that passes q
module _ (q : ℕ → Bool) (j s : ℕ) where
  abbrev p : ℕ
  p = first_place q j s

  abbrev x : ℕ → ℕ
  x = member j s

  -- it passes, if there is one; if not, none passes
  pub found : ltb p (width s) ≡ true → (p < width s) × (q (x p) ≡ true)
  unfolding first_place
  found e = let l = ltb-true p (width s) e in (l, least-passes (λ k. q (x k)) (width s) 0 (omega arith))

  pub none_found : ltb p (width s) ≡ false → (k : ℕ) → k < width s → q (x k) ≡ false
  unfolding first_place
  none_found e k l = least-before (λ k. q (x k)) (width s) 0 k (omega arith) (omega (arith, ltb-false p (width s) e))

  pub first-not : (i : ℕ) → q i ≡ false → is_station i (first q j s) ≡ false
  unfolding first
  first-not i fails =
      by_bool (ltb p (width s)) (λ e. rw e (ne_eqb (x p) i (λ f. true≢false (sym (found e).1 ∙ (ap q f ∙ fails))))) (λ e. rw e)

  -- it is not behind one that passes
  first-place : (k : ℕ) → q (x k) ≡ true → p ≤ k
  unfolding first_place
  first-place k passes =
      by_cases (dec_lt k p) (λ l. absurd (true≢false (sym passes ∙ least-before (λ y. q (x y)) (width s) 0 k (omega arith) l))) (λ l. omega arith)

-- by distance: where the station at distance m from j passes, somebody is first, at that distance or before it
pub first_found : (q : ℕ → Bool) (j m : ℕ) → 0 < m → q (station_at j m) ≡ true
    → (a : ℕ) × (level a ≡ level m) × (a ≤ m) × (q (station_at j a) ≡ true) × (first q j (level m) ≡ Some (station_at j a))
unfolding first member width
first_found q j m pos passes =
    let t = level-split m pos in
    let h : ℕ = t.0 in
    let p : ℕ = first_place q j (suc h) in
    let place : 2 ^ h + (m - 2 ^ h) ≡ m = omega (arith, t.2) in
    let low : p ≤ m - 2 ^ h = first-place q j (suc h) (m - 2 ^ h) (rw place passes) in
    let l : p < 2 ^ h = omega (arith, t.2, t.3) in (
      2 ^ h + p,
      rw t.1 (level_in h p l),
      omega (arith, t.2),
      (found q j (suc h) (lt-ltb p (2 ^ h) l)).1,
      rw (t.1, lt-ltb p (2 ^ h) l),
    )

-- the answer where no station stands, and where one does
pub answer_absent : (r : List ℕ) (i m : ℕ) → stands r i m ≡ false → answer r i m ≡ answer_ahead i
unfolding answer
answer_absent r i m absent = rw absent

pub answer_here : (r : List ℕ) (i m : ℕ) → stands r i m ≡ true → answer r i m ≡ answer_of i (first (unsuspected r) (station_at i m) (level m))
unfolding answer
answer_here r i m here = rw here

-- at distance 0 it names i
answer-zero : (r : List ℕ) (i : ℕ) → answer r i 0 ≡ answer_ahead i
unfolding answer
answer-zero r i = by_bool (stands r i 0) (λ here. rw (here, level-zero, first-zero)) (λ absent. rw absent)

-- due by the answer
pub due-is : (r : List ℕ) (i m : ℕ) → due r i m ≡ says_due (answer r i m)
unfolding due
due-is r i m = refl

-- what does not say "due" names somebody
pub names : (a : DueAnswer) → says_due a ≡ false → (x : ℕ) × (a ≡ answer_ahead x)
names answer_due e = absurd (true≢false e)
names (answer_ahead x) e = (x, refl)

-- where no station stands a distance is not due
pub due-absent : (r : List ℕ) (i m : ℕ) → stands r i m ≡ false → due r i m ≡ false
due-absent r i m absent = due-is r i m ∙ ap says_due (answer_absent r i m absent)

-- due by who is first
pub due-first : (r : List ℕ) (i m : ℕ)
    → due r i m ≡ (stands r i m && is_station i (first (unsuspected r) (station_at i m) (level m)))
due-first r i m = by_bool (stands r i m) here (λ absent. rw absent (due-absent r i m absent))
  where
    here : stands r i m ≡ true → due r i m ≡ (stands r i m && is_station i (first (unsuspected r) (station_at i m) (level m)))
    here e = due-is r i m ∙ (ap says_due (answer_here r i m e) ∙ rw e (says-due i (first (unsuspected r) (station_at i m) (level m))))

-- i is not due where it is not first
pub due-not : (r : List ℕ) (i m : ℕ) → is_station i (first (unsuspected r) (station_at i m) (level m)) ≡ false → due r i m ≡ false
due-not r i m e = due-first r i m ∙ rw (e, and-false)

-- distance 0 is never due
pub due-zero : (r : List ℕ) (i : ℕ) → due r i 0 ≡ false
due-zero r i = due-is r i 0 ∙ ap says_due (answer-zero r i)

-- at a distance that is due a station stands
pub due-stands : (r : List ℕ) (i m : ℕ) → due r i m ≡ true → stands r i m ≡ true
due-stands r i m e = (both _ _ (sym (due-first r i m) ∙ e)).0

pub due-present : (r : List ℕ) (i m : ℕ) → due r i m ≡ true → station_at i m < length r
due-present r i m e = ltb-true (station_at i m) (length r) (due-stands r i m e)
