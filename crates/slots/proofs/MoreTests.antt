-- Who suspects more makes no fewer tests; the most with one more dead.
-- Assumes nothing.
use mathlib.Core.Path.{◌≡◌, sym, ap, ◌∙◌}
use mathlib.Core.Logic.{◌≢◌, by_cases}
use mathlib.Core.Bool.{true, false, true≢false}
use mathlib.Core.List.{List}
use Prim.Native.Nat.{ℕ, ◌≤◌, ◌<◌}
use native.Mathlib.Nat.{le_trans}
use native.Mathlib.Decide.{ℕ_discrete, dec_lt}
use native.Mathlib.Omega.{arith}
use borrow.Author.Tests.{eq-eqb, ne_eqb, lt-ltb}
use lib.ListN.{length}
use lib.Seq.{get_or-set_other}
use lib.Dec.{eqb}
use Rattle.lists.specs.Sums.{sum_below, bit}
use Rattle.station.specs.Groups.{station_at}
use Rattle.table.specs.Sizes.{distances}
use Rattle.station.specs.Tests.{unsuspected, stands, due, due_distances}
use Rattle.station.specs.Rows.{mark}
use Rattle.lists.proofs.BoolLaws.{by_bool}
use Rattle.table.proofs.SizeLaws.{distances-pos, distances-le}
use Rattle.lists.proofs.FilterLaws.{select-sum}
use Rattle.station.proofs.UnionLaws.{mark-length, mark-same}
use Rattle.station.proofs.DueLaws.{unsuspected-at, due-zero, due-present}
use Rattle.station.proofs.EntryLaws.{unsuspected-below}
use Rattle.station.proofs.AheadLaws.{due-if-nobody-before}
use Rattle.slots.specs.Slots.{tests_due, tests_with, most_tests}
use Rattle.slots.specs.Law.{Wider, NeverFewer, MostIsNoLess, MostCovers}
use Rattle.slots.proofs.DigitLaws.{due-nobody}
use Rattle.slots.proofs.Counts.{sum-le}
use Rattle.lists.proofs.SearchLaws.{greatest-le}

-- what is due stays due
due-more : (r r' : List ℕ) (i m : ℕ) → Wider r r' i → due r i m ≡ true → due r' i m ≡ true
due-more r r' i m w is_due =
    let d = due-nobody r i m is_due in
    let here : stands r' i m ≡ true = lt-ltb (station_at i m) (length r') (rw w.long (due-present r i m is_due)) in
    (due-if-nobody-before r' i m w.own d.0).1
    (here, λ x b. by_bool (unsuspected r' x) (λ e. absurd (true≢false (sym (w.more x e) ∙ d.1 x b))) (λ e. e))

-- also of the distances below any one
pub fewer-below : (r r' : List ℕ) (i : ℕ) → Wider r r' i → (b : ℕ) → sum_below (λ m. bit (due r i m)) b ≤ sum_below (λ m. bit (due r' i m)) b
fewer-below r r' i w b =
    sum-le b (λ m l. by_bool (due r i m) (λ e. rw (e, due-more r r' i m w e) (omega arith)) (λ e. rw e (omega arith)))

pub tests-sum : (n : ℕ) (r : List ℕ) (i : ℕ) → tests_due n r i ≡ sum_below (λ m. bit (due r i m)) (distances n)
unfolding tests_due due_distances
tests-sum n r i = select-sum (due r i) (distances n)

pub never-fewer : NeverFewer
never-fewer n r r' i w = rw (tests-sum n r i, tests-sum n r' i) (fewer-below r r' i w (distances n))

-- a marked row suspects one more
pub mark-unsuspected : (r : List ℕ) (j x : ℕ) → x ≢ j → unsuspected (mark r j) x ≡ unsuspected r x
unfolding unsuspected mark
mark-unsuspected r j x apart = ap (λ (v : ℕ). eqb v 0) (get_or-set_other r j x 1 1 apart)

pub mark-suspected : (r : List ℕ) (j : ℕ) → j < length r → unsuspected (mark r j) j ≡ false
mark-suspected r j h = unsuspected-at (mark r j) j (omega (arith, mark-length r j)) ∙ ap (λ (v : ℕ). eqb v 0) (mark-same r j h)

pub wider-mark : (r : List ℕ) (i j : ℕ) → unsuspected r i ≡ true → j ≢ i → Wider r (mark r j) i
wider-mark r i j own apart = record {
  long = mark-length r j;
  own = mark-unsuspected r j i (λ e. apart (sym e)) ∙ own;
  more = λ x e. by_cases (ℕ_discrete x j)
      (λ q.
      let inside : j < length r = rw (mark-length r j, q) at (unsuspected-below (mark r j) x e) in
      absurd (true≢false (sym (rw q at e) ∙ mark-suspected r j inside)))
      (λ q. sym (mark-unsuspected r j x q) ∙ e);
}

-- the tests with j too
pub with-other : (n : ℕ) (r : List ℕ) (i j : ℕ) → j ≢ i → tests_with n r i j ≡ tests_due n (mark r j) i
unfolding tests_with
with-other n r i j apart = rw (ne_eqb j i apart)

pub with-self : (n : ℕ) (r : List ℕ) (i j : ℕ) → j ≡ i → tests_with n r i j ≡ 0
unfolding tests_with
with-self n r i j e = rw (eq-eqb j i e)

-- what one other station can make of it is counted
most-with : (n : ℕ) (r : List ℕ) (i j : ℕ) → j < n → j ≢ i → tests_due n (mark r j) i ≤ most_tests n r i
unfolding most_tests
most-with n r i j l apart =
    let e : tests_with n r i j ≡ tests_due n (mark r j) i = with-other n r i j apart in
    omega (arith, greatest-le (tests_with n r i) n j l)

pub most-covers : MostCovers
most-covers n r r' i j l apart wider = le_trans (never-fewer n r' (mark r j) i wider) (most-with n r i j l apart)

-- one board alone makes no test
alone : (n : ℕ) (r : List ℕ) (i : ℕ) → n ≤ 1 → tests_due n r i ≡ 0
unfolding sum_below
alone n r i few = let one : distances n ≡ 1 = omega (arith, distances-pos n, distances-le 0 n few) in rw (tests-sum n r i, one, due-zero r i)

pub most-is-no-less : MostIsNoLess
most-is-no-less n r i own = by_cases (dec_lt 1 n) (λ two. pick two (ℕ_discrete i 0)) (λ few. omega (arith, alone n r i (omega arith)))
  where
    go : (j : ℕ) → j < n → j ≢ i → tests_due n r i ≤ most_tests n r i
    go j l apart = most-covers n r r i j l apart (wider-mark r i j own apart)

    pick : 1 < n → Dec (i ≡ 0) → tests_due n r i ≤ most_tests n r i
    pick two (yes e) = go 1 two (omega arith)
    pick two (no e) = go 0 (omega arith) (λ q. e (sym q))
