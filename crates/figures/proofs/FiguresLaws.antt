-- The figures of a list follow from its totals, and those of two lists from the join of theirs.
-- Assumes nothing.
use mathlib.Core.Path.{◌≡◌, refl, sym, ◌∙◌, ap₂}
use mathlib.Core.List.{List, ◌++◌}
use mathlib.Core.Bool.{Bool, true, false, ◌||◌}
use mathlib.Core.Logic.{by_cases}
use Prim.Native.Nat.{ℕ, ◌<◌, ◌≤◌}
use native.Mathlib.Decide.{dec_le}
use native.Mathlib.Omega.{arith}
use borrow.Author.Tests.{lt-ltb, le-ltb, ne_eqb}
use lib.Dec.{eqb, ltb}
use lib.ListN.{length, length-append}
use Rattle.std.specs.Prelude.{Result, Ok, Err}
use Rattle.lists.specs.declared.refusal.Refusal.{Refusal}
use Rattle.lists.specs.declared.refusal.Refusal.TheVariants.{TooManyResults}
use Rattle.figures.specs.declared.Totals.{Totals}
use Rattle.figures.specs.Batch.{most_results, mean, batch_check, figures}
use Rattle.figures.specs.Totals.{totals_of, joined, overfull, totals, join, figures_of_totals}
use Rattle.figures.specs.Claims.{Small}
use Rattle.figures.proofs.Joining.{totals-append}
use Rattle.figures.proofs.Deviations.{variance-by-totals}
use Rattle.figures.proofs.Bounds.{OfResults, list-of-results, joined-of-results, overfull-count, overfull-joined}

-- the totals of two lists of results of 16 bits
append-of-results : (xs ys : List ℕ) → Small xs → Small ys → OfResults (totals_of (xs ++ ys))
append-of-results xs ys p q =
    rw totals-append (joined-of-results (totals_of xs) (totals_of ys) (list-of-results xs p) (list-of-results ys q))

-- the figures of a list are those of its totals
figures-by-totals : (xs : List ℕ) → OfResults (totals_of xs) → figures xs ≡ figures_of_totals (totals_of xs)
unfolding figures figures_of_totals totals_of mean
figures-by-totals xs small = rw (overfull-count (totals_of xs) small, variance-by-totals xs)

-- the figures of kept totals are those of the list that they were taken of
pub kept_figures : (xs : List ℕ) → Small xs → figures_of_totals (totals_of xs) ≡ figures xs
kept_figures xs p = sym (figures-by-totals xs (list-of-results xs p))

-- a list that is too long
too_long : (xs : List ℕ) → most_results < length xs → figures xs ≡ Err TooManyResults
unfolding figures batch_check
too_long xs l =
    let none : eqb (length xs) 0 ≡ false = ne_eqb (length xs) 0 (λ (e : length xs ≡ 0). omega arith) in
    let many : ltb most_results (length xs) ≡ true = lt-ltb _ _ l in
    rw (none, many)

totals-long : (xs : List ℕ) → most_results < length xs → totals xs ≡ Err TooManyResults
unfolding totals
totals-long xs l = rw (lt-ltb most_results (length xs) l)

totals-short : (xs : List ℕ) → length xs ≤ most_results → totals xs ≡ Ok (totals_of xs)
unfolding totals
totals-short xs l = rw (le-ltb most_results (length xs) l)

-- what is answered of an answer: its refusal is handed on
abbrev then_answer : {A B : Type 0} → Result A Refusal → (A → Result B Refusal) → Result B Refusal
then_answer (Ok x) f = f x
then_answer (Err r) f = Err r

-- the figures of what the totals of a list answer are those of the list
figures-of-totals : (xs : List ℕ) → OfResults (totals_of xs) → then_answer (totals xs) figures_of_totals ≡ figures xs
figures-of-totals xs small =
    by_cases (dec_le (length xs) most_results)
    (λ l. rw (totals-short xs l) (sym (figures-by-totals xs small)))
    (λ l. let m : most_results < length xs = omega arith in rw (totals-long xs m, too_long xs m))

pub figures_ok : (xs : List ℕ) (t : Totals) → Small xs → totals xs ≡ Ok t → figures_of_totals t ≡ figures xs
figures_ok xs t p e = rw e at (figures-of-totals xs (list-of-results xs p))

pub figures_err : (xs : List ℕ) (r : Refusal) → Small xs → totals xs ≡ Err r → Err r ≡ figures xs
figures_err xs r p e = rw e at (figures-of-totals xs (list-of-results xs p))

joined-count : (xs ys : List ℕ) → (joined (totals_of xs) (totals_of ys)).count ≡ length (xs ++ ys)
unfolding totals_of joined
joined-count xs ys = sym (length-append xs ys)

-- the join of the totals of two lists answers what the totals of the one list that holds both do
join-append : (xs ys : List ℕ) → Small xs → Small ys → join (totals_of xs) (totals_of ys) ≡ totals (xs ++ ys)
unfolding join totals
join-append xs ys p q =
    let both = joined-of-results (totals_of xs) (totals_of ys) (list-of-results xs p) (list-of-results ys q) in
    rw (totals-append xs ys, overfull-count (joined (totals_of xs) (totals_of ys)) both, joined-count xs ys)

-- a join is refused where one of the two is overfull, or both are together
pub join_refused : (a b : Totals) (x y : Bool) → x ≡ overfull a → y ≡ overfull b → (x || y) ≡ true → join a b ≡ Err TooManyResults
unfolding join
join_refused a b x y p q e = by (overfull (joined a b)) refl
  where
    by : (o : Bool) → overfull (joined a b) ≡ o → join a b ≡ Err TooManyResults
    by true o = rw o
    by false o =
        let n = overfull-joined a b o in
        let f : (overfull a || overfull b) ≡ true = sym (ap₂ ◌||◌ p q) ∙ e in
        let l : overfull a ≡ false = n.0 in
        let r : overfull b ≡ false = n.1 in
        cc

-- the join of what the totals of two lists answer
join-answers : (xs ys : List ℕ) → Small xs → Small ys → then_answer (totals xs) (λ a. then_answer (totals ys) (join a)) ≡ totals (xs ++ ys)
join-answers xs ys p q = by (dec_le (length xs) most_results) (dec_le (length ys) most_results)
  where
    by : Dec (length xs ≤ most_results) → Dec (length ys ≤ most_results)
        → then_answer (totals xs) (λ a. then_answer (totals ys) (join a)) ≡ totals (xs ++ ys)
    by (yes l) (yes m) = rw (totals-short xs l, totals-short ys m) (join-append xs ys p q)
    by (yes l) (no m) =
        let n : most_results < length ys = omega arith in
        rw (totals-short xs l, totals-long ys n, totals-long (xs ++ ys) (simp length-append (omega arith)))
    by (no l) d =
        let n : most_results < length xs = omega arith in
        rw (totals-long xs n, totals-long (xs ++ ys) (simp length-append (omega arith)))

-- the figures of the one list that holds both, by each answer on the way
module _ (xs ys : List ℕ) where
  figures-of-lists : Small xs → Small ys
      → then_answer (then_answer (totals xs) (λ a. then_answer (totals ys) (join a))) figures_of_totals ≡ figures (xs ++ ys)
  figures-of-lists p q = rw (join-answers xs ys p q) (figures-of-totals (xs ++ ys) (append-of-results xs ys p q))

  pub first_err : (r : Refusal) → Small xs → Small ys → totals xs ≡ Err r → Err r ≡ figures (xs ++ ys)
  first_err r p q e = rw e at (figures-of-lists p q)

  pub second_err : (a : Totals) (r : Refusal) → Small xs → Small ys → totals xs ≡ Ok a → totals ys ≡ Err r → Err r ≡ figures (xs ++ ys)
  second_err a r p q e f = rw (e, f) at (figures-of-lists p q)

  pub join_err : (a b : Totals) (r : Refusal) → Small xs → Small ys → totals xs ≡ Ok a → totals ys ≡ Ok b → join a b ≡ Err r
      → Err r ≡ figures (xs ++ ys)
  join_err a b r p q e f g = rw (e, f, g) at (figures-of-lists p q)

  pub join_ok : (a b t : Totals) → Small xs → Small ys → totals xs ≡ Ok a → totals ys ≡ Ok b → join a b ≡ Ok t
      → figures_of_totals t ≡ figures (xs ++ ys)
  join_ok a b t p q e f g = rw (e, f, g) at (figures-of-lists p q)

-- what `figures_of_two` needs of them
pub ruleset two_lists = (first_err, second_err, join_err, join_ok)
