-- The totals of results of 16 bits: at most 65,535 for each result, and the square of it. So a list of at most 4,096 is not overfull.
-- Assumes nothing.
use mathlib.Core.Path.{◌≡◌, sym, ◌∙◌}
use mathlib.Core.List.{List}
use mathlib.Core.Bool.{true, false, ◌||◌}
use mathlib.Core.Logic.{by_cases}
use Prim.Native.Nat.{ℕ, ◌*◌, ◌^◌, ◌<◌, ◌≤◌}
use native.Mathlib.Nat.{mul-le-mul}
use native.Mathlib.Decide.{dec_le}
use native.Mathlib.Omega.{arith}
use borrow.Author.Tests.{ltb-false, le-ltb, lt-ltb}
use lib.Dec.{ltb}
use lib.ListN.{length, get_or}
use Rattle.figures.specs.declared.Totals.{Totals}
use Rattle.lists.proofs.BoolLaws.{neither}
use Rattle.std.specs.List.{sum_by}
use Rattle.std.proofs.lemmas.List.Sums.{sum_by-le}
use Rattle.std.proofs.lemmas.List.Elements.{All-from_get_or}
use Rattle.figures.specs.Batch.{most_results}
use Rattle.figures.specs.Claims.{Small}
use Rattle.figures.specs.Totals.{totals_of, joined, greatest_result, overfull}

-- totals that as many results of 16 bits can have
pub record OfResults (t : Totals) : Type 0 where
  pub sum-most : t.sum ≤ greatest_result * t.count
  pub squares-most : t.squares ≤ greatest_result * greatest_result * t.count

sum-most-of : (f : ℕ → ℕ) (m : ℕ) (xs : List ℕ) → ((k : ℕ) → f (get_or xs k 0) ≤ m) → sum_by f xs ≤ m * length xs
sum-most-of f m xs h = omega (arith, sum_by-le f m xs (All-from_get_or (λ x. f x ≤ m) xs 0 (λ k l. h k)))

square-most : {x : ℕ} → x ≤ greatest_result → x * x ≤ greatest_result * greatest_result
square-most h = mul-le-mul h h

pub list-of-results : (xs : List ℕ) → Small xs → OfResults (totals_of xs)
unfolding totals_of
list-of-results xs small =
    record {
      sum-most = sum-most-of (λ x. x) greatest_result xs (λ k. omega (arith, small k));
      squares-most = sum-most-of (λ x. x * x) (greatest_result * greatest_result) xs (λ k. square-most (omega (arith, small k)));
    }

pub joined-of-results : (a b : Totals) → OfResults a → OfResults b → OfResults (joined a b)
unfolding joined
joined-of-results a b p q =
    record { sum-most = omega (arith, p.sum-most, q.sum-most); squares-most = omega (arith, p.squares-most, q.squares-most) }

-- totals that are not overfull
pub record TotalsFit (t : Totals) : Type 0 where
  pub count_fits : t.count ≤ most_results
  pub sum_fits : t.sum ≤ most_results * greatest_result
  pub squares-fit : t.squares ≤ most_results * (greatest_result * greatest_result)

pub overfull_fits : (t : Totals) → overfull t ≡ false → TotalsFit t
unfolding overfull
overfull_fits t e =
    let count = ltb most_results t.count in
    let sum = ltb (most_results * greatest_result) t.sum in
    let squares = ltb (most_results * (greatest_result * greatest_result)) t.squares in
    let f = neither (count || sum) squares e in
    let g = neither count sum f.0 in
    record { count_fits = ltb-false _ _ g.0; sum_fits = ltb-false _ _ g.1; squares-fit = ltb-false _ _ f.1 }

-- the products of its variance fit 64 bits
pub count_squares_fit : (t : Totals) → overfull t ≡ false → (t.count * t.squares < 2 ^ 64) × (t.count * t.count < 2 ^ 64)
count_squares_fit t e =
    let f = overfull_fits t e in
    (omega (arith, mul-le-mul f.count_fits f.squares-fit), omega (arith, mul-le-mul f.count_fits f.count_fits))

pub sum_squared_fits : (t : Totals) → overfull t ≡ false → t.sum * t.sum < 2 ^ 64
sum_squared_fits t e = let f = overfull_fits t e in omega (arith, mul-le-mul f.sum_fits f.sum_fits)

pub ruleset variance_fits = (count_squares_fit, sum_squared_fits)

fits-overfull : (t : Totals) → TotalsFit t → overfull t ≡ false
unfolding overfull
fits-overfull t f = rw (le-ltb _ _ f.count_fits, le-ltb _ _ f.sum_fits, le-ltb _ _ f.squares-fit)

-- of results of 16 bits only their count matters
pub overfull-count : (t : Totals) → OfResults t → overfull t ≡ ltb most_results t.count
unfolding overfull
overfull-count t h =
    by_cases (dec_le t.count most_results)
    (λ l.
    fits-overfull t
    (record { count_fits = l; sum_fits = omega (arith, h.sum-most); squares-fit = omega (arith, h.squares-most) })
    ∙ sym (le-ltb _ _ l))
    (λ l. let g : ltb most_results t.count ≡ true = lt-ltb most_results t.count (omega arith) in rw g)

-- each of two batches has at most what both have
pub overfull-joined : (a b : Totals) → overfull (joined a b) ≡ false → (overfull a ≡ false) × (overfull b ≡ false)
unfolding joined
overfull-joined a b e =
    let f = overfull_fits (joined a b) e in
    let c = f.count_fits in
    let s = f.sum_fits in
    let q = f.squares-fit in (
      fits-overfull a (record { count_fits = omega arith; sum_fits = omega arith; squares-fit = omega arith }),
      fits-overfull b (record { count_fits = omega arith; sum_fits = omega arith; squares-fit = omega arith }),
    )
