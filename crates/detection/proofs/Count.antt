-- The count of tests: who leads a group, and as many tests as pairs of a station and a level whose group has a leader.
-- Assumes nothing.
use mathlib.Core.Path.{◌≡◌, refl, sym, ◌∙◌, ap}
use mathlib.Core.Logic.{◌≢◌}
use mathlib.Core.Bool.{Bool, false, not, cond, ◌&&◌}
use Prim.Native.Nat.{ℕ, suc, ◌+◌, ◌<◌, ◌^◌}
use native.Mathlib.Nat.{zero-add}
use native.Mathlib.Omega.{arith}
use lib.Dec.{ltb, eqb}
use borrow.Author.Tests.{eq-eqb, ne_eqb}
use Rattle.lists.specs.Search.{least, every}
use Rattle.table.specs.Sizes.{level}
use Rattle.station.specs.Groups.{width, member, station_at}
use Rattle.station.specs.Tests.{first_place, first}
use Rattle.lists.proofs.Xor.{xor-cancel, xor-undo}
use Rattle.lists.proofs.SearchLaws.{every-all, every-not}
use Rattle.table.proofs.Levels.{level-zero, level_in}
use Rattle.station.proofs.DueLaws.{is_station, first-zero, found, none_found}
use Rattle.lists.specs.Sums.{sum_below, bit}
use Rattle.lists.proofs.BoolLaws.{by_bool, least-same}
use Rattle.lists.proofs.SumLaws.{sum_by, sum-add, sum-zero, sum-single, sum-swap, sum-levels, sum-xor, sum-not}

-- whether i is the first station that passes q in the group, at the level of m, of the station at distance m
abbrev pub leads : (ℕ → Bool) → ℕ → ℕ → Bool
leads q i m = is_station i (first q (station_at i m) (level m))

-- whether no station passes q in the group of j at level s
abbrev pub nobody : (ℕ → Bool) → ℕ → ℕ → Bool
nobody q j s = every (λ k. not (q (member j s k))) (width s)

pub leads-zero : (q : ℕ → Bool) (i : ℕ) → leads q i 0 ≡ false
leads-zero q i = rw (level-zero, first-zero)

-- only the members of the group are asked
pub leads-same : (q q' : ℕ → Bool) (i m : ℕ)
    → ((k : ℕ) → k < width (level m) → q (member (station_at i m) (level m) k) ≡ q' (member (station_at i m) (level m) k))
    → leads q i m ≡ leads q' i m
unfolding first first_place
leads-same q q' i m same =
    let x : ℕ → ℕ = member (station_at i m) (level m) in
    rw (least-same (λ k. q (x k)) (λ k. q' (x k)) (width (level m)) 0 (λ k _ l. same k (omega arith)))

-- the first station of the group of j at level s that passes q
module _ (q : ℕ → Bool) (j s : ℕ) where
  abbrev p : ℕ
  p = first_place q j s

  abbrev x : ℕ → ℕ
  x = member j s

  -- two places of a group hold different stations
  apart : (k : ℕ) → k ≢ p → x p ≢ x k
  unfolding member
  apart k ne e = let same : width s + p ≡ width s + k = cc (xor-cancel j (width s + p), xor-cancel j (width s + k)) in ne (omega arith)

  -- one place of a group holds its first station, if there is one
  one-first : sum_below (λ k. bit (is_station (x k) (first q j s))) (width s) ≡ bit (not (nobody q j s))
  unfolding first
  one-first =
      by_bool (ltb p (width s))
      (λ e.
      rw (e, every-not (λ k. not (q (x k))) (width s) p (found q j s e).0 (ap not (found q j s e).1))
      (sum-single (λ k. bit (eqb (x p) (x k))) (width s) p (found q j s e).0 (λ k l ne. ap bit (ne_eqb (x p) (x k) (apart k ne)))
      ∙ ap bit (eq-eqb (x p) (x p) refl)))
      (λ e. rw (e, every-all (λ k. not (q (x k))) (width s) (λ k l. ap not (none_found q j s e k l))) (sum-zero (width s) (λ k l. refl)))

-- over all distances from j, as many first stations as levels whose group has one
first-by-level : (q : ℕ → Bool) (j d : ℕ)
    → sum_below (λ m. bit (is_station (station_at j m) (first q j (level m)))) (2 ^ d) ≡ sum_below (λ h. bit (not (nobody q j (suc h)))) d
unfolding member width first first_place least level
first-by-level q j d = sum-levels _ d ∙ (zero-add _ ∙ sum_by d (λ h l. sum_by (2 ^ h) (at h) ∙ one-first q j (suc h)))
  where
    at : (h k : ℕ) → k < 2 ^ h
        → bit (is_station (station_at j (2 ^ h + k)) (first q j (level (2 ^ h + k))))
        ≡ bit (is_station (member j (suc h) k) (first q j (suc h)))
    at h k l = rw (level_in h k l)

-- a sum over stations and distances, by the station at the distance
sum-tested : (f : ℕ → ℕ → ℕ → ℕ) (d : ℕ)
    → sum_below (λ i. sum_below (λ m. f i (station_at i m) m) (2 ^ d)) (2 ^ d)
    ≡ sum_below (λ j. sum_below (λ m. f (station_at j m) j m) (2 ^ d)) (2 ^ d)
sum-tested f d =
    sum-swap (λ i m. f i (station_at i m) m) (2 ^ d) (2 ^ d)
    ∙ (sum_by (2 ^ d) (λ m l. sum_by (2 ^ d) (λ i li. rw (xor-undo i m)) ∙ sum-xor (λ j. f (station_at j m) j m) d m l)
    ∙ sum-swap (λ m j. f (station_at j m) j m) (2 ^ d) (2 ^ d))

-- each station makes one test for each distance at which it leads, of a station that passes p; with the pairs of such a station and a level
-- whose group has nobody that passes q these are all pairs
pub tests-and-rest : (p q : ℕ → Bool) (d : ℕ)
    → sum_below (λ i. sum_below (λ m. bit (p (station_at i m) && leads q i m)) (2 ^ d)) (2 ^ d)
    + sum_below (λ j. sum_below (λ h. bit (p j && nobody q j (suc h))) d) (2 ^ d)
    ≡ sum_below (λ j. cond (p j) d 0) (2 ^ d)
tests-and-rest p q d =
    ap (λ (v : ℕ). v + sum_below (λ j. sum_below (λ h. bit (p j && nobody q j (suc h))) d) (2 ^ d))
    (sum-tested (λ i j m. bit (p j && is_station i (first q j (level m)))) d)
    ∙ (sym (sum-add _ _ (2 ^ d)) ∙ sum_by (2 ^ d) (λ j l. by_bool (p j)
    (λ e. rw e (omega (arith, first-by-level q j d, sum-not (λ h. nobody q j (suc h)) d)))
    (λ e. rw e (omega (arith, sum-zero {f = λ m. 0} (2 ^ d) (λ m l. refl), sum-zero {f = λ h. 0} d (λ h l. refl))))))
