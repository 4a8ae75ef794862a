-- Which distances are not tested; that each other station is one that is tested or one that is not.
-- Assumes nothing.
use mathlib.Core.Path.{◌≡◌, refl, sym, ap, ◌∙◌}
use mathlib.Core.Logic.{◌≢◌, ◌⊎◌, inl, inr, by_cases}
use mathlib.Core.Bool.{Bool, true, false, and-true}
use mathlib.Core.List.{List, map, Memᴰ}
use Prim.Native.Nat.{ℕ, suc, ◌+◌, ◌^◌, ◌≤◌, ◌<◌}
use native.Mathlib.Nat.{zero-add}
use native.Mathlib.Decide.{ℕ_discrete}
use native.Mathlib.Omega.{arith}
use borrow.Author.Tests.{lt-ltb}
use lib.Bits.{xor_lt}
use lib.ListN.{length, length-map}
use Rattle.lists.specs.Search.{select}
use Rattle.lists.specs.Sums.{sum_below, bit}
use Rattle.table.specs.Sizes.{is_size, dimension, distances}
use Rattle.station.specs.Groups.{distance, station_at}
use Rattle.station.specs.Tests.{answer, due, due_distances}
use Rattle.station.specs.Calls.{is_other, other_distances, answer_byte}
use Rattle.lists.proofs.BoolLaws.{by_bool}
use Rattle.lists.proofs.SumLaws.{sum_by, sum-add}
use Rattle.lists.proofs.FilterLaws.{mem-map, range-mem, mem-filter, select-sum}
use Rattle.table.proofs.SizeLaws.{size-distances}
use Rattle.lists.proofs.Xor.{xor-cancel, xor-zero-eq}
use Rattle.station.proofs.DueLaws.{due-present}
use Rattle.station.proofs.Presence.{others-all}
use Rattle.slots.specs.Slots.{tested, is_untested, untested_distances, untested, ahead, tests_due}
use Rattle.slots.specs.Law.{NobodyLeftOut, ListsCounted}
use Rattle.slots.proofs.DigitLaws.{due-nobody}

-- distance 0 is that of the board itself
pub untested-zero : (r : List ℕ) (i : ℕ) → is_untested r i 0 ≡ false
untested-zero r i = refl

-- another station is tested or not
other-counted : (r : List ℕ) (i m : ℕ) → bit (due r i m) + bit (is_untested r i m) ≡ bit (is_other (length r) i m)
other-counted r i m = by_bool (due r i m) (λ e. rw (e, other e)) (λ e. rw (e, and-true) (zero-add _))
  where
    other : due r i m ≡ true → is_other (length r) i m ≡ true
    other e = rw (lt-ltb 0 m (due-nobody r i m e).0, lt-ltb (station_at i m) (length r) (due-present r i m e))

other-listed : (n : ℕ) (r : List ℕ) (i x : ℕ) → is_size n ≡ true → length r ≡ n → i < n → x < n → x ≢ i
    → Memᴰ x (tested n r i) ⊎ Memᴰ x (untested n r i)
unfolding tested untested untested_distances due_distances distances
other-listed n r i x size long h l apart = by_bool (due r i m) (λ e. inl (among (due r i) e)) (λ e. inr (among (is_untested r i) (rw (e, other))))
  where
    m : ℕ
    m = distance i x

    back : x ≡ station_at i m
    back = sym (xor-cancel i x)

    other : is_other (length r) i m ≡ true
    other =
        let pos : 0 < m = by_cases (ℕ_discrete m 0) (λ z. absurd (apart (sym (xor-zero-eq i x z)))) (λ z. omega arith) in
        rw (lt-ltb 0 m pos, lt-ltb (station_at i m) (length r) (rw (long, ← back) l))

    among : (q : ℕ → Bool) → q m ≡ true → Memᴰ x (map (station_at i) (select q (2 ^ dimension n)))
    among q e =
        let room : n ≤ 2 ^ dimension n = (size-distances n size).0 in
        let below : m < 2 ^ dimension n = xor_lt (dimension n) i x (omega arith) (omega arith) in
        mem-map (station_at i) x m _ back (mem-filter q _ m (range-mem (2 ^ dimension n) m below) e)

pub lists-counted : ListsCounted
unfolding tested tests_due untested ahead
lists-counted n r i = (
  length-map (due_distances r i n) (station_at i),
  length-map (untested_distances n r i) (station_at i),
  length-map (untested_distances n r i) (λ m. answer_byte (answer r i m)),
)

listed-all : (n : ℕ) (r : List ℕ) (i : ℕ) → is_size n ≡ true → length r ≡ n → i < n → suc (length (tested n r i) + length (untested n r i)) ≡ n
unfolding tests_due untested_distances due_distances other_distances
listed-all n r i size long h =
    let t : ℕ = sum_below (λ m. bit (due r i m)) (distances n) in
    let u : ℕ = sum_below (λ m. bit (is_untested r i m)) (distances n) in
    let each : (m : ℕ) → m < distances n → bit (due r i m) + bit (is_untested r i m) ≡ bit (is_other n i m) =
    λ m l. other-counted r i m ∙ ap (λ (v : ℕ). bit (is_other v i m)) long in
    let both : t + u ≡ sum_below (λ m. bit (is_other n i m)) (distances n) =
    sym (sum-add (λ m. bit (due r i m)) (λ m. bit (is_untested r i m)) (distances n)) ∙ sum_by (distances n) each in
    omega (
      arith,
      both,
      (lists-counted n r i).0,
      (lists-counted n r i).1,
      select-sum (due r i) (distances n),
      select-sum (is_untested r i) (distances n),
      select-sum (is_other n i) (distances n),
      others-all n i size h,
    )

pub nobody-left-out : NobodyLeftOut
nobody-left-out n r i size long h = (λ x l apart. other-listed n r i x size long h l apart, listed-all n r i size long h)
