-- The claims of specs/Assignments.antt hold.
-- Assumes nothing.
use mathlib.Core.Path.{◌≡◌, refl, sym, ◌∙◌}
use mathlib.Core.Logic.{by_cases}
use mathlib.Core.Bool.{true, ◌&&◌, and-false}
use mathlib.Core.List.{List}
use Prim.Native.Nat.{ℕ, suc, ◌-◌, ◌/◌, ◌%◌, ◌^◌, ◌≤◌, ◌<◌}
use native.Mathlib.Nat.{div-eq_of_lt}
use native.Mathlib.Decide.{dec_lt}
use native.Mathlib.Omega.{arith}
use borrow.Author.Tests.{eq-eqb, ne_eqb, lt-ltb}
use lib.Dec.{eqb}
use lib.ListN.{get_or, length}
use lib.Pow.{pow_pos}
use lib.Bits.{or_shr, or_zero_r}
use Rattle.station.specs.Groups.{distance, station_at, width}
use Rattle.table.specs.Sizes.{level, distances}
use Rattle.station.specs.Tests.{unsuspected, DueAnswer, answer_due, answer_ahead, answer, says_due, stands, due, due_distances}
use Rattle.station.specs.Calls.{answer_byte, is_other, other_distances}
use Rattle.table.specs.Table.{row}
use Rattle.slots.specs.Assignments.{OwnUnsuspected, SomebodyFirst, up_to, BeforeUpTo, DueEntriesAreMarked, NothingLeftOver}
use Rattle.lists.proofs.Xor.{xor-undo}
use Rattle.table.proofs.Accepting.{accepted}
use Rattle.table.proofs.CellLaws.{row-length, row_at, accepted-line}
use Rattle.station.proofs.DueLaws.{unsuspected-at, first_found, due-is, due-absent, due-zero}
use Rattle.std.specs.List.{range_with_len}
use Rattle.lists.proofs.BoolLaws.{by_bool}
use Rattle.lists.proofs.FilterLaws.{filter-twice}
use Rattle.table.proofs.SizeLaws.{size-bounds}
use Rattle.table.specs.declared.wiring.Wiring.TheVariants.{Cube}
use Rattle.station.proofs.AheadLaws.{named-stands-before, before-until}
use Rattle.station.proofs.Presence.{others-all}
use Rattle.station.proofs.EntryLaws.{unsuspected-below, entries-length}

pub before-up-to : BeforeUpTo
unfolding up_to width
before-up-to i m x y b lo hi = before-until i m x y (up_to m (distance i x)) b lo hi same
  where
    same : (t : ℕ) → level (distance i x) ≡ suc t → m / 2 ^ t % 2 ≡ 1 → up_to m (distance i x) / 2 ^ t ≡ m / 2 ^ t
    same t e odd =
        let ones : (2 ^ t - 1) / 2 ^ t ≡ 0 = div-eq_of_lt (omega (arith, pow_pos t)) in
        rw e (or_shr m (2 ^ t - 1) t ∙ rw (ones, or_zero_r (m / 2 ^ t)))

pub own-unsuspected : OwnUnsuspected
own-unsuspected n t i z h =
    let a = accepted Cube n t z in
    let l = accepted-line Cube n t a i h in
    unsuspected-at (row n t i) i (rw (row-length n t i a.long h) h) ∙ eq-eqb (get_or (row n t i) i 0) 0 (row_at n t i i h ∙ l.own)

pub somebody-first : SomebodyFirst
somebody-first r i m own pos =
    let f = first_found (unsuspected r) (station_at i m) m pos (rw (xor-undo i m) own) in
    (station_at (station_at i m) f.0, f.4)

pub nothing-left-over : NothingLeftOver
nothing-left-over n r i size h = omega (arith, entries-length r i (other_distances n i), others-all n i size h)

-- an entry has 255 just where its distance is due
due-byte : (r : List ℕ) (i m : ℕ) → length r ≤ 64 → unsuspected r i ≡ true → 0 < m → stands r i m ≡ true
    → due r i m ≡ eqb (answer_byte (answer r i m)) 255
due-byte r i m few own pos here = due-is r i m ∙ sym (go (answer r i m) refl)
  where
    go : (a : DueAnswer) → answer r i m ≡ a → eqb (answer_byte a) 255 ≡ says_due a
    go answer_due e = refl
    go (answer_ahead x) e =
        ne_eqb x 255 (omega (arith, unsuspected-below r x (named-stands-before r i m x own pos here e).0))

pub due-entries-are-marked : DueEntriesAreMarked
unfolding due_distances other_distances
due-entries-are-marked n r i size long own =
    filter-twice (due r i) (is_other n i) (λ m. eqb (answer_byte (answer r i m)) 255) same (range_with_len 0 (distances n))
  where
    same : (m : ℕ) → due r i m ≡ (is_other n i m && eqb (answer_byte (answer r i m)) 255)
    same m =
        by_cases (dec_lt 0 m)
        (λ pos. by_bool (stands r i m) (here pos) (λ absent. rw (due-absent r i m absent, ← long, absent, and-false)))
        (λ none. let z : m ≡ 0 = omega arith in rw z (due-zero r i))
      where
        here : 0 < m → stands r i m ≡ true → due r i m ≡ (is_other n i m && eqb (answer_byte (answer r i m)) 255)
        here pos e = rw (← long, e, lt-ltb 0 m pos) (due-byte r i m (omega (arith, size-bounds n size)) own pos e)
