-- The part of the table that begins at the row's offset and has the row's length is the row that the call gives, the empty part where it is refused.
-- Assumes nothing.
use mathlib.Core.Path.{◌≡◌, refl, sym, ap, ◌∙◌}
use mathlib.Core.List.{List}
use Prim.Native.Nat.{ℕ, ◌+◌, ◌-◌, min}
use native.Mathlib.Omega.{arith}
use Rattle.std.specs.Prelude.{Ok, Err, [], slice_range}
use lib.ListN.{length, take, drop}
use Rattle.table.specs.Table.{row, row_start}
use Rattle.station.specs.Calls.{row_check, row_part, row_offset}
use Rattle.lists.specs.Refusal.{Check, unless_refused}
use Rattle.lists.specs.declared.refusal.Refusal.{Refusal}
use Rattle.station.proofs.Refusals.{row_ok, accepted_top}
use Rattle.table.proofs.CellLaws.{row-length}
use Rattle.table.specs.declared.wiring.Wiring.{Wiring}
use Rattle.vcube.proofs.Narrow.{row_check_narrow, row_offset_ok, row_offset_err, row_part_ok, row_part_err}

row-part-out : (w : Wiring) (n : ℕ) (t : List ℕ) (i : ℕ) → take (length (row_part w n t i)) (drop (row_offset w n t i) t) ≡ row_part w n t i
unfolding row_part row_offset row
row-part-out w n t i = pick (row_check w n t i) refl
  where
    pick : (c : Check) → row_check w n t i ≡ c
        → take (length (unless_refused c [] (row n t i))) (drop (unless_refused c 0 (row_start n i)) t) ≡ unless_refused c [] (row n t i)
    pick (Ok x) e = let z = row_ok w n t i x e in rw (row-length n t i z.0.long z.1)
    pick (Err r) e = refl

row_lies : (w : Wiring) (n : ℕ) (t : List ℕ) (i start bytes : ℕ) → start ≡ row_offset w n t i → bytes ≡ length (row_part w n t i)
    → slice_range t start (start + bytes) ≡ row_part w n t i
row_lies w n t i start bytes s b =
    let e : start + bytes - start ≡ bytes = omega arith in
    let same : slice_range t start (start + bytes) ≡ take bytes (drop start t) = ap (λ k. take k (drop start t)) e in
    same ∙ rw (b, s) (row-part-out w n t i)

-- of a row that is not refused, and of one that is, by the station's byte
pub row_at_ok : (w : Wiring) (n : ℕ) (t : List ℕ) (x b : ℕ) (y : Unit {0}) → b ≡ min x 255 → row_check w n t b ≡ Ok y
    → slice_range t (row_start n b) (row_start n b + n) ≡ row_part w n t x
row_at_ok w n t x b y e z = row_lies w n t x (row_start n b) n (sym (row_offset_ok w n t x b y e z)) (sym (row_part_ok w n t x b y e z))

pub row_at_err : (w : Wiring) (n : ℕ) (t : List ℕ) (x b : ℕ) (r : Refusal) → b ≡ min x 255 → row_check w n t b ≡ Err r
    → slice_range t 0 0 ≡ row_part w n t x
row_at_err w n t x b r e z = row_lies w n t x 0 0 (sym (row_offset_err w n t x b r e z)) (sym (row_part_err w n t x b r e z))

-- what `vcube_row` answers
pub ruleset row_laws = (row_check_narrow, row_ok, accepted_top, row_offset_ok, row_offset_err, row_part_ok, row_part_err, row_at_ok, row_at_err)
