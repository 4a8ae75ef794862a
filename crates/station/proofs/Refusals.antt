-- What a group list, a row or an assignment has that is not refused.
-- Assumes nothing.
use mathlib.Core.Path.{◌≡◌}
use mathlib.Core.Bool.{true}
use mathlib.Core.List.{List}
use Prim.Native.Nat.{ℕ, ◌*◌, ◌-◌, ◌≤◌, ◌<◌}
use native.Mathlib.Omega.{arith}
use borrow.Author.Tests.{eqb-true, eqb-false, ltb-true, ltb-false, not-true}
use lib.ListN.{length}
use Rattle.std.specs.Prelude.{Ok}
use Rattle.table.specs.Sizes.{is_size, dimension}
use Rattle.station.specs.Groups.{group}
use Rattle.table.specs.Table.{live}
use Rattle.table.specs.Rules.{table_check, station_check}
use Rattle.station.specs.Calls.{row_check, range_check, group_check, assignment_check}
use Rattle.lists.proofs.BoolLaws.{neither}
use Rattle.lists.proofs.RefusalLaws.{ensure_ok, and_ok}
use Rattle.table.proofs.SizeLaws.{size-bounds, size_top, size-dimension}
use Rattle.table.proofs.Accepting.{Accepted, table_ok}
use Rattle.table.specs.declared.wiring.Wiring.{Wiring}
use Rattle.table.specs.declared.wiring.Wiring.TheVariants.{Cube}

-- what a group list has that its station and level do not refuse
pub range_ok : (n i s : ℕ) (x : Unit {0}) → range_check n i s ≡ Ok x → (i < n) × (0 < s) × (s ≤ dimension n)
unfolding range_check
range_ok n i s x e =
    let q = and_ok _ _ x e in
    let l = neither _ _ (not-true _ (ensure_ok _ _ _ q.1)) in
    let z : ¬ (s ≡ 0) = eqb-false s 0 l.0 in
    (ltb-true i n (ensure_ok _ _ _ q.0), omega arith, ltb-false (dimension n) s l.1)

pub dimension_top : (n : ℕ) → is_size n ≡ true → dimension n ≤ 6
dimension_top n e = size-dimension n e

-- what a group list is checked by
pub ruleset group_bounds = (size_top, range_ok, dimension_top)

-- what a group list that is not refused has
pub group_ok : (n i s len : ℕ) (x : Unit {0}) → group_check n i s len ≡ Ok x
    → (n ≤ 64) × (i < n) × (0 < s) × (s ≤ 8) × (len ≡ length (group n i s))
unfolding group_check
group_ok n i s len x e =
    let p = and_ok _ _ x e in
    let q = and_ok _ _ x p.1 in
    let size : is_size n ≡ true = ensure_ok _ _ _ p.0 in
    let r = range_ok n i s _ q.0 in
    ((size-bounds n size).1, r.0, r.1, omega (arith, r.2, size-dimension n size), eqb-true len (length (group n i s)) (ensure_ok _ _ _ q.1))

pub station_ok : (n i : ℕ) (x : Unit {0}) → station_check n i ≡ Ok x → i < n
station_ok n i x e = ltb-true i n (ensure_ok _ _ _ e)

pub row_ok : (w : Wiring) (n : ℕ) (t : List ℕ) (i : ℕ) (x : Unit {0}) → row_check w n t i ≡ Ok x → Accepted w n t × (i < n)
unfolding row_check
row_ok w n t i x e =
    let p = and_ok _ _ x e in
    (table_ok w n t _ p.0, station_ok n i x p.1)

pub checked_ok : (n : ℕ) (t : List ℕ) (x : Unit {0}) → table_check Cube n t ≡ Ok x → (2 ≤ n) × (n ≤ 64)
checked_ok n t x e = size-bounds n (table_ok Cube n t x e).size

pub accepted_top : (w : Wiring) (n : ℕ) (t : List ℕ) → Accepted w n t → (2 ≤ n) × (n ≤ 64)
accepted_top w n t a = size-bounds n a.size

pub assignment_ok : (n : ℕ) (t : List ℕ) (i len : ℕ) (x : Unit {0}) → assignment_check n t i len ≡ Ok x
    → Accepted Cube n t × (i < n) × (live n t i ≡ true) × (len ≡ 2 * (n - 1))
unfolding assignment_check
assignment_ok n t i len x e =
    let p = and_ok _ _ x e in
    let r = and_ok _ _ x p.1 in
    let q = and_ok _ _ x r.1 in
    (table_ok Cube n t _ p.0, station_ok n i _ r.0, ensure_ok _ _ _ q.0, eqb-true len (2 * (n - 1)) (ensure_ok _ _ _ q.1))
