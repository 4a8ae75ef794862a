-- The rows that boards send: what is left of them after packing, and which row an exchange may send.
-- Assumes nothing.
use mathlib.Core.Path.{◌≡◌, sym, ap, ◌∙◌}
use mathlib.Core.List.{List}
use Prim.Native.Nat.{ℕ, max, ◌+◌, ◌<◌}
use native.Mathlib.Decide.{ℕ_discrete}
use native.Mathlib.Omega.{arith}
use lib.ListN.{length, get_or, set, length-set}
use lib.Seq.{get_or-set_other, ext_get_or}
use Rattle.lists.specs.Bytes.{joined_byte}
use Rattle.lists.proofs.SearchLaws.{list_of-same, list_of-length}
use Rattle.table.specs.Table.{head, stride, row}
use Rattle.table.specs.Line.{row_of, with_row}
use Rattle.table.proofs.Accepting.{accepted}
use Rattle.table.proofs.CellLaws.{row-length, row_at, accepted-line}
use Rattle.table.proofs.LineLaws.{row_of-length, row_of-at, with_row-in, with_row-length}
use Rattle.station.specs.Rows.{union_byte, union}
use Rattle.station.proofs.UnionLaws.{union-at, union-own, union-others}
use Rattle.board.specs.Board.{received, joined}
use Rattle.board.specs.Packed.{packed_length, pack}
use Rattle.board.proofs.PackedLaws.{back}
use Rattle.cable.specs.Claims.{EitherRowServes, RowsTravel}

pub pack-length : (n : ℕ) (r : List ℕ) → length (pack n r) ≡ packed_length n
unfolding pack
pack-length n r = list_of-length _ (packed_length n)

-- the row of a line in which a byte of the head is written, and of one whose row is
pub row_of-set : (n : ℕ) (l : List ℕ) (c v : ℕ) → length l ≡ stride n → c < head → row_of n (set l c v) ≡ row_of n l
row_of-set n l c v long h =
    let a : length (row_of n (set l c v)) ≡ n = row_of-length n (set l c v) (length-set l c v ∙ long) in
    ext_get_or 0 (row_of n (set l c v)) (row_of n l) (a ∙ sym (row_of-length n l long))
    (λ k b.
    let hk : k < n = omega arith in
    row_of-at n (set l c v) k hk ∙ (get_or-set_other l c (head + k) v 0 (λ e. omega arith) ∙ sym (row_of-at n l k hk)))

pub row_of-with : (n : ℕ) (l r : List ℕ) → length l ≡ stride n → length r ≡ n → row_of n (with_row n l r) ≡ r
row_of-with n l r long hr =
    let a : length (row_of n (with_row n l r)) ≡ n = row_of-length n (with_row n l r) (with_row-length n l r long hr) in
    ext_get_or 0 (row_of n (with_row n l r)) r (a ∙ sym hr)
    (λ k b. let hk : k < n = omega arith in row_of-at n (with_row n l r) k hk ∙ with_row-in n l r long hr k hk)

-- rows that are sent, an end in itself
pub rows-travel : RowsTravel
rows-travel w n t i z h =
    let a = accepted w n t z in
    let line = accepted-line w n t a i h in
    back n i (row n t i) (row-length n t i a.long h) (λ k hk. rw (row_at n t i k hk) (line.range k hk)) (row_at n t i i h ∙ line.own)

-- a row joined with one that was joined with it
twice : (r mine : List ℕ) (n i j : ℕ) → length r ≡ n → length mine ≡ n → union r (union mine r i) j ≡ union r mine j
unfolding union joined_byte
twice r mine n i j hr hm = list_of-same _ _ (length r) (λ k h. pick k (omega arith) (ℕ_discrete k j) (ℕ_discrete k i))
  where
    pick : (k : ℕ) → k < length mine → Dec (k ≡ j) → Dec (k ≡ i) → union_byte r (union mine r i) j k ≡ union_byte r mine j k
    pick k h (yes e) d = rw e (union-own r (union mine r i) j ∙ sym (union-own r mine j))
    pick k h (no nj) (yes e) =
        let f : get_or (union mine r i) k 0 ≡ get_or mine k 0 = union-at mine r i k h ∙ rw e (union-own mine r i) in
        union-others r (union mine r i) j k nj ∙ (ap (λ (x : ℕ). max (get_or r k 0) x) f ∙ sym (union-others r mine j k nj))
    pick k h (no nj) (no ni) =
        let f : get_or (union mine r i) k 0 ≡ max (get_or mine k 0) (get_or r k 0) = union-at mine r i k h ∙ union-others mine r i k ni in
        let g : max (get_or r k 0) (get_or (union mine r i) k 0) ≡ max (get_or r k 0) (get_or mine k 0) = omega (arith, f) in
        union-others r (union mine r i) j k nj ∙ (g ∙ sym (union-others r mine j k nj))

-- the row that an exchange sends, an end in itself
pub either-row-serves : EitherRowServes
unfolding received joined
either-row-serves n i j l mine long hm = ap (with_row n l) (twice (row_of n l) mine n i j (row_of-length n l long) hm)
