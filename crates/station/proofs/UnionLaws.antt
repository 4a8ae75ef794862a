-- Laws of what is done to a row, of specs/Rows.
-- Assumes nothing.
use mathlib.Core.Path.{◌≡◌, refl, sym, ap, subst, ◌∙◌}
use mathlib.Core.List.{List}
use mathlib.Core.Logic.{◌≢◌}
use Prim.Native.Nat.{ℕ, ◌≤◌, ◌<◌}
use native.Mathlib.Decide.{ℕ_discrete}
use native.Mathlib.Omega.{arith}
use borrow.Author.Tests.{eq-eqb, ne_eqb}
use lib.ListN.{length, get_or, set, length-set}
use lib.Seq.{get_or-set_same, get_or-set_other, ext_get_or}
use Rattle.lists.specs.Bytes.{joined_byte, joined_bytes}
use Rattle.lists.proofs.SearchLaws.{list_of-length, list_of-at, list_of-same}
use Rattle.lists.proofs.ByteLaws.{joined_length, joined_at}
use Rattle.station.specs.Rows.{union_byte, union, mark}

pub union-length : (r o : List ℕ) (own : ℕ) → length (union r o own) ≡ length r
unfolding union
union-length r o own = list_of-length (union_byte r o own) (length r)

pub union-at : (r o : List ℕ) (own k : ℕ) → k < length r → get_or (union r o own) k 0 ≡ union_byte r o own k
unfolding union
union-at r o own k h = list_of-at (union_byte r o own) (length r) k h

-- the byte about the row's own station stays, the others are the greater of the two
pub union-own : (r o : List ℕ) (own : ℕ) → union_byte r o own own ≡ get_or r own 0
unfolding union_byte
union-own r o own = rw (eq-eqb own own refl)

pub union-others : (r o : List ℕ) (own k : ℕ) → k ≢ own → union_byte r o own k ≡ joined_byte r o k
unfolding union_byte
union-others r o own k apart = rw (ne_eqb k own apart)

-- all bytes joined, and the byte of the row's own station put back
pub union-kept : (r o t : List ℕ) (own : ℕ) → t ≡ joined_bytes r o → own < length r → set t own (get_or r own 0) ≡ union r o own
union-kept r o t own e h =
    ext_get_or 0 (set t own (get_or r own 0)) (union r o own) (length-set t own (get_or r own 0) ∙ long ∙ sym (union-length r o own))
    (λ k l. let hk : k < length r = subst (λ (x : ℕ). k < x) (length-set t own (get_or r own 0) ∙ long) l in
    at k hk (ℕ_discrete k own) ∙ sym (union-at r o own k hk))
  where
    long : length t ≡ length r
    long = ap length e ∙ joined_length r o

    at : (k : ℕ) → k < length r → Dec (k ≡ own) → get_or (set t own (get_or r own 0)) k 0 ≡ union_byte r o own k
    at k hk (yes q) = rw q (get_or-set_same t own (get_or r own 0) 0 (omega (arith, long)) ∙ sym (union-own r o own))
    at k hk (no d) =
        get_or-set_other t own k (get_or r own 0) 0 d ∙ ap (λ (x : List ℕ). get_or x k 0) e ∙ joined_at r o k hk ∙ sym (union-others r o own k d)

-- a station whose own byte is not in the row
pub union-beyond : (r o t : List ℕ) (own : ℕ) → t ≡ joined_bytes r o → length r ≤ own → t ≡ union r o own
unfolding union joined_bytes
union-beyond r o t own e h = e ∙ list_of-same _ _ (length r) (λ k l. sym (union-others r o own k (λ q. omega arith)))

pub mark-length : (r : List ℕ) (j : ℕ) → length (mark r j) ≡ length r
unfolding mark
mark-length r j = length-set r j 1

pub mark-same : (r : List ℕ) (j : ℕ) → j < length r → get_or (mark r j) j 0 ≡ 1
unfolding mark
mark-same r j h = get_or-set_same r j 1 0 h

pub mark-other : (r : List ℕ) (j k : ℕ) → k ≢ j → get_or (mark r j) k 0 ≡ get_or r k 0
unfolding mark
mark-other r j k apart = get_or-set_other r j k 1 0 apart
