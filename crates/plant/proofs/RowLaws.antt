-- Laws of a row that is lent as a part of the table and comes back, and of two rows exchanged.
-- Assumes nothing.
use mathlib.Core.Path.{◌≡◌, sym, ap, ◌∙◌}
use mathlib.Core.Logic.{◌≢◌}
use mathlib.Core.Bool.{◌||◌}
use mathlib.Core.List.{List, ◌++◌}
use Prim.Native.Nat.{ℕ, ◌+◌, ◌-◌, max, ◌≤◌, ◌<◌}
use native.Mathlib.Decide.{ℕ_discrete}
use native.Mathlib.Nat.{max_comm, max-eq_left, le_refl}
use native.Mathlib.Omega.{arith}
use lib.Dec.{eqb}
use lib.ListN.{length, get_or, take, drop, take-append-drop}
use lib.Seq.{take_at, ext_get_or}
use Rattle.table.specs.Table.{head, table_length, row_start, row, set_row}
use Rattle.station.specs.Rows.{union_byte, union, suspects_all}
use Rattle.lists.specs.Search.{every}
use Rattle.lists.proofs.BoolLaws.{every-same}
use Rattle.lists.proofs.SearchLaws.{list_of-same}
use Rattle.table.proofs.CellLaws.{row-length, row_at, row_same, set_row-length, set_row-out}
use Rattle.station.proofs.UnionLaws.{union-length, union-at, union-own, union-others}
use Rattle.lists.specs.Bytes.{joined_byte, joined_bytes, with_joined}
use Rattle.lists.proofs.ByteLaws.{joined_length, joined_at, into-fits}
use Rattle.plant.specs.Turn.{exchange_rows, self_or_suspected}

-- the table with the row as it comes back
pub row_back : (n : ℕ) (t : List ℕ) (i a : ℕ) (r : List ℕ) → a ≡ row_start n i → take a t ++ (r ++ drop (a + n - a) (drop a t)) ≡ set_row n t i r
unfolding set_row
row_back n t i a r e = let w : a + n - a ≡ n = omega arith in rw (w, e)

-- a row written back as it is
set_row-same : (n : ℕ) (t : List ℕ) (i : ℕ) → set_row n t i (row n t i) ≡ t
unfolding set_row row
set_row-same n t i = rw (take-append-drop n (drop (row_start n i) t), take-append-drop (row_start n i) t)

-- a row joined with the union of two rows, of which it is the one or the other
union-twice : (r o u : List ℕ) (n own : ℕ) → length r ≡ n → ((k : ℕ) → k < n → get_or u k 0 ≡ max (get_or r k 0) (get_or o k 0))
    → union r u own ≡ union r o own
unfolding union joined_byte
union-twice r o u n own w e = list_of-same _ _ (length r) (λ k h. pick k (omega arith) (ℕ_discrete k own))
  where
    pick : (k : ℕ) → k < n → Dec (k ≡ own) → union_byte r u own k ≡ union_byte r o own k
    pick k h (yes q) = rw q (union-own r u own ∙ sym (union-own r o own))
    pick k h (no d) =
        let m : max (get_or r k 0) (get_or u k 0) ≡ max (get_or r k 0) (get_or o k 0) = omega (arith, e k h) in
        union-others r u own k d ∙ m ∙ sym (union-others r o own k d)

-- rows that are the same are their union already
pub same-exchange : (n : ℕ) (t : List ℕ) (i j : ℕ) → row n t i ≡ row n t j → t ≡ exchange_rows n t i j
unfolding exchange_rows joined_byte
same-exchange n t i j w =
    let s : set_row n t i (union (row n t i) (row n t j) i) ≡ t =
    ap (set_row n t i) (ap (λ (r : List ℕ). union (row n t i) r i) (sym w) ∙ union_self (row n t i) i) ∙ set_row-same n t i in
    sym (rw s (ap (set_row n t j) (ap (λ (r : List ℕ). union (row n t j) r j) w ∙ union_self (row n t j) j) ∙ set_row-same n t j))
  where
    union_self : (r : List ℕ) (own : ℕ) → union r r own ≡ r
    union_self r own =
        ext_get_or 0 (union r r own) r (union-length r r own)
        (λ k h. let hk : k < length r = omega (arith, union-length r r own) in union-at r r own k hk ∙ pick k (ℕ_discrete k own))
      where
        pick : (k : ℕ) → Dec (k ≡ own) → union_byte r r own k ≡ get_or r k 0
        pick k (yes q) = rw q (union-own r r own)
        pick k (no d) = union-others r r own k d ∙ max-eq_left (le_refl (get_or r k 0))

-- the row of i joined with the union of both rows, then the row of j
pub exchange-is : (n : ℕ) (t : List ℕ) (i j : ℕ) → length t ≡ table_length n → i < n → j < n → i ≢ j → (o x t₁ t₂ : List ℕ) → n ≤ length x
    → o ≡ with_joined (row n t i) (row n t j) x → t₁ ≡ set_row n t i (union (row n t i) (take n o) i)
    → t₂ ≡ set_row n t₁ j (union (row n t₁ j) (take n o) j) → t₂ ≡ exchange_rows n t i j
unfolding exchange_rows joined_byte
exchange-is n t i j long hi hj apart o x t₁ t₂ room eo e₁ e₂ =
    let ri : List ℕ = row n t i in
    let rj : List ℕ = row n t j in
    let li : length ri ≡ n = row-length n t i long hi in
    let lj : length rj ≡ n = row-length n t j long hj in
    let u : List ℕ = union ri rj i in
    let hu : length u ≡ n = union-length ri rj i ∙ li in
    let to : take n o ≡ joined_bytes ri rj =
    ap (take n) (eo ∙ into-fits ri rj x (li ∙ sym lj) (omega (arith, li)))
    ∙ take_at (joined_bytes ri rj) (drop (length (joined_bytes ri rj)) x) n (joined_length ri rj ∙ li) in
    let f : (k : ℕ) → k < n → get_or (take n o) k 0 ≡ max (get_or ri k 0) (get_or rj k 0) =
    (λ k h. ap (λ (l : List ℕ). get_or l k 0) to ∙ joined_at ri rj k (omega (arith, li))) in
    let s : t₁ ≡ set_row n t i u = e₁ ∙ ap (set_row n t i) (union-twice ri rj (take n o) n i li f) in
    let w : row n (set_row n t i u) j ≡ rj =
    row_same n (set_row n t i u) t j (set_row-length n t i u long hi hu ∙ long) long hj
    (λ k hk. set_row-out n t i u j (head + k) long hi hu (omega arith) (λ q. absurd (apart q))) in
    let w : row n t₁ j ≡ rj = ap (λ (l : List ℕ). row n l j) s ∙ w in
    let v : union rj (take n o) j ≡ union rj ri j = union-twice rj ri (take n o) n j lj (λ k h. f k h ∙ max_comm (get_or ri k 0) (get_or rj k 0)) in
    e₂ ∙ rw (w, v, s)

-- whether all others are suspected, by the row
pub alone_by_row : (n : ℕ) (t r : List ℕ) (i : ℕ) → r ≡ row n t i → length r ≡ n
    → suspects_all (λ k. get_or r k 0) i (length r) ≡ every (self_or_suspected n t i) n
unfolding self_or_suspected
alone_by_row n t r i e l =
    rw (l, e) (every-same _ _ n (λ k h. ap (λ (a : ℕ). eqb k i || eqb a 1) (row_at n t i k h)))
