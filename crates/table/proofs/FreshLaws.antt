-- The bytes of a fresh table.
-- Assumes nothing.
use mathlib.Core.Path.{◌≡◌, refl, sym, ap, ◌∙◌}
use mathlib.Core.Bool.{cond}
use mathlib.Core.List.{List, ◌++◌}
use Prim.Native.Nat.{ℕ, ◌+◌, ◌*◌, ◌≤◌, ◌<◌}
use native.Mathlib.Decide.{ℕ_discrete}
use native.Mathlib.Nat.{mod-eq_of_lt, mul-add-mod_self_right, suc-mul}
use native.Mathlib.Omega.{arith}
use borrow.Author.Tests.{ne_eqb}
use lib.Dec.{eqb}
use lib.ListN.{length, get_or, set, replicate, length-set}
use lib.Seq.{sets, ext_get_or, get_or-set_same, get_or-set_other}
use Rattle.std.proofs.lemmas.List.{length-replicate, get_or-replicate}
use Rattle.lists.specs.Search.{list_of}
use Rattle.lists.proofs.Writing.{sets-behind, sets-all}
use Rattle.lists.proofs.SearchLaws.{list_of-length, list_of-at, list_of-same, list_of-append}
use Rattle.table.specs.Table.{stride, table_length, line_start, cell, next_column, told_by_column, told_by_none}
use Rattle.table.specs.Fresh.{fresh_byte, fresh_table}
use Rattle.table.proofs.CellLaws.{line-inside}

pub fresh-length : (n : ℕ) → length (fresh_table n) ≡ table_length n
unfolding fresh_table
fresh-length n = list_of-length (fresh_byte n) (table_length n)

-- a byte of a line by its place in the line: next distance 1, byte 4 255, and all else 0
pub fresh-byte : (n c : ℕ) → c < stride n → fresh_byte n c ≡ cond (eqb c next_column) 1 (cond (eqb c told_by_column) told_by_none 0)
unfolding fresh_byte
fresh-byte n c h = rw (mod-eq_of_lt h)

pub fresh-cell : (n i c : ℕ) → i < n → c < stride n → cell n (fresh_table n) i c ≡ fresh_byte n c
unfolding cell fresh_table fresh_byte line_start
fresh-cell n i c h g =
    list_of-at (fresh_byte n) (table_length n) (line_start n i + c) (omega (arith, line-inside n i h))
    ∙ rw (mul-add-mod_self_right i (stride n) c, mod-eq_of_lt g)

-- a line of zeros, with bytes 1 and 4 written
pub fresh-line : (n : ℕ) (l t : List ℕ) → length l ≡ stride n → t ≡ replicate (length l) 0
    → set (set t next_column 1) told_by_column told_by_none ≡ list_of (fresh_byte n) (stride n)
fresh-line n l t long zeros =
    ext_get_or 0 _ _ (same-length ∙ sym (list_of-length (fresh_byte n) (stride n))) (λ k h. byte k (omega (arith, same-length)))
  where
    length-t : length t ≡ stride n
    length-t = rw zeros (length-replicate (length l) 0 ∙ long)

    u : List ℕ
    u = set t next_column 1

    length-u : length u ≡ stride n
    length-u = length-set t next_column 1 ∙ length-t

    same-length : length (set u told_by_column told_by_none) ≡ stride n
    same-length = length-set u told_by_column told_by_none ∙ length-u

    byte : (k : ℕ) → k < stride n → get_or (set u told_by_column told_by_none) k 0 ≡ get_or (list_of (fresh_byte n) (stride n)) k 0
    byte k h =
        pick (ℕ_discrete k told_by_column) (ℕ_discrete k next_column) ∙ sym (fresh-byte n k h) ∙ sym (list_of-at (fresh_byte n) (stride n) k h)
      where
        pick : Dec (k ≡ told_by_column) → Dec (k ≡ next_column)
            → get_or (set u told_by_column told_by_none) k 0 ≡ cond (eqb k next_column) 1 (cond (eqb k told_by_column) told_by_none 0)
        pick (yes e) d = rw e (get_or-set_same u told_by_column told_by_none 0 (omega (arith, length-u)))
        pick (no a) (yes e) =
            rw e
            (get_or-set_other u told_by_column next_column told_by_none 0 (λ z. omega arith)
            ∙ get_or-set_same t next_column 1 0 (omega (arith, length-t)))
        pick (no a) (no b) =
            rw (ne_eqb k next_column b, ne_eqb k told_by_column a)
            (get_or-set_other u told_by_column k told_by_none 0 a ∙ get_or-set_other t next_column k 1 0 b
            ∙ rw zeros (get_or-replicate (length l) k 0 0 (omega arith)))

-- the lines are written from the front on
pub lines-start : (n : ℕ) (t : List ℕ) → t ≡ sets t 0 (list_of (fresh_byte n) (line_start n 0))
unfolding line_start list_of fresh_byte
lines-start n t = let z : 0 * stride n ≡ 0 = omega arith in rw z refl

pub lines-next : (n i : ℕ) (t u : List ℕ) → u ≡ sets t 0 (list_of (fresh_byte n) (line_start n i))
    → sets u (line_start n i) (list_of (fresh_byte n) (stride n)) ≡ sets t 0 (list_of (fresh_byte n) (line_start n (i + 1)))
unfolding line_start fresh_byte
lines-next n i t u e =
    let a = i * stride n in
    let z : a + stride n ≡ (i + 1) * stride n = omega (arith, suc-mul i (stride n)) in
    let one : list_of (fresh_byte n) (stride n) ≡ list_of (λ k. fresh_byte n (a + k)) (stride n) =
    list_of-same (fresh_byte n) (λ k. fresh_byte n (a + k)) (stride n) (λ k h. rw (mul-add-mod_self_right i (stride n) k)) in
    let all : list_of (fresh_byte n) a ++ list_of (fresh_byte n) (stride n) ≡ list_of (fresh_byte n) ((i + 1) * stride n) =
    ap (λ (x : List ℕ). list_of (fresh_byte n) a ++ x) one ∙ sym (list_of-append (fresh_byte n) a (stride n)) ∙ ap (list_of (fresh_byte n)) z in
    let w : 0 + length (list_of (fresh_byte n) a) ≡ a = omega (arith, list_of-length (fresh_byte n) a) in
    rw e (sym (rw w at (sets-behind t (list_of (fresh_byte n) a) (list_of (fresh_byte n) (stride n)) 0)) ∙ ap (sets t 0) all)

pub lines-done : (n i : ℕ) (t u : List ℕ) → u ≡ sets t 0 (list_of (fresh_byte n) (line_start n i)) → length t ≡ table_length n → i ≤ n → n ≤ i
    → u ≡ fresh_table n
unfolding fresh_table line_start table_length
lines-done n i t u e long a b =
    let same : i ≡ n = omega arith in
    e ∙ rw same (sets-all t (list_of (fresh_byte n) (n * stride n)) (long ∙ sym (list_of-length (fresh_byte n) (n * stride n))))
