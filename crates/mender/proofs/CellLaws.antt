-- The bytes of the mended table by line and column.
-- Assumes nothing.
use mathlib.Core.Path.{◌≡◌, refl, sym, ap, ap₂, ◌∙◌}
use mathlib.Core.Bool.{Bool, true, false, cond, not, ◌&&◌, ◌||◌}
use mathlib.Core.List.{List, ◌∷◌, []}
use Prim.Native.Nat.{ℕ, ◌+◌, ◌-◌, ◌*◌, ◌/◌, ◌%◌, ◌<◌}
use native.Mathlib.Nat.{div-add-mod, div-lt_iff_lt-mul, mod-lt, mul_comm}
use native.Mathlib.Omega.{arith}
use borrow.Author.Tests.{le-leb, lt-leb, ne_eqb}
use lib.Arith.{digits_div, digits_mod}
use lib.Dec.{leb, eqb}
use lib.ListN.{length, get_or}
use lib.Seq.{ext_get_or}
use Rattle.std.proofs.lemmas.Bool.Decides.{nat_tests}
use Rattle.lists.specs.Search.{list_of}
use Rattle.lists.proofs.SearchLaws.{list_of-at, list_of-length}
use Rattle.table.specs.Table.{head, stride, table_length, line_start, cell, status, live, finished, rounds_ago}
use Rattle.table.proofs.CellLaws.{line-inside}
use Rattle.table.specs.declared.wiring.Wiring.{Wiring}
use Rattle.mender.specs.Mended.{mended_status, keeps_pass, mended_rounds_ago, mended_suspicion, new_status, new_told_by}
use Rattle.mender.specs.Mended.{line_byte, table_of, lines_mended, mended_byte}

pub table_of-length : (n : ℕ) (f : ℕ → ℕ → ℕ) → length (table_of n f) ≡ table_length n
unfolding table_of
table_of-length n f = list_of-length (λ p. f (p / stride n) (p % stride n)) (table_length n)

pub inside : (n i c : ℕ) → i < n → c < stride n → line_start n i + c < table_length n
inside n i c h hc = omega (arith, line-inside n i h)

pub table_of-at : (n : ℕ) (f : ℕ → ℕ → ℕ) (i c : ℕ) → i < n → c < stride n → get_or (table_of n f) (line_start n i + c) 0 ≡ f i c
unfolding table_of line_start
table_of-at n f i c h hc =
    list_of-at (λ p. f (p / stride n) (p % stride n)) (table_length n) (i * stride n + c) (inside n i c h hc)
    ∙ ap₂ f (digits_div i hc) (digits_mod i hc)

pub table_of-cell : (n : ℕ) (f : ℕ → ℕ → ℕ) (i c : ℕ) → i < n → c < stride n → cell n (table_of n f) i c ≡ f i c
unfolding cell
table_of-cell n f i c h hc = table_of-at n f i c h hc

-- a place of the table is a column of a line
place-parts : (n p : ℕ) → p < table_length n → (line_start n (p / stride n) + p % stride n ≡ p) × (p / stride n < n) × (p % stride n < stride n)
unfolding table_length line_start
place-parts n p h =
    let some : 0 < stride n = omega arith in
    let low : p / stride n < n = (div-lt_iff_lt-mul some).1 h in
    (omega (arith, div-add-mod p (stride n), mul_comm (stride n) (p / stride n)), low, mod-lt p (omega arith))

-- a table with these bytes
pub table_of-is : (n : ℕ) (f : ℕ → ℕ → ℕ) (t : List ℕ) → length t ≡ table_length n
    → ((i c : ℕ) → i < n → c < stride n → f i c ≡ cell n t i c) → table_of n f ≡ t
unfolding cell
table_of-is n f t long same =
    ext_get_or 0 (table_of n f) t (table_of-length n f ∙ sym long)
    (λ p l.
    let parts = place-parts n p (omega (arith, table_of-length n f)) in
    let at = ap (λ (x : ℕ). get_or t x 0) parts.0 in
    let here = table_of-at n f (p / stride n) (p % stride n) parts.1 parts.2 in
    ap (λ (x : ℕ). get_or (table_of n f) x 0) (sym parts.0) ∙ here ∙ same (p / stride n) (p % stride n) parts.1 parts.2 ∙ at)

-- a station is live after mending if it was before
pub lines_live : (w : Wiring) (n : ℕ) (t : List ℕ) (i : ℕ) → i < n → live n (lines_mended w n t) i ≡ live n t i
unfolding line_byte
lines_live w n t i h = ap (λ (x : ℕ). eqb x 0) (table_of-cell n (line_byte w n t) i 0 h (omega arith)) ∙ stays (status n t i)
  where
    stays : (s : ℕ) → eqb (mended_status s) 0 ≡ eqb s 0
    stays s = grind (arith, nat_tests)

-- it has finished its pass after mending if it had before and bytes 1 to 3 keep their rules
pub lines_finished : (w : Wiring) (n : ℕ) (t : List ℕ) (i : ℕ) → i < n
    → eqb (finished n (lines_mended w n t) i) 1 ≡ (eqb (finished n t i) 1 && keeps_pass w n t i)
unfolding line_byte
lines_finished w n t i h =
    ap (λ (x : ℕ). eqb x 1) (table_of-cell n (line_byte w n t) i 2 h (omega arith)) ∙ stays (keeps_pass w n t i) (finished n t i)
  where
    stays : (b : Bool) (f : ℕ) → eqb (cond b f 0) 1 ≡ (eqb f 1 && b)
    stays true f = grind (arith, nat_tests)
    stays false f = grind (arith, nat_tests)

-- a byte of the mended table that the round has no part in
pub outside-pass : (w : Wiring) (n : ℕ) (t : List ℕ) (over : Bool) (i c : ℕ) → (leb 1 c && leb c 3) ≡ false
    → mended_byte w n t over i c ≡ line_byte w n t i c
unfolding mended_byte
outside-pass w n t true i c e = rw e refl
outside-pass w n t false i c e = refl

-- of a row
pub row-byte : (w : Wiring) (n : ℕ) (t : List ℕ) (over : Bool) (i k : ℕ)
    → mended_byte w n t over i (head + k) ≡ mended_suspicion i k (cell n t i (head + k))
unfolding line_byte
row-byte w n t over i k =
    let back : head + k - head ≡ k = omega arith in
    outside-pass w n t over i (head + k) (rw (le-leb 1 (head + k) (omega arith), lt-leb (head + k) 3 (omega arith)) refl)
    ∙ rw (
      ne_eqb (head + k) 0 (λ e. omega arith),
      lt-leb (head + k) 3 (omega arith),
      ne_eqb (head + k) 4 (λ e. omega arith),
      ne_eqb (head + k) 5 (λ e. omega arith),
      back,
    ) refl

-- bytes 0 to 5 go by bytes 0 to 5
pub head-same : (w : Wiring) (n : ℕ) (t t' : List ℕ) (over : Bool) (i c : ℕ) → ((b : ℕ) → b < head → cell n t i b ≡ cell n t' i b) → c < head
    → mended_byte w n t over i c ≡ mended_byte w n t' over i c
unfolding mended_byte line_byte
head-same w n t t' over i c same h =
    rw (
      same 0 (omega arith),
      same 1 (omega arith),
      same 2 (omega arith),
      same 3 (omega arith),
      same 4 (omega arith),
      same 5 (omega arith),
      same c h,
    ) refl

-- bytes 1 to 3 as the code makes them
pub pass-new : (w : Wiring) (n : ℕ) (t : List ℕ) (over : Bool) (i : ℕ) (b : Bool) → b ≡ keeps_pass w n t i → (over || not b) ≡ true
    → (1 ∷ 0 ∷ 0 ∷ []) ≡ (mended_byte w n t over i 1 ∷ mended_byte w n t over i 2 ∷ mended_byte w n t over i 3 ∷ [])
unfolding mended_byte line_byte
pass-new w n t true i b e h = refl
pass-new w n t false i true e h = cc
pass-new w n t false i false e h = rw (← e) refl

pub pass-old : (w : Wiring) (n : ℕ) (t : List ℕ) (over : Bool) (i : ℕ) (b : Bool) → b ≡ keeps_pass w n t i → (over || not b) ≡ false
    → (cell n t i 1 ∷ cell n t i 2 ∷ cell n t i 3 ∷ []) ≡ (mended_byte w n t over i 1 ∷ mended_byte w n t over i 2 ∷ mended_byte w n t over i 3 ∷ [])
unfolding mended_byte line_byte
pass-old w n t true i b e h = cc
pass-old w n t false i true e h = rw (← e) refl
pass-old w n t false i false e h = cc

-- bytes 0 to 5
pub head-is : (w : Wiring) (n : ℕ) (t : List ℕ) (over : Bool) (i s by ago : ℕ) (pass : List ℕ) → s ≡ new_status n t i
    → pass ≡ mended_byte w n t over i 1 ∷ mended_byte w n t over i 2 ∷ mended_byte w n t over i 3 ∷ [] → by ≡ new_told_by n t i
    → ago ≡ mended_rounds_ago n i (new_status n t i) (new_told_by n t i) (rounds_ago n t i)
    → (s ∷ get_or pass 0 0 ∷ get_or pass 1 0 ∷ get_or pass 2 0 ∷ by ∷ ago ∷ []) ≡ list_of (mended_byte w n t over i) 6
unfolding list_of line_byte
head-is w n t over i s by ago pass es ep eb ea =
    rw (es, ep, eb, ea, outside-pass w n t over i 0 refl, outside-pass w n t over i 4 refl, outside-pass w n t over i 5 refl) refl
