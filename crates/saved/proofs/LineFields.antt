-- Laws of the line fields that the writer writes: their places in the buffer, and one field after the other.
-- Assumes nothing.
use mathlib.Core.Path.{◌≡◌, refl, ap, ◌∙◌}
use mathlib.Core.List.{List, ◌∷◌, ◌++◌}
use Prim.Native.Nat.{ℕ, suc, min, ◌-◌, ◌+◌, ◌*◌, ◌≤◌, ◌<◌}
use native.Mathlib.Nat.{suc-mul, mul-le-mul_right}
use native.Mathlib.Numerals.{add-one}
use native.Mathlib.Decide.{dec_lt}
use native.Mathlib.Omega.{arith}
use lib.ListN.{length, set, take, drop, length-drop}
use lib.Seq.{sets, take_all, take-append-le, drop_at, drop-drop}
use Rattle.table.specs.Table.{stride, table_length, line_start}
use Rattle.table.proofs.CellLaws.{line-inside}
use Rattle.saved.specs.Bytes.{bytes_of, concat_of}
use Rattle.saved.specs.Fields.{field, field_bytes}
use Rattle.saved.specs.Plant.{line_tag}
use Rattle.saved.specs.Save.{line_of, line_field, saved_lines}
use Rattle.saved.proofs.ConcatLaws.{concat-length}
use Rattle.saved.proofs.SaveLaws.{field_of}
use Rattle.saved.proofs.Copying.{sets_then}

-- where the field of line i begins
abbrev pub field_start : ℕ → ℕ → ℕ
field_start n i = 19 + i * (stride n + 4)

pub field-inside : (n i : ℕ) → i < n → field_start n i + (stride n + 4) ≤ field_start n n
field-inside n i h = omega (arith, suc-mul i (stride n + 4), mul-le-mul_right {m = suc i} {n = n} (stride n + 4) h)

-- the field as the code writes it: its head, the station, and the line
pub line-written : (b line : List ℕ) (at i : ℕ)
    → sets (set (sets b at (line_tag ∷ bytes_of 2 (length line + 1))) (at + 3) i) (at + 4) line ≡ sets b at (field_bytes (field line_tag (i ∷ line)))
unfolding field_bytes bytes_of
line-written b line at i =
    let l : length (i ∷ line) ≡ length line + 1 = omega arith in
    let a : at + 3 ≡ suc (suc (suc at)) = omega arith in
    let c : at + 4 ≡ suc (suc (suc (suc at))) = omega arith in
    rw (l, a, c)

-- the lines of a table, taken off its front one after the other
module _ (n : ℕ) (t : List ℕ) (long : length t ≡ table_length n) where
  pub line_next : (k : ℕ) (rest line left : List ℕ) → k ≤ n → rest ≡ drop (line_start n k) t → rest ≡ line ++ left
      → length line ≡ min (stride n) (length rest) → 0 < length rest
      → (k < n) × (length line ≡ stride n) × (line ≡ line_of n t k) × (left ≡ drop (line_start n (k + 1)) t)
  unfolding line_of line_start table_length
  line_next k rest line left m e f w some = (below (dec_lt k n), whole, here, behind)
    where
      left-long : length rest ≡ n * stride n - k * stride n
      left-long = ap length e ∙ omega (arith, length-drop (k * stride n) t)

      below : Dec (k < n) → k < n
      below (yes h) = h
      below (no h) = let q : k ≡ n = omega arith in let z : length rest ≡ n * stride n - n * stride n = rw q at left-long in omega arith

      whole : length line ≡ stride n
      whole = omega (arith, left-long, suc-mul k (stride n), mul-le-mul_right {m = suc k} {n = n} (stride n) (below (dec_lt k n)))

      here : line ≡ take (stride n) (drop (k * stride n) t)
      here = rw (← e, f, take-append-le (stride n) line left (omega (arith, whole)), take_all (stride n) line (omega (arith, whole)))

      behind : left ≡ drop ((k + 1) * stride n) t
      behind =
          let a : (k + 1) * stride n ≡ k * stride n + stride n = rw add-one (omega (arith, suc-mul k (stride n))) in
          rw (a, ← drop-drop (stride n) (k * stride n) t, ← e, f, drop_at line left (stride n) whole)

  pub lines_end : (k : ℕ) (rest : List ℕ) → k ≤ n → rest ≡ drop (line_start n k) t → length rest ≡ 0 → k ≡ n
  lines_end k rest m e f = pick (dec_lt k n)
    where
      pick : Dec (k < n) → k ≡ n
      pick (yes h) = omega (arith, line-inside n k h, length-drop (line_start n k) t, ap length e)
      pick (no h) = omega arith

-- the fields of the first k lines behind the opening, as a loop writes them
pub lines_start : (b t : List ℕ) (n : ℕ) → b ≡ sets b 19 (saved_lines n t 0)
unfolding saved_lines concat_of
lines_start b t n = refl

pub lines_next : (b r s t : List ℕ) (n k : ℕ) → length t ≡ table_length n → k < n → r ≡ sets b 19 (saved_lines n t k)
    → s ≡ sets r (field_start n k) (field_bytes (line_field n t k)) → s ≡ sets b 19 (saved_lines n t (k + 1))
unfolding saved_lines concat_of
lines_next b r s t n k long h e f =
    let l : length (saved_lines n t k) ≡ k * (stride n + 4) =
    concat-length _ (stride n + 4) k (λ i g. field_of n t long _ (omega arith)) in
    f ∙ rw (e, add-one, ← l) (sets_then b (saved_lines n t k) (field_bytes (line_field n t k)) 19)
