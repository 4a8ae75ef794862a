-- A size is at most 64, and 64 · 70 is 4,480.
use Rattle.std.proofs.Common.{◌≡◌, true, false, ℕ, ◌≤◌, sym, ◌∙◌, arith}
use Rattle.std.proofs.Math.Nat.{mul-le-mul}
use Rattle.table.specs.Table.{stride, greatest_table, table_length}
use Rattle.table.proofs.SizeLaws.{size-bounds}
use Rattle.watch.proofs.watched.table_part.Goals as goal

table-within : (n : ℕ) → n ≤ 64 → table_length n ≤ greatest_table
unfolding table_length
table-within n h = let e : stride n ≤ stride 64 = omega arith in mul-le-mul h e

pub overflow_cast-size : goal.overflow_cast-size
overflow_cast-size c = omega (arith, size-bounds _ (sym c.is_size.ensures ∙ c.if-not-is_size.false))

pub returns : goal.returns
returns c =
    let size = sym c.is_size.ensures ∙ c.if-not-is_size.false in
    let h = size-bounds _ size in
    record {
      of_a_size = λ _. c.table_length.ensures;
      of_no_size = λ none. absurd (let z : true ≡ false = sym size ∙ none in cc);
      upper_bound = rw c.table_length.ensures (table-within _ h.1);
    }
