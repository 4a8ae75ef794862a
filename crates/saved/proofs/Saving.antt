-- Laws of what the writer answers and leaves, of specs/Save.
-- Assumes nothing.
use mathlib.Core.Path.{◌≡◌, sym, ◌∙◌}
use mathlib.Core.List.{List}
use Prim.Native.Nat.{ℕ, ◌+◌, ◌*◌, ◌≤◌}
use native.Mathlib.Nat.{zero-add, mul-le-mul}
use native.Mathlib.Omega.{arith}
use mathlib.Core.Bool.{true}
use Rattle.std.specs.Prelude.{Ok}
use lib.ListN.{length}
use lib.Seq.{sets, length-sets}
use Rattle.lists.proofs.Writing.{sets-all}
use Rattle.table.specs.Sizes.{is_size}
use Rattle.table.specs.Table.{stride, table_length}
use Rattle.table.specs.Rules.{table_check}
use Rattle.table.proofs.Accepting.{table_ok}
use Rattle.table.proofs.SizeLaws.{size-bounds}
use Rattle.table.specs.declared.wiring.Wiring.TheVariants.{Cube}
use Rattle.plant.specs.declared.Tally.{Tally}
use Rattle.saved.specs.Save.{front_fields, saved_lines, saved, saved_length}
use Rattle.saved.proofs.SaveLaws.{front-length, length-saved}
use Rattle.saved.proofs.Copying.{sets_then}

-- what is saved of a table that is not refused: its size is small, and its length known
module _ (n : ℕ) (t : List ℕ) (x : Unit {0}) (e : table_check Cube n t ≡ Ok x) where
  pub save_low : (n ≤ 64) × (n * (stride n + 4) ≤ 64 * (stride 64 + 4))
  save_low =
      let s = size-bounds n (table_ok Cube n t x e).size in
      (s.1, mul-le-mul {n₁ = n} {m₁ = stride n + 4} {n₂ = 64} {m₂ = stride 64 + 4} s.1 (omega arith))

  pub save_table : (is_size n ≡ true) × (length t ≡ table_length n)
  save_table = let a = table_ok Cube n t x e in (a.size, a.long)

  pub save_long : (tally : Tally) → length (saved n t tally) ≡ saved_length n
  save_long tally = length-saved n t (table_ok Cube n t x e).long tally

  pub save_done : (tally : Tally) (b u v : List ℕ) → length b ≡ saved_length n
      → u ≡ sets b 0 (front_fields n tally) → v ≡ sets u 19 (saved_lines n t n) → v ≡ saved n t tally
  unfolding saved
  save_done tally b u v h p f =
      let o : 0 + length (front_fields n tally) ≡ 19 = zero-add (length (front_fields n tally)) ∙ front-length n tally in
      f ∙ rw (p, ← o) (sets_then b (front_fields n tally) (saved_lines n t n) 0 ∙ sets-all b (saved n t tally) (h ∙ sym (save_long tally)))

pub sets_long : (b u l : List ℕ) (k : ℕ) → u ≡ sets b k l → length u ≡ length b
sets_long b u l k e = rw e (length-sets b k l)

-- what the writer's goals want of these
pub ruleset writing = (save_low, save_table, save_long, save_done, sets_long)
