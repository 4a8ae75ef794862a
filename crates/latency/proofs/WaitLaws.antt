-- The turns of a round on the cube by the row of the dead boards, and what the loops over a table's boards ask.
-- Assumes nothing.
use mathlib.Core.Path.{◌≡◌}
use mathlib.Core.Bool.{true}
use mathlib.Core.List.{List, [], ◌∷◌, ◌++◌}
use Prim.Native.Nat.{ℕ, ◌+◌}
use native.Mathlib.Numerals.{add-one}
use Rattle.lists.specs.Search.{list_of}
use Rattle.lists.specs.Sums.{bit}
use Rattle.lists.proofs.SearchLaws.{list_of-suc}
use Rattle.table.specs.Sizes.{is_size}
use Rattle.table.specs.Rules.{not_live}
use Rattle.table.specs.Properties.{exact_row}
use Rattle.table.proofs.SizeLaws.{size-distances}
use Rattle.table.specs.declared.wiring.Wiring.TheVariants.{Cube}
use Rattle.latency.specs.Bound.{turns_per_round}
use Rattle.latency.specs.Turns.{turns_by_row}
use Rattle.latency.proofs.RowFigures.{turns-by-row}

-- byte j of the row that suspects exactly the dead boards
abbrev pub dead_at : ℕ → List ℕ → ℕ → ℕ
dead_at n t j = bit (not_live n t j)

-- a list that a loop fills by pushing
pub filled-next : (f : ℕ → ℕ) (k v : ℕ) (l l' : List ℕ) → l ≡ list_of f k → l' ≡ l ++ (v ∷ []) → v ≡ f k → l' ≡ list_of f (k + 1)
filled-next f k v l l' e p w = rw (add-one, list_of-suc f k, ← e, ← w) p

pub turns-on-cube : (n : ℕ) (t : List ℕ) → is_size n ≡ true → turns_per_round Cube n t ≡ turns_by_row n (exact_row n t)
turns-on-cube n t size = turns-by-row n t (size-distances n size).0
