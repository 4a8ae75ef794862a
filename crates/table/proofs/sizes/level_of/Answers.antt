-- A byte's leading zeros and its level make 8.
use Rattle.std.proofs.Common.{◌≡◌, ℕ, ◌-◌, ◌<◌, arith}
use mathlib.Core.Logic.{◌⊎◌, inl, inr}
use native.Mathlib.Nat.{eq-zero-or-pos}
use lib.Count.{count_leading_zeros, leading_of_zero, leading_top}
use Rattle.table.specs.Sizes.{level}
use Rattle.table.proofs.Levels.{level-is, level-zero}
use Rattle.table.proofs.sizes.level_of.Goals as goal

digits : (m : ℕ) → m < 256 → 8 - count_leading_zeros 8 m ≡ level m
digits m h = go (eq-zero-or-pos m)
  where
    go : (m ≡ 0) ⊎ (0 < m) → 8 - count_leading_zeros 8 m ≡ level m
    go (inl e) = rw (e, leading_of_zero, level-zero)
    go (inr p) =
        let t = leading_top 8 m p h in
        omega (arith, level-is m t.0 t.2 t.3)

pub returns-clause-is_level : goal.returns-clause-is_level
returns-clause-is_level c = digits c.args.m.0 (omega arith)
