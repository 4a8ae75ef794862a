-- The pair of tables and the four turns, computed.
-- Assumes nothing.
use mathlib.Core.Path.{◌≡◌, refl}
use mathlib.Core.Bool.{Bool, true, not, ◌||◌}
use Prim.Native.Nat.{ℕ, ◌<◌}
use native.Mathlib.Omega.{arith}
use borrow.Author.Tests.{eqb-true}
use lib.Dec.{eqb}
use Rattle.lists.specs.Search.{every}
use Rattle.lists.proofs.SearchLaws.{every-at}
use Rattle.table.specs.Table.{stride, line_start, cell, status, live}
use Rattle.plant.proofs.WholeRun.{whole_run}
use Rattle.dead_lines.specs.Pair.{worked, other, WorkedPair, EachIsNeeded}

-- what is compared, as tests
abbrev same_status : ℕ → Bool
same_status i = eqb (status 4 worked i) (status 4 other i)

abbrev same_byte : ℕ → ℕ → Bool
same_byte i c = eqb (cell 4 worked i c) (cell 4 other i c)

abbrev same_line : ℕ → Bool
same_line i = not (live 4 worked i) || every (same_byte i) (stride 4)

statuses-same : every same_status 4 ≡ true
unfolding every cell line_start
statuses-same = refl

lines-same : every same_line 4 ≡ true
unfolding every cell line_start
lines-same = refl

line-same : (i : ℕ) → i < 4 → live 4 worked i ≡ true → every (same_byte i) (stride 4) ≡ true
line-same i h l = rw l at (every-at same_line 4 i lines-same h)

pub worked-pair : WorkedPair
unfolding whole_run
worked-pair = record {
  alike = record {
    valid = refl;
    other_valid = refl;
    statuses = λ i h. eqb-true (status 4 worked i) (status 4 other i) (every-at same_status 4 i statuses-same (omega (arith, h)));
    live_lines = λ i h l c hc.
        let bytes = every-at (same_byte i) (stride 4) c (line-same i (omega (arith, h)) l) (omega (arith, hc)) in
        eqb-true (cell 4 worked i c) (cell 4 other i c) bytes;
    rounds = refl;
    tests = refl;
  };
  first = refl;
  second = refl;
}

pub each-is-needed : EachIsNeeded
unfolding whole_run
each-is-needed = record { fresh = refl; live_line = refl; status = refl; valid = refl }
