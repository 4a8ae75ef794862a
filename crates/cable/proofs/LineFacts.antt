-- The rules of a line by itself are those of a line of a table.
-- Assumes nothing.
use mathlib.Core.Path.{◌≡◌, ap}
use mathlib.Core.Bool.{true}
use mathlib.Core.List.{List}
use Prim.Native.Nat.{ℕ, ◌+◌, ◌<◌}
use native.Mathlib.Omega.{arith}
use borrow.Author.Tests.{eq-eqb, lt-ltb}
use lib.Dec.{leb}
use lib.ListN.{length}
use Rattle.std.specs.Prelude.{Ok}
use Rattle.lists.proofs.BoolLaws.{every-same}
use Rattle.lists.proofs.RefusalLaws.{ensure_ok, and_ok}
use Rattle.lists.proofs.SearchLaws.{every-at}
use Rattle.table.specs.Table.{head, stride, table_length, status_column, next_column, finished_column, tests_column, told_by_column}
use Rattle.table.specs.Table.{rounds_ago_column}
use Rattle.table.specs.Line.{line}
use Rattle.table.specs.Rules.{line_rules as table_rules, row_rule}
use Rattle.table.specs.Sizes.{is_size}
use Rattle.table.proofs.Accepting.{accepted}
use Rattle.table.proofs.LineLaws.{line_at, line-length}
use Rattle.table.specs.declared.wiring.Wiring.{Wiring}
use Rattle.board.specs.Calls.{line_rules, place_check, line_check}
use Rattle.cable.specs.Claims.{LinesOfTables}

-- the rules of the line are those that the table asks of it
pub rules-same : (w : Wiring) (n : ℕ) (t : List ℕ) (i : ℕ) → i < n → line_rules w n i (line n t i) ≡ table_rules w n t i
unfolding line_rules table_rules row_rule
rules-same w n t i h =
    rw (
      line_at n t i status_column (omega arith),
      line_at n t i next_column (omega arith),
      line_at n t i finished_column (omega arith),
      line_at n t i tests_column (omega arith),
      line_at n t i told_by_column (omega arith),
      line_at n t i rounds_ago_column (omega arith),
      line_at n t i (head + i) (omega arith),
      every-same _ _ n (λ k hk. ap (λ (x : ℕ). leb x 1) (line_at n t i (head + k) (omega arith))),
    )

-- a line that is let through keeps them
pub rules-of : (w : Wiring) (n i : ℕ) (l : List ℕ) → line_check w n i l ≡ Ok tt → line_rules w n i l ≡ true
unfolding line_check
rules-of w n i l e = ensure_ok _ _ _ (and_ok _ _ tt e).1

-- a line that keeps the rules, of a table whose round may be over
pub line-ok : (w : Wiring) (n : ℕ) (t : List ℕ) (i : ℕ) → is_size n ≡ true → length t ≡ table_length n → i < n
    → table_rules w n t i ≡ true → line_check w n i (line n t i) ≡ Ok tt
unfolding line_check place_check
line-ok w n t i size long h l =
    rw (size, lt-ltb i n h, eq-eqb (length (line n t i)) (stride n) (line-length n t i long h), rules-same w n t i h, l)

pub lines-of-tables : LinesOfTables
lines-of-tables w n t i z h =
    let a = accepted w n t z in
    line-ok w n t i a.size a.long h (every-at (table_rules w n t) n i a.lines h)
