-- What the checks of the calls tell of a line.
-- Assumes nothing.
use mathlib.Core.Path.{◌≡◌, refl}
use mathlib.Core.Bool.{true}
use mathlib.Core.List.{List}
use Prim.Native.Nat.{ℕ, ◌<◌}
use native.Mathlib.Omega.{arith}
use borrow.Author.Tests.{eq-eqb, lt-ltb}
use lib.ListN.{get_or}
use Rattle.std.specs.Prelude.{Ok}
use Rattle.lists.proofs.SearchLaws.{both}
use Rattle.table.specs.Sizes.{is_size}
use Rattle.table.specs.Table.{stride, next_column, finished_column, tests_column}
use Rattle.table.specs.declared.wiring.Wiring.{Wiring}
use Rattle.table.specs.Wiring.{end_distance}
use Rattle.table.proofs.CellLaws.{Pass, pass-facts}
use Rattle.table.proofs.WiringLaws.{size-end}
use Rattle.board.specs.Calls.{line_rules, place_check}

-- a board of the plant, with a line of its length, is in its place
pub place_ok : (n i len : ℕ) → is_size n ≡ true → i < n → len ≡ stride n → place_check n i len ≡ Ok tt
unfolding place_check
place_ok n i len size below long = rw (size, lt-ltb i n below, eq-eqb len (stride n) long) refl

line-pass : (w : Wiring) (n i : ℕ) (l : List ℕ) → line_rules w n i l ≡ true
    → Pass (end_distance w n) (get_or l next_column 0) (get_or l finished_column 0) (get_or l tests_column 0)
unfolding line_rules
line-pass w n i l e =
    let a = both _ _ e in
    let b = both _ _ a.0 in
    let c = both _ _ b.0 in
    pass-facts _ _ _ _ c.1

-- byte 3 has room for one more
pub rules_tests : (w : Wiring) (n i : ℕ) (l : List ℕ) → line_rules w n i l ≡ true → is_size n ≡ true → get_or l tests_column 0 < 255
rules_tests w n i l e size =
    let p = line-pass w n i l e in
    let end = size-end w n size in
    omega (arith, p.tests_bound, p.next_high)
