-- The table of n boards.
-- Assumes nothing.
use mathlib.Core.Path.{◌≡◌, sym, ◌∙◌}
use mathlib.Core.List.{List}
use Prim.Native.Nat.{ℕ, ◌+◌, ◌*◌, ◌/◌, ◌%◌, ◌<◌}
use native.Mathlib.Omega.{arith}
use lib.ListN.{length, get_or}
use Rattle.std.proofs.lemmas.Nat.{div-mul-add, mod-mul-add}
use Rattle.lists.proofs.SearchLaws.{every-all, list_of-length, list_of-at}
use Rattle.table.specs.Table.{stride, table_length, line_start, cell}
use Rattle.table.specs.Line.{line}
use Rattle.table.specs.Rules.{line_rules}
use Rattle.table.proofs.CellLaws.{line-inside}
use Rattle.table.proofs.LineLaws.{line_is}
use Rattle.plant.proofs.RunLaws.{accepted-number}
use Rattle.board.proofs.KeepsLaws.{Good, good}
use Rattle.cable.specs.Boards.{Lines, Hold, table_of, BoardsMakeATable}
use Rattle.cable.proofs.LineFacts.{rules-same, rules-of}
use Rattle.cable.proofs.HoldLaws.{held, holds, over-same}

module _ (n : ℕ) (b : Lines) where
  pub table-length : length (table_of n b) ≡ table_length n
  unfolding table_of
  table-length = list_of-length _ (table_length n)

  table-byte : (k c : ℕ) → k < n → c < stride n → cell n (table_of n b) k c ≡ get_or (b k) c 0
  unfolding table_of cell line_start
  table-byte k c hk hc =
      let p : ℕ = k * stride n + c in
      let inside : p < table_length n = omega (arith, line-inside n k hk) in
      list_of-at (λ p. get_or (b (p / stride n)) (p % stride n) 0) (table_length n) p inside
      ∙ rw (div-mul-add k (stride n) c hc, mod-mul-add k (stride n) c hc)

  pub table-line : (k : ℕ) → k < n → length (b k) ≡ stride n → line n (table_of n b) k ≡ b k
  table-line k hk long = line_is n (table_of n b) k (b k) table-length hk long (λ c hc. table-byte k c hk hc)

-- lines that are let through make a table, an end in itself
pub boards-make-a-table : BoardsMakeATable
boards-make-a-table w n b some through going = (
  accepted-number w n t (record {
    size = (facts 0 some).size;
    long = table-length n b;
    lines = every-all (line_rules w n t) n (λ k hk. sym (rules-same w n t k hk) ∙ rw (same k hk) (rules-of w n k (b k) (through k hk)));
    unclosed = sym (over-same n t b hold) ∙ going;
  }),
  hold,
)
  where
    t : List ℕ
    t = table_of n b

    facts : (k : ℕ) → k < n → Good w n k (b k)
    facts k hk = good w n k (b k) (through k hk)

    same : (k : ℕ) → k < n → line n t k ≡ b k
    same k hk = table-line n b k hk (facts k hk).long

    hold : Hold n t b
    hold = holds n t b (λ k hk. held n t k (b k) (sym (same k hk)))
