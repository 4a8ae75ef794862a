-- Fresh boards.
-- Assumes nothing.
use mathlib.Core.Path.{◌≡◌, sym, ◌∙◌}
use Prim.Native.Nat.{ℕ, ◌<◌}
use Rattle.lists.specs.Search.{list_of}
use Rattle.lists.proofs.SearchLaws.{list_of-length, list_of-at}
use Rattle.table.specs.declared.wiring.Wiring.TheVariants.{Cube}
use Rattle.table.specs.Table.{stride}
use Rattle.table.specs.Line.{line}
use Rattle.table.specs.Fresh.{fresh_byte, fresh_table}
use Rattle.table.proofs.FreshLaws.{fresh-length, fresh-cell}
use Rattle.table.proofs.LineLaws.{line_is}
use Rattle.board.specs.Calls.{fresh_after}
use Rattle.board.proofs.KeepsLaws.{good, fresh-is-one}
use Rattle.cable.specs.Claims.{FreshBoards}

pub fresh-line : (n i : ℕ) → i < n → line n (fresh_table n) i ≡ list_of (fresh_byte n) (stride n)
fresh-line n i h =
    line_is n (fresh_table n) i (list_of (fresh_byte n) (stride n)) (fresh-length n) h (list_of-length (fresh_byte n) (stride n))
    (λ c hc. fresh-cell n i c h hc ∙ sym (list_of-at (fresh_byte n) (stride n) c hc))

-- fresh boards, an end in itself
pub fresh-boards : FreshBoards
fresh-boards n i l e = let g = good Cube n i (fresh_after n i l) (fresh-is-one Cube n i l e) in rw e (sym (fresh-line n i g.below))
