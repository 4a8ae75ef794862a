-- The turn as one equation, by lines.
-- Assumes nothing.
use mathlib.Core.Path.{◌≡◌, refl, sym, ap, ◌∙◌}
use mathlib.Core.Logic.{◌≢◌}
use mathlib.Core.List.{List}
use Prim.Native.Nat.{ℕ, ◌≤◌, ◌<◌}
use native.Mathlib.Decide.{ℕ_discrete}
use native.Mathlib.Omega.{arith}
use lib.ListN.{length}
use Rattle.lists.proofs.BoolLaws.{by_bool}
use Rattle.table.specs.Table.{stride, table_length}
use Rattle.table.proofs.Accepting.{accepted}
use Rattle.table.proofs.SizeLaws.{size_top}
use Rattle.table.proofs.CellLaws.{accepted-line}
use Rattle.plant.specs.Turn.{makes_test, turn}
use Rattle.table.specs.Line.{line, set_line}
use Rattle.board.specs.Board.{tested, turn_of, sent, received}
use Rattle.cable.specs.Claims.{reply_to, SameTurn, turn_by_lines, TurnIsByLines}
use Rattle.table.proofs.LineLaws.{line-length, line-set_line, line-set_line-other, set_line-length, by_lines}
use Rattle.table.specs.declared.wiring.Wiring.{Wiring}
use Rattle.cable.proofs.TurnByLines.{same-turn, tests-line, tested-below, tested-apart, none-tested, turn-length}

module _ (w : Wiring) (n : ℕ) (t : List ℕ) (kind i : ℕ) (long : length t ≡ table_length n) (h : i < n) (same : SameTurn w n t kind i)
    (full : length (turn w n t kind i) ≡ length t) where
  abbrev l : List ℕ
  l = line n t i

  abbrev mine : List ℕ
  mine = turn_of w n i l (reply_to w n t kind i)

  mine-long : length mine ≡ stride n
  mine-long = ap length (sym same.tester) ∙ line-length n (turn w n t kind i) i (full ∙ long) h

  one-long : length (set_line n t i mine) ≡ table_length n
  one-long = set_line-length n t i mine long h mine-long ∙ long

  module _ (j : ℕ) (hj : j < n) (is_j : tested w n i l ≡ j) (apart : j ≢ i) where
    abbrev its : List ℕ
    its = received n j i (line n t j) (sent w n i l (reply_to w n t kind i))

    its-is : line n (turn w n t kind i) j ≡ its
    its-is = same.tested_line j hj (sym is_j ∙ sym same.tested_station)

    its-long : length its ≡ stride n
    its-long = ap length (sym its-is) ∙ line-length n (turn w n t kind i) j (full ∙ long) hj

    two-lines : turn w n t kind i ≡ set_line n (set_line n t i mine) j its
    two-lines =
        by_lines n (turn w n t kind i) (set_line n (set_line n t i mine) j its) (full ∙ long)
        (set_line-length n _ j its one-long hj its-long ∙ one-long)
        (λ k hk. pick k hk (ℕ_discrete k j) (ℕ_discrete k i))
      where
        pick : (k : ℕ) → k < n → Dec (k ≡ j) → Dec (k ≡ i) → line n (turn w n t kind i) k ≡ line n (set_line n (set_line n t i mine) j its) k
        pick k hk (yes e) d = rw e (its-is ∙ sym (line-set_line n (set_line n t i mine) j its one-long hj its-long))
        pick k hk (no nj) (yes e) =
            sym (line-set_line-other n (set_line n t i mine) j its one-long hj its-long k hk nj
            ∙ rw e (line-set_line n t i mine long h mine-long ∙ sym same.tester))
        pick k hk (no nj) (no ni) =
            sym (line-set_line-other n (set_line n t i mine) j its one-long hj its-long k hk nj
            ∙ line-set_line-other n t i mine long h mine-long k hk ni ∙ sym (same.others k hk ni (λ e. nj (e ∙ same.tested_station ∙ is_j))))

  one-line : (n ≤ tested w n i l) → turn w n t kind i ≡ set_line n t i mine
  one-line none =
      by_lines n (turn w n t kind i) (set_line n t i mine) (full ∙ long) one-long (λ k hk. pick k hk (ℕ_discrete k i))
    where
      pick : (k : ℕ) → k < n → Dec (k ≡ i) → line n (turn w n t kind i) k ≡ line n (set_line n t i mine) k
      pick k hk (yes e) = rw e (same.tester ∙ sym (line-set_line n t i mine long h mine-long))
      pick k hk (no ni) =
          same.others k hk ni (λ e. absurd (omega (arith, same.tested_station))) ∙ sym (line-set_line-other n t i mine long h mine-long k hk ni)

-- the turn is by lines, an end in itself
pub turn-is-by-lines : TurnIsByLines
unfolding turn_by_lines
turn-is-by-lines w n t kind i z h =
    let a = accepted w n t z in
    let low = (accepted-line w n t a i h).pass.next_low in
    let same = same-turn w n t kind i z h in
    let full = turn-length w n t kind i a.long h low in
    by_bool (makes_test w n t i)
    (λ m.
    let b = tested-below w n t i a.long h m in
    rw (tests-line n t i a.long h w, m)
    (two-lines w n t kind i a.long h same full (tested w n i (line n t i)) (omega (arith, b, same.tested_station)) refl
    (λ e. tested-apart w n t i a.long h m low (sym e ∙ sym same.tested_station))))
    (λ m.
    rw (tests-line n t i a.long h w, m)
    (one-line w n t kind i a.long h same full (omega (arith, none-tested w n t kind i a.long h m, same.tested_station, size_top n a.size))))
