-- Laws of the lines of an input: the first line, and the lines after it, by position.
-- Assumes nothing.
use mathlib.Core.Path.{◌≡◌, refl, ap}
use mathlib.Core.Bool.{Bool, true, false, cond}
use mathlib.Core.List.{List, [], ◌∷◌}
use Prim.Native.Nat.{ℕ, suc, ◌≤◌, ◌<◌}
use native.Mathlib.Omega.{arith}
use lib.ListN.{length, take, drop}
use Rattle.input.specs.Input.{is_line_feed, on_first, lines, line_length}

-- a line ends within the input
pub line-within : (l : List ℕ) → line_length l ≤ length l
unfolding line_length
line-within [] = omega arith
line-within (b ∷ rest) = go (is_line_feed b) (line-within rest)
  where
    go : (x : Bool) → line_length rest ≤ length rest → cond x 0 (suc (line_length rest)) ≤ suc (length rest)
    go true h = omega arith
    go false h = omega arith

-- the first line and the others
one_more : (b : ℕ) (l : List ℕ) (x : Bool) → lines l ≡ take (line_length l) l ∷ lines (drop (suc (line_length l)) l)
    → cond x ([] ∷ lines l) (on_first b (lines l))
    ≡ take (cond x 0 (suc (line_length l))) (b ∷ l) ∷ lines (drop (suc (cond x 0 (suc (line_length l)))) (b ∷ l))
unfolding on_first
one_more b l true e = refl
one_more b l false e = ap (on_first b) e

pub lines-first : (l : List ℕ) → 0 < length l → lines l ≡ take (line_length l) l ∷ lines (drop (suc (line_length l)) l)
unfolding lines line_length on_first
lines-first [] h = absurd (omega arith)
lines-first (b ∷ []) h = go (is_line_feed b)
  where
    go : (x : Bool) → cond x ([] ∷ []) ((b ∷ []) ∷ []) ≡ take (cond x 0 1) (b ∷ []) ∷ lines (drop (suc (cond x 0 1)) (b ∷ []))
    go true = refl
    go false = refl
lines-first (b ∷ c ∷ rest) h = one_more b (c ∷ rest) (is_line_feed b) (lines-first (c ∷ rest) (omega arith))
