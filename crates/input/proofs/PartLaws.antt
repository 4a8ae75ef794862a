-- Laws of the lines of an input as the parts between its line feeds.
-- Assumes nothing.
use mathlib.Core.Path.{◌≡◌, refl, sym, ap, ◌∙◌}
use mathlib.Core.Bool.{Bool, true, false, cond}
use mathlib.Core.List.{List, [], ◌∷◌, ◌++◌}
use Prim.Native.Nat.{ℕ, suc, ◌+◌, ◌-◌, ◌<◌}
use native.Mathlib.Omega.{arith}
use native.Mathlib.Numerals.{add-one}
use borrow.Author.Tests.{ne_eqb}
use lib.Dec.{eqb, ltb}
use lib.ListN.{length, drop}
use Rattle.std.specs.Prelude.{Option, None, Some}
use Rattle.std.specs.List.{slice_split, onto_first}
use Rattle.input.specs.Input.{is_line_feed, on_first, lines, entry_in_line, Reading, reading_of, read_entries, read_lines, digits_value}

abbrev pub parts : List ℕ → List (List ℕ)
parts t = slice_split is_line_feed t

-- the parts of a text are the lines of the text and a line feed
pub parts-feed : (t : List ℕ) → parts t ≡ lines (t ++ (10 ∷ []))
unfolding lines on_first
parts-feed [] = refl
parts-feed (b ∷ t) = go (is_line_feed b) (parts t) (lines (t ++ (10 ∷ []))) (parts-feed t)
  where
    go : (x : Bool) (ps ls : List (List ℕ)) → ps ≡ ls → cond x ([] ∷ ps) (onto_first b ps) ≡ cond x ([] ∷ ls) (on_first b ls)
    go true ps ls e = ap (λ (r : List (List ℕ)). [] ∷ r) e
    go false [] ls e = rw (← e)
    go false (p ∷ ps) ls e = rw (← e)

-- an input that ends without a line feed has the lines that it has with one more
pub lines-fed : (l : List ℕ) → 0 < length l → (drop (length l - 1) l ≡ 10 ∷ [] → ⊥) → lines (l ++ (10 ∷ [])) ≡ lines l
unfolding lines on_first
lines-fed [] h n = absurd (omega arith)
lines-fed (b ∷ []) h n = let e : eqb b 10 ≡ false = ne_eqb b 10 (λ (z : b ≡ 10). n (rw z)) in rw (e)
lines-fed (b ∷ c ∷ r) h n =
    let d : suc (suc (length r)) - 1 ≡ suc (suc (length r) - 1) = omega arith in
    ap (λ (ls : List (List ℕ)). cond (is_line_feed b) ([] ∷ ls) (on_first b ls)) (lines-fed (c ∷ r) (omega arith) (λ z. n (rw d z)))

-- reading the parts
module _ (room n k : ℕ) (s line : List ℕ) (ls : List (List ℕ)) (o : Option (ℕ × ℕ)) (told : o ≡ cond (ltb k room) (entry_in_line line) None) where
  pub part-stop : o ≡ None → read_entries room n k s (line ∷ ls) ≡ reading_of (k + 2) n k s
  unfolding read_entries
  part-stop z = rw (← told, z)

  pub part-next : (x y : ℕ) → o ≡ Some (x, y) → read_entries room n k s (line ∷ ls) ≡ read_entries room n (k + 1) (s ++ (x ∷ y ∷ [])) ls
  unfolding read_entries
  part-next x y z = rw (← told, z, add-one)

-- of a whole reading that goes on like this behind k lines: the next line is no entry or has no room, or it is one
module _ (room n k : ℕ) (s line : List ℕ) (ls : List (List ℕ)) (whole : Reading) (o : Option (ℕ × ℕ))
    (on : read_entries room n k s (drop k ls) ≡ whole) (cut : drop k ls ≡ line ∷ drop (k + 1) ls)
    (told : o ≡ cond (ltb k room) (entry_in_line line) None) where
  pub read-stop : o ≡ None → whole ≡ reading_of (k + 2) n k s
  read-stop z = sym on ∙ ap (read_entries room n k s) cut ∙ part-stop room n k s line (drop (k + 1) ls) o told z

  pub read-next : (x y : ℕ) → o ≡ Some (x, y) → read_entries room n (k + 1) (s ++ (x ∷ y ∷ [])) (drop (k + 1) ls) ≡ whole
  read-next x y z = sym (part-next room n k s line (drop (k + 1) ls) o told x y z) ∙ sym (ap (read_entries room n k s) cut) ∙ on

pub parts-unsized : (room : ℕ) (l : List ℕ) (ls : List (List ℕ)) → digits_value 3 l ≡ None → read_lines room (l ∷ ls) ≡ reading_of 1 0 0 []
unfolding read_lines
parts-unsized room l ls z = rw z

pub parts-sized : (room n : ℕ) (l : List ℕ) (ls : List (List ℕ)) → digits_value 3 l ≡ Some n → read_lines room (l ∷ ls) ≡ read_entries room n 0 [] ls
unfolding read_lines
parts-sized room n l ls z = rw z

pub parts-some : (t : List ℕ) → 0 < length (parts t)
parts-some [] = omega arith
parts-some (b ∷ t) = go (is_line_feed b) (parts t) (parts-some t)
  where
    go : (x : Bool) (ps : List (List ℕ)) → 0 < length ps → 0 < length (cond x ([] ∷ ps) (onto_first b ps))
    go true ps h = omega arith
    go false [] h = omega arith
    go false (p ∷ ps) h = omega arith

-- the parts of a text are the lines of an input that has a line feed more, or that is the text
pub parts-fed : (t l : List ℕ) → l ≡ t ++ (10 ∷ []) → parts t ≡ lines l
parts-fed t l e = rw e (parts-feed t)

pub parts-same : (l : List ℕ) → 0 < length l → (drop (length l - 1) l ≡ 10 ∷ [] → ⊥) → parts l ≡ lines l
parts-same l h n = parts-feed l ∙ lines-fed l h n
