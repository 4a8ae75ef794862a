-- The program's buffer decides every input: what comes of the first 20,490 bytes is what comes of the whole input.
-- Assumes nothing.
use mathlib.Core.Path.{◌≡◌, refl, ◌∙◌}
use mathlib.Core.Bool.{Bool, true, false, cond}
use mathlib.Core.List.{List, [], ◌∷◌, ◌++◌}
use Rattle.std.specs.Prelude.{Option, None, Some}
use Prim.Native.Nat.{ℕ, zero, suc, ◌+◌, ◌*◌, ◌-◌, ◌≤◌, ◌<◌, min}
use native.Mathlib.Omega.{arith}
use native.Mathlib.Decide.{dec_lt}
use lib.Dec.{ltb}
use lib.ListN.{length, take, drop, length-take}
use lib.Seq.{take-take, take-nil, take_at}
use Rattle.table.specs.declared.wiring.Wiring.{Wiring}
use Rattle.input.specs.Input.{given, is_line_feed, lines, line_length, size_of, entry_in_line, Reading, reading_of, read_entries, read_lines}
use Rattle.input.specs.Input.{read_up_to}
use Rattle.watch.specs.Watched.{watched, deciding}
use Rattle.input.proofs.LineLaws.{line-within, lines-first}
use Rattle.input.proofs.NumberLaws.{number-has}
use Rattle.input.proofs.ReadLaws.{taken-has}

-- lines of an input that is cut after m bytes
cut_line : (m : ℕ) (l : List ℕ) → line_length (take m l) ≡ min (line_length l) m
unfolding line_length
cut_line zero l = omega arith
cut_line (suc m) [] = omega arith
cut_line (suc m) (b ∷ l) = go (is_line_feed b) (cut_line m l)
  where
    go : (x : Bool) → line_length (take m l) ≡ min (line_length l) m
        → cond x 0 (suc (line_length (take m l))) ≡ min (cond x 0 (suc (line_length l))) (suc m)
    go true e = omega arith
    go false e = omega arith

drop-take : (i m : ℕ) (l : List ℕ) → drop i (take m l) ≡ take (m - i) (drop i l)
drop-take zero m l = let e : m - 0 ≡ m = omega arith in rw e
drop-take (suc i) zero l = let e : 0 - suc i ≡ 0 = omega arith in rw e
drop-take (suc i) (suc m) [] = rw (take-nil)
drop-take (suc i) (suc m) (b ∷ l) = let e : suc m - suc i ≡ m - i = omega arith in rw e (drop-take i m l)

-- the lines of the cut input, where the first line ends before the cut
module _ (m : ℕ) (l : List ℕ) (h : 0 < length l) (in_cut : line_length l < m) where
  cut-lines : lines (take m l) ≡ take (line_length l) l ∷ lines (take (m - suc (line_length l)) (drop (suc (line_length l)) l))
  cut-lines =
      let e : line_length (take m l) ≡ line_length l = omega (arith, cut_line m l) in
      let p : 0 < length (take m l) = rw length-take (omega arith) in
      lines-first (take m l) p ∙ rw (e, take-take (line_length l) m l (omega arith), drop-take) refl

-- a first line that is cut is unreadable, cut or not
module _ (m : ℕ) (l : List ℕ) (out : m ≤ line_length l) where
  cut-long : length (take (line_length (take m l)) (take m l)) ≡ m
  cut-long = let w = line-within l in let c = cut_line m l in rw (length-take, length-take) (omega arith)

  whole_long : m ≤ length (take (line_length l) l)
  whole_long = let w = line-within l in rw length-take (omega arith)

-- what is read after a value goes by the value
given-same : {A : Type 0} (o : Option A) (f g : A → Reading) (r : Reading) → ((a : A) → o ≡ Some a → f a ≡ g a) → given o f r ≡ given o g r
given-same None f g r same = refl
given-same (Some a) f g r same = same a refl

-- lines that are read so, and only where they have at most `most` bytes
module _ {A : Type 0} (read : List ℕ → Option A) (most : ℕ) (short : (l : List ℕ) (a : A) → read l ≡ Some a → length l ≤ most) where
  long-none : (l : List ℕ) → most < length l → read l ≡ None
  long-none l h = go (read l) (short l)
    where
      go : (o : Option A) → ((a : A) → o ≡ Some a → length l ≤ most) → o ≡ None
      go None f = refl
      go (Some a) f = let g = f a refl in absurd (omega arith)

  -- an input whose first line is read so, cut after m bytes, where what follows that line may be cut
  module _ (m : ℕ) (enough : most < m) (next : A → List (List ℕ) → Reading) (stop : Reading) (all : List (List ℕ) → Reading)
      (first : (l : List ℕ) (ls : List (List ℕ)) → all (l ∷ ls) ≡ given (read l) (λ a. next a ls) stop)
      (on : (l : List ℕ) (a : A) (r : List ℕ) (i : ℕ) → read l ≡ Some a → m ≤ i + suc most
      → next a (lines (take i r)) ≡ next a (lines r)) where
    pick : (l : List ℕ) → 0 < length l → Dec (line_length l < m) → all (lines (take m l)) ≡ all (lines l)
    pick l h (yes p) =
        let w = line-within l in
        let q : length (take (line_length l) l) ≡ line_length l = rw length-take (omega arith) in
        rw (cut-lines m l h p, lines-first l h, first, first)
        (given-same (read (take (line_length l) l)) _ _ _
        (λ a t. on _ a _ (m - suc (line_length l)) t (omega (arith, q, short (take (line_length l) l) a t))))
    pick l h (no p) =
        let w = line-within l in
        let o : m ≤ line_length l = omega arith in
        let c = cut-long m l o in
        let d = whole_long m l o in
        rw (
          lines-first (take m l) (rw length-take (omega arith)),
          lines-first l h,
          first,
          first,
          long-none (take (line_length (take m l)) (take m l)) (omega arith),
          long-none (take (line_length l) l) (omega arith),
        )

    cut-first : (l : List ℕ) → all (lines (take m l)) ≡ all (lines l)
    cut-first [] = rw take-nil
    cut-first (x ∷ l) = pick (x ∷ l) (omega arith) (dec_lt (line_length (x ∷ l)) m)

-- one entry, where those after it may be cut
cut-entry : (room n k m : ℕ) (s : List ℕ) → 4 < m
    → ((e r : List ℕ) (i : ℕ) → k < room → m ≤ i + 5
    → read_entries room n (suc k) (s ++ e) (lines (take i r)) ≡ read_entries room n (suc k) (s ++ e) (lines r))
    → (l : List ℕ) → read_entries room n k s (lines (take m l)) ≡ read_entries room n k s (lines l)
unfolding read_entries
cut-entry room n k m s h on =
    cut-first (λ l. cond (ltb k room) (entry_in_line l) None) 4 (λ l e t. (taken-has k room l e t).1)
    m h (λ e. read_entries room n (suc k) (s ++ (e.0 ∷ e.1 ∷ []))) (reading_of (k + 2) n k s) (read_entries room n k s) (λ l ls. refl)
    (λ l e r i t. on (e.0 ∷ e.1 ∷ []) r i (taken-has k room l e t).0)

-- five bytes for each entry that there is room for, and six more
cut-entries : (f room n k m : ℕ) (s l : List ℕ) → room ≤ k + f → 5 * f + 6 ≤ m
    → read_entries room n k s (lines (take m l)) ≡ read_entries room n k s (lines l)
cut-entries zero room n k m s l a b = cut-entry room n k m s (omega arith) (λ e r i t h. absurd (omega arith)) l
cut-entries (suc f) room n k m s l a b =
    cut-entry room n k m s (omega arith) (λ e r i t h. cut-entries f room n (suc k) i (s ++ e) r (omega arith) (omega arith)) l

-- the size's line takes four bytes more
cut-input : (room m : ℕ) (l : List ℕ) → 5 * room + 10 ≤ m → read_up_to room (take m l) ≡ read_up_to room l
unfolding read_up_to read_lines
cut-input room m l b =
    cut-first size_of 3 (λ l n t. (number-has 3 l n t).0)
    m (omega arith) (λ n. read_entries room n 0 []) (reading_of 1 0 0 []) (read_lines room) (λ l ls. refl)
    (λ _ n r i _ h. cut-entries room room n 0 i [] r (omega arith) (omega arith)) l

-- what the program answers
program-watches : (wiring : Wiring) (lent input : List ℕ) → watched wiring lent (take deciding input) ≡ watched wiring lent input
unfolding watched
program-watches wiring lent input = rw (cut-input 4096 deciding input (omega arith))

-- the same of an input that goes on behind these bytes
pub decided : (wiring : Wiring) (lent input rest : List ℕ) → length input ≡ deciding → watched wiring lent input ≡ watched wiring lent (input ++ rest)
decided wiring lent input rest n = rw (take_at input rest deciding n) at (program-watches wiring lent (input ++ rest))
