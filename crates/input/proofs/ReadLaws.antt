-- Laws of reading the entries of an input, from a position on, and of the bytes of an entry in a schedule.
-- Assumes nothing.
use mathlib.Core.Path.{◌≡◌, refl, sym, ap, ◌∙◌}
use mathlib.Core.Bool.{Bool, true, false, cond}
use mathlib.Core.List.{List, [], ◌∷◌, ◌++◌}
use Rattle.std.specs.Prelude.{Option, None, Some, option_and_then, option_map, Err}
use Prim.Native.Nat.{ℕ, suc, ◌+◌, ◌*◌, ◌-◌, ◌≤◌, ◌<◌}
use native.Mathlib.Omega.{arith}
use borrow.Author.Tests.{eq-eqb, ne_eqb, ltb-true}
use lib.Dec.{ltb, eqb}
use lib.ListN.{length, get_or, take, drop, length-append, take-append-drop}
use lib.Seq.{take_all, drop-drop, length-take-le, sets}
use Rattle.input.specs.Input.{given, lines, digits_from, digits_value, size_of, kind_of, entry_in_line, Reading, reading_of, read_entries}
use Rattle.input.specs.Input.{read_lines, read_up_to}
use Rattle.input.specs.Fault.{fault_in, parsed_of}
use Rattle.input.specs.declared.fault.Fault.{Fault}
use Rattle.input.proofs.NumberLaws.{number-has}
use Rattle.lists.proofs.Writing.{sets-front}

-- the entry of a line by the line's bytes
pub entry_short : (l : List ℕ) → length l < 2 → entry_in_line l ≡ None
unfolding entry_in_line
entry_short [] h = refl
entry_short (a ∷ []) h = refl
entry_short (a ∷ b ∷ l) h = absurd (omega arith)

pub entry_unspaced : (l : List ℕ) → 2 ≤ length l → (get_or l 1 0 ≡ 32 → ⊥) → entry_in_line l ≡ None
unfolding entry_in_line
entry_unspaced [] h n = absurd (omega arith)
entry_unspaced (a ∷ []) h n = absurd (omega arith)
entry_unspaced (a ∷ b ∷ l) h n = rw (ne_eqb b 32 n)

pub entry_spaced : (l : List ℕ) → 2 ≤ length l → get_or l 1 0 ≡ 32
    → entry_in_line l
    ≡ option_and_then (λ kind. option_map (λ station. (kind, station)) (digits_value 2 (take (length l - 2) (drop 2 l)))) (kind_of (get_or l 0 0))
unfolding entry_in_line
entry_spaced [] h s = absurd (omega arith)
entry_spaced (a ∷ []) h s = absurd (omega arith)
entry_spaced (a ∷ b ∷ l) h s = let e : take (suc (suc (length l)) - 2) l ≡ l = take_all _ l (omega arith) in rw (eq-eqb b 32 s, e)

-- what `read_entry` needs of them
pub ruleset entry_read = (entry_short, entry_unspaced, entry_spaced)

-- an entry's line is short
entry_has : (l : List ℕ) (e : ℕ × ℕ) → entry_in_line l ≡ Some e → length l ≤ 4
unfolding entry_in_line
entry_has [] e p = omega arith
entry_has (a ∷ []) e p = omega arith
entry_has (a ∷ b ∷ l) e p = go (eqb b 32) (kind_of a) (digits_value 2 l) (number-has 2 l) p
  where
    go : (x : Bool) (k o : Option ℕ) → ((v : ℕ) → o ≡ Some v → (length l ≤ 2) × (digits_from 0 l ≡ Some v))
        → cond x (option_and_then (λ kind. option_map (λ station. (kind, station)) o) k) None ≡ Some e → suc (suc (length l)) ≤ 4
    go true (Some k) (Some v) f p = let h = f v refl in omega arith
    go true (Some k) None f p = cc
    go true None o f p = cc
    go false k o f p = cc

-- so too where it is read only if there is room for one more
pub taken-has : (k room : ℕ) (l : List ℕ) (e : ℕ × ℕ) → cond (ltb k room) (entry_in_line l) None ≡ Some e → (k < room) × (length l ≤ 4)
taken-has k room l e = go (ltb k room) refl
  where
    go : (b : Bool) → ltb k room ≡ b → cond b (entry_in_line l) None ≡ Some e → (k < room) × (length l ≤ 4)
    go true t p = (ltb-true k room t, entry_has l e p)
    go false t p = cc

-- what stands after k + 1 entries is as it was
pub rest-kept : (k : ℕ) (s s' s₀ : List ℕ) → drop (2 * k + 2) s' ≡ drop (2 * k + 2) s → drop (2 * k) s ≡ drop (2 * k) s₀
    → drop (2 * (k + 1)) s' ≡ drop (2 * (k + 1)) s₀
rest-kept k s s' s₀ e f =
    let d : 2 * (k + 1) ≡ 2 * k + 2 = omega arith in
    rw d (e ∙ sym (drop-drop 2 (2 * k) s) ∙ ap (drop 2) f ∙ drop-drop 2 (2 * k) s₀)

-- there are no more entries than there is room for, and each has two bytes
pub record ReadFits (room : ℕ) (r : Reading) : Type 0 where
  pub within : r.entries ≤ room
  pub pairs : length r.schedule ≡ 2 * r.entries

entries_fit : (room n k : ℕ) (s : List ℕ) (ls : List (List ℕ)) → k ≤ room → length s ≡ 2 * k → ReadFits room (read_entries room n k s ls)
unfolding read_entries
entries_fit room n k s [] h p = record { within = h; pairs = p }
entries_fit room n k s (l ∷ ls) h p =
    go (cond (ltb k room) (entry_in_line l) None) _ (taken-has k room l)
    (λ e w. entries_fit room n (suc k) (s ++ (e.0 ∷ e.1 ∷ [])) ls w (simp length-append (omega arith)))
  where
    go : (o : Option (ℕ × ℕ)) (next : ℕ × ℕ → Reading) → ((e : ℕ × ℕ) → o ≡ Some e → (k < room) × (length l ≤ 4))
        → ((e : ℕ × ℕ) → suc k ≤ room → ReadFits room (next e)) → ReadFits room (given o next (reading_of (k + 2) n k s))
    go None next f on = record { within = h; pairs = p }
    go (Some e) next f on = on e (f e refl).0

pub read_fits : (room : ℕ) (l : List ℕ) → ReadFits room (read_up_to room l)
unfolding read_up_to read_lines
read_fits room l = go (lines l)
  where
    pick : (o : Option ℕ) (ls : List (List ℕ)) → ReadFits room (given o (λ n. read_entries room n 0 [] ls) (reading_of 1 0 0 []))
    pick None ls = record { within = omega arith; pairs = refl }
    pick (Some n) ls = entries_fit room n 0 [] ls (omega arith) refl

    go : (ls : List (List ℕ)) → ReadFits room (read_lines room ls)
    go [] = record { within = omega arith; pairs = refl }
    go (l ∷ ls) = pick (size_of l) ls

-- a schedule whose first k entries are written
pub sets-part : (s s₀ : List ℕ) (a : ℕ) → a ≤ length s → length s ≡ length s₀ → drop a s ≡ drop a s₀ → s ≡ sets s₀ 0 (take a s)
sets-part s s₀ a h long e =
    let len : length (take a s) ≡ a = length-take-le a s h in
    rw (sets-front s₀ (take a s) (omega arith), len, ← e) (sym (take-append-drop a s))

-- what is answered where the line of entry k is unreadable
pub answer_stop : (input : List ℕ) (n k : ℕ) (s : List ℕ) (f : Fault) → f ≡ fault_in (k + 2) (lines input)
    → Err (record { line = k + 2; fault = f; before = record { size = n; entries = k } }) ≡ parsed_of input (reading_of (k + 2) n k s)
answer_stop input n k s f told = let e : eqb (k + 2) 0 ≡ false = ne_eqb (k + 2) 0 (λ (z : k + 2 ≡ 0). omega arith) in rw (e, told)
