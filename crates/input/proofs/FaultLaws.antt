-- Laws of what is wrong in a line, by the line's place.
-- Assumes nothing.
use mathlib.Core.Path.{◌≡◌, refl}
use mathlib.Core.Bool.{false}
use mathlib.Core.List.{List, [], ◌∷◌}
use Prim.Native.Nat.{ℕ, zero, suc, ◌+◌, ◌-◌}
use native.Mathlib.Omega.{arith}
use borrow.Author.Tests.{ne_eqb}
use lib.Dec.{eqb}
use lib.ListN.{length, get_or, drop}
use Rattle.input.specs.Input.{lines, read_lines, read_up_to, reading_of}
use Rattle.input.specs.Fault.{fault_with, size_fault, further_fault, fault_in}
use Rattle.input.specs.declared.fault.Found.{Found}
use Rattle.input.specs.declared.fault.Expected.{Expected}

-- the line behind k others
behind : (k : ℕ) (ls : List (List ℕ)) (l : List ℕ) (rest : List (List ℕ)) → drop k ls ≡ l ∷ rest → get_or ls k [] ≡ l
behind zero [] l rest e = cc
behind (suc k) [] l rest e = cc
behind zero (m ∷ ls) l rest e = cc
behind (suc k) (m ∷ ls) l rest e = behind k ls l rest e

-- an input of no bytes
pub read_nothing : (input : List ℕ) (room : ℕ) → length input ≡ 0 → read_up_to room input ≡ reading_of 1 0 0 []
unfolding read_up_to read_lines lines
read_nothing [] room e = refl
read_nothing (b ∷ l) room e = absurd (omega arith)

pub fault_nothing : (input : List ℕ) → length input ≡ 0 → fault_in 1 (lines input) ≡ fault_with Found.NoInput Expected.Size
unfolding fault_in lines
fault_nothing [] e = refl
fault_nothing (b ∷ l) e = absurd (omega arith)

pub fault-first : (ls : List (List ℕ)) (l : List ℕ) (rest : List (List ℕ)) → ls ≡ l ∷ rest → fault_in 1 ls ≡ size_fault l
unfolding fault_in
fault-first ls l rest e = rw e

pub fault-further : (k : ℕ) (ls : List (List ℕ)) (l : List ℕ) (rest : List (List ℕ)) (first : List ℕ) → ls ≡ first ∷ drop 1 ls
    → drop k (drop 1 ls) ≡ l ∷ rest → fault_in (k + 2) ls ≡ further_fault l
unfolding fault_in
fault-further k ls l rest first e f =
    let other : eqb (k + 2) 1 ≡ false = ne_eqb (k + 2) 1 (λ (z : k + 2 ≡ 1). omega arith) in
    let place : k + 2 - 1 ≡ suc k = omega arith in
    let line = behind k (drop 1 ls) l rest f in
    rw (e, other, place, line)
