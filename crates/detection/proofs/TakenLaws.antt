-- Laws of the lists of taken entries, at the end of a list.
-- Assumes nothing.
use mathlib.Core.Path.{◌≡◌, refl}
use mathlib.Core.Bool.{Bool, true, false}
use mathlib.Core.List.{List, [], ◌∷◌, ◌++◌}
use Prim.Native.Nat.{ℕ, suc, ◌+◌, ◌-◌, ◌≤◌}
use native.Mathlib.Omega.{arith}
use borrow.Author.Tests.{ne_eqb}
use lib.Dec.{eqb}
use Rattle.plant.specs.Entry.{Entry, State}
use Rattle.lists.specs.Sums.{bit}
use Rattle.detection.specs.Runs.{Taken, is_turn_of, finishes}
use Rattle.detection.specs.Rounds.{any_taken, count_taken, turns_in, nth_turn_finishes}
use Rattle.lists.proofs.BoolLaws.{by_bool}
use Rattle.table.specs.declared.wiring.Wiring.{Wiring}

-- an entry as it is taken
abbrev pub taken_at : Wiring → ℕ → State → Entry → Taken
taken_at w n s e = record { wiring = w; size = n; before = s; entry = e }

-- whether any entry passes q, where at most one does
pub any-one : (q : Taken → Bool) (xs : List Taken) → count_taken q xs ≤ 1 → any_taken q xs ≡ eqb (count_taken q xs) 1
unfolding any_taken count_taken
any-one q [] h = refl
any-one q (x ∷ xs) h =
    by_bool (q x)
    (λ e. let z : count_taken q xs ≡ 0 = omega (arith, rw e at h) in rw (e, z))
    (λ e. let z : 0 + count_taken q xs ≡ count_taken q xs = omega arith in rw (e, z) (any-one q xs (omega (arith, rw e at h))))

-- how many entries of the longer list pass q
pub count-snoc : (q : Taken → Bool) (xs : List Taken) (x : Taken) → count_taken q (xs ++ (x ∷ [])) ≡ count_taken q xs + bit (q x)
unfolding count_taken
count-snoc q [] x = omega arith
count-snoc q (y ∷ xs) x = omega (arith, count-snoc q xs x)

-- a turn of i behind k turns of i is the next one
pub nth-snoc-turn : (i : ℕ) (xs : List Taken) (x : Taken) → is_turn_of i x ≡ true
    → nth_turn_finishes i (suc (turns_in i xs)) (xs ++ (x ∷ [])) ≡ finishes x
unfolding nth_turn_finishes count_taken
nth-snoc-turn i [] x e = rw e
nth-snoc-turn i (y ∷ xs) x e =
    let k : ℕ = turns_in i xs in
    by_bool (is_turn_of i y)
    (λ b.
    let less : suc (1 + k) - 1 ≡ suc k = omega arith in
    rw (b, ne_eqb (suc (1 + k)) 1 (λ q. omega arith), less) (nth-snoc-turn i xs x e))
    (λ b. let same : 0 + k ≡ k = omega arith in rw (b, same) (nth-snoc-turn i xs x e))

-- what is no turn of i at the end leaves the turns of i
pub nth-snoc-other : (i k : ℕ) (xs : List Taken) (x : Taken) → is_turn_of i x ≡ false
    → nth_turn_finishes i k (xs ++ (x ∷ [])) ≡ nth_turn_finishes i k xs
unfolding nth_turn_finishes
nth-snoc-other i k [] x e = rw e
nth-snoc-other i k (y ∷ xs) x e = rw (nth-snoc-other i k xs x e, nth-snoc-other i (k - 1) xs x e)
