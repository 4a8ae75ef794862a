-- Laws of Bools, of searches by a test, and of bits.
-- Assumes nothing.
use mathlib.Core.Path.{◌≡◌, refl, sym, ◌∙◌, ap₂}
use mathlib.Core.Bool.{Bool, true, false, cond, not, ◌&&◌, ◌||◌}
use Prim.Native.Nat.{ℕ, zero, suc, ◌+◌, ◌≤◌, ◌<◌}
use native.Mathlib.Omega.{arith}
use Rattle.lists.specs.Search.{least, every}
use Rattle.lists.specs.Sums.{bit}
use Rattle.lists.proofs.SearchLaws.{every-suc, least-suc}

-- a Bool is true or false
pub by_bool : {C : Type 0} (b : Bool) → (b ≡ true → C) → (b ≡ false → C) → C
by_bool true f g = f refl
by_bool false f g = g refl

-- a choice between two that both have P
pub choice : {A : Type 0} (P : A → Type 0) (b : Bool) {x y : A} → P x → P y → P (cond b x y)
choice P true p q = p
choice P false p q = q

-- neither of two
pub neither : (a b : Bool) → (a || b) ≡ false → (a ≡ false) × (b ≡ false)
neither true b e = (e, cc)
neither false b e = (refl, e)

pub bit-split : (a b : Bool) → bit (a && b) + bit (a && not b) ≡ bit a
bit-split true true = refl
bit-split true false = refl
bit-split false b = refl

-- tests that agree on all numbers below n
pub every-same : (q q' : ℕ → Bool) (n : ℕ) → ((k : ℕ) → k < n → q k ≡ q' k) → every q n ≡ every q' n
unfolding every
every-same q q' zero same = refl
every-same q q' (suc n) same =
    every-suc q n ∙ ap₂ ◌&&◌ (every-same q q' n (λ k h. same k (omega arith))) (same n (omega arith)) ∙ sym (every-suc q' n)

-- tests that agree on all numbers that a search may find
pub least-same : (q q' : ℕ → Bool) (n k : ℕ) → ((y : ℕ) → k ≤ y → y < k + n → q y ≡ q' y) → least q n k ≡ least q' n k
unfolding least
least-same q q' zero k same = refl
least-same q q' (suc n) k same =
    least-suc q n k
    ∙ ap₂ (λ (b : Bool) (r : ℕ). cond b k r) (same k (omega arith) (omega arith))
    (least-same q q' n (suc k) (λ y a b. same y (omega arith) (omega arith)))
    ∙ sym (least-suc q' n k)
