-- The definition of specs/Steps in the shapes in which a loop that counts up asks for it: where it begins, after a turn, where it is left.
-- Assumes nothing.
use mathlib.Core.Path.{◌≡◌, refl, ap, ◌∙◌}
use Prim.Native.Nat.{ℕ, ◌+◌, ◌≤◌}
use native.Mathlib.Nat.{le_antisymm}
use native.Mathlib.Numerals.{add-one}
use Rattle.lists.specs.Steps.{after_steps}

pub after_steps-start {ℓ} : {A : Type ℓ} (f : ℕ → A → A) (s : A) → s ≡ after_steps f 0 s
unfolding after_steps
after_steps-start f s = refl

pub after_steps-next {ℓ} : {A : Type ℓ} (f : ℕ → A → A) (k : ℕ) (s t u : A) → t ≡ after_steps f k s → u ≡ f k t → u ≡ after_steps f (k + 1) s
unfolding after_steps
after_steps-next f k s t u e g = rw add-one (g ∙ ap (f k) e)

pub after_steps-done {ℓ} : {A : Type ℓ} (f : ℕ → A → A) (n k : ℕ) (s t : A) → t ≡ after_steps f k s → k ≤ n → n ≤ k → t ≡ after_steps f n s
after_steps-done f n k s t e a b = e ∙ ap (λ (x : ℕ). after_steps f x s) (le_antisymm a b)
