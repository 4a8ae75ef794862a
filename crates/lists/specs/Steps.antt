-- A state after one step for each number.
-- Assumes nothing.
use Rattle.std.specs.Prelude.{ℕ, zero, suc}

-- the state after the steps f 0, f 1, .., f (n − 1), from s
unfoldable pub after_steps {ℓ} : {A : Type ℓ} → (ℕ → A → A) → ℕ → A → A
after_steps f zero s = s
after_steps f (suc n) s = f n (after_steps f n s)
