-- What an example is: a list of numbers that the definitions compute, and the one that is expected.
-- Assumes nothing.
use Rattle.std.specs.Prelude.{◌≡◌, List, map, ℕ}

pub record Example : Type 0 where
  pub computed : List ℕ
  pub expected : List ℕ

abbrev pub expect : List ℕ → List ℕ → Example
expect g s = record { computed = g; expected = s }

-- each example holds
abbrev pub AllHold : List Example → Type 0
AllHold es = map (λ (e : Example). e.computed) es ≡ map (λ (e : Example). e.expected) es
