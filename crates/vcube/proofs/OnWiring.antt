-- What a call by a wiring's number is, where there is such a wiring and where there is none.
-- Assumes nothing.
use mathlib.Core.Path.{◌≡◌, refl}
use Prim.Native.Nat.{ℕ}
use Rattle.std.specs.Prelude.{Result, Ok, Err, IfOk}
use Rattle.lists.specs.declared.refusal.Refusal.{Refusal}
use Rattle.table.specs.Wiring.{wiring_of}
use Rattle.table.specs.declared.wiring.Wiring.{Wiring}
use Rattle.vcube.specs.Exports.{on_wiring}

pub on_known {ℓ} : {A : Type ℓ} (number : ℕ) (refused : A) (call : Wiring → A) (w : Wiring) → Ok w ≡ wiring_of number
    → on_wiring number refused call ≡ call w
unfolding on_wiring
on_known number refused call w e = rw (← e) refl

pub on_none {ℓ} : {A : Type ℓ} (number : ℕ) (refused : A) (call : Wiring → A) (r : Refusal) → Err r ≡ wiring_of number
    → on_wiring number refused call ≡ refused
unfolding on_wiring
on_none number refused call r e = rw (← e) refl

-- what holds of the wiring that there is
pub of_wiring : {x : Result Wiring Refusal} {w : Wiring} (P : Wiring → Type 0) → Ok w ≡ x → P w → IfOk x P
of_wiring P e p = rw (← e) p

pub ruleset on_each = (on_known, on_none)
