-- Laws of checks: what one that is passed says, and which refusal stands where a test fails.
-- Assumes nothing.
use mathlib.Core.Path.{◌≡◌, refl}
use mathlib.Core.Bool.{Bool, true, false}
use native.Mathlib.Omega.{arith}
use Rattle.std.specs.Prelude.{Result, Ok, Err}
use Rattle.std.specs.Result.{is_ok}
use Rattle.lists.specs.declared.refusal.Refusal.{Refusal}
use Rattle.lists.specs.Refusal.{number_of, number_of_result, Check, ensure, ◌and◌, unless_refused}

-- a check that is passed
pub check_passed : (c : Check) → is_ok c ≡ true → c ≡ Ok tt
check_passed (Ok x) e = refl
check_passed (Err r) e = cc

-- a check refuses or does not
pub by_check {ℓ} : {P : Type ℓ} (c : Check) → (c ≡ Ok tt → P) → ((r : Refusal) → c ≡ Err r → P) → P
by_check (Ok x) met refused = met refl
by_check (Err r) met refused = refused r refl

pub refused_met : (r : Refusal) → ◌≡◌ {A = Check} (Err r) (Ok tt) → ⊥
refused_met r e = cc

pub ensure_ok : (b : Bool) (r : Refusal) (x : Unit {0}) → ensure b r ≡ Ok x → b ≡ true
ensure_ok true r x e = refl
ensure_ok false r x e = cc

pub and_ok : {A : Type 0} (a : Check) (b : Result A Refusal) (x : A) → (a and b) ≡ Ok x → (a ≡ Ok tt) × (b ≡ Ok x)
and_ok (Ok y) b x e = (refl, e)
and_ok (Err r) b x e = cc

-- a later check matters only where the earlier one refuses nothing
pub and_same : {A : Type 0} (a : Check) (b b' : Result A Refusal) → (a ≡ Ok tt → b ≡ b') → (a and b) ≡ (a and b')
and_same (Ok x) b b' h = h refl
and_same (Err r) b b' h = refl

-- a list of checks that ends with a refusal
pub and_err : (a : Check) (r : Refusal) (x : Unit {0}) → (a and Err r) ≡ Ok x → ⊥
and_err (Ok y) r x e = cc
and_err (Err s) r x e = cc

pub refused_leaves {ℓ} : {A : Type ℓ} (c : Check) (x y : A) → (c ≡ Ok tt → ⊥) → unless_refused c x y ≡ x
refused_leaves (Ok z) x y h = absurd (h refl)
refused_leaves (Err r) x y h = refl
