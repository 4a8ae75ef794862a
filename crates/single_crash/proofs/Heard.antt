-- Where a suspicion comes from that a board has after a test, where no live board suspects a live one.
-- Assumes nothing.
use mathlib.Core.Path.{◌≡◌}
use mathlib.Core.Logic.{by_cases}
use mathlib.Core.Bool.{Bool, true, false, ◌&&◌, and-false}
use mathlib.Core.List.{List}
use Prim.Native.Nat.{ℕ, max}
use native.Mathlib.Decide.{ℕ_discrete}
use native.Mathlib.Omega.{arith}
use borrow.Author.Tests.{eq-eqb, ne_eqb, eqb-true}
use lib.Dec.{eqb}
use Rattle.lists.proofs.BoolLaws.{by_bool}
use Rattle.lists.proofs.SearchLaws.{both}
use Rattle.table.specs.Table.{suspects}
use Rattle.witness.proofs.Moves.{byte_after}

-- board k had the suspicion of z; or it is i, which tested z; or it is one of i and x, the board that i tested, and the other one had it
pub data Heard (n : ℕ) (t : List ℕ) (i x k z : ℕ) : Type 0 where
  had : suspects n t k z ≡ 1 → Heard n t i x k z
  found : k ≡ i → z ≡ x → Heard n t i x k z
  told_by_tester : k ≡ x → suspects n t i z ≡ 1 → Heard n t i x k z
  told_by_tested : k ≡ i → suspects n t x z ≡ 1 → Heard n t i x k z

-- by the byte that the test leaves
pub heard : (n : ℕ) (t : List ℕ) (l : Bool) (i x k z : ℕ) → byte_after l (suspects n t) i x k z ≡ 1 → Heard n t i x k z
heard n t true i x k z one =
    by_cases (ℕ_discrete (suspects n t k z) 1) had
    (λ no.
    by_bool (eqb z k)
    (λ own. absurd (no (rw (own, and-false) at one)))
    (λ own.
    by_cases (ℕ_discrete k i)
    (λ a.
    let most : max (suspects n t i z) (suspects n t x z) ≡ 1 = rw (own, eq-eqb k i a) at one in
    told_by_tested a (omega (arith, rw a at no)))
    (λ a. by_cases (ℕ_discrete k x)
    (λ c.
    let most : max (suspects n t i z) (suspects n t x z) ≡ 1 = rw (own, ne_eqb k i a, eq-eqb k x c) at one in
    told_by_tester c (omega (arith, rw c at no)))
    (λ c. absurd (no (rw (ne_eqb k i a, ne_eqb k x c) at one))))))
heard n t false i x k z one =
    by_bool (eqb k i && eqb z x)
    (λ e. let at = both (eqb k i) (eqb z x) e in found (eqb-true k i at.0) (eqb-true z x at.1))
    (λ e. had (rw e at one))
