-- The list of the entries that the master has made: what stands where in it, and the table after a part of it.
-- Assumes nothing.
use mathlib.Core.Path.{◌≡◌, refl, sym, ap}
use mathlib.Core.Logic.{◌⊎◌, inl, inr, ⊎_elim}
use mathlib.Core.List.{List, [], ◌∷◌, ◌++◌}
use Prim.Native.Nat.{ℕ, zero, suc, ◌≤◌}
use native.Mathlib.Omega.{arith}
use lib.ListN.{length, take}
use Rattle.std.specs.Prelude.{Ok, Some, slice_get}
use Rattle.std.proofs.lemmas.Option.{same_Some, none-some}
use Rattle.std.proofs.lemmas.List.{take-append-le}
use Rattle.table.proofs.Accepting.{Accepted}
use Rattle.table.specs.declared.wiring.Wiring.{Wiring}
use Rattle.plant.specs.Entry.{Entry, State, entry_check, after}
use Rattle.plant.proofs.RulesKept.{accepted-kept}
use Rattle.in_step.specs.System.{after_all, table_at}

-- one more at the end of a list
pub get-snoc : {A : Type 0} (xs : List A) (x : A) (m : ℕ) (y : A) → slice_get (xs ++ (x ∷ [])) m ≡ Some y
    → (slice_get xs m ≡ Some y) ⊎ ((m ≡ length xs) × (x ≡ y))
get-snoc [] x zero y e = inr (refl, same_Some x y e)
get-snoc [] x (suc m) y e = absurd (none-some y e)
get-snoc (a ∷ xs) x zero y e = inl e
get-snoc (a ∷ xs) x (suc m) y e =
    ⊎_elim (λ (q : slice_get xs m ≡ Some y). inl q) (λ (q : (m ≡ length xs) × (x ≡ y)). inr (omega (arith, q.0), q.1)) (get-snoc xs x m y e)

-- and at its head
pub cons-all : {A : Type 0} (P : A → Type 0) (x : A) (xs : List A) → P x → ((k : ℕ) (a : A) → slice_get xs k ≡ Some a → P a)
    → (k : ℕ) (a : A) → slice_get (x ∷ xs) k ≡ Some a → P a
cons-all P x xs p all zero a e = rw (sym (same_Some x a e)) p
cons-all P x xs p all (suc k) a e = all k a e

module _ (w : Wiring) (n : ℕ) where
  pub after_all-snoc : (s : State) (es : List Entry) (e : Entry) → after_all w n s (es ++ (e ∷ [])) ≡ after w n (after_all w n s es) e
  unfolding after_all
  after_all-snoc s [] e = refl
  after_all-snoc s (x ∷ es) e = after_all-snoc (after w n s x) es e

  -- the table after m entries is not changed by more
  pub table-kept : (s : State) (es : List Entry) (e : Entry) (m : ℕ) → m ≤ length es
      → table_at w n s (es ++ (e ∷ [])) m ≡ table_at w n s es m
  table-kept s es e m h = ap (λ (xs : List Entry). (after_all w n s xs).table) (take-append-le m es (e ∷ []) h)

  -- the state after one more
  pub at-next : (s : State) (es : List Entry) (m : ℕ) (e : Entry) → slice_get es m ≡ Some e
      → after_all w n s (take (suc m) es) ≡ after w n (after_all w n s (take m es)) e
  unfolding after_all
  at-next s [] m e g = absurd (none-some e g)
  at-next s (x ∷ es) zero e g = ap (after w n s) (same_Some x e g)
  at-next s (x ∷ es) (suc m) e g = at-next (after w n s x) es m e g

  -- entries that a run takes
  abbrev pub Taken : State → List Entry → Type 0
  Taken s [] = Unit {0}
  Taken s (e ∷ es) = (entry_check n s e ≡ Ok tt) × Taken (after w n s e) es

  pub taken-snoc : (s : State) (es : List Entry) (e : Entry) → Taken s es → entry_check n (after_all w n s es) e ≡ Ok tt → Taken s (es ++ (e ∷ []))
  unfolding after_all
  taken-snoc s [] e t z = (z, tt)
  taken-snoc s (x ∷ es) e t z = (t.0, taken-snoc (after w n s x) es e t.1 z)

  pub taken-at : (s : State) (es : List Entry) → Taken s es → (m : ℕ) (e : Entry) → slice_get es m ≡ Some e
      → entry_check n (after_all w n s (take m es)) e ≡ Ok tt
  unfolding after_all
  taken-at s [] t m e g = absurd (none-some e g)
  taken-at s (x ∷ es) t zero e g = rw (sym (same_Some x e g)) t.0
  taken-at s (x ∷ es) t (suc m) e g = taken-at (after w n s x) es t.1 m e g

  -- the rules are kept
  pub accepted-at : (s : State) (es : List Entry) → Accepted w n s.table → Taken s es → (m : ℕ) → Accepted w n (table_at w n s es m)
  unfolding after_all
  accepted-at s [] a t zero = a
  accepted-at s [] a t (suc m) = a
  accepted-at s (x ∷ es) a t zero = a
  accepted-at s (x ∷ es) a t (suc m) = accepted-at (after w n s x) es (accepted-kept w n s x a t.0) t.1 m
