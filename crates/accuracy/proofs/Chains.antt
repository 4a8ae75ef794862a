-- The list of taken entries: a suspicion after it has its cause in it; the entry at which a station left because told.
-- Assumes nothing.
use mathlib.Core.Path.{◌≡◌, refl, sym, ap}
use mathlib.Core.Logic.{inl, inr}
use mathlib.Core.Bool.{Bool, true, or-true, true≢false}
use mathlib.Core.List.{List, [], ◌∷◌, ◌++◌}
use Prim.Native.Nat.{ℕ, ◌<◌}
use Rattle.table.specs.Table.{live}
use Rattle.lists.proofs.BoolLaws.{by_bool}
use Rattle.plant.specs.Entry.{State, after}
use Rattle.detection.specs.Runs.{Taken, table_after}
use Rattle.detection.specs.Rounds.{any_taken}
use Rattle.detection.specs.Ceased.{LeftTold, since_ceased, FirstTold}
use Rattle.detection.proofs.TakenLaws.{taken_at}
use Rattle.detection.proofs.Chain.{Chain, done, more}
use Rattle.detection.proofs.Fates.{was-live}
use Rattle.accuracy.specs.Cause.{IsSuspected, late_of, HasCause}
use Rattle.accuracy.proofs.Step.{CauseAt, new-suspicion}

-- what one of the first entries is, one of all is
pub any-before : (q : Taken → Bool) (xs ys : List Taken) → any_taken q xs ≡ true → any_taken q (xs ++ ys) ≡ true
unfolding any_taken
any-before q [] ys a = absurd (true≢false (sym a))
any-before q (x ∷ xs) ys a = by_bool (q x) (λ e. rw e) (λ e. rw e (any-before q xs ys (rw e at a)))

pub any-last : (q : Taken → Bool) (xs : List Taken) (x : Taken) → q x ≡ true → any_taken q (xs ++ (x ∷ [])) ≡ true
unfolding any_taken
any-last q [] x e = rw e
any-last q (y ∷ xs) x e = rw (any-last q xs x e, or-true)

-- a cause in the first entries
pub cause-before : (n : ℕ) (t : List ℕ) (xs ys : List Taken) (j : ℕ) → HasCause n t xs j → HasCause n t (xs ++ ys) j
cause-before n t xs ys j (inl p) = inl p
cause-before n t xs ys j (inr l) = inr (any-before (late_of j) xs ys l)

-- a live station that is suspected after the entries has a cause in them
pub cause-chain : {n : ℕ} {s s' : State} {xs : List Taken} → Chain n s xs s' → (j : ℕ) → j < n → IsSuspected n s'.table j → HasCause n s.table xs j
unfolding any_taken
cause-chain done j hj p = inl p
cause-chain {n} (more {s} {xs = xs} w e a z c) j hj p = first (cause-chain c j hj p)
  where
    x : Taken
    x = taken_at w n s e

    at : CauseAt w n s e j → HasCause n s.table (x ∷ xs) j
    at (inl q) = inl q
    at (inr l) = inr (rw l)

    first : HasCause n (after w n s e).table xs j → HasCause n s.table (x ∷ xs) j
    first (inl q) =
        let lk = was-live w n s e a z q.0 q.1 q.2.by_live in
        let lj = was-live w n s e a z j hj q.2.of_live in
        at (new-suspicion w n s e a z q.0 j q.1 hj lk lj q.2.suspected)
    first (inr l) = inr (rw (l, or-true))

-- the entry at which station i left because told by b
pub record ToldAt (n : ℕ) (xs : List Taken) (i b : ℕ) : Type 0 where
  pub before : List Taken
  pub x : Taken
  pub rest : List Taken
  pub parts : xs ≡ before ++ (x ∷ rest)
  pub left : LeftTold n x.before.table (table_after x) i b

pub told-at : (n : ℕ) (xs : List Taken) (i b : ℕ) → FirstTold n (since_ceased i xs) i b → ToldAt n xs i b
unfolding since_ceased
told-at n [] i b = λ f. absurd f
told-at n (x ∷ xs) i b =
    by_bool (live x.size (table_after x) i)
    (λ e. rw e (λ f.
    let r = told-at n xs i b f in
    record { before = x ∷ r.before; x = r.x; rest = r.rest; parts = ap (λ (ys : List Taken). x ∷ ys) r.parts; left = r.left }))
    (λ e. rw e (λ f. record { before = []; x = x; rest = xs; parts = refl; left = f }))
