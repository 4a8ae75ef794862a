-- A chain of taken entries in parts: what comes before one of them, the entry itself, and what comes behind it.
-- Assumes nothing.
use mathlib.Core.Path.{◌≡◌, refl, ap, subst}
use mathlib.Core.Bool.{Bool, true, false, true≢false}
use mathlib.Core.List.{List, [], ◌∷◌, ◌++◌}
use Prim.Native.Nat.{ℕ}
use Rattle.table.proofs.Accepting.{Accepted}
use Rattle.plant.specs.Entry.{State, entry_check, after}
use Rattle.detection.specs.Runs.{Taken}
use Rattle.detection.proofs.TakenLaws.{taken_at}
use Rattle.detection.proofs.Chain.{Chain, done, more}
use Rattle.std.specs.Prelude.{Ok}

-- an entry of the list: those before it lead to what it finds, and it was taken
pub record Parted (n : ℕ) (s : State) (before : List Taken) (x : Taken) (rest : List Taken) (s' : State) : Type 0 where
  pub first : Chain n s before x.before
  pub size : x.size ≡ n
  pub ok : Accepted x.wiring n x.before.table
  pub taken : entry_check n x.before x.entry ≡ Ok tt
  pub last : Chain n (after x.wiring n x.before x.entry) rest s'

abbrev head_or : Taken → List Taken → Taken
head_or d [] = d
head_or d (x ∷ xs) = x

abbrev tail : List Taken → List Taken
tail [] = []
tail (x ∷ xs) = xs

abbrev is_nil : List Taken → Bool
is_nil [] = true
is_nil (x ∷ xs) = false

pub parted : {n : ℕ} {s s' : State} {ys : List Taken} → Chain n s ys s' → (before : List Taken) (x : Taken) (rest : List Taken)
    → ys ≡ before ++ (x ∷ rest) → Parted n s before x rest s'
parted done [] x rest e = absurd (true≢false (ap is_nil e))
parted done (y ∷ before) x rest e = absurd (true≢false (ap is_nil e))
parted {n} {s' = s'} (more {s} {xs = xs} w e a z c) [] x rest p =
    let here : Parted n s [] (taken_at w n s e) xs s' = record { first = done; size = refl; ok = a; taken = z; last = c } in
    subst (λ (y : Taken). Parted n s [] y rest s') (ap (head_or x) p)
    (subst (λ (ys : List Taken). Parted n s [] (taken_at w n s e) ys s') (ap tail p) here)
parted {n} {s' = s'} (more {s} {xs = xs} w e a z c) (y ∷ before) x rest p =
    let r = parted c before x rest (ap tail p) in
    subst (λ (y : Taken). Parted n s (y ∷ before) x rest s') (ap (head_or x) p)
    (record { first = more w e a z r.first; size = r.size; ok = r.ok; taken = r.taken; last = r.last })
