-- Laws of the elements of a list that pass a test, and of a list that a loop fills with them.
-- Assumes nothing.
use mathlib.Core.Path.{◌≡◌, refl, sym, ap, ap₂, subst, ◌∙◌}
use Rattle.std.specs.List.{filter, range_with_len}
use Rattle.std.proofs.lemmas.List.Elements.{filter-append}
use mathlib.Core.Bool.{Bool, true, false, cond, ◌&&◌}
use mathlib.Core.List.Memᴰ
use mathlib.Core.List.{List, [], ◌∷◌, ◌++◌, append-nil, map, Memᴰ}
use mathlib.Core.Logic.{⊎_elim}
use Prim.Native.Nat.{ℕ, zero, suc, ◌+◌, ◌≤◌, ◌<◌}
use native.Mathlib.Nat.{eq-or-lt_of_le, le_of_suc-le-suc}
use native.Mathlib.Decide.{le_ind}
use native.Mathlib.Omega.{arith}
use lib.ListN.{length, length-append}
use Rattle.lists.specs.Search.{select}
use Rattle.lists.specs.Sums.{sum_below, bit}
use Rattle.lists.proofs.BoolLaws.{by_bool}
use Rattle.lists.proofs.SearchLaws.{range-suc}
use Rattle.lists.proofs.SumLaws.{sum_below-suc}

-- what f gives of an element is among what it gives of all
pub mem-map : (f : ℕ → ℕ) (x m : ℕ) (xs : List ℕ) → x ≡ f m → Memᴰ m xs → Memᴰ x (map f xs)
mem-map f x m [] e k = absurd (Memᴰ.not-nil k)
mem-map f x m (y ∷ xs) e (Memᴰ.head p) = Memᴰ.head (e ∙ ap f p)
mem-map f x m (y ∷ xs) e (Memᴰ.tail k) = Memᴰ.tail (mem-map f x m xs e k)

-- each number below n is among them
pub range-mem : (n k : ℕ) → k < n → Memᴰ k (range_with_len 0 n)
range-mem zero k h = absurd (omega arith)
range-mem (suc n) k h =
    subst (Memᴰ k) (sym (range-suc n)) (⊎_elim
    (λ e. Memᴰ.append_right (range_with_len 0 n) (Memᴰ.head e))
    (λ l. Memᴰ.append_left (n ∷ []) (range-mem n k l))
    (eq-or-lt_of_le (le_of_suc-le-suc h)))

module _ (q : ℕ → Bool) where
  -- who is kept was there and passes
  pub filter-mem : (xs : List ℕ) (x : ℕ) → Memᴰ x (filter q xs) → Memᴰ x xs × (q x ≡ true)
  filter-mem [] x m = absurd (Memᴰ.not-nil m)
  filter-mem (y ∷ xs) x m = go (q y) refl m (filter-mem xs x)
    where
      go : (b : Bool) → q y ≡ b → Memᴰ x (cond b (y ∷ filter q xs) (filter q xs)) → (Memᴰ x (filter q xs) → Memᴰ x xs × (q x ≡ true))
          → Memᴰ x (y ∷ xs) × (q x ≡ true)
      go true e (Memᴰ.head p) rest = (Memᴰ.head p, ap q p ∙ e)
      go true e (Memᴰ.tail k) rest = let r = rest k in (Memᴰ.tail r.0, r.1)
      go false e k rest = let r = rest k in (Memᴰ.tail r.0, r.1)

  -- and the other way
  pub mem-filter : (xs : List ℕ) (x : ℕ) → Memᴰ x xs → q x ≡ true → Memᴰ x (filter q xs)
  mem-filter [] x m t = absurd (Memᴰ.not-nil m)
  mem-filter (y ∷ xs) x (Memᴰ.head p) t = let e : q y ≡ true = sym (ap q p) ∙ t in rw e (Memᴰ.head p)
  mem-filter (y ∷ xs) x (Memᴰ.tail k) t =
      by_bool (q y) (λ e. rw e (Memᴰ.tail (mem-filter xs x k t))) (λ e. rw e (mem-filter xs x k t))

  -- another test that decides alike
  pub filter_same : (q' : ℕ → Bool) → ((x : ℕ) → q x ≡ q' x) → (xs : List ℕ) → filter q xs ≡ filter q' xs
  filter_same q' same [] = refl
  filter_same q' same (x ∷ xs) = rw (same x, filter_same q' same xs)

  -- those that pass two tests, one after the other
  pub filter-twice : (q₁ q₂ : ℕ → Bool) → ((x : ℕ) → q x ≡ (q₁ x && q₂ x)) → (xs : List ℕ) → filter q xs ≡ filter q₂ (filter q₁ xs)
  filter-twice q₁ q₂ same [] = refl
  filter-twice q₁ q₂ same (x ∷ xs) =
      rw (same x) (by_bool (q₁ x) (λ e. rw (e, filter-twice q₁ q₂ same xs)) (λ e. rw (e, filter-twice q₁ q₂ same xs)))

  -- of the numbers below a bound, as a loop that counts up finds them
  pub select-suc : (m : ℕ) → select q (suc m) ≡ select q m ++ cond (q m) (m ∷ []) []
  select-suc m = ap (filter q) (range-suc m) ∙ filter-append q (range_with_len 0 m) (m ∷ [])

  -- where none passes from a on, they are those below a
  pub select-stays : (a b : ℕ) → a ≤ b → ((y : ℕ) → a ≤ y → y < b → q y ≡ false) → select q b ≡ select q a
  select-stays a b l =
      le_ind (λ (t : ℕ). ((y : ℕ) → a ≤ y → y < t → q y ≡ false) → select q t ≡ select q a) (λ none. refl)
      (λ t h rest none.
      select-suc t ∙ rw (none t h (omega arith), append-nil) (rest (λ y lo hi. none y lo (omega arith)))) b l

  -- how many they are
  pub select-sum : (m : ℕ) → length (select q m) ≡ sum_below (λ k. bit (q k)) m
  unfolding sum_below
  select-sum zero = refl
  select-sum (suc m) =
      ap length (select-suc m) ∙ length-append (select q m) (cond (q m) (m ∷ []) [])
      ∙ ap₂ ◌+◌ (select-sum m) (by_bool (q m) (λ e. rw e) (λ e. rw e)) ∙ sym (sum_below-suc (λ k. bit (q k)) m)
