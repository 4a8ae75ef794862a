-- The row that the named boards make.
-- Assumes nothing.
use Rattle.std.proofs.Common.{◌≡◌, ℕ, List, [], ◌∷◌, ◌+◌, ◌-◌, ◌<◌, ◌≤◌, true, false, refl, sym, ap, ◌∙◌, arith, add-one, drop-cons, length-drop}
use Rattle.std.proofs.Common.{length, map, get_or, drop}
use Rattle.std.specs.Prelude.{suc, ◌≢◌, ◌==◌, take, count_by, replicate, Option, Some, None, Result, Ok, Err, slice_index_or, slice_set, nat_lt}
use Rattle.std.specs.Prelude.{nat_eq}
use Rattle.std.proofs.lemmas.Bool.Decides.{nat_tests}
use Rattle.input.specs.Input.{station_of}
use Rattle.sheet.specs.Named.{and_then, row_with, rows_with, with_two_live, plant_of}
use Rattle.sheet.specs.declared.call.WrongCall.{WrongCall}
use Rattle.sheet.specs.declared.call.WrongCall.TheVariants.{NotABoard, NamedAgain, TooFewLive}

module _ (n k : ℕ) (row : List ℕ) (o : Option ℕ) where
  pub row_with-none : (l : ℕ) → None ≡ o → l ≡ n - 1 → Err (NotABoard k l) ≡ row_with n k row o
  unfolding row_with
  row_with-none l e f = rw (← e, f)

  module _ (b : ℕ) (e : Some b ≡ o) where
    pub row_with-past : (l : ℕ) → n ≤ b → l ≡ n - 1 → Err (NotABoard k l) ≡ row_with n k row o
    unfolding row_with
    row_with-past l h f = let past : nat_lt b n ≡ false = grind (arith, nat_tests) in rw (← e, past, f)

    pub row_with-again : b < n → slice_index_or row b 0 ≢ 0 → Err (NamedAgain k) ≡ row_with n k row o
    unfolding row_with
    row_with-again h d =
        let here : nat_lt b n ≡ true = grind (arith, nat_tests) in
        let dead : nat_eq (slice_index_or row b 0) 0 ≡ false = grind (arith, nat_tests) in
        rw (← e, here, dead)

    pub row_with-dead : b < n → slice_index_or row b 0 ≡ 0 → Ok (slice_set row b 1) ≡ row_with n k row o
    unfolding row_with
    row_with-dead h d = let here : nat_lt b n ≡ true = grind (arith, nat_tests) in rw (← e, here, d)

-- where the words before place i were read, the next is read, or is wrong, or there is none
module _ {X : Type 0} (f : X → List ℕ) (n k : ℕ) (row : List ℕ) (bs : List X) (i : ℕ) where
  module _ (d x : X) (h : i < length bs) (e : x ≡ get_or bs i d) where
    next : drop i bs ≡ x ∷ drop (i + 1) bs
    next = rw add-one (drop-cons bs i d h ∙ ap (λ (y : X). y ∷ drop (suc i) bs) (sym e))

    pub rows-next : (after : List ℕ) → Ok after ≡ row_with n k row (station_of (f x))
        → rows_with n k (map f (drop i bs)) row ≡ rows_with n (k + 1) (map f (drop (i + 1) bs)) after
    unfolding rows_with
    rows-next after s = rw (next, ← s)

    pub rows-wrong : (wrong : WrongCall) → Err wrong ≡ row_with n k row (station_of (f x)) → rows_with n k (map f (drop i bs)) row ≡ Err wrong
    unfolding rows_with
    rows-wrong wrong s = rw (next, ← s)

  pub rows-end : i ≡ length bs → rows_with n k (map f (drop i bs)) row ≡ Ok row
  unfolding rows_with
  rows-end e = go (drop i bs) (grind (arith, length-drop))
    where
      go : (l : List X) → length l ≡ 0 → rows_with n k (map f l) row ≡ Ok row
      go [] z = refl
      go (x ∷ xs) z = absurd (omega arith)

-- the plant of a size, by what the boards make of its row
pub plant-is : (o : Option ℕ) (n : ℕ) → Some n ≡ o → (words : List (List ℕ)) (start : List ℕ) → start ≡ replicate 64 0
    → (r : Result (List ℕ) WrongCall) → rows_with n 2 words start ≡ r → plant_of o words ≡ and_then (with_two_live n) r
unfolding plant_of
plant-is o n e words start s r h = rw (← e, ← s, h)

module _ (n : ℕ) (row : List ℕ) (live : ℕ) (e : live ≡ count_by (λ dead. dead == 0) (take n row)) where
  pub two-live : 2 ≤ live → with_two_live n row ≡ Ok (n, row)
  two-live h = let few : nat_lt live 2 ≡ false = grind (arith, nat_tests) in rw (← e, few)

  pub few-live : live < 2 → with_two_live n row ≡ Err TooFewLive
  few-live h = let few : nat_lt live 2 ≡ true = grind (arith, nat_tests) in rw (← e, few)
