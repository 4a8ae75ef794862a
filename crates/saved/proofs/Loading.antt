-- Laws of what the reader answers and leaves, of specs/Load.
-- Assumes nothing.
use mathlib.Core.Path.{◌≡◌, refl, sym, ap, ◌∙◌}
use mathlib.Core.Bool.{true, false}
use mathlib.Core.List.{List}
use Rattle.std.specs.Prelude.{Result, Ok, Err}
use Prim.Native.Nat.{ℕ, ◌≤◌}
use native.Mathlib.Nat.{mul-le-mul}
use native.Mathlib.Omega.{arith}
use borrow.Author.Tests.{not-true, eq-eqb, ne_eqb}
use lib.ListN.{length}
use Rattle.lists.specs.declared.refusal.Refusal.{Refusal}
use Rattle.lists.specs.declared.refusal.Refusal.TheVariants.{TableLength, LineField}
use Rattle.lists.specs.Refusal.{Check, ensure, ◌and◌}
use Rattle.lists.proofs.RefusalLaws.{ensure_ok, and_ok}
use Rattle.table.specs.Sizes.{is_size}
use Rattle.table.specs.Table.{stride, table_length, greatest_table}
use Rattle.table.specs.Rules.{table_check}
use Rattle.table.proofs.SizeLaws.{size-bounds}
use Rattle.table.specs.declared.wiring.Wiring.TheVariants.{Cube}
use Rattle.saved.specs.Fields.{runs_past, fields_of}
use Rattle.saved.specs.Plant.{plant_check, line_field_length, lines_right, table_in}
use Rattle.saved.specs.Order.{order_check}
use Rattle.saved.specs.Load.{file_lines, size_check, rest_check, rest_after, load_check, saved_size}
use Rattle.saved.specs.Load.{loaded_of, load_answer, load_after}
use Rattle.saved.specs.Reading.{opened, table_read}
use Rattle.saved.specs.declared.edition.Edition.TheVariants.{Two}
use Rattle.saved.specs.declared.Loaded.{Loaded}

pub table_fits : (n : ℕ) → is_size n ≡ true → table_length n ≤ greatest_table
unfolding table_length
table_fits n e = let s = size-bounds n e in mul-le-mul {n₁ = n} {m₁ = stride n} {n₂ = 64} {m₂ = stride 64} s.1 (omega arith)

-- the table that is built of a file of edition 2 is the file's
pub read_two : (n : ℕ) (cs : List (List ℕ)) → table_read Two n cs ≡ table_in n cs
unfolding table_read table_in
read_two n cs = refl

-- an answer with a value, by its check
pub answer_ok : {A : Type 0} (c : Result (Unit {0}) Refusal) (v x : A) → Ok x ≡ (c and Ok v) → (c ≡ Ok tt) × (x ≡ v)
answer_ok (Ok u) v x e = (refl, cc)
answer_ok (Err r) v x e = cc

pub answer_err : {A : Type 0} (c : Result (Unit {0}) Refusal) (v : A) (r : Refusal) → Err r ≡ (c and Ok v) → c ≡ Err r
answer_err (Ok u) v r e = cc
answer_err (Err s) v r e = cc

-- checks that are told apart, and in front of others
pub checks_joined : {A : Type 0} (a b c : Check) (x : Result A Refusal) → (a and b and c and x) ≡ ((a and b and c) and x)
checks_joined (Ok u) (Ok v) c x = refl
checks_joined (Ok u) (Err r) c x = refl
checks_joined (Err r) b c x = refl

opened_two : (file : List ℕ) → opened Two file ≡ (size_check file and Ok (loaded_of (fields_of file)))
unfolding opened size_check
opened_two file = checks_joined _ (order_check (fields_of file)) _ _

-- a file whose size is refused, and one whose size is not
pub size_err : (file : List ℕ) (r : Refusal) → Err r ≡ opened Two file → Err r ≡ saved_size file
unfolding saved_size
size_err file r e = rw (answer_err (size_check file) _ r (e ∙ opened_two file))

pub size_ok : (file : List ℕ) (x : Loaded) → Ok x ≡ opened Two file → Ok x.size ≡ saved_size file
unfolding saved_size
size_ok file x e = let p = answer_ok (size_check file) _ x (e ∙ opened_two file) in rw (p.0, p.1)

-- what a call answers and leaves
module _ (file t : List ℕ) where
  abbrev Gives : Result Loaded Refusal → List ℕ → Type 0
  Gives answer after = (answer ≡ load_answer file (length t)) × (after ≡ load_after file t)

  refused : (r : Refusal) → load_check file (length t) ≡ Err r → Gives (Err r) t
  unfolding load_answer load_after
  refused r e = rw e (refl, refl)

  pub load_err : (r : Refusal) → Err r ≡ opened Two file → Gives (Err r) t
  unfolding load_check
  load_err r e = refused r (rw (answer_err (size_check file) _ r (e ∙ opened_two file)))

  module _ (x : Loaded) (e : Ok x ≡ opened Two file) where
    known : (size_check file ≡ Ok tt) × (x ≡ loaded_of (fields_of file))
    known = answer_ok (size_check file) _ x (e ∙ opened_two file)

    pub opened_right : (runs_past file ≡ false) × (is_size x.size ≡ true)
    unfolding size_check plant_check
    opened_right =
        let p = and_ok _ _ tt known.0 in
        let q = and_ok _ _ tt (and_ok (order_check (fields_of file)) _ tt p.1).1 in
        (not-true _ (ensure_ok _ _ tt p.0), ap (λ l. is_size l.size) known.1 ∙ ensure_ok _ _ tt q.1)

    by_rest : load_check file (length t) ≡ rest_check x.size (file_lines file) (length t)
    unfolding load_check
    by_rest = rw (known.0, known.1)

    -- the rest of the call
    pub rest_err : (r : Refusal) (l : List ℕ) → Err r ≡ rest_check x.size (file_lines file) (length t) → l ≡ rest_after x.size (file_lines file) t
        → Gives (Err r) l
    rest_err r l h k = let g = refused r (by_rest ∙ sym h) in (g.0, k ∙ rw (sym h) g.1)

    pub rest_ok : (u : Unit {0}) (l : List ℕ) → Ok u ≡ rest_check x.size (file_lines file) (length t) → l ≡ rest_after x.size (file_lines file) t
        → Gives (Ok x) l
    unfolding load_answer load_after
    rest_ok u l h k =
        let z : load_check file (length t) ≡ Ok tt = by_rest ∙ sym h in
        rw z (ap Ok known.1, k ∙ rw (sym h) (ap (λ l. table_in l.size (file_lines file)) known.1))

-- the refusals after the size's, one after the other, and what they leave
module _ (n : ℕ) (cs : List (List ℕ)) (t : List ℕ) where
  abbrev Leaves : Check → List ℕ → Type 0
  Leaves answer after = (answer ≡ rest_check n cs (length t)) × (after ≡ rest_after n cs t)

  turned : (r : Refusal) → rest_check n cs (length t) ≡ Err r → Leaves (Err r) t
  turned r e = rw e (refl, refl)

  pub lines_err : (r : Refusal) → Err r ≡ ensure (lines_right (line_field_length n) n cs) LineField → Leaves (Err r) t
  unfolding rest_check
  lines_err r h = turned r (rw (← h))

  module _ (u : Unit {0}) (right : Ok u ≡ ensure (lines_right (line_field_length n) n cs) LineField) where
    pub long_err : (length t ≡ table_length n → ⊥) → Leaves (Err TableLength) t
    unfolding rest_check
    long_err h = turned TableLength (rw (← right, ne_eqb (length t) (table_length n) h))

    module _ (own : List ℕ) (long : length t ≡ table_length n) (built : own ≡ table_in n cs) where
      by_rules : rest_check n cs (length t) ≡ table_check Cube n own
      unfolding rest_check
      by_rules = rw (← right, eq-eqb (length t) (table_length n) long, built)

      pub rules_err : (r : Refusal) → Err r ≡ table_check Cube n own → Leaves (Err r) t
      rules_err r h = turned r (by_rules ∙ sym h)

      pub rules_ok : (v : Unit {0}) → Ok v ≡ table_check Cube n own → Leaves (Ok v) own
      rules_ok v h = let z : rest_check n cs (length t) ≡ Ok v = by_rules ∙ sym h in rw z (refl, built)
