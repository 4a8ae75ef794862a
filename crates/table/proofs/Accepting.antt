-- The line rules as the code asks them, the rules of a round that is over, and a table that refusals 1 to 4 let through.
-- Assumes nothing.
use mathlib.Core.Path.{◌≡◌, ap, ◌∙◌}
use mathlib.Core.Bool.{Bool, true, false, not, ◌&&◌, and-true, and-false}
use mathlib.Core.List.{List}
use Rattle.std.specs.Prelude.{Ok}
use Prim.Native.Nat.{ℕ, ◌≤◌, ◌<◌}
use native.Mathlib.Nat.{le_antisymm}
use borrow.Author.Tests.{eqb-true, not-true}
use lib.ListN.{length}
use Rattle.lists.specs.Search.{every}
use Rattle.table.specs.Sizes.{is_size}
use Rattle.table.specs.Table.{table_length}
use Rattle.table.specs.Rules.{line_rules, not_live, some_live, finished_if_live, live_finished, shape_check, table_check}
use Rattle.table.specs.Rules.{table_check}
use Rattle.lists.proofs.Loops.{every-stop, every-done}
use Rattle.lists.proofs.RefusalLaws.{ensure_ok, and_ok}
use Rattle.table.specs.declared.wiring.Wiring.{Wiring}

-- refusal 4: one live station that has not finished keeps the round open
pub round-open : (n : ℕ) (t : List ℕ) (i : ℕ) (r : Bool) → i < n → r ≡ finished_if_live n t i → not r ≡ true
    → false ≡ (some_live n t && live_finished n t)
unfolding live_finished
round-open n t i r h e f = rw (← every-stop (finished_if_live n t) n i r h e f, and-false)

-- after all lines, of which every live one has finished
pub round-done : (n : ℕ) (t : List ℕ) (i : ℕ) (some : Bool) → i ≤ n → n ≤ i → every (finished_if_live n t) i ≡ true
    → some ≡ not (every (not_live n t) i)
    → some ≡ (some_live n t && live_finished n t)
unfolding some_live live_finished
round-done n t i some a b e s =
    rw (← every-done (finished_if_live n t) n i e a b, and-true) (s ∙ ap (λ k. not (every (not_live n t) k)) (le_antisymm a b))

-- a wiring and a table that refusals 1 to 4 let through
pub record Accepted (w : Wiring) (n : ℕ) (t : List ℕ) : Type 0 where
  pub size : is_size n ≡ true
  pub long : length t ≡ table_length n
  pub lines : every (line_rules w n t) n ≡ true
  pub unclosed : (some_live n t && live_finished n t) ≡ false

pub shape_ok : (n len : ℕ) (x : Unit {0}) → shape_check n len ≡ Ok x → (is_size n ≡ true) × (len ≡ table_length n)
unfolding shape_check
shape_ok n len x e =
    let p = and_ok _ _ x e in
    (ensure_ok _ _ _ p.0, eqb-true len (table_length n) (ensure_ok _ _ _ p.1))

pub table_ok : (w : Wiring) (n : ℕ) (t : List ℕ) (x : Unit {0}) → table_check w n t ≡ Ok x → Accepted w n t
unfolding table_check
table_ok w n t x e =
    let p = and_ok _ _ x e in
    let s = shape_ok n (length t) _ p.0 in
    let q = and_ok _ _ x p.1 in
    record {
      size = s.0;
      long = s.1;
      lines = ensure_ok _ _ _ q.0;
      unclosed = not-true _ (ensure_ok _ _ _ q.1);
    }

pub accepted : (w : Wiring) (n : ℕ) (t : List ℕ) → table_check w n t ≡ Ok tt → Accepted w n t
accepted w n t e = table_ok w n t _ e

-- what the loop over a round asks
pub ruleset rounds = (round-open, round-done)
