-- Tables at the beginning of a round, by their bytes: each line has next distance 1, has not finished its pass, and has made no test.
-- Assumes nothing.
use mathlib.Core.Path.{◌≡◌, ◌∙◌}
use mathlib.Core.Bool.{true}
use mathlib.Core.List.{List}
use Prim.Native.Nat.{ℕ, ◌+◌, ◌*◌, ◌/◌, ◌%◌, ◌<◌}
use native.Mathlib.Nat.{mod-eq_of_lt, mul-add-mod_self_right, div-eq_of_lt, add-mul-div_right, add_comm}
use native.Mathlib.Omega.{arith}
use lib.ListN.{length}
use Rattle.lists.specs.Search.{list_of}
use Rattle.lists.proofs.SearchLaws.{every-all, list_of-length, list_of-at}
use Rattle.table.specs.Sizes.{is_size}
use Rattle.table.specs.Wiring.{end_distance}
use Rattle.table.specs.Table.{stride, table_length, line_start, cell, next_column, finished_column, tests_column, next_distance, finished, tests_made}
use Rattle.table.specs.Rules.{line_rules}
use Rattle.table.specs.Properties.{line_at_start, at_start}
use Rattle.table.proofs.Accepting.{Accepted}
use Rattle.table.proofs.CellLaws.{line-inside, Pass, Line, line-holds}
use Rattle.table.proofs.WiringLaws.{end-pos}
use Rattle.table.specs.declared.wiring.Wiring.{Wiring}
use Rattle.plant.proofs.RulesKept.{unfinished-open}

-- a table by its bytes: line and column
abbrev pub table_by : ℕ → (ℕ → ℕ → ℕ) → List ℕ
table_by n f = list_of (λ p. f (p / stride n) (p % stride n)) (table_length n)

pub by-cell : (n : ℕ) (f : ℕ → ℕ → ℕ) (i c : ℕ) → i < n → c < stride n → cell n (table_by n f) i c ≡ f i c
unfolding cell line_start
by-cell n f i c h g =
    list_of-at (λ p. f (p / stride n) (p % stride n)) (table_length n) (i * stride n + c) (omega (arith, line-inside n i h)) ∙ rw (line, column)
  where
    column : (i * stride n + c) % stride n ≡ c
    column = mul-add-mod_self_right i (stride n) c ∙ mod-eq_of_lt g

    line : (i * stride n + c) / stride n ≡ i
    line = rw (add_comm (i * stride n) c) (omega (arith, add-mul-div_right c i {z = stride n} (omega arith), div-eq_of_lt g))

pub record Begun (n : ℕ) (t : List ℕ) : Type 0 where
  pub long : length t ≡ table_length n
  pub next : (i : ℕ) → i < n → next_distance n t i ≡ 1
  pub finish : (i : ℕ) → i < n → finished n t i ≡ 0
  pub tests : (i : ℕ) → i < n → tests_made n t i ≡ 0

pub begun-by : (n : ℕ) (f : ℕ → ℕ → ℕ) → ((i : ℕ) → f i next_column ≡ 1) → ((i : ℕ) → f i finished_column ≡ 0)
    → ((i : ℕ) → f i tests_column ≡ 0) → Begun n (table_by n f)
begun-by n f next finish tests = record {
  long = list_of-length _ (table_length n);
  next = λ i h. by-cell n f i next_column h (omega arith) ∙ next i;
  finish = λ i h. by-cell n f i finished_column h (omega arith) ∙ finish i;
  tests = λ i h. by-cell n f i tests_column h (omega arith) ∙ tests i;
}

module _ (w : Wiring) (n : ℕ) (t : List ℕ) (b : Begun n t) where
  pub begun-pass : (i : ℕ) → i < n → Pass (end_distance w n) (next_distance n t i) (finished n t i) (tests_made n t i)
  begun-pass i h =
      rw (b.next i h, b.finish i h, b.tests i h)
      (record {
        next_low = omega arith;
        next_high = end-pos w n i h;
        finished_range = omega arith;
        tests_bound = omega arith;
        finished_next = λ e. omega arith;
      })

  pub begun-start : at_start n t ≡ true
  unfolding at_start
  begun-start = every-all (line_at_start n t) n (λ i h. rw (b.next i h, b.finish i h, b.tests i h))

  -- where bytes 0, 4 and 5 and the rows obey the rules too
  pub begun-accepted : is_size n ≡ true → ((i : ℕ) → i < n → Line w n t i) → Accepted w n t
  begun-accepted size lines = record {
    size = size;
    long = b.long;
    lines = every-all (line_rules w n t) n (λ i h. line-holds w n t i (lines i h));
    unclosed = unfinished-open n t b.finish;
  }
