-- A fresh table passes refusals 1 to 4, stands at the start of a round and meets the detection conditions on a table: ends in themselves.
-- Assumes nothing.
use mathlib.Core.Path.{◌≡◌, refl, ap, ◌∙◌}
use mathlib.Core.Bool.{true, cond}
use mathlib.Core.List.{List}
use Prim.Native.Nat.{ℕ, ◌+◌, ◌<◌}
use native.Mathlib.Nat.{mul-one}
use native.Mathlib.Omega.{arith}
use borrow.Author.Tests.{ne_eqb, eq-eqb}
use lib.Dec.{eqb}
use Rattle.table.specs.Sizes.{is_size}
use Rattle.table.specs.Table.{head, stride, cell, status_column, next_column, finished_column}
use Rattle.table.specs.Table.{tests_column, told_by_column, told_by_none, rounds_ago_column, suspects, live, status}
use Rattle.table.specs.Rules.{exit_rule, line_rules, table_check}
use Rattle.table.specs.Fresh.{fresh_table}
use Rattle.lists.proofs.SearchLaws.{every-all}
use Rattle.lists.specs.Sums.{bit}
use Rattle.lists.proofs.SumLaws.{sum_by, sum-const}
use Rattle.table.proofs.SizeLaws.{size-bounds}
use Rattle.table.proofs.FreshLaws.{fresh-length, fresh-byte, fresh-cell}
use Rattle.table.proofs.CellLaws.{start-pass, Line, line-holds}
use Rattle.plant.proofs.RulesKept.{unfinished-open}
use Rattle.plant.proofs.RunLaws.{accepted-number}
use Rattle.table.specs.Properties.{line_at_start, at_start, live_count, none_suspected, no_live_suspicion}
use Rattle.table.specs.declared.wiring.Wiring.{Wiring}
use Rattle.detection.specs.Runs.{taken_all}
use Rattle.detection.specs.Rounds.{all_taken}
use Rattle.detection.specs.Claim.{FreshMeetsPremises}
use Rattle.std.specs.Prelude.{Ok}

-- a fresh line: next distance 1, byte 4 255, and all else 0
fresh-at : (n i c : ℕ) → i < n → c < stride n → cell n (fresh_table n) i c ≡ cond (eqb c next_column) 1 (cond (eqb c told_by_column) told_by_none 0)
fresh-at n i c h g = fresh-cell n i c h g ∙ fresh-byte n c g

pub fresh-row : (n i k : ℕ) → i < n → k < n → suspects n (fresh_table n) i k ≡ 0
fresh-row n i k g l =
    fresh-at n i (head + k) g (omega arith)
    ∙ rw (ne_eqb (head + k) next_column (λ e. omega arith), ne_eqb (head + k) told_by_column (λ e. omega arith))

pub fresh-live : (n i : ℕ) → i < n → live n (fresh_table n) i ≡ true
fresh-live n i h = eq-eqb (status n (fresh_table n) i) 0 (fresh-at n i status_column h (omega arith))

fresh-line : (w : Wiring) (n i : ℕ) → i < n → Line w n (fresh_table n) i
unfolding exit_rule
fresh-line w n i g =
    let status = fresh-at n i status_column g (omega arith) in
    let next = fresh-at n i next_column g (omega arith) in
    let finish = fresh-at n i finished_column g (omega arith) in
    let told_by = fresh-at n i told_by_column g (omega arith) in
    record {
      status_range = omega (arith, status);
      pass = rw (next, finish, fresh-at n i tests_column g (omega arith)) (start-pass w n i g);
      exits = rw (status, told_by, fresh-at n i rounds_ago_column g (omega arith));
      own = fresh-row n i i g g;
      range = λ k l. omega (arith, fresh-row n i k g l);
    }

module _ (n : ℕ) where
  abbrev t : List ℕ
  t = fresh_table n

  -- it passes refusals 1 to 4
  pub fresh-accepted : (w : Wiring) → is_size n ≡ true → table_check w n t ≡ Ok tt
  fresh-accepted w size =
      accepted-number w n t (record {
        size = size;
        long = fresh-length n;
        lines = every-all (line_rules w n t) n (λ i h. line-holds w n t i (fresh-line w n i h));
        unclosed = unfinished-open n t (λ i h. fresh-at n i finished_column h (omega arith));
      })

  -- it stands at the start of a round
  pub fresh_start : at_start n t ≡ true
  unfolding at_start
  fresh_start =
      every-all (line_at_start n t) n (λ i h.
      let next = fresh-at n i next_column h (omega arith) in
      let finish = fresh-at n i finished_column h (omega arith) in
      rw (next, finish, fresh-at n i tests_column h (omega arith)))

  -- all are live, and none suspects another
  all_live : live_count n t ≡ n
  unfolding live_count
  all_live = sum_by {g = λ i. 1} n (λ i h. ap bit (fresh-live n i h)) ∙ (sum-const 1 n ∙ mul-one n)

  none-suspected : none_suspected n t ≡ true
  unfolding none_suspected
  none-suspected =
      every-all _ n (λ i h. every-all (no_live_suspicion n t i) n (λ j l. rw (fresh-live n i h, fresh-live n j l, fresh-row n i j h l)))

pub fresh-premises : FreshMeetsPremises
unfolding all_taken taken_all
fresh-premises w n rounds tests size = record {
  size = size;
  long = fresh-length n;
  start = fresh_start n;
  two_live = omega (arith, all_live n, size-bounds n size);
  accurate = none-suspected n;
  one_wiring = refl;
  no_crash = refl;
  no_late = refl;
}
