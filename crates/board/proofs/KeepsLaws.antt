-- Each part of a turn keeps the line rules of a line by itself.
-- Assumes nothing.
use mathlib.Core.Path.{◌≡◌, refl, sym, ◌∙◌}
use mathlib.Core.Logic.{◌≢◌}
use mathlib.Core.Bool.{true, cond, ◌&&◌}
use mathlib.Core.List.{List}
use Prim.Native.Nat.{ℕ, ◌+◌, max, min, ◌≤◌, ◌<◌}
use native.Mathlib.Nat.{mod-eq_of_lt}
use native.Mathlib.Decide.{ℕ_discrete}
use native.Mathlib.Omega.{arith}
use borrow.Author.Tests.{leb-true, le-leb, ltb-true, lt-ltb, eqb-true, eqb-false, eq-eqb, not-true, ne_eqb}
use lib.Dec.{eqb, ltb, leb}
use lib.ListN.{length, get_or, set, length-set}
use lib.Seq.{get_or-set_same, get_or-set_other}
use Rattle.std.specs.Prelude.{Option, Some, None, Ok, Err}
use Rattle.lists.proofs.BoolLaws.{by_bool}
use Rattle.lists.proofs.SearchLaws.{both, every-at, every-all, list_of-length, list_of-at}
use Rattle.lists.proofs.RefusalLaws.{ensure_ok, and_ok}
use Rattle.table.specs.Sizes.{is_size}
use Rattle.table.specs.Wiring.{end_distance}
use Rattle.table.specs.Fresh.{fresh_byte}
use Rattle.table.specs.Table.{head, stride, status_column, next_column, finished_column, tests_column, told_by_column, told_by_none}
use Rattle.table.specs.Table.{rounds_ago_column, rounds_ago_top, status_told, status_alone}
use Rattle.table.specs.Rules.{exit_rule}
use Rattle.lists.specs.Search.{list_of}
use Rattle.lists.specs.Bytes.{joined_byte}
use Rattle.lists.specs.Refusal.{Check, unless_refused}
use Rattle.station.specs.Wired.{wired_station, next_after}
use Rattle.station.specs.Rows.{union, mark, suspects_all}
use Rattle.station.proofs.UnionLaws.{union-length, union-at, union-own, union-others}
use Rattle.station.proofs.WiredLaws.{station-apart, next_after-between}
use Rattle.station.specs.Outcome.{outcome_told, outcome_tested_told, outcome_exchanged}
use Rattle.table.proofs.CellLaws.{start-pass, Pass, pass-facts, pass-holds, live_exit, none-exit, told-exit}
use Rattle.table.specs.Line.{row_of, with_row}
use Rattle.board.specs.Board.{suspicion_of, next_of, tests, tested, pass_finished, counted, left_told, joined, suspecting, alone, after_alone}
use Rattle.board.specs.Board.{outcome_of, row_given, after_outcome, tested_at, turn_of, round_closed}
use Rattle.board.specs.Packed.{heard}
use Rattle.table.proofs.LineLaws.{row_of-length, row_of-at, with_row-length, with_row-head, with_row-in}
use Rattle.table.specs.declared.wiring.Wiring.{Wiring}
use Rattle.board.proofs.NextLaws.{next-low, next-station}
use Rattle.board.proofs.PackedLaws.{any-bytes}
use Rattle.board.specs.Keeps.{CallsKeepTheRules, FreshLineIsOne}
use Rattle.board.specs.Calls.{line_rules, place_check, line_check, turn_check, replied_check, sent_check, exchanged_check, row_in}

-- a line that is let through
pub record Good (w : Wiring) (n i : ℕ) (l : List ℕ) : Type 0 where
  pub size : is_size n ≡ true
  pub below : i < n
  pub long : length l ≡ stride n
  pub status : get_or l status_column 0 ≤ 3
  pub pass : Pass (end_distance w n) (get_or l next_column 0) (get_or l finished_column 0) (get_or l tests_column 0)
  pub exits : exit_rule n i (get_or l status_column 0) (get_or l told_by_column 0) (get_or l rounds_ago_column 0) ≡ true
  pub own : get_or l (head + i) 0 ≡ 0
  pub range : (k : ℕ) → k < n → get_or l (head + k) 0 ≤ 1

pub good : (w : Wiring) (n i : ℕ) (l : List ℕ) → line_check w n i l ≡ Ok tt → Good w n i l
unfolding line_check place_check line_rules
good w n i l e =
    let z = and_ok _ _ tt e in
    let q = and_ok _ _ tt z.0 in
    let r = and_ok _ _ tt q.1 in
    let a = both _ _ (ensure_ok _ _ _ z.1) in
    let b = both _ _ a.0 in
    let c = both _ _ b.0 in
    let d = both _ _ a.1 in
    record {
      size = ensure_ok _ _ _ q.0;
      below = ltb-true i n (ensure_ok _ _ _ r.0);
      long = eqb-true (length l) (stride n) (ensure_ok _ _ _ r.1);
      status = leb-true (get_or l status_column 0) 3 c.0;
      pass = pass-facts _ _ _ _ c.1;
      exits = b.1;
      own = eqb-true (get_or l (head + i) 0) 0 d.0;
      range = λ k h. leb-true (get_or l (head + k) 0) 1 (every-at (λ k. leb (suspicion_of l k) 1) n k d.1 h);
    }

pub checked : (w : Wiring) (n i : ℕ) (l : List ℕ) → Good w n i l → line_check w n i l ≡ Ok tt
unfolding line_check place_check line_rules
checked w n i l g =
    rw (
      g.size,
      lt-ltb i n g.below,
      eq-eqb (length l) (stride n) g.long,
      le-leb (get_or l status_column 0) 3 g.status,
      pass-holds (end_distance w n) (get_or l next_column 0) (get_or l finished_column 0) (get_or l tests_column 0) g.pass,
      g.exits,
      eq-eqb (get_or l (head + i) 0) 0 g.own,
      every-all (λ k. leb (suspicion_of l k) 1) n (λ k h. le-leb (get_or l (head + k) 0) 1 (g.range k h)),
    ) refl

-- a row as it is heard
abbrev pub GoodRow : ℕ → List ℕ → Type 0
GoodRow n r = (length r ≡ n) × ((k : ℕ) → k < n → get_or r k 0 ≤ 1)

-- two bytes written
two-other : (l : List ℕ) (c v d x k : ℕ) → k ≢ c → k ≢ d → get_or (set (set l c v) d x) k 0 ≡ get_or l k 0
two-other l c v d x k p q = get_or-set_other (set l c v) d k x 0 q ∙ get_or-set_other l c k v 0 p

two-long : (l : List ℕ) (c v d x : ℕ) → length (set (set l c v) d x) ≡ length l
two-long l c v d x = length-set (set l c v) d x ∙ length-set l c v

-- bytes 4 and 5 after a closing
aged : (n i s by old : ℕ) → exit_rule n i s by old ≡ true → exit_rule n i s by (cond (eqb s 0) old (min (old + 1) rounds_ago_top)) ≡ true
unfolding exit_rule
aged n i s by old e = by_bool (eqb s 0) (λ f. rw f (rw f at e)) (λ f. rw f (rw f at e))

module _ (w : Wiring) (n i : ℕ) (l : List ℕ) (g : Good w n i l) where
  -- a line that differs only in bytes 1 to 3, which keep their rules
  counts-kept : (l' : List ℕ) → length l' ≡ length l
      → ((k : ℕ) → k ≢ next_column → k ≢ finished_column → k ≢ tests_column → get_or l' k 0 ≡ get_or l k 0)
      → Pass (end_distance w n) (get_or l' next_column 0) (get_or l' finished_column 0) (get_or l' tests_column 0) → Good w n i l'
  counts-kept l' long same pass =
      let at : (k : ℕ) → k ≢ next_column → k ≢ finished_column → k ≢ tests_column → get_or l' k 0 ≡ get_or l k 0 = same in
      record {
        size = g.size;
        below = g.below;
        long = long ∙ g.long;
        status = rw (at status_column (λ e. omega arith) (λ e. omega arith) (λ e. omega arith)) g.status;
        pass = pass;
        exits =
            rw (
              at status_column (λ e. omega arith) (λ e. omega arith) (λ e. omega arith),
              at told_by_column (λ e. omega arith) (λ e. omega arith) (λ e. omega arith),
              at rounds_ago_column (λ e. omega arith) (λ e. omega arith) (λ e. omega arith),
            ) g.exits;
        own = at (head + i) (λ e. omega arith) (λ e. omega arith) (λ e. omega arith) ∙ g.own;
        range = λ k h. rw (at (head + k) (λ e. omega arith) (λ e. omega arith) (λ e. omega arith)) (g.range k h);
      }

  pub finish-good : Good w n i (pass_finished w n l)
  unfolding pass_finished
  finish-good =
      let l' : List ℕ = set (set l next_column (end_distance w n)) finished_column 1 in
      let next : get_or l' next_column 0 ≡ end_distance w n =
      get_or-set_other (set l next_column (end_distance w n)) finished_column next_column 1 0 (λ e. omega arith)
      ∙ get_or-set_same l next_column (end_distance w n) 0 (omega (arith, g.long)) in
      let done : get_or l' finished_column 0 ≡ 1 =
      get_or-set_same (set l next_column (end_distance w n)) finished_column 1 0
      (omega (arith, g.long, length-set l next_column (end_distance w n))) in
      let tests : get_or l' tests_column 0 ≡ get_or l tests_column 0 =
      two-other l next_column (end_distance w n) finished_column 1 tests_column (λ e. omega arith) (λ e. omega arith) in
      counts-kept l' (two-long l next_column (end_distance w n) finished_column 1)
      (λ k a b c. two-other l next_column (end_distance w n) finished_column 1 k a b)
      (record {
        next_low = omega (arith, g.pass.next_low, g.pass.next_high);
        next_high = omega arith;
        finished_range = omega arith;
        tests_bound = omega (arith, g.pass.tests_bound, g.pass.next_high);
        finished_next = λ p. next;
      })

  pub count-good : (m o : ℕ) → (get_or l finished_column 0 ≡ 1 → ⊥) → get_or l next_column 0 ≤ m → m < end_distance w n
      → Good w n i (counted w n l m o)
  unfolding counted
  count-good m o going lo hi =
      let x : ℕ = next_after w n m o in
      let y : ℕ = get_or l tests_column 0 + 1 in
      let l' : List ℕ = set (set l next_column x) tests_column y in
      let b = next_after-between w n m o hi in
      let next : get_or l' next_column 0 ≡ x =
      get_or-set_other (set l next_column x) tests_column next_column y 0 (λ e. omega arith)
      ∙ get_or-set_same l next_column x 0 (omega (arith, g.long)) in
      let done : get_or l' finished_column 0 ≡ get_or l finished_column 0 =
      two-other l next_column x tests_column y finished_column (λ e. omega arith) (λ e. omega arith) in
      let more : get_or l' tests_column 0 ≡ y =
      get_or-set_same (set l next_column x) tests_column y 0 (omega (arith, g.long, length-set l next_column x)) in
      counts-kept l' (two-long l next_column x tests_column y) (λ k p q r. two-other l next_column x tests_column y k p r)
      (record {
        next_low = omega arith;
        next_high = omega arith;
        finished_range = omega (arith, g.pass.finished_range);
        tests_bound = omega (arith, g.pass.tests_bound, g.pass.next_low);
        finished_next = λ p. absurd (going (sym done ∙ p));
      })

  -- a line that differs only in bytes 0 and 4
  exit-kept : (l' : List ℕ) → length l' ≡ length l → ((k : ℕ) → k ≢ status_column → k ≢ told_by_column → get_or l' k 0 ≡ get_or l k 0)
      → (s : ℕ) → get_or l' status_column 0 ≡ s → s ≤ 3 → exit_rule n i s (get_or l' told_by_column 0) (get_or l rounds_ago_column 0) ≡ true
      → Good w n i l'
  exit-kept l' long same s e low exits =
      record {
        size = g.size;
        below = g.below;
        long = long ∙ g.long;
        status = omega arith;
        pass =
            rw (
              same next_column (λ e. omega arith) (λ e. omega arith),
              same finished_column (λ e. omega arith) (λ e. omega arith),
              same tests_column (λ e. omega arith) (λ e. omega arith),
            ) g.pass;
        exits = rw (e, same rounds_ago_column (λ e. omega arith) (λ e. omega arith)) exits;
        own = same (head + i) (λ e. omega arith) (λ e. omega arith) ∙ g.own;
        range = λ k h. rw (same (head + k) (λ e. omega arith) (λ e. omega arith)) (g.range k h);
      }

  pub told-good : (b : ℕ) → b < n → b ≢ i → Good w n i (left_told l b)
  unfolding left_told
  told-good b hb apart =
      let l' : List ℕ = set (set l status_column status_told) told_by_column b in
      let s : get_or l' status_column 0 ≡ status_told =
      get_or-set_other (set l status_column status_told) told_by_column status_column b 0 (λ e. omega arith)
      ∙ get_or-set_same l status_column status_told 0 (omega (arith, g.long)) in
      let by : get_or l' told_by_column 0 ≡ b =
      get_or-set_same (set l status_column status_told) told_by_column b 0 (omega (arith, g.long, length-set l status_column status_told)) in
      exit-kept l' (two-long l status_column status_told told_by_column b)
      (λ k p q. two-other l status_column status_told told_by_column b k p q) status_told s (omega arith) (rw by (told-exit n i b _ hb apart))

  pub alone-good : Good w n i (after_alone n i l)
  unfolding after_alone alone
  alone-good =
      by_bool (eqb (get_or l status_column 0) 0 && suspects_all (suspicion_of l) i n)
      (λ a.
      let live : get_or l status_column 0 ≡ 0 = eqb-true (get_or l status_column 0) 0 (both _ _ a).0 in
      let none = (live_exit n i (get_or l told_by_column 0) (get_or l rounds_ago_column 0) (rw live at g.exits)).0 in
      rw a
      (exit-kept (set l status_column status_alone) (length-set l status_column status_alone)
      (λ k p q. get_or-set_other l status_column k status_alone 0 p) status_alone
      (get_or-set_same l status_column status_alone 0 (omega (arith, g.long))) (omega arith)
      (none-exit n i status_alone _ _ (omega arith) (λ e. omega arith)
      (get_or-set_other l status_column told_by_column status_alone 0 (λ e. omega arith) ∙ none))))
      (λ a. rw a g)

  -- a line that differs only in its row
  row-kept : (l' : List ℕ) → length l' ≡ length l → ((k : ℕ) → k < head → get_or l' k 0 ≡ get_or l k 0) → get_or l' (head + i) 0 ≡ 0
      → ((k : ℕ) → k < n → get_or l' (head + k) 0 ≤ 1) → Good w n i l'
  row-kept l' long same own range =
      record {
        size = g.size;
        below = g.below;
        long = long ∙ g.long;
        status = rw (same status_column (omega arith)) g.status;
        pass = rw (same next_column (omega arith), same finished_column (omega arith), same tests_column (omega arith)) g.pass;
        exits = rw (same status_column (omega arith), same told_by_column (omega arith), same rounds_ago_column (omega arith)) g.exits;
        own = own;
        range = range;
      }

  pub suspect-good : (j : ℕ) → j ≢ i → Good w n i (suspecting n l j)
  unfolding suspecting mark
  suspect-good j apart =
      row-kept (with_row n l u) (with_row-length n l u g.long hu ∙ sym g.long) (λ k h. with_row-head n l u g.long hu k h)
      (with_row-in n l u g.long hu i g.below ∙ (get_or-set_other (row_of n l) j i 1 0 (λ e. apart (sym e)) ∙ (row_of-at n l i g.below ∙ g.own)))
      (λ k h. let e = with_row-in n l u g.long hu k h in omega (arith, e, pick k h (ℕ_discrete k j)))
    where
      u : List ℕ
      u = set (row_of n l) j 1

      hu : length u ≡ n
      hu = length-set (row_of n l) j 1 ∙ row_of-length n l g.long

      pick : (k : ℕ) → k < n → Dec (k ≡ j) → get_or u k 0 ≤ 1
      pick k h (yes e) = let x = get_or-set_same (row_of n l) j 1 0 (omega (arith, row_of-length n l g.long)) in rw e (omega (arith, x))
      pick k h (no d) = let x = get_or-set_other (row_of n l) j k 1 0 d in omega (arith, x, row_of-at n l k h, g.range k h)

  pub join-good : (r : List ℕ) → GoodRow n r → Good w n i (joined n i l r)
  unfolding joined joined_byte
  join-good r good-r =
      row-kept (with_row n l u) (with_row-length n l u g.long hu ∙ sym g.long) (λ k h. with_row-head n l u g.long hu k h)
      (with_row-in n l u g.long hu i g.below ∙ own-byte)
      (λ k h. let e = with_row-in n l u g.long hu k h in omega (arith, e, pick k h (ℕ_discrete k i)))
    where
      u : List ℕ
      u = union (row_of n l) r i

      rl : length (row_of n l) ≡ n
      rl = row_of-length n l g.long

      hu : length u ≡ n
      hu = union-length (row_of n l) r i ∙ rl

      own-byte : get_or u i 0 ≡ 0
      own-byte = union-at (row_of n l) r i i (omega (arith, g.below, rl)) ∙ (union-own (row_of n l) r i ∙ (row_of-at n l i g.below ∙ g.own))

      pick : (k : ℕ) → k < n → Dec (k ≡ i) → get_or u k 0 ≤ 1
      pick k h (yes e) = rw e (omega (arith, own-byte))
      pick k h (no d) =
          let e : get_or u k 0 ≡ max (get_or (row_of n l) k 0) (get_or r k 0) =
          union-at (row_of n l) r i k (omega (arith, rl)) ∙ union-others (row_of n l) r i k d in
          omega (arith, e, row_of-at n l k h, g.range k h, good-r.1 k h)

  -- a closing
  pub close-good : Good w n i (round_closed l)
  unfolding round_closed
  close-good = record {
    size = g.size;
    below = g.below;
    long = length-set l₃ rounds_ago_column ago ∙ long₃;
    status = rw (same status_column (λ e. omega arith) (λ e. omega arith) (λ e. omega arith) (λ e. omega arith)) g.status;
    pass =
        rw (next, done, none)
        (start-pass w n i g.below);
    exits =
        rw (
          same status_column (λ e. omega arith) (λ e. omega arith) (λ e. omega arith) (λ e. omega arith),
          same told_by_column (λ e. omega arith) (λ e. omega arith) (λ e. omega arith) (λ e. omega arith),
          get_or-set_same l₃ rounds_ago_column ago 0 (omega (arith, long₃)),
        ) (any-age (get_or l status_column 0) (get_or l told_by_column 0) g.exits);
    own = same (head + i) (λ e. omega arith) (λ e. omega arith) (λ e. omega arith) (λ e. omega arith) ∙ g.own;
    range = λ k h. rw (same (head + k) (λ e. omega arith) (λ e. omega arith) (λ e. omega arith) (λ e. omega arith)) (g.range k h);
  }
    where
      l₁ : List ℕ
      l₁ = set l next_column 1

      l₂ : List ℕ
      l₂ = set l₁ finished_column 0

      l₃ : List ℕ
      l₃ = set l₂ tests_column 0

      old : ℕ
      old = get_or l rounds_ago_column 0

      ago : ℕ
      ago = cond (eqb (get_or l status_column 0) 0) old (min (old + 1) rounds_ago_top)

      long₁ : length l₁ ≡ stride n
      long₁ = length-set l next_column 1 ∙ g.long

      long₂ : length l₂ ≡ stride n
      long₂ = length-set l₁ finished_column 0 ∙ long₁

      long₃ : length l₃ ≡ stride n
      long₃ = length-set l₂ tests_column 0 ∙ long₂

      same : (k : ℕ) → k ≢ next_column → k ≢ finished_column → k ≢ tests_column → k ≢ rounds_ago_column
          → get_or (set l₃ rounds_ago_column ago) k 0 ≡ get_or l k 0
      same k a b c d =
          get_or-set_other l₃ rounds_ago_column k ago 0 d
          ∙ (get_or-set_other l₂ tests_column k 0 0 c ∙ (get_or-set_other l₁ finished_column k 0 0 b ∙ get_or-set_other l next_column k 1 0 a))

      next : get_or (set l₃ rounds_ago_column ago) next_column 0 ≡ 1
      next =
          get_or-set_other l₃ rounds_ago_column next_column ago 0 (λ e. omega arith)
          ∙ (get_or-set_other l₂ tests_column next_column 0 0 (λ e. omega arith)
          ∙ (get_or-set_other l₁ finished_column next_column 0 0 (λ e. omega arith) ∙ get_or-set_same l next_column 1 0 (omega (arith, g.long))))

      done : get_or (set l₃ rounds_ago_column ago) finished_column 0 ≡ 0
      done =
          get_or-set_other l₃ rounds_ago_column finished_column ago 0 (λ e. omega arith)
          ∙ (get_or-set_other l₂ tests_column finished_column 0 0 (λ e. omega arith) ∙ get_or-set_same l₁ finished_column 0 0 (omega (arith, long₁)))

      none : get_or (set l₃ rounds_ago_column ago) tests_column 0 ≡ 0
      none = get_or-set_other l₃ rounds_ago_column tests_column ago 0 (λ e. omega arith) ∙ get_or-set_same l₂ tests_column 0 0 (omega (arith, long₂))

      any-age : (s by : ℕ) → exit_rule n i s by old ≡ true → exit_rule n i s by (cond (eqb s 0) old (min (old + 1) rounds_ago_top)) ≡ true
      any-age s by e = aged n i s by old e

-- the row that was given to an exchange
given-good : (n i j : ℕ) (l : List ℕ) (reply : Option (List ℕ)) → ((r : List ℕ) → reply ≡ Some r → GoodRow n r)
    → outcome_of i j l reply ≡ outcome_exchanged → GoodRow n (row_given reply)
unfolding outcome_of
given-good n i j l None rows e = absurd (omega arith)
given-good n i j l (Some r) rows e = rows r refl

-- a turn, whatever was answered
turn-good : (w : Wiring) (n i : ℕ) (l : List ℕ) (reply : Option (List ℕ)) → Good w n i l → (get_or l finished_column 0 ≡ 1 → ⊥)
    → ((r : List ℕ) → reply ≡ Some r → GoodRow n r) → Good w n i (turn_of w n i l reply)
unfolding turn_of tested_at tests after_outcome
turn-good w n i l reply g going rows =
    by_bool (ltb (next_of w n i l) (end_distance w n)) (λ m. rw m (testing m)) (λ m. rw m (finish-good w n i l g))
  where
    x : ℕ
    x = next_of w n i l

    j : ℕ
    j = wired_station w n i x

    o : ℕ
    o = outcome_of i j l reply

    testing : ltb x (end_distance w n) ≡ true → Good w n i (after_alone n i (after_outcome n i j (counted w n l x o) (row_given reply) o))
    testing m =
        let hx : x < end_distance w n = ltb-true x (end_distance w n) m in
        let low = next-low w n i l in
        let hj : j < n = next-station w n i l g.long g.below hx in
        let apart : i ≢ j = station-apart w n i x g.below (omega (arith, low, g.pass.next_low)) hx in
        let c : List ℕ = counted w n l x o in
        let gc : Good w n i c = count-good w n i l g x o going low hx in
        alone-good w n i (after_outcome n i j c (row_given reply) o)
        (by_bool (eqb o outcome_told) (λ a. rw a (told-good w n i c gc j hj (λ e. apart (sym e))))
        (λ a.
        by_bool (eqb o outcome_tested_told) (λ b. rw (a, b) gc)
        (λ b.
        by_bool (eqb o outcome_exchanged)
        (λ d. rw (a, b, d) (join-good w n i c gc (row_given reply) (given-good n i j l reply rows (eqb-true o outcome_exchanged d))))
        (λ d. rw (a, b, d) (suspect-good w n i c gc j (λ e. apart (sym e)))))))

-- a call leaves what was there or what it makes
unless-good : (w : Wiring) (n i : ℕ) (c : Check) (l l' : List ℕ) → Good w n i l → (c ≡ Ok tt → Good w n i l') → Good w n i (unless_refused c l l')
unless-good w n i (Ok x) l l' g f = f refl
unless-good w n i (Err r) l l' g f = g

turn-going : (w : Wiring) (n i : ℕ) (l : List ℕ) → turn_check w n i l ≡ Ok tt → get_or l finished_column 0 ≡ 1 → ⊥
unfolding turn_check
turn-going w n i l e = eqb-false (get_or l finished_column 0) 1 (not-true _ (ensure_ok _ _ _ (and_ok _ _ tt e).1))

replied-turn : (w : Wiring) (n i : ℕ) (l : List ℕ) (len : ℕ) → replied_check w n i l len ≡ Ok tt → turn_check w n i l ≡ Ok tt
unfolding replied_check
replied-turn w n i l len e = (and_ok _ _ tt e).0

sent-facts : (w : Wiring) (n i : ℕ) (l : List ℕ) (b : ℕ) → sent_check w n i l b ≡ Ok tt → (b < n) × (b ≢ i)
unfolding sent_check
sent-facts w n i l b e =
    let p = and_ok _ _ tt e in
    let q = and_ok _ _ tt p.1 in
    (ltb-true b n (ensure_ok _ _ _ q.0), eqb-false b i (not-true _ (ensure_ok _ _ _ q.1)))

heard-good : (n from : ℕ) (p : List ℕ) → GoodRow n (heard n from p)
heard-good n from p = let a = any-bytes n from p in (a.0, a.2)

-- the calls keep the rules, an end in itself
pub calls-keep : CallsKeepTheRules
calls-keep w n i l z =
    let g = good w n i l z in
    record {
      replied = λ p. checked w n i _
          (unless-good w n i (replied_check w n i l (length p)) l (turn_of w n i l (row_in w n i l p)) g
          (λ e. turn-good w n i l (row_in w n i l p) g (turn-going w n i l (replied-turn w n i l (length p) e))
          (λ r q. same-good n (tested w n i l) p r q)));
      not_replied = checked w n i _
          (unless-good w n i (turn_check w n i l) l (turn_of w n i l None) g
          (λ e. turn-good w n i l None g (turn-going w n i l e) (λ r q. absurd (none-some r q))));
      told = λ b. checked w n i _
          (unless-good w n i (sent_check w n i l b) l (left_told l b) g
          (λ e. let f = sent-facts w n i l b e in told-good w n i l g b f.0 f.1));
      exchanged = λ b p. checked w n i _
          (unless-good w n i (exchanged_check w n i l b (length p)) l (joined n i l (heard n b p)) g
          (λ e. join-good w n i l g (heard n b p) (heard-good n b p)));
      closed = checked w n i _ (unless-good w n i (line_check w n i l) l (round_closed l) g (λ e. close-good w n i l g));
    }
  where
    same-good : (n from : ℕ) (p r : List ℕ) → ◌≡◌ {A = Option (List ℕ)} (Some (heard n from p)) (Some r) → GoodRow n r
    same-good n from p r q = let e : heard n from p ≡ r = cc in rw (← e) (heard-good n from p)

    none-some : (r : List ℕ) → ◌≡◌ {A = Option (List ℕ)} None (Some r) → ⊥
    none-some r q = cc

-- a fresh line
abbrev fresh_line : ℕ → List ℕ
fresh_line n = list_of (fresh_byte n) (stride n)

fresh-at : (n k v : ℕ) → k < stride n → cond (eqb k next_column) 1 (cond (eqb k told_by_column) told_by_none 0) ≡ v → get_or (fresh_line n) k 0 ≡ v
unfolding fresh_byte
fresh-at n k v h e = list_of-at (fresh_byte n) (stride n) k h ∙ rw (mod-eq_of_lt h) e

fresh-row : (n k : ℕ) → k < n → get_or (fresh_line n) (head + k) 0 ≡ 0
fresh-row n k h =
    fresh-at n (head + k) 0 (omega arith)
    (rw (ne_eqb (head + k) next_column (λ e. omega arith), ne_eqb (head + k) told_by_column (λ e. omega arith)) refl)

fresh-good : (w : Wiring) (n i len : ℕ) → place_check n i len ≡ Ok tt → Good w n i (fresh_line n)
unfolding place_check exit_rule
fresh-good w n i len e =
    let q = and_ok _ _ tt e in
    let r = and_ok _ _ tt q.1 in
    let below : i < n = ltb-true i n (ensure_ok _ _ _ r.0) in
    record {
      size = ensure_ok _ _ _ q.0;
      below = below;
      long = list_of-length (fresh_byte n) (stride n);
      status = omega (arith, status);
      pass =
          rw (next, done, tests)
          (start-pass w n i below);
      exits = rw (status, by, ago) refl;
      own = fresh-row n i below;
      range = λ k h. omega (arith, fresh-row n k h);
    }
  where
    status : get_or (fresh_line n) status_column 0 ≡ 0
    status = fresh-at n status_column 0 (omega arith) refl

    next : get_or (fresh_line n) next_column 0 ≡ 1
    next = fresh-at n next_column 1 (omega arith) refl

    done : get_or (fresh_line n) finished_column 0 ≡ 0
    done = fresh-at n finished_column 0 (omega arith) refl

    tests : get_or (fresh_line n) tests_column 0 ≡ 0
    tests = fresh-at n tests_column 0 (omega arith) refl

    by : get_or (fresh_line n) told_by_column 0 ≡ told_by_none
    by = fresh-at n told_by_column told_by_none (omega arith) refl

    ago : get_or (fresh_line n) rounds_ago_column 0 ≡ 0
    ago = fresh-at n rounds_ago_column 0 (omega arith) refl

pub fresh-is-one : FreshLineIsOne
fresh-is-one w n i l e = rw e (checked w n i (fresh_line n) (fresh-good w n i (length l) e))
