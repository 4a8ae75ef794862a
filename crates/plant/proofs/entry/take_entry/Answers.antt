-- The entry is taken, so that no tally is full, and its outcome tells whether a test was made.
use Rattle.std.proofs.Common.{◌≡◌, ◌+◌, ◌≤◌, ℕ, Bool, true, false, cond, refl, arith}
use mathlib.Core.List.{List, [], ◌∷◌}
use Rattle.std.specs.Prelude.{length, set}
use Rattle.std.specs.Int.{from_bool}
use Rattle.plant.specs.Entry.{state_with, entry_known, after, sheet_line}
use Rattle.plant.proofs.RulesKept.{entry-facts}
use Rattle.plant.proofs.RunLaws.{made-test}
use Rattle.plant.proofs.entry.take_entry.Goals as goal

bit-most : (b : Bool) → from_bool b ≤ 1
bit-most true = omega arith
bit-most false = omega arith

bit-added : (b : Bool) (x : ℕ) → x + from_bool b ≡ cond b (x + 1) x
bit-added true x = refl
bit-added false x = omega arith

-- a line of four bytes, each of which is written
line-written : (l : List ℕ) (a b c d : ℕ) → length l ≡ 4 → set (set (set (set l 0 a) 1 b) 2 c) 3 d ≡ a ∷ b ∷ c ∷ d ∷ []
line-written [] a b c d e = absurd (omega arith)
line-written (w ∷ []) a b c d e = absurd (omega arith)
line-written (w ∷ x ∷ []) a b c d e = absurd (omega arith)
line-written (w ∷ x ∷ y ∷ []) a b c d e = absurd (omega arith)
line-written (w ∷ x ∷ y ∷ z ∷ []) a b c d e = refl
line-written (w ∷ x ∷ y ∷ z ∷ v ∷ more) a b c d e = absurd (omega arith)

pub act-done-requires : goal.act-done-requires
act-done-requires c =
    record {
      table_obeys = c.requires.table_obeys;
      station_below = (entry-facts _ _ _ c.requires.entry_taken).below;
    }

pub close_round-over-requires : goal.close_round-over-requires
close_round-over-requires c = omega (arith, (entry-facts _ _ _ c.requires.entry_taken).below)

pub get-status-requires-clause-line : goal.get-status-requires-clause-line
get-status-requires-clause-line c = omega (arith, (entry-facts _ _ _ c.requires.entry_taken).below)

pub overflow_add-result : goal.overflow_add-result
overflow_add-result c =
    let f = entry-facts c.args.table.now.n (state_with c.args.table.now.bytes.now c.args.tally) (entry_known c.args.entry) c.requires.entry_taken in
    omega (arith, f.rounds_fit, bit-most c.close_round-over.result)

pub overflow_add-result-2 : goal.overflow_add-result-2
overflow_add-result-2 c =
    let f = entry-facts c.args.table.now.n (state_with c.args.table.now.bytes.now c.args.tally) (entry_known c.args.entry) c.requires.entry_taken in
    omega (arith, f.tests_fit, bit-most)

pub returns-clause-state_after : goal.returns-clause-state_after
unfolding after
returns-clause-state_after c =
    let e = c.act-done.ensures in
    let f = c.close_round-over.ensures in
    let m = made-test c.args.table.now.wiring c.args.table.now.n c.args.table.now.bytes.now (entry_known c.args.entry) in
    rw (c.from.ensures, c.from-2.ensures, bit-added c.close_round-over.result, bit-added)
    (rw (f.is_over, f.round_closed, e.same_loan.size, e.entry_acted, c.made_test.ensures, e.outcome_number, m))

pub returns-clause-line_after : goal.returns-clause-line_after
unfolding after sheet_line
returns-clause-line_after c =
    let e = c.act-done.ensures in
    let f = c.close_round-over.ensures in
    rw (line-written _ _ _ _ _ c.requires.line_length, c.tested_byte-tested.ensures, c.outcome_byte-outcome.ensures, e.tested_station, e.outcome_number)
    (rw (
      c.get-status.ensures,
      c.read.ensures.same_size,
      c.read.ensures.same_bytes,
      f.round_closed,
      f.same_loan.size,
      e.same_loan.size,
      e.entry_acted,
    ))
