-- Entries, runs and lists of runs on alike tables: the same answers and sheets, and tables that stay alike.
-- Assumes nothing.
use mathlib.Core.Path.{◌≡◌, refl, sym, ap₂, ◌∙◌}
use mathlib.Core.List.{List, [], ◌∷◌}
use Prim.Native.Nat.{ℕ, suc, ◌<◌}
use native.Mathlib.Decide.{dec_lt}
use native.Mathlib.Omega.{arith}
use borrow.Author.Tests.{le-ltb}
use mathlib.Core.Logic.{by_cases}
use lib.ListN.{length}
use Rattle.lists.specs.declared.refusal.Refusal.{Refusal}
use Rattle.lists.proofs.BoolLaws.{by_bool}
use Rattle.lists.proofs.RefusalLaws.{and_same, by_check}
use Rattle.std.proofs.lemmas.List.Elements.{All-head, All-tail}
use Rattle.table.specs.Table.{table_length, finished_column, live}
use Rattle.table.specs.Rules.{round_over, shape_check, table_check}
use Rattle.table.proofs.Accepting.{accepted, shape_ok}
use Rattle.table.specs.declared.wiring.Wiring.{Wiring}
use Rattle.plant.specs.Round.{after_round}
use Rattle.plant.specs.Entry.{Entry, State, entry_check, acted, after, sheet_line}
use Rattle.plant.specs.Run.{RunResult, entries, write_line, go_on, start_check, run}
use Rattle.plant.proofs.RulesKept.{Takes, entry-facts, run-keeps-rules}
use Rattle.plant.proofs.RunLaws.{start-facts}
use Rattle.detection.specs.Runs.{Call, after_run, after_runs}
use Rattle.detection.proofs.Chain.{size-unique}
use Rattle.dead_lines.specs.Alike.{Alike, StayAlike, SameRun, IsOn, RunOfAlike, answers_of_runs, RunsOfAlike}
use Rattle.dead_lines.proofs.Writes.{Twins, Step, still, then, twins-after, line-after, closing}
use Rattle.dead_lines.proofs.TurnAlike.{live-same, over-same, acted-step, test-same, tested-same, outcome-of-same}
use Rattle.std.specs.Prelude.{Ok, Err, Option, None, Some}

-- twin tables with one tally
pub record Both (n : ℕ) (s r : State) : Type 0 where
  pub tables : Twins n s.table r.table
  pub rounds : s.rounds ≡ r.rounds
  pub tests : s.tests ≡ r.tests

-- an entry is refused in both or in neither
module _ (n : ℕ) (s r : State) (b : Both n s r) (e : Entry) where
  pub check-same : entry_check n s e ≡ entry_check n r e
  unfolding entry_check
  check-same = by_cases (dec_lt e.station n) there (λ d. rw (b.rounds, b.tests, le-ltb e.station n (omega arith)))
    where
      there : e.station < n → entry_check n s e ≡ entry_check n r e
      there h =
          by_bool (live n s.table e.station)
          (λ l. rw (b.rounds, b.tests, b.tables.statuses e.station h, b.tables.live_lines e.station h l finished_column (omega arith)))
          (λ l. rw (b.rounds, b.tests, ← live-same n s.table r.table b.tables e.station h, l))

  -- one that is taken
  module _ (w : Wiring) (z : entry_check n s e ≡ Ok tt) where
    takes : Takes n s e
    takes = entry-facts n s e z

    acted-both : Step n s.table r.table (acted w n s.table e) (acted w n r.table e)
    acted-both = acted-step w n s.table r.table b.tables e takes.below takes.is_live

    over : round_over n (acted w n s.table e) ≡ round_over n (acted w n r.table e)
    over = over-same n (acted w n s.table e) (acted w n r.table e) (twins-after b.tables acted-both)

    pub after-step : Step n s.table r.table (after w n s e).table (after w n r e).table
    unfolding after after_round
    after-step =
        by_bool (round_over n (acted w n s.table e))
        (λ o. rw (← over, o) (then acted-both (closing n (acted w n s.table e) (acted w n r.table e) (twins-after b.tables acted-both))))
        (λ o. rw (← over, o) acted-both)

    pub after-both : Both n (after w n s e) (after w n r e)
    unfolding after
    after-both = record {
      tables = twins-after b.tables after-step;
      rounds = rw (over, b.rounds);
      tests = rw (test-same w n s.table r.table b.tables e takes.below takes.is_live, b.tests);
    }

    pub sheet-same : sheet_line w n s e ≡ sheet_line w n r e
    unfolding sheet_line
    sheet-same =
        let tested = tested-same w n s.table r.table b.tables e takes.below takes.is_live in
        let outcome = outcome-of-same w n s.table r.table b.tables e takes.below takes.is_live in
        rw (tested, outcome, after-both.tables.statuses e.station takes.below)

-- two runs from twin tables
pub record SameFrom (n : ℕ) (s r : State) (a b : RunResult) : Type 0 where
  pub stopped : a.stopped ≡ b.stopped
  pub taken : a.taken ≡ b.taken
  pub sheet : a.sheet ≡ b.sheet
  pub rounds : a.state.rounds ≡ b.state.rounds
  pub tests : a.state.tests ≡ b.state.tests
  pub step : Step n s.table r.table a.state.table b.state.table

-- a run that is stopped, by the same refusal
stopped : (n : ℕ) (s r : State) → Both n s r → (by : Option Refusal) (k : ℕ) (sheet : List ℕ)
    → SameFrom n s r (record { stopped = by; taken = k; state = s; sheet = sheet })
    (record { stopped = by; taken = k; state = r; sheet = sheet })
stopped n s r b by k sheet =
    record { stopped = refl; taken = refl; sheet = refl; rounds = b.rounds; tests = b.tests; step = still n s.table r.table }

-- what follows a step
further : {n : ℕ} {s r s' r' : State} {a b : RunResult} → Step n s.table r.table s'.table r'.table → SameFrom n s' r' a b → SameFrom n s r a b
further one rest =
    record { stopped = rest.stopped; taken = rest.taken; sheet = rest.sheet; rounds = rest.rounds; tests = rest.tests; step = then one rest.step }

run-on : (w : Wiring) (n k : ℕ) (s r : State) (sheet : List ℕ) (es : List Entry) → Both n s r
    → SameFrom n s r (go_on w n k s sheet es) (go_on w n k r sheet es)
unfolding go_on
run-on w n k s r sheet [] b = stopped n s r b None k sheet
run-on w n k s r sheet (e ∷ es) b =
    by_check (entry_check n s e)
    (λ z.
    let rest = run-on w n (suc k) (after w n s e) (after w n r e) (write_line sheet k (sheet_line w n s e)) es (after-both n s r b e w z) in
    rw (← check-same n s r b e, z, ← sheet-same n s r b e w z) (further (after-step n s r b e w z) rest))
    (λ x z. rw (← check-same n s r b e, z) (stopped n s r b (Some x) k sheet))

-- alike tables and tallies
module _ (w : Wiring) (n : ℕ) (s r : State) (a : Alike w n s r) where
  pub long-alike : length s.table ≡ table_length n
  long-alike = (accepted w n s.table a.valid).long

  pub alike-both : Both n s r
  alike-both = record {
    tables = record {
      long = long-alike;
      other_long = (accepted w n r.table a.other_valid).long;
      statuses = λ i h. a.statuses i (omega (arith, h));
      live_lines = λ i h l. a.live_lines i (omega (arith, h)) l;
    };
    rounds = a.rounds;
    tests = a.tests;
  }

  same-length : length s.table ≡ length r.table
  same-length = long-alike ∙ sym alike-both.tables.other_long

  -- a call whose size fits the other table has this size
  pub size-is : (m : ℕ) → table_length m ≡ length r.table → m ≡ n
  size-is m fits = size-unique m n (fits ∙ alike-both.tables.other_long)

  -- a call on this wiring, of any size, finds the same of refusals 1 to 4: one of another size by the length alone
  pub tables-checked : (m : ℕ) → table_check w m s.table ≡ table_check w m r.table
  unfolding table_check
  tables-checked m =
      rw same-length
      (and_same (shape_check m (length r.table)) _ _
      (λ ok.
      let p = accepted w n s.table a.valid in
      let q = accepted w n r.table a.other_valid in
      rw (size-is m (sym (shape_ok m (length r.table) tt ok).1), p.lines, p.unclosed, q.lines, q.unclosed)))

  started : (m x y : ℕ) → start_check w m s.table x y ≡ start_check w m r.table x y
  unfolding start_check
  started m x y = rw (tables-checked m)

  run-same : (m : ℕ) (schedule sheet : List ℕ) → SameFrom n s r (run w m s schedule sheet) (run w m r schedule sheet)
  unfolding run
  run-same m schedule sheet =
      by_check (start_check w m s.table (length schedule) (length sheet))
      (λ t.
      let fits = (start-facts w m s.table (length schedule) (length sheet) t).0 in
      rw (← started m (length schedule) (length sheet), t, size-is m (sym fits.long ∙ same-length))
      (run-on w n 0 s r sheet (entries schedule) alike-both))
      (λ x t. rw (← started m (length schedule) (length sheet), t) (stopped n s r alike-both (Some x) 0 sheet))

-- a run of any size keeps the rules of size n
still-valid : (w : Wiring) (n : ℕ) (s : State) → table_check w n s.table ≡ Ok tt → (m : ℕ) (schedule sheet : List ℕ)
    → table_check w n (run w m s schedule sheet).state.table ≡ Ok tt
unfolding run
still-valid w n s z m schedule sheet =
    by_check (start_check w m s.table (length schedule) (length sheet))
    (λ t.
    let fits = (start-facts w m s.table (length schedule) (length sheet) t).0 in
    let same : m ≡ n = size-unique m n (sym fits.long ∙ (accepted w n s.table z).long) in
    rw same (run-keeps-rules w n s schedule sheet z))
    (λ r t. rw t z)

-- what stays alike
pub stays : (w : Wiring) (n : ℕ) (s r s' r' : State) → Both n s r → Step n s.table r.table s'.table r'.table → table_check w n s'.table ≡ Ok tt
    → table_check w n r'.table ≡ Ok tt → s'.rounds ≡ r'.rounds → s'.tests ≡ r'.tests → StayAlike w n s r s' r'
stays w n s r s' r' b step z z' rounds tests =
    let tw = twins-after b.tables step in
    record {
      alike = record { valid = z; other_valid = z'; statuses = tw.statuses; live_lines = tw.live_lines; rounds = rounds; tests = tests };
      lines = line-after step;
    }

pub stay-still : (w : Wiring) (n : ℕ) (s r : State) → Alike w n s r → StayAlike w n s r s r
stay-still w n s r a = record { alike = a; lines = λ i h line. line }

pub stay-then : {w : Wiring} {n : ℕ} {s r s' r' s'' r'' : State} → StayAlike w n s r s' r' → StayAlike w n s' r' s'' r'' → StayAlike w n s r s'' r''
stay-then one two = record { alike = two.alike; lines = λ i h line. two.lines i h (one.lines i h line) }

on-wiring-alike : (w : Wiring) (n : ℕ) (s r : State) → Alike w n s r → (m : ℕ) (schedule sheet : List ℕ)
    → SameRun w n s r (run w m s schedule sheet) (run w m r schedule sheet)
on-wiring-alike w n s r a m schedule sheet =
    let f = run-same w n s r a m schedule sheet in
    record {
      answer = rw (f.stopped, f.taken, f.rounds, f.tests, f.sheet);
      left =
          stays w n s r _ _ (alike-both w n s r a) f.step (still-valid w n s a.valid m schedule sheet)
          (still-valid w n r a.other_valid m schedule sheet) f.rounds f.tests;
    }

-- a run, an end in itself
pub run-of-alike : RunOfAlike
run-of-alike w n s r a (Ok v) m schedule sheet on = rw on (on-wiring-alike w n s r a m schedule sheet)
run-of-alike w n s r a (Err x) m schedule sheet on = record { answer = rw (a.rounds, a.tests); left = stay-still w n s r a }

-- a list of runs, an end in itself
pub runs-of-alike : RunsOfAlike
unfolding answers_of_runs after_runs
runs-of-alike w n s r a [] on = (refl, stay-still w n s r a)
runs-of-alike w n s r a (c ∷ cs) on =
    let one = run-of-alike w n s r a c.wiring c.size c.schedule c.sheet (All-head (λ (c : Call). IsOn w c.wiring) c cs on) in
    let rest = runs-of-alike w n (after_run s c) (after_run r c) one.left.alike cs (All-tail (λ (c : Call). IsOn w c.wiring) c cs on) in
    (ap₂ ◌∷◌ one.answer rest.0, stay-then one.left rest.1)
