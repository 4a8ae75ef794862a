-- The rounds of a list of runs: byte 3 counts the testing entries, and the tests that a board makes are due by its row.
-- Assumes nothing.
use mathlib.Core.Path.{◌≡◌, refl, sym, ◌∙◌}
use mathlib.Core.Logic.{◌≢◌, ◌⊎◌, inl, inr}
use mathlib.Core.Bool.{true, false, true≢false}
use mathlib.Core.List.{List, [], ◌∷◌, ◌++◌}
use Prim.Native.Nat.{ℕ, zero, suc, ◌+◌, ◌-◌, ◌≤◌, ◌<◌}
use native.Mathlib.Nat.{le_trans}
use native.Mathlib.Decide.{ℕ_discrete}
use native.Mathlib.Omega.{arith}
use borrow.Author.Tests.{eqb-true, eqb-false, eq-eqb}
use lib.ListN.{length, get_or}
use Rattle.lists.specs.Sums.{bit}
use Rattle.table.specs.Sizes.{distances}
use Rattle.table.specs.Wiring.{end_distance}
use Rattle.table.proofs.WiringLaws.{end-cube}
use Rattle.table.specs.Table.{head, table_length, status_column, next_distance, finished, tests_made, suspects, row, status_crashed}
use Rattle.table.specs.Rules.{round_over}
use Rattle.table.specs.Properties.{line_at_start, at_start}
use Rattle.station.specs.Tests.{unsuspected, due}
use Rattle.station.specs.Rows.{mark}
use Rattle.lists.proofs.BoolLaws.{by_bool}
use Rattle.lists.proofs.SearchLaws.{both, every-at}
use Rattle.lists.proofs.SumLaws.{sum-split}
use Rattle.table.proofs.Accepting.{Accepted}
use Rattle.table.proofs.CellLaws.{cell_other, row-length, row_same, accepted-line}
use Rattle.table.specs.declared.wiring.Wiring.{Wiring}
use Rattle.table.specs.declared.wiring.Wiring.TheVariants.{Cube}
use Rattle.station.proofs.UnionLaws.{mark-length}
use Rattle.station.proofs.EntryLaws.{unsuspected-below}
use Rattle.plant.specs.Turn.{kind_crash, crash, next_test, outcome_at}
use Rattle.plant.proofs.StepLines.{Lines}
use Rattle.plant.proofs.TurnHeads.{turn-heads}
use Rattle.plant.specs.Round.{reset_lines, after_round}
use Rattle.plant.specs.Entry.{Entry, State, is_crash, entry_check, acted, after}
use Rattle.plant.proofs.RulesKept.{entry-facts, acted-lines}
use Rattle.plant.proofs.RoundLaws.{Reset, reset-cells, reset-other, reset-lines}
use Rattle.detection.specs.Runs.{Call, Taken, table_after, taken_all, after_runs, is_on}
use Rattle.detection.specs.Rounds.{count_taken, all_taken, Rounds, closes, cut}
use Rattle.detection.specs.Claim.{all_rounds, rounds_of, round_at}
use Rattle.detection.proofs.TakenLaws.{taken_at}
use Rattle.detection.proofs.Chain.{Chain, done, more, WiredChain, ends, next, on-wiring, chain_first, chain-all}
use Rattle.detection.proofs.Counting.{Counts, counts_start, turn-counts, crash-counts, turns-split, closes-is}
use Rattle.slots.specs.Slots.{tests_due, most_tests}
use Rattle.slots.specs.Law.{Wider}
use Rattle.slots.proofs.MoreTests.{tests-sum, mark-unsuspected, mark-suspected, wider-mark, most-covers}
use Rattle.detection.specs.Timing.{tests_by, TestsByteCounts, table_left, end_of, TestsWithinDue, SuspectsAtMost, SlotSuffices}
use Rattle.detection.proofs.TestsDue.{row-unsuspected, TestsAreDue, acted-fits}
use Rattle.std.specs.Prelude.{Ok}

-- byte 3 of each line is the number of its testing entries since t₀, the start of the round
tests-counted : (n : ℕ) (t₀ : List ℕ) (cur : List Taken) (t : List ℕ) → ((i : ℕ) → i < n → Reset n t₀ i) → Counts n t₀ cur t
    → (i : ℕ) → i < n → tests_made n t i ≡ tests_by i cur
tests-counted n t₀ cur t fresh c i h = omega (arith, c.turns i h, c.ended i h, (fresh i h).unfinished, (fresh i h).untested, turns-split i cur)

-- in a round that started with t₀, behind the entries `cur`
record Timed (w : Wiring) (n : ℕ) (t₀ : List ℕ) (cur : List Taken) (t : List ℕ) : Type 0 where
  pub fresh : (i : ℕ) → i < n → Reset n t₀ i
  pub counts : Counts n t₀ cur t
  pub fits : w ≡ Cube → TestsAreDue n t
  pub lines : Lines w n t

-- what a round with entries leaves: a table whose rows all its tests are due by
record Leaves (w : Wiring) (n : ℕ) (round : List Taken) (t : List ℕ) : Type 0 where
  pub lines : Lines w n t
  pub within : w ≡ Cube → (i : ℕ) → i < n → tests_by i round ≤ tests_due n (row n t i) i

-- the distances passed are some of all
leaves : (w : Wiring) (n : ℕ) (t₀ : List ℕ) (cur : List Taken) (t : List ℕ) → Timed w n t₀ cur t → Leaves w n cur t
leaves w n t₀ cur t inv = record {
  lines = inv.lines;
  within = λ c i h.
      let last : end_distance w n ≡ distances n = rw c (end-cube n) in
      let next : ℕ = next_distance n t i in
      let whole : next + (distances n - next) ≡ distances n = omega (arith, (inv.lines.1 i h).pass.next_high) in
      omega (
        arith,
        inv.fits c i h,
        tests-counted n t₀ cur t inv.fresh inv.counts i h,
        rw whole at (sum-split (λ m. bit (due (row n t i) i m)) next (distances n - next)),
        tests-sum n (row n t i) i,
      );
}

-- the closing of a round leaves the rows
closed-leaves : (w : Wiring) (n : ℕ) (round : List Taken) (t : List ℕ) → Leaves w n round t → Leaves w n round (reset_lines n t)
closed-leaves w n round t l =
    let lines = reset-lines w n t l.lines in
    record {
      lines = lines;
      within = λ c i h.
          let same : row n (reset_lines n t) i ≡ row n t i =
          row_same n (reset_lines n t) t i lines.0 l.lines.0 h (λ k g. reset-other n t i (head + k) (omega arith) (λ p. omega arith)) in
          rw same (l.within c i h);
    }

-- where a round starts
timed-start : (w : Wiring) (n : ℕ) (t : List ℕ) → ((i : ℕ) → i < n → Reset n t i) → Lines w n t → Timed w n t [] t
timed-start w n t fresh lines = record {
  fresh = fresh;
  counts = counts_start n t;
  fits = λ c i h. omega (arith, (fresh i h).untested);
  lines = lines;
}

-- the table that the last entry leaves
left-snoc : (t : List ℕ) (xs : List Taken) (x : Taken) → table_left t (xs ++ (x ∷ [])) ≡ table_after x
unfolding table_left
left-snoc t [] x = refl
left-snoc t (y ∷ xs) x = left-snoc (table_after y) xs x

-- a round without entries, or one that leaves such a table; T is any table
abbrev RoundFits : Wiring → ℕ → List ℕ → List Taken → Type 0
RoundFits w n T round = (round ≡ []) ⊎ Leaves w n round (table_left T round)

-- the rounds r, to the table `end`
abbrev Cut : Wiring → ℕ → List ℕ → Rounds → Type 0
Cut w n T r = (k : ℕ) → k ≤ length r.closed → RoundFits w n T (get_or (all_rounds r) k [])

-- a taken entry
module _ (w : Wiring) (n : ℕ) (s : State) (e : Entry) (ok : Accepted w n s.table) (takes : entry_check n s e ≡ Ok tt) (t₀ : List ℕ) (cur : List Taken)
    (fresh : (i : ℕ) → i < n → Reset n t₀ i) (counts : Counts n t₀ cur s.table) where
  abbrev t : List ℕ
  t = s.table

  abbrev t' : List ℕ
  t' = acted w n t e

  abbrev here : List Taken
  here = cur ++ (taken_at w n s e ∷ [])

  counted : Counts n t₀ here t'
  unfolding acted crash
  counted =
      by_bool (is_crash e)
      (λ crashed. rw crashed (crash-counts w n s e t₀ _ cur crashed (λ k c counts.
      cell_other n t e.station status_column status_crashed k c (omega arith) (omega arith) (λ _. omega arith)) counts))
      (λ turns.
      let facts = entry-facts n s e takes in
      let lines : Lines w n t = (ok.long, accepted-line w n t ok) in
      let line = lines.1 e.station facts.below in
      let going : finished n t e.station ≡ 0 = omega (arith, facts.unfinished (eqb-false e.kind kind_crash turns), line.pass.finished_range) in
      rw turns (turn-counts w n s e (outcome_at w n t e.kind e.station (next_test w n t e.station)) t₀ _ cur turns facts.below going
      (turn-heads w n t e.kind e.station lines facts.below) counts))

  -- the table that is left, whichever wiring comes next
  kept : Lines w n t'
  kept = acted-lines w n s e ok takes

  closing-is : closes here (taken_at w n s e) ≡ round_over n t'
  closing-is = closes-is w n t₀ t' here fresh kept counted s e refl

  -- with it the round closes, or goes on, and the counts are those of the round that is then open
  counts-more : (xs : List Taken) (T : List Taken → Type 0)
      → ((t₁ : List ℕ) (now : List Taken) → ((i : ℕ) → i < n → Reset n t₁ i) → Counts n t₁ now (after w n s e).table → T (cut now xs).open_round)
      → T (cut cur (taken_at w n s e ∷ xs)).open_round
  unfolding cut after after_round
  counts-more xs T rest =
      by_bool (round_over n t')
      (λ over. rw (closing-is ∙ over) (rest (reset_lines n t') [] (reset-cells n t' kept.0) (rw over (counts_start n (reset_lines n t')))))
      (λ over. rw (closing-is ∙ over) (rest t₀ here fresh (rw over counted)))

-- after any chain byte 3 counts the tests of the round that is then open
chain-counted : (n : ℕ) {s s' : State} {xs : List Taken} → Chain n s xs s' → (t₀ : List ℕ) (cur : List Taken) → ((i : ℕ) → i < n → Reset n t₀ i)
    → Counts n t₀ cur s.table → (i : ℕ) → i < n → tests_made n s'.table i ≡ tests_by i (cut cur xs).open_round
unfolding cut
chain-counted n {s} done t₀ cur fresh counts i h = tests-counted n t₀ cur s.table fresh counts i h
chain-counted n {s} {s'} (more {xs = xs} w e ok takes chain) t₀ cur fresh counts i h =
    counts-more w n s e ok takes t₀ cur fresh counts xs (λ round. tests_made n s'.table i ≡ tests_by i round)
    (λ t₁ now fresh counts. chain-counted n chain t₁ now fresh counts i h)

-- a taken entry, on one wiring
module _ (w : Wiring) (n : ℕ) (s : State) (e : Entry) (ok : Accepted w n s.table) (takes : entry_check n s e ≡ Ok tt) (t₀ : List ℕ) (cur : List Taken)
    (inv : Timed w n t₀ cur s.table) where
  abbrev u' : List ℕ
  u' = acted w n s.table e

  abbrev so_far : List Taken
  so_far = cur ++ (taken_at w n s e ∷ [])

  moved : Timed w n t₀ so_far u'
  moved = record {
    fresh = inv.fresh;
    counts = counted w n s e ok takes t₀ cur inv.fresh inv.counts;
    fits = λ c. rw c (acted-fits n s e (rw c at ok) takes (inv.fits c));
    lines = acted-lines w n s e ok takes;
  }

  closing : closes so_far (taken_at w n s e) ≡ round_over n u'
  closing = closing-is w n s e ok takes t₀ cur inv.fresh inv.counts

  -- with it the round closes, or goes on
  cut-more : (T : List ℕ) (xs : List Taken)
      → ((t₁ : List ℕ) (now : List Taken) → Timed w n t₁ now (after w n s e).table → RoundFits w n T now → Cut w n T (cut now xs))
      → Cut w n T (cut cur (taken_at w n s e ∷ xs))
  unfolding cut after after_round
  cut-more T xs rest = by_bool (round_over n u') closed going
    where
      left : Leaves w n so_far u'
      left = leaves w n t₀ so_far u' moved

      closed : round_over n u' ≡ true → Cut w n T (cut cur (taken_at w n s e ∷ xs))
      closed over =
          let anew = timed-start w n (reset_lines n u') (reset-cells n u' moved.lines.0) (reset-lines w n u' moved.lines) in
          let r = rest (reset_lines n u') [] (rw over anew) (inl refl) in
          let end : table_left T so_far ≡ reset_lines n u' = left-snoc T cur (taken_at w n s e) ∙ rw over in
          rw (closing ∙ over)
          (λ k. elim k as (λ x. x ≤ length (so_far ∷ (cut [] xs).closed) → RoundFits w n T (get_or (so_far ∷ all_rounds (cut [] xs)) x [])) [
            | zero ↦ λ h. inr (rw end (closed-leaves w n so_far u' left))
            | suc k ↦ λ h. r k (omega arith)
          ])

      going : round_over n u' ≡ false → Cut w n T (cut cur (taken_at w n s e ∷ xs))
      going over =
          let end : table_left T so_far ≡ u' = left-snoc T cur (taken_at w n s e) ∙ rw over in
          rw (closing ∙ over) (rest t₀ so_far (rw over moved) (inr (rw end left)))

-- a chain on one wiring, cut into rounds
cut-chain : (w : Wiring) (n : ℕ) (T : List ℕ) {s s' : State} {xs : List Taken} → WiredChain w n s xs s' → (t₀ : List ℕ) (cur : List Taken)
    → Timed w n t₀ cur s.table → RoundFits w n T cur → Cut w n T (cut cur xs)
unfolding cut
cut-chain w n T {s} ends t₀ cur inv fits = λ k h. let e : k ≡ 0 = omega arith in rw e fits
cut-chain w n T {s} {s'} (next {xs = xs} e ok takes chain) t₀ cur inv fits =
    cut-more w n s e ok takes t₀ cur inv T xs (λ t₁ now inv fits. cut-chain w n T chain t₁ now inv fits)

pub start-reset : (n : ℕ) (t : List ℕ) → at_start n t ≡ true → (i : ℕ) → i < n → Reset n t i
unfolding at_start
start-reset n t start i h =
    let all = both _ _ (every-at (line_at_start n t) n i start h) in
    let head = both _ _ all.0 in
    record { next = eqb-true _ 1 head.0; unfinished = eqb-true _ 0 head.1; untested = eqb-true _ 0 all.1 }

-- a list of runs on one wiring from the start of a round on
rounds-cut : (w : Wiring) (n : ℕ) (s : State) (calls : List Call) → length s.table ≡ table_length n → at_start n s.table ≡ true
    → all_taken (is_on w) (taken_all s calls) ≡ true → Cut w n s.table (rounds_of s calls)
unfolding cut
rounds-cut w n s calls long start one = go (chain_first chain)
  where
    chain : WiredChain w n s (taken_all s calls) (after_runs s calls)
    chain = on-wiring (chain-all n s calls long) one

    go : ((taken_all s calls ≡ []) × (after_runs s calls ≡ s)) ⊎ Accepted w n s.table → Cut w n s.table (rounds_of s calls)
    go (inl none) = rw none.0 (λ k h. let e : k ≡ 0 = omega arith in rw e (inl refl))
    go (inr ok) =
        let lines : Lines w n s.table = (long, accepted-line w n s.table ok) in
        cut-chain w n s.table chain s.table [] (timed-start w n s.table (start-reset n s.table start) lines) (inl refl)

-- a row that suspects no more than r and j
wider-mark-row : (n : ℕ) (t : List ℕ) → Lines Cube n t → (r : List ℕ) (i j : ℕ) → i < n → j ≢ i → length r ≡ n
    → unsuspected r i ≡ true → SuspectsAtMost n t i r j → Wider (row n t i) (mark r j) i
wider-mark-row n t lines r i j h apart long own few = record {
  long = mark-length r j ∙ long ∙ sym (row-length n t i lines.0 h);
  own = mark-unsuspected r j i (λ q. apart (sym q)) ∙ own;
  more = λ x free.
      let x<n : x < n = rw (mark-length r j ∙ long) at (unsuspected-below (mark r j) x free) in
      let clear = (wider-mark r i j own apart).more x free in
      row-unsuspected n t i x lines.0 h x<n ∙ eq-eqb (suspects n t i x) 0 (unset x x<n free clear (ℕ_discrete (suspects n t i x) 1));
}
  where
    unset : (x : ℕ) → x < n → unsuspected (mark r j) x ≡ true → unsuspected r x ≡ true → Dec (suspects n t i x ≡ 1) → suspects n t i x ≡ 0
    unset x l free clear (no q) = omega (arith, (lines.1 i h).range x l)
    unset x l free clear (yes q) = pick (few x l q)
      where
        pick : (unsuspected r x ≡ false) ⊎ (x ≡ j) → suspects n t i x ≡ 0
        pick (inl f) = absurd (true≢false (sym clear ∙ f))
        pick (inr f) = absurd (true≢false (sym free ∙ rw f (mark-suspected r j (omega (arith, long, f)))))

pub tests-byte-counts : TestsByteCounts
tests-byte-counts n s calls i long start h =
    chain-counted n (chain-all n s calls long) s.table [] (start-reset n s.table start) (counts_start n s.table) i h

pub tests-within-due : TestsWithinDue
unfolding count_taken
tests-within-due n s calls k i long start one far h = pick (rounds-cut Cube n s calls long start one k far)
  where
    pick : RoundFits Cube n s.table (round_at s calls k) → tests_by i (round_at s calls k) ≤ tests_due n (row n (end_of s calls k) i) i
    pick (inl none) = rw none (omega arith)
    pick (inr l) = l.within refl i h

pub slot-suffices : SlotSuffices
unfolding count_taken
slot-suffices n s calls k r i j long start one far h l apart row_long own few = pick (rounds-cut Cube n s calls long start one k far)
  where
    pick : RoundFits Cube n s.table (round_at s calls k) → tests_by i (round_at s calls k) ≤ most_tests n r i
    pick (inl none) = rw none (omega arith)
    pick (inr at) =
        let wider = wider-mark-row n (end_of s calls k) at.lines r i j h apart row_long own few in
        le_trans (at.within refl i h) (most-covers n r _ i j l apart wider)
