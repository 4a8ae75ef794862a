-- A grant with its turn, whatever the wiring and whoever suspects whom; and that grants go in sweeps.
-- Assumes nothing.
use mathlib.Core.Path.{◌≡◌, refl}
use mathlib.Core.Logic.{by_cases}
use mathlib.Core.Bool.{true, false, ◌&&◌}
use mathlib.Core.List.{List}
use Prim.Native.Nat.{ℕ, zero, suc, ◌≤◌, ◌<◌}
use native.Mathlib.Decide.{ℕ_discrete}
use native.Mathlib.Omega.{arith}
use borrow.Author.Tests.{eqb-true, eqb-false}
use lib.Dec.{eqb}
use Rattle.lists.proofs.BoolLaws.{by_bool}
use Rattle.lists.proofs.SearchLaws.{both, every-at}
use Rattle.table.specs.Table.{status_column, finished_column, tests_column, next_distance, finished, tests_made, live}
use Rattle.table.specs.Rules.{some_live, round_over}
use Rattle.table.specs.Properties.{line_at_start, at_start}
use Rattle.table.proofs.SizeLaws.{size-bounds}
use Rattle.table.proofs.Accepting.{Accepted}
use Rattle.table.proofs.CellLaws.{accepted-line}
use Rattle.table.specs.declared.wiring.Wiring.{Wiring}
use Rattle.plant.specs.Turn.{kind_turn, next_test, makes_test, outcome_at, turn}
use Rattle.plant.specs.Round.{after_round}
use Rattle.plant.specs.Entry.{Entry, State, state_of, entry_of, entry_check, acted, after}
use Rattle.plant.proofs.RulesKept.{accepted-kept}
use Rattle.plant.proofs.RoundLaws.{reset-other}
use Rattle.plant.proofs.RunLaws.{accepted-number}
use Rattle.plant.proofs.TurnHeads.{Heads, turn-heads}
use Rattle.granter.specs.Grant.{waits, following, last_check, grant_check}
use Rattle.granter.specs.Drive.{Stand, granted_at, grant_turn, after_grants, ended, ended_after}
use Rattle.granter.proofs.GrantLaws.{granted-waits, waits-parts, grantable, grant-zero, station-fits, turn-taken}
use Rattle.granter.proofs.DriveLaws.{not-ended}
use Rattle.granter.proofs.Fair.{next-going-round, following-most}
use Rattle.detection.proofs.Fates.{was-live}
use Rattle.single_crash.specs.Sweeps.{turns_made, InTurn, GrantsGoInSweeps}
use Rattle.single_crash.proofs.Sweeps.{InSweep, sweep-start, Next, Moved, sweep-next, sweep-fewest, sweep-first}
use Rattle.std.specs.Prelude.{Ok}

-- where the drive stands in a round that began at place `begins`
pub record Going (w : Wiring) (n begins : ℕ) (p : Stand) : Type 0 where
  pub ok : Accepted w n p.state.table
  pub someone : some_live n p.state.table ≡ true
  pub last_fits : last_check n p.last ≡ Ok tt
  pub sweep : InSweep n begins (waits n p.state.table) (turns_made n p.state.table) p.last

-- a grant with its turn: the table before it, the board granted, what its test gives, the table before the round is closed, and where the drive
-- stands then
pub record Granting : Type 0 where
  pub before : List ℕ
  pub board : ℕ
  pub outcome : ℕ
  pub turned : List ℕ
  pub stand : Stand

abbrev pub grant_of : Wiring → ℕ → Stand → Granting
grant_of w n p =
    let t = p.state.table in
    let g = granted_at n p in
    record {
      before = t;
      board = g;
      outcome = outcome_at w n t kind_turn g (next_test w n t g);
      turned = turn w n t kind_turn g;
      stand = grant_turn w n p;
    }

module _ {w : Wiring} {n begins : ℕ} {p : Stand} (now : Going w n begins p) where
  open grant_of w n p use {before as t, board as g, turned as t', outcome, stand as p'}

  pub chosen : (g < n) × (waits n t g ≡ true)
  chosen = granted-waits n t now.ok.unclosed now.someone p.last

  pub going : finished n t g ≡ 0
  going =
      let open-pass = eqb-false (finished n t g) 1 (waits-parts n t g chosen.1).1 in
      omega (arith, open-pass, (accepted-line w n t now.ok g chosen.0).pass.finished_range)

  pub heads : Heads w n t t' g outcome (makes_test w n t g)
  heads = turn-heads w n t kind_turn g (now.ok.long, accepted-line w n t now.ok) chosen.0

  -- it is the next in its sweep
  pub next : Next n (waits n t) p.last g
  next =
      let zero = grant-zero w n t p.last (accepted-number w n t now.ok) now.last_fits now.someone in
      record { below = chosen.0; waiting = chosen.1; nearest = (next-going-round w n t p.last zero).2 }

  -- the entry, with an empty tally: tables do not depend on it
  abbrev e : Entry
  e = entry_of kind_turn g

  abbrev s : State
  s = state_of t 0 0

  taken : entry_check n s e ≡ Ok tt
  taken = turn-taken n s g refl chosen.0 chosen.1

  lived : (i : ℕ) → i < n → live n t' i ≡ true → live n t i ≡ true
  unfolding after acted after_round
  lived i h l = was-live w n s e now.ok taken i h (by_bool (round_over n t')
      (λ o. rw (o, reset-other n t' i status_column (omega arith) (λ c. omega arith)) l)
      (λ o. rw o l))

  -- who waits after its turn waited before
  waited : (i : ℕ) → i < n → waits n t' i ≡ true → waits n t i ≡ true
  unfolding waits
  waited i h q =
      by_cases (ℕ_discrete i g) (λ f. rw f chosen.1)
      (λ d.
      let parts = waits-parts n t' i q in
      rw (lived i h parts.0, ← (heads.others i finished_column d (omega arith)), parts.1) refl)

  pub moved : Moved n (waits n t) (waits n t') (turns_made n t) (turns_made n t') g
  moved = record {
    waited = waited;
    own = by_bool (makes_test w n t g) (λ m. omega (arith, going, rw m at heads.tests, rw m at heads.finish))
        (λ m. omega (arith, going, rw m at heads.tests, rw m at heads.finish));
    others = λ i h d. omega (arith, heads.others i finished_column d (omega arith), heads.others i tests_column d (omega arith));
  }

  -- where the round has not closed
  module _ (fits : begins ≤ n) (rounds : ℕ) (same : p.state.rounds ≡ rounds) (unended : ended n rounds p'.state ≡ false) where
    unclosed : round_over n t' ≡ false
    unfolding grant_turn after acted
    unclosed =
        let kept = (not-ended n rounds p'.state unended).0 in
        by_bool (round_over n t') (λ o. absurd (omega (arith, rw o at kept))) (λ o. o)

    table : (after w n s e).table ≡ t'
    unfolding after acted after_round
    table = rw unclosed refl

    turned : p'.state.table ≡ t'
    unfolding grant_turn after acted after_round
    turned = rw unclosed refl

    goes-on : Going w n begins p'
    unfolding grant_turn
    goes-on = record {
      ok = rw (turned, ← table) (accepted-kept w n s e now.ok taken);
      someone = (not-ended n rounds p'.state unended).1;
      last_fits = station-fits n g chosen.0;
      sweep =
          rw turned (sweep-next fits now.sweep next
          (size-bounds n now.ok.size).1 moved);
    }

-- after k grants
module _ (w : Wiring) (n : ℕ) (p : Stand) (granted : grant_check w n p.state.table p.last ≡ Ok tt) (start : at_start n p.state.table ≡ true) where
  abbrev begins : ℕ
  begins = following p.last

  fits : begins ≤ n
  fits = following-most n p.last (grantable w n p.state.table p.last granted).last_fits

  pub none-made : (i : ℕ) → i < n → turns_made n p.state.table i ≡ 0
  unfolding at_start
  none-made i h =
      let made : ℕ = tests_made n p.state.table i in
      let done : ℕ = finished n p.state.table i in
      let all = both (eqb (next_distance n p.state.table i) 1 && eqb done 0) (eqb made 0) (every-at (line_at_start n p.state.table) n i start h) in
      let head = both (eqb (next_distance n p.state.table i) 1) (eqb done 0) all.0 in
      omega (arith, eqb-true done 0 head.1, eqb-true made 0 all.1)

  going-after : (k : ℕ) → ((j : ℕ) → j ≤ k → ended_after w n p j ≡ false) → Going w n begins (after_grants w n p k)
  unfolding after_grants
  going-after zero on =
      let g = grantable w n p.state.table p.last granted in
      record {
        ok = g.ok;
        someone = g.someone;
        last_fits = g.last_fits;
        sweep = sweep-start n p.last (waits n p.state.table) (turns_made n p.state.table) fits none-made;
      }
  going-after (suc k) on =
      let before = going-after k (λ j h. on j (omega arith)) in
      let same = (not-ended n p.state.rounds (after_grants w n p k).state (on k (omega arith))).0 in
      goes-on before fits p.state.rounds same (on (suc k) (omega arith))

  in-turn : (k : ℕ) → ((j : ℕ) → j ≤ k → ended_after w n p j ≡ false)
      → InTurn n (after_grants w n p k).state.table (after_grants w n p k).last p.last
  in-turn k on =
      let q = after_grants w n p k in
      let now = going-after k on in
      let chain = next now in
      record {
        fewest = sweep-fewest fits now.sweep chain;
        first = sweep-first fits now.sweep chain;
      }

-- the law, an end in itself
pub grants-go-in-sweeps : GrantsGoInSweeps
grants-go-in-sweeps w n p k granted start on = in-turn w n p granted start k on
