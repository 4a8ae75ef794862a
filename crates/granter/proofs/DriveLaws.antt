-- A drive grant by grant: as long as it has not stopped, the table obeys the rules, the next turn is taken, and fewer turns are left.
-- Assumes nothing.
use mathlib.Core.Path.{◌≡◌, refl, sym, ap, ◌∙◌}
use mathlib.Core.Logic.{by_cases}
use mathlib.Core.Bool.{true, false}
use mathlib.Core.List.{List}
use Prim.Native.Nat.{ℕ, suc, ◌+◌, ◌*◌, ◌≤◌, ◌<◌}
use native.Mathlib.Decide.{dec_lt}
use native.Mathlib.Numerals.{add-one}
use native.Mathlib.Omega.{arith}
use borrow.Author.Tests.{eqb-true, eqb-false, eq-eqb, not-false}
use lib.Dec.{eqb}
use Rattle.table.specs.Rules.{some_live, round_over, table_check}
use Rattle.lists.proofs.BoolLaws.{by_bool, neither}
use Rattle.lists.proofs.SearchLaws.{least-is, least-none}
use Rattle.table.proofs.Accepting.{Accepted}
use Rattle.table.proofs.CellLaws.{accepted-line}
use Rattle.plant.specs.Turn.{kind_turn, kind_crash}
use Rattle.plant.specs.Round.{after_round}
use Rattle.plant.specs.Entry.{Entry, State, entry_of, tally_full, entry_check, acted, after}
use Rattle.plant.proofs.RulesKept.{accepted-kept}
use Rattle.plant.proofs.RunLaws.{accepted-number}
use Rattle.plant.proofs.StepLines.{Lines}
use Rattle.granter.specs.Grant.{waits, granted, grant_check}
use Rattle.std.specs.Prelude.{Ok, Err, None, Some}
use Rattle.lists.specs.declared.refusal.Refusal.{Refusal}
use Rattle.lists.specs.declared.refusal.Refusal.TheVariants.{TallyFull}
use Rattle.table.specs.declared.wiring.Wiring.{Wiring}
use Rattle.granter.specs.Drive.{Stand, stand_at, granted_at, grant_turn, after_grants, ended, ended_after, full_after, stops, grants_made}
use Rattle.granter.specs.Drive.{drive_outcome, outcome_after, drive, Stopped}
use Rattle.granter.proofs.GrantLaws.{Grantable, granted-waits, waits-parts, turn-taken}
use Rattle.granter.proofs.TurnsLeft.{all_left, all-left-most, turn-left}

-- a drive that has not ended: no round closed, somebody is live
pub not-ended : (n rounds : ℕ) (s : State) → ended n rounds s ≡ false → (s.rounds ≡ rounds) × (some_live n s.table ≡ true)
unfolding ended
not-ended n rounds s e = let a = neither _ _ e in (eqb-true _ _ (not-false _ a.0), not-false _ a.1)

-- a drive that does not stop has not ended, and no tally is full
pub not_stopped : (w : Wiring) (n : ℕ) (p : Stand) (k : ℕ) → stops w n p k ≡ false → (ended_after w n p k ≡ false) × (full_after w n p k ≡ false)
unfolding stops
not_stopped w n p k e = neither _ _ e

-- at its start
pub unended : (n : ℕ) (s : State) → some_live n s.table ≡ true → ended n s.rounds s ≡ false
unfolding ended
unended n s l = rw (eq-eqb s.rounds s.rounds refl, l)

-- after k grants it has not ended, and did not stop before
pub record Driving (w : Wiring) (n : ℕ) (p : Stand) (k : ℕ) : Type 0 where
  pub ok : Accepted w n (after_grants w n p k).state.table
  pub open-still : ended_after w n p k ≡ false
  pub room : k + all_left w n (after_grants w n p k).state.table ≤ n * n
  pub before : (j : ℕ) → j < k → stops w n p j ≡ false

-- a table that refusals 1 to 4 let through, line by line
lines_of : (w : Wiring) (n : ℕ) (t : List ℕ) → Accepted w n t → Lines w n t
lines_of w n t ok = (ok.long, accepted-line w n t ok)

pub driving-start : (w : Wiring) (n : ℕ) (s : State) (last : ℕ) → Grantable w n s.table last → Driving w n (stand_at s last) 0
unfolding after_grants
driving-start w n s last g = record {
  ok = g.ok;
  open-still = unended n s g.someone;
  room = omega (arith, all-left-most w n s.table g.ok.size (lines_of w n s.table g.ok));
  before = λ j h. absurd (omega arith);
}

-- a grant and its turn, of any kind but a crash
module _ (w : Wiring) (n : ℕ) (s : State) (last kind : ℕ) (ok : Accepted w n s.table) (someone : some_live n s.table ≡ true)
    (no_crash : eqb kind kind_crash ≡ false) where
  abbrev station : ℕ
  station = granted n s.table last

  abbrev entry : Entry
  entry = entry_of kind station

  -- fewer turns are left
  pub turn-fewer : all_left w n (acted w n s.table entry) < all_left w n s.table
  unfolding acted
  turn-fewer =
      let c = granted-waits n s.table ok.unclosed someone last in
      rw no_crash (turn-left w n s.table ok.size (lines_of w n s.table ok) kind station c.0 (eqb-false _ _ (waits-parts n s.table station c.1).1))

  -- also in the table that is left, if the round does not close
  pub fewer-after : (after w n s entry).rounds ≡ s.rounds → all_left w n (after w n s entry).table < all_left w n s.table
  unfolding after after_round
  fewer-after same =
      by_bool (round_over n (acted w n s.table entry)) (λ over. omega (arith, rw over at same)) (λ over. rw over turn-fewer)

-- the next grant
module _ (w : Wiring) (n : ℕ) (p : Stand) (k : ℕ) (d : Driving w n p k) where
  abbrev s : State
  s = (after_grants w n p k).state

  abbrev i : ℕ
  i = granted_at n (after_grants w n p k)

  abbrev e : Entry
  e = entry_of kind_turn i

  pub still : (s.rounds ≡ p.state.rounds) × (some_live n s.table ≡ true)
  still = not-ended n p.state.rounds s d.open-still

  pub chosen : (i < n) × (waits n s.table i ≡ true)
  chosen = granted-waits n s.table d.ok.unclosed still.1 (after_grants w n p k).last

  pub next-within : suc k ≤ n * n
  next-within = omega (arith, turn-fewer w n s (after_grants w n p k).last kind_turn d.ok still.1 refl, d.room)

  -- where no tally is full
  module _ (fits : full_after w n p k ≡ false) where
    pub next-taken : entry_check n s e ≡ Ok tt
    next-taken = turn-taken n s i fits chosen.0 chosen.1

    pub next-before : (j : ℕ) → j < suc k → stops w n p j ≡ false
    unfolding stops
    next-before j h =
        by_cases (dec_lt j k) (d.before j) (λ l. let same : j ≡ k = omega arith in rw (same, d.open-still, fits))

    pub next-driving : ended_after w n p (suc k) ≡ false → Driving w n p (suc k)
    unfolding after_grants grant_turn
    next-driving o =
        let same : (after w n s e).rounds ≡ s.rounds = (not-ended n p.state.rounds (after w n s e) o).0 ∙ sym still.0 in
        record {
          ok = accepted-kept w n s e d.ok next-taken;
          open-still = o;
          room = omega (arith, fewer-after w n s (after_grants w n p k).last kind_turn d.ok still.1 refl same, d.room);
          before = next-before;
        }

-- where a drive stops: it stops there, and not before
pub stopped-full : (w : Wiring) (n : ℕ) (p : Stand) (k : ℕ) → Driving w n p k → full_after w n p k ≡ true → Stopped w n p k
unfolding stops
stopped-full w n p k d full = record { within = omega (arith, d.room); stopped = rw (d.open-still, full); first = d.before }

pub stopped-ended : (w : Wiring) (n : ℕ) (p : Stand) (k : ℕ) → Driving w n p k → full_after w n p k ≡ false → ended_after w n p (suc k) ≡ true
    → Stopped w n p (suc k)
unfolding stops
stopped-ended w n p k d fits o = record { within = next-within w n p k d; stopped = rw o; first = next-before w n p k d fits }

-- a drive that is refused
pub drive-refused : (w : Wiring) (n : ℕ) (s : State) (last : ℕ) (r : Refusal) → grant_check w n s.table last ≡ Err r
    → drive w n s last ≡ drive_outcome (Some r) s last 0
unfolding drive
drive-refused w n s last r e = rw e

-- the grants made are the first after which it stops
pub made-is : (w : Wiring) (n : ℕ) (p : Stand) (k : ℕ) → Stopped w n p k → grants_made w n p ≡ k
unfolding grants_made
made-is w n p k s =
    by_cases (dec_lt k (n * n))
    (λ l. least-is (stops w n p) (n * n) 0 k (omega arith) (omega arith) s.stopped (λ j a b. s.first j b))
    (λ l.
    let same : k ≡ n * n = omega (arith, s.within) in
    least-none (stops w n p) (n * n) 0 (λ j a b. s.first j (omega arith)) ∙ omega arith)

-- the whole drive
pub drive-made : (w : Wiring) (n : ℕ) (s : State) (last k : ℕ) → grant_check w n s.table last ≡ Ok tt → Stopped w n (stand_at s last) k
    → outcome_after w n (stand_at s last) k ≡ drive w n s last
unfolding drive
drive-made w n s last k z stop = rw (z, made-is w n (stand_at s last) k stop)

-- a grant and its turn, by the station and the state after it
pub turned-is : (w : Wiring) (n : ℕ) (q : Stand) (s : State) (i : ℕ) → i ≡ granted_at n q → s ≡ after w n q.state (entry_of kind_turn i)
    → stand_at s i ≡ grant_turn w n q
unfolding grant_turn
turned-is w n q s i e f = rw (f, e)

-- a drive as the code finds it: q is where it stands after k grants
module _ (w : Wiring) (n : ℕ) (p : Stand) (k : ℕ) (q : Stand) (at-k : q ≡ after_grants w n p k) (d : Driving w n p k) where
  -- a tally is full: it stops here
  pub full-stop : tally_full q.state.rounds q.state.tests ≡ true
      → (drive_outcome (Some TallyFull) q.state q.last k ≡ outcome_after w n p k) × Stopped w n p k
  unfolding outcome_after
  full-stop full = (rw (at-k, d.open-still), stopped-full w n p k d (rw at-k at full))

  -- somebody is live, so that a station can be granted
  pub grant-ready : (round_over n q.state.table ≡ false) × (some_live n q.state.table ≡ true)
  grant-ready = rw at-k (d.ok.unclosed, (still w n p k d).1)

  -- which is one of the plant's
  pub granted-below : granted_at n q < n
  granted-below = rw at-k (chosen w n p k d).0

  module _ (fits : tally_full q.state.rounds q.state.tests ≡ false) where
    pub turn-ready : (table_check w n q.state.table ≡ Ok tt) × (entry_check n q.state (entry_of kind_turn (granted_at n q)) ≡ Ok tt)
    turn-ready = rw at-k (accepted-number w n _ d.ok, next-taken w n p k d (rw at-k at fits))

    -- the next grant
    module _ (q' : Stand) (turned : q' ≡ grant_turn w n q) where
      pub turned_on : q' ≡ after_grants w n p (k + 1)
      unfolding after_grants
      turned_on = rw (add-one k) (turned ∙ ap (grant_turn w n) at-k)

      pub end-stop : ended n p.state.rounds q'.state ≡ true
          → (drive_outcome None q'.state q'.last (k + 1) ≡ outcome_after w n p (k + 1)) × Stopped w n p (k + 1)
      unfolding outcome_after
      end-stop o =
          let here : ended_after w n p (k + 1) ≡ true = rw turned_on at o in
          (rw (turned_on, here), rw (add-one k) (stopped-ended w n p k d (rw at-k at fits) (rw (add-one k) at here)))

      pub drives-on : ended n p.state.rounds q'.state ≡ false → Driving w n p (k + 1)
      drives-on o =
          let here : ended_after w n p (k + 1) ≡ false = rw turned_on at o in
          rw (add-one k) (next-driving w n p k d (rw at-k at fits) (rw (add-one k) at here))
