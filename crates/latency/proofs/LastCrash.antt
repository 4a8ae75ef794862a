-- The claim from a crash on: no live board suspects a live one at that moment either.
-- Assumes nothing.
use mathlib.Core.Path.{◌≡◌, refl, sym, ap, ◌∙◌, subst}
use mathlib.Core.Logic.{◌⊎◌, inl, inr, by_cases}
use mathlib.Core.Bool.{Bool, true, false, cond, not}
use mathlib.Core.List.{List, [], ◌∷◌, ◌++◌}
use Prim.Native.Nat.{ℕ, suc, ◌+◌, ◌-◌, ◌≤◌, ◌<◌}
use native.Mathlib.Decide.{ℕ_discrete}
use native.Mathlib.Omega.{arith}
use borrow.Author.Tests.{not-true, eq-eqb, ne_eqb}
use lib.Dec.{eqb}
use lib.ListN.{length}
use Rattle.lists.specs.Sums.{sum_below, bit}
use Rattle.lists.proofs.BoolLaws.{by_bool, choice}
use Rattle.lists.proofs.SearchLaws.{both}
use Rattle.lists.proofs.SumLaws.{sum_by, sum-add, sum-single}
use Rattle.slots.proofs.Counts.{sum-le}
use Rattle.table.specs.Table.{head, cell, status_column, next_column, finished_column, tests_column, status_crashed}
use Rattle.table.specs.Table.{next_distance, finished, tests_made, suspects, live}
use Rattle.table.specs.Sizes.{is_size}
use Rattle.table.specs.Rules.{round_over}
use Rattle.table.specs.Properties.{live_count}
use Rattle.table.proofs.Accepting.{Accepted}
use Rattle.table.proofs.CellLaws.{cell_other, TurnCounts}
use Rattle.table.specs.declared.wiring.Wiring.{Wiring}
use Rattle.table.specs.declared.wiring.Wiring.TheVariants.{Cube, Ring}
use Rattle.table.proofs.WiringLaws.{same-is}
use Rattle.plant.specs.Turn.{makes_test, crash}
use Rattle.plant.specs.Round.{reset_lines, after_round}
use Rattle.plant.specs.Entry.{Entry, State, is_crash, entry_check, acted, after}
use Rattle.plant.proofs.RulesKept.{acted-lines, accepted-kept}
use Rattle.plant.proofs.RoundLaws.{reset-cells, reset-other}
use Rattle.detection.specs.Runs.{Call, Taken, after_runs, taken_all, is_late, is_on, table_after}
use Rattle.detection.specs.Rounds.{all_taken}
use Rattle.detection.proofs.TakenLaws.{taken_at}
use Rattle.detection.proofs.Chain.{WiredChain, ends, next, on-wiring, chain_first, chain-all}
use Rattle.detection.proofs.Parts.{Parted, parted}
use Rattle.detection.proofs.Fates.{was-live}
use Rattle.detection.proofs.DetectionClaim.{trusts, company-of, plain-at, first_round}
use Rattle.detection.proofs.Course.{taken-turn}
use Rattle.detection.proofs.DrivenDetection.{mixed-left}
use Rattle.detection.specs.Driven.{runs_of_mixed}
use Rattle.detection.proofs.TurnEffect.{Plain}
use Rattle.detection.proofs.RoundKnowledge.{TurnTaken}
use Rattle.latency.specs.Crash.{turns_from_crash, LastCrash, KnownFromCrash, MixedKnownFromCrash}
use Rattle.detection.specs.Claim.{AllKnow}
use Rattle.latency.specs.Bound.{turns_per_round, turns_until_known}
use Rattle.latency.proofs.Rounds.{TestsBound}
use Rattle.latency.proofs.CubeTests.{cube-tests}
use Rattle.latency.proofs.Known.{Quiet, rest-of-round, on-the-ring, facts}
use Rattle.std.specs.Prelude.{Ok}

-- no live station suspects a live one
abbrev Clean : ℕ → List ℕ → Type 0
Clean n t = (i j : ℕ) → i < n → j < n → live n t i ≡ true → live n t j ≡ true → suspects n t i j ≡ 0

-- a taken entry
module _ (w : Wiring) (n : ℕ) (s : State) (e : Entry) (ok : Accepted w n s.table) (z : entry_check n s e ≡ Ok tt) where
  abbrev t' : List ℕ
  t' = (after w n s e).table

  fewer-live : live_count n t' ≤ live_count n s.table
  unfolding live_count
  fewer-live =
      sum-le n (λ k h. by_bool (live n t' k) (λ l. omega (arith, ap bit l, ap bit (was-live w n s e ok z k h l))) (λ l. omega (arith, ap bit l)))

  -- next distances and tests of a table that has the cells that count in turns
  abbrev SameTurns : List ℕ → List ℕ → Type 0
  SameTurns u v = (k : ℕ) → k < n → (next_distance n v k ≡ next_distance n u k) × (tests_made n v k ≡ tests_made n u k)

  crash-turns : is_crash e ≡ true → SameTurns s.table (acted w n s.table e)
  unfolding acted crash
  crash-turns c k h =
      let same : (b : ℕ) → TurnCounts b → cell n (acted w n s.table e) k b ≡ cell n s.table k b =
      λ b counts. rw c (cell_other n s.table e.station status_column status_crashed k b (omega arith) (omega arith) (λ _. omega arith)) in
      (same next_column (omega arith), same tests_column (omega arith))

  -- the round rule leaves the rows
  rows-stay : (k j : ℕ) → j < n → suspects n t' k j ≡ suspects n (acted w n s.table e) k j
  unfolding after after_round
  rows-stay k j h =
      by_bool (round_over n (acted w n s.table e))
      (λ over. rw over (reset-other n (acted w n s.table e) k (head + j) (omega arith) (λ p. omega arith))) (λ over. rw over refl)

  clean-crash : is_crash e ≡ true → Clean n s.table → Clean n t'
  unfolding acted crash
  clean-crash c clean i j hi hj li lj =
      let same : suspects n (acted w n s.table e) i j ≡ suspects n s.table i j =
      rw c (cell_other n s.table e.station status_column status_crashed i (head + j) (omega arith) (omega arith) (λ _. omega arith)) in
      rows-stay i j hj ∙ same ∙ clean i j hi hj (was-live w n s e ok z i hi li) (was-live w n s e ok z j hj lj)

  clean-turn : is_crash e ≡ false → is_late (taken_at w n s e) ≡ false → 2 ≤ live_count n s.table → Clean n s.table → Clean n t'
  clean-turn c in_time two clean i j hi hj li lj =
      let turn = taken-turn w n (live n s.table) (company-of n s.table two) s e ok z (plain-at w n s.table ok clean) c in_time in
      rows-stay i j hj ∙ turn.kept.plain.accurate i j hi hj (was-live w n s e ok z i hi li) (was-live w n s e ok z j hj lj)

fewer-after : {w : Wiring} {n : ℕ} {s s' : State} {xs : List Taken} → WiredChain w n s xs s' → live_count n s'.table ≤ live_count n s.table
fewer-after ends = omega arith
fewer-after {w} {n} {s} (next e ok z chain) = omega (arith, fewer-live w n s e ok z, fewer-after chain)

-- B bounds the tests of a round
module _ (w : Wiring) (n : ℕ) (B : TestsBound w n) where
  -- what holds at every moment, with crashes but without late replies
  record Steady (t : List ℕ) : Type 0 where
    pub clean : Clean n t
    pub fits : B.Fits (live n t) t

  module _ (s : State) (e : Entry) (ok : Accepted w n s.table) (z : entry_check n s e ≡ Ok tt) (in_time : is_late (taken_at w n s e) ≡ false)
      (two : 2 ≤ live_count n s.table) (st : Steady s.table) where
    abbrev u : List ℕ
    u = acted w n s.table e

    -- before the round rule, by who is live after it
    fits-acted : B.Fits (live n (after w n s e).table) u
    fits-acted =
        by_bool (is_crash e)
        (λ c. B.narrows (live n s.table) (live n (after w n s e).table) s.table u (was-live w n s e ok z) (crash-turns w n s e ok z c) st.fits)
        (λ c.
        let plain = plain-at w n s.table ok st.clean in
        let turn = taken-turn w n (live n s.table) (company-of n s.table two) s e ok z plain c in_time in
        B.narrows (live n s.table) (live n (after w n s e).table) u u (was-live w n s e ok z) (λ k h. (refl, refl))
        (B.turns (live n s.table) u s e plain turn st.fits))

    fits-after : B.Fits (live n (after w n s e).table) (after w n s e).table
    unfolding after after_round
    fits-after =
        choice (B.Fits (live n (after w n s e).table)) (round_over n u)
        (B.starts _ (reset_lines n u) (reset-cells n u (acted-lines w n s e ok z).0)) fits-acted

    steady-after : Steady (after w n s e).table
    steady-after = record {
      clean = by_bool (is_crash e) (λ c. clean-crash w n s e ok z c st.clean) (λ c. clean-turn w n s e ok z c in_time two st.clean);
      fits = fits-after;
    }

  steady-chain : {s s' : State} {xs : List Taken} → WiredChain w n s xs s' → all_taken (λ x. not (is_late x)) xs ≡ true
      → 2 ≤ live_count n s'.table → Steady s.table → Steady s'.table
  unfolding all_taken
  steady-chain ends late two st = st
  steady-chain {s} (next {xs = xs} e ok z chain) late two st =
      let b = both (not (is_late (taken_at w n s e))) (all_taken (λ x. not (is_late x)) xs) late in
      let now : 2 ≤ live_count n s.table = omega (arith, two, fewer-live w n s e ok z, fewer-after chain) in
      steady-chain chain b.1 two (steady-after s e ok z (not-true _ b.0) now st)

  -- the turns that live stations have made in the round, of which T has the live set
  module _ (T : List ℕ) (two : 2 ≤ live_count n T) where
    abbrev L : ℕ → Bool
    L = live n T

    abbrev made : List ℕ → ℕ → ℕ
    made t k = cond (L k) (tests_made n t k + finished n t k) 0

    abbrev all_made : List ℕ → ℕ
    all_made t = sum_below (made t) n

    made-most : (t : List ℕ) → Plain w n L t → B.Fits L t → all_made t ≤ turns_per_round w n T
    unfolding live_count
    made-most t p fits =
        let each : (k : ℕ) → k < n → made t k ≤ cond (L k) (tests_made n t k) 0 + bit (L k) =
        λ k h. by_bool (L k) (λ l. rw l (omega (arith, (p.lines.1 k h).pass.finished_range))) (λ l. rw l (omega arith)) in
        omega (arith, sum-le n each, sum-add (λ k. cond (L k) (tests_made n t k) 0) (λ k. bit (L k)) n, B.within T t two p fits)

    -- a turn is one more
    made-more : (s : State) (e : Entry) (t' : List ℕ) → TurnTaken w n L s e t' → all_made t' ≡ suc (all_made s.table)
    made-more s e t' turn =
        let i : ℕ = e.station in
        let one : ℕ → ℕ = λ k. bit (eqb i k) in
        let single : sum_below one n ≡ one i = sum-single one n i turn.below (λ k b ne. ap bit (ne_eqb i k (λ q. ne (sym q)))) in
        let first : one i ≡ 1 = ap bit (eq-eqb i i refl) in
        let own : made t' i ≡ suc (made s.table i) =
        rw turn.is_live (by_bool (makes_test w n s.table i)
        (λ m. omega (arith, rw m at turn.heads.tests, rw m at turn.heads.finish))
        (λ m. omega (arith, rw m at turn.heads.tests, rw m at turn.heads.finish, turn.going))) in
        let each : (k : ℕ) → k < n → made t' k ≡ made s.table k + one k =
        λ k h.
        by_cases (ℕ_discrete k i)
        (λ q. rw q (omega (arith, own, first)))
        (λ q.
        let tests = turn.heads.others k tests_column q (omega arith) in
        let finish = turn.heads.others k finished_column q (omega arith) in
        rw (tests, finish, ne_eqb i k (λ r. q (sym r))) (omega arith)) in
        omega (arith, sum_by n each, sum-add (made s.table) one n, single, first)

    -- so many are left at most
    abbrev left_of : List ℕ → ℕ
    left_of t = turns_per_round w n T - all_made t

    left-less : (s : State) (e : Entry) → Accepted w n s.table → Plain w n L s.table → TurnTaken w n L s e (acted w n s.table e) → B.Fits L s.table
        → B.Fits L (acted w n s.table e) × (left_of (acted w n s.table e) < left_of s.table)
    left-less s e ok p turn fits =
        let still = B.turns L (acted w n s.table e) s e p turn fits in
        (still, omega (arith, made-more s e (acted w n s.table e) turn, made-most (acted w n s.table e) turn.kept.plain still))

    known-since : is_size n ≡ true → {s s' : State} {xs : List Taken} → WiredChain w n s xs s' → Plain w n L s.table
        → B.Fits L s.table → Quiet xs → turns_from_crash w n T ≤ length xs → AllKnow n T s'.table
    known-since size chain p fits quiet far =
        let f = facts w n T size two in
        f.known (rest-of-round w n T two (B.Fits L) left_of left-less chain p fits quiet (turns_until_known w n T) f.some (omega arith)).1

-- what all entries pass, those of each part do
all_parts : (q : Taken → Bool) (xs ys : List Taken) → all_taken q (xs ++ ys) ≡ true → (all_taken q xs ≡ true) × (all_taken q ys ≡ true)
unfolding all_taken
all_parts q [] ys a = (refl, a)
all_parts q (x ∷ xs) ys a =
    let b = both (q x) (all_taken q (xs ++ ys)) a in
    let r = all_parts q xs ys b.1 in
    (rw (b.0, r.0), r.1)

-- on a wiring
module _ (w : Wiring) (n : ℕ) (B : TestsBound w n) (s : State) (calls : List Call) (before : List Taken) (x : Taken) (rest : List Taken)
    (given : LastCrash w n s calls before x rest) (far : turns_from_crash w n (table_after x) ≤ length rest) where
  part : Parted n s before x rest (after_runs s calls)
  part = parted (chain-all n s calls given.long) before x rest given.parts

  -- what all entries pass, those before x do, x itself, and those behind it
  each-part : (q : Taken → Bool) → all_taken q (taken_all s calls) ≡ true
      → (all_taken q before ≡ true) × (q x ≡ true) × (all_taken q rest ≡ true)
  unfolding all_taken
  each-part q a =
      let all = all_parts q before (x ∷ rest) (subst (λ (ys : List Taken). all_taken q ys ≡ true) given.parts a) in
      let here = both (q x) (all_taken q rest) all.1 in
      (all.0, here.0, here.1)

  wired : (all_taken (is_on w) before ≡ true) × (is_on w x ≡ true) × (all_taken (is_on w) rest ≡ true)
  wired = each-part (is_on w) given.one_wiring

  on : x.wiring ≡ w
  on = same-is x.wiring w wired.1

  same : taken_at w n x.before x.entry ≡ x
  same = rw (← on, ← part.size) refl

  -- the table that the crash leaves
  abbrev t : List ℕ
  t = (after w n x.before x.entry).table

  left : table_after x ≡ t
  left = ap table_after (sym same)

  ok : Accepted w n x.before.table
  ok = rw on at part.ok

  upto : WiredChain w n s before x.before
  upto = on-wiring part.first wired.0

  behind : WiredChain w n (after w n x.before x.entry) rest (after_runs s calls)
  behind = on-wiring (rw on at part.last) wired.2

  since : Accepted w n s.table → AllKnow n (table_after x) (after_runs s calls).table
  since begin =
      let clean = trusts w n s.table begin given.accurate in
      let first = first_round w n s.table begin given.start clean in
      let late = each-part (λ y. not (is_late y)) given.no_late in
      let in_time : is_late (taken_at w n x.before x.entry) ≡ false = ap is_late same ∙ not-true _ late.1 in
      let two : 2 ≤ live_count n t = rw (← left) given.two_live in
      let now : 2 ≤ live_count n x.before.table = omega (arith, two, fewer-live w n x.before x.entry ok part.taken) in
      let st = steady-chain w n B upto late.0 now (record { clean = clean; fits = B.starts (live n s.table) s.table first.fresh }) in
      let then = steady-after w n B x.before x.entry ok part.taken in_time now st in
      let plain = plain-at w n t (accepted-kept w n x.before x.entry ok part.taken) then.clean in
      let enough : turns_from_crash w n t ≤ length rest = rw (← left) far in
      rw left (known-since w n B t two given.size behind plain then.fits
      (record { no_crash = given.no_more; no_late = late.2 }) (omega (arith, enough)))

  from-crash : AllKnow n (table_after x) (after_runs s calls).table
  from-crash = go (chain_first upto)
    where
      go : ((before ≡ []) × (x.before ≡ s)) ⊎ Accepted w n s.table → AllKnow n (table_after x) (after_runs s calls).table
      go (inl none) = since (rw none.1 at ok)
      go (inr begin) = since begin

-- ends in themselves
pub known-from-crash : KnownFromCrash
known-from-crash Cube n s calls before x rest given far = from-crash Cube n (cube-tests n given.size) s calls before x rest given far
known-from-crash Ring n s calls before x rest given far = from-crash Ring n (on-the-ring n given.size) s calls before x rest given far

pub mixed-known-from-crash : MixedKnownFromCrash
mixed-known-from-crash w n s xs before x rest given far =
    subst (λ (e : State). AllKnow n (table_after x) e.table) (mixed-left s xs) (known-from-crash w n s (runs_of_mixed s xs) before x rest given far)
