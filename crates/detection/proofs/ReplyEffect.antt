-- The claim of specs/Exits.antt holds.
-- Assumes nothing.
use mathlib.Core.Path.{◌≡◌, refl, sym, ◌∙◌}
use mathlib.Core.Logic.{◌≢◌, by_cases}
use mathlib.Core.Bool.{true, false, cond, not, and-false}
use mathlib.Core.List.{List}
use Prim.Native.Nat.{ℕ, ◌+◌, max, ◌<◌}
use native.Mathlib.Decide.{ℕ_discrete}
use native.Mathlib.Omega.{arith}
use borrow.Author.Tests.{eqb-true, ne_eqb, not-true}
use lib.Dec.{eqb}
use lib.ListN.{length}
use Rattle.lists.specs.Search.{every}
use Rattle.table.specs.Table.{head, stride, table_length, cell, status_column, status, suspects, live, status_told, status_alone}
use Rattle.table.specs.Rules.{round_over}
use Rattle.lists.proofs.BoolLaws.{by_bool, choice, every-same}
use Rattle.lists.proofs.SearchLaws.{both, every-not}
use Rattle.table.proofs.Accepting.{accepted}
use Rattle.table.proofs.CellLaws.{cell_same, cell_other, ClosingChanges}
use Rattle.table.specs.declared.wiring.Wiring.{Wiring}
use Rattle.plant.specs.Turn.{kind_turn, leave_told, makes_test, replies, is_told, exchange_rows, reply_outcome, test_outcome, after_outcome}
use Rattle.plant.specs.Turn.{self_or_suspected, is_alone, after_alone, after_test, testing, turn, turn_tested, turn_outcome}
use Rattle.station.specs.Outcome.{outcome_exchanged, outcome_told, outcome_tested_told}
use Rattle.plant.specs.Round.{after_round}
use Rattle.plant.specs.Entry.{Entry, State, is_crash, acted, after, tested_of, outcome_of}
use Rattle.plant.proofs.StepCells.{leave_told-length, leave_told-other, leave_told-status, exchange-other}
use Rattle.plant.proofs.StepCells.{exchange-tester, exchange-tested, exchange-tester-own, exchange-tested-own}
use Rattle.plant.proofs.RoundLaws.{reset-other}
use Rattle.detection.specs.Exits.{RepliedTest, SameRows, RowsJoined, NeitherSuspects, ReplyEnds}
use Rattle.detection.proofs.TestingPair.{Pair, parts_of, testing-pair}

-- a test writes the status of i if i is alone, and a closing the columns of the round
module _ (n i : ℕ) (v : List ℕ) where
  abbrev later : List ℕ
  later = after_round n (after_alone n v i)

  later-round : (k c : ℕ) → c < stride n → ¬ (ClosingChanges c) → cell n later k c ≡ cell n (after_alone n v i) k c
  unfolding after_round
  later-round k c h out =
      let u = after_alone n v i in choice (λ (t : List ℕ). cell n t k c ≡ cell n u k c) (round_over n u) (reset-other n u k c h out) refl

  later-other : (k c : ℕ) → c < stride n → ¬ (ClosingChanges c) → (i ≡ k → c ≢ status_column)
      → cell n later k c ≡ cell n v k c
  unfolding after_alone
  later-other k c h out own =
      later-round k c h out
      ∙ choice (λ (t : List ℕ). cell n t k c ≡ cell n v k c) (is_alone n v i)
      (cell_other n v i status_column status_alone k c (omega arith) h (λ q r. own q (sym r))) refl

  later-alone : length v ≡ table_length n → i < n → status n v i ≡ 0 → status n later i ≡ cond (is_alone n v i) status_alone 0
  unfolding after_alone
  later-alone long hi l =
      later-round i status_column (omega arith) (λ p. omega arith)
      ∙ by_bool (is_alone n v i) (λ e. rw e (cell_same n v i status_column status_alone long hi (omega arith))) (λ e. rw e l)

  later-stays : is_alone n v i ≡ false → status n later i ≡ status n v i
  unfolding after_alone
  later-stays e = later-round i status_column (omega arith) (λ p. omega arith) ∙ rw e

-- a taken turn whose test has a reply: i tests j at distance m, and u is the table with the test counted
module _ (w : Wiring) (n : ℕ) (s : State) (e : Entry) (r : RepliedTest w n s e) where
  open parts_of w n s e use {before as t, tester as i, tested as j, counted as u}

  no-crash : is_crash e ≡ false
  no-crash = not-true (is_crash e) (both (not (is_crash e)) (makes_test w n t i) r.makes).0

  tests : makes_test w n t i ≡ true
  tests = (both (not (is_crash e)) (makes_test w n t i) r.makes).1

  pair : Pair w n t u i j
  pair = testing-pair w n s e (accepted w n t r.shape) r.taken no-crash tests

  open pair use {lines as lines₀, below as hi, tested_below as hj, apart, counted_lines as lines, others as counted}

  row-counted : (k x : ℕ) → x < n → suspects n u k x ≡ suspects n t k x
  row-counted k x h = counted k (head + x) (omega arith) (omega arith)

  status-counted : (k : ℕ) → status n u k ≡ status n t k
  status-counted k = counted k status_column (omega arith) (omega arith)

  tested-is : tested_of w n t e ≡ j
  unfolding tested_of turn_tested
  tested-is = rw (no-crash, tests)

  reply : replies n t e.kind j ≡ true
  reply = rw tested-is at r.reply

  -- the outcome is that of a reply; the table is what that, Alone and the closing of a round make of it
  outcome-is : outcome_of w n t e ≡ reply_outcome n t i j
  unfolding outcome_of turn_outcome test_outcome replies
  outcome-is = rw (no-crash, tests, reply)

  after_is : (after w n s e).table ≡ later n i (after_outcome n u i j (outcome_of w n t e))
  unfolding after acted turn testing after_test outcome_of turn_outcome
  after_is = rw (no-crash, tests)

  j-live : status n t j ≡ 0
  unfolding replies
  j-live = eqb-true (status n t j) 0 (both (live n t j) (eqb e.kind kind_turn) reply).0

  i-live : status n t i ≡ 0
  i-live = eqb-true (status n t i) 0 pair.is_live

  -- where a station leaves, no row changes
  left-rows : (k x : ℕ) → SameRows n t (later n i (leave_told n u k x))
  left-rows k x a b ha hb =
      later-other n i (leave_told n u k x) a (head + b) (omega arith) (λ p. omega arith) (λ _. omega arith)
      ∙ (leave_told-other n u k x a (head + b) (omega arith) (λ _. omega arith) ∙ row-counted a b hb)

  tester-told : suspects n t j i ≡ 1 → outcome_of w n t e ≡ outcome_told
  unfolding reply_outcome is_told
  tester-told f = outcome-is ∙ rw f

  tested-told : suspects n t j i ≡ 0 → suspects n t i j ≡ 1 → outcome_of w n t e ≡ outcome_tested_told
  unfolding reply_outcome is_told
  tested-told f x = outcome-is ∙ rw (f, x)

  none_told : NeitherSuspects n t i j → outcome_of w n t e ≡ outcome_exchanged
  unfolding reply_outcome is_told
  none_told f = outcome-is ∙ rw (f.1, f.0)

  -- outcome 2
  tester-leaves : suspects n t j i ≡ 1
      → (outcome_of w n t e ≡ outcome_told)
      × (status n (after w n s e).table i ≡ status_told)
      × (live n (after w n s e).table j ≡ true)
      × SameRows n t (after w n s e).table
  unfolding after_outcome is_alone
  tester-leaves f =
      let v : List ℕ = leave_told n u i j in
      let q = tester-told f in
      let a : (after w n s e).table ≡ later n i v = rw q at after_is in
      let mine : status n v i ≡ status_told = leave_told-status n u i lines.0 hi j in
      let gone : is_alone n v i ≡ false = rw mine in
      let its : status n (later n i v) j ≡ 0 =
      later-other n i v j status_column (omega arith) (λ p. omega arith) (λ p. absurd (apart p))
      ∙ (leave_told-other n u i j j status_column (omega arith) (λ p. absurd (apart p)) ∙ (status-counted j ∙ j-live)) in
      (q, rw a (later-stays n i v gone ∙ mine), rw (a, its), rw a (left-rows i j))

  -- outcome 5
  tested-leaves : suspects n t j i ≡ 0 → suspects n t i j ≡ 1
      → (outcome_of w n t e ≡ outcome_tested_told)
      × (status n (after w n s e).table j ≡ status_told)
      × SameRows n t (after w n s e).table
      × (status n (after w n s e).table i ≡ cond (every (self_or_suspected n t i) n) status_alone 0)
  unfolding after_outcome is_alone self_or_suspected
  tested-leaves f x =
      let v : List ℕ = leave_told n u j i in
      let q = tested-told f x in
      let a : (after w n s e).table ≡ later n i v = rw q at after_is in
      let its : status n (later n i v) j ≡ status_told =
      later-other n i v j status_column (omega arith) (λ p. omega arith) (λ p. absurd (apart p)) ∙ leave_told-status n u j lines.0 hj i in
      let mine : status n v i ≡ 0 =
      leave_told-other n u j i i status_column (omega arith) (λ p. absurd (apart (sym p))) ∙ (status-counted i ∙ i-live) in
      let others : every (self_or_suspected n v i) n ≡ every (self_or_suspected n t i) n =
      every-same (self_or_suspected n v i) (self_or_suspected n t i) n
      (λ k h. rw (leave_told-other n u j i i (head + k) (omega arith) (λ _. omega arith) ∙ row-counted i k h)) in
      let alone : is_alone n v i ≡ every (self_or_suspected n t i) n = rw (mine, others) in
      (q, rw a its, rw a (left-rows j i), rw a (later-alone n i v (leave_told-length n u j i ∙ lines.0) hi mine ∙ rw alone))

  -- where neither suspects the other, the exception for a station's own byte makes no difference to the union
  joined-tester : NeitherSuspects n t i j → (x : ℕ) → x < n → suspects n (exchange_rows n u i j) i x ≡ max (suspects n t i x) (suspects n t j x)
  joined-tester f x h =
      by_cases (ℕ_discrete x i)
      (λ q. rw q (omega (arith, exchange-tester-own n u i lines.0 hi j hj apart, (lines.1 i hi).own, (lines₀.1 i hi).own, f.1)))
      (λ d. omega (arith, exchange-tester n u i lines.0 hi j hj apart x h d, row-counted i x h, row-counted j x h))

  joined-tested : NeitherSuspects n t i j → (x : ℕ) → x < n → suspects n (exchange_rows n u i j) j x ≡ max (suspects n t j x) (suspects n t i x)
  joined-tested f x h =
      by_cases (ℕ_discrete x j)
      (λ q. rw q (omega (arith, exchange-tested-own n u i lines.0 hi j hj apart, (lines.1 j hj).own, (lines₀.1 j hj).own, f.0)))
      (λ d. omega (arith, exchange-tested n u i lines.0 hi j hj apart x h d, row-counted i x h, row-counted j x h))

  -- outcome 1: i does not suspect j afterwards, and so is not alone
  both-stay : NeitherSuspects n t i j
      → (outcome_of w n t e ≡ outcome_exchanged)
      × (live n (after w n s e).table i ≡ true)
      × (live n (after w n s e).table j ≡ true)
      × RowsJoined n t (after w n s e).table i j
  unfolding after_outcome is_alone self_or_suspected
  both-stay f =
      let v : List ℕ = exchange_rows n u i j in
      let q = none_told f in
      let a : (after w n s e).table ≡ later n i v = rw q at after_is in
      let mine : suspects n v i j ≡ 0 = omega (arith, joined-tester f j hj, f.0, (lines₀.1 j hj).own) in
      let fails : self_or_suspected n v i j ≡ false = rw (ne_eqb j i (λ p. apart (sym p)), mine) in
      let company : is_alone n v i ≡ false = rw (every-not (self_or_suspected n v i) n j hj fails, and-false) in
      let same : (k : ℕ) → status n v k ≡ status n t k =
      λ k. exchange-other n u i lines.0 hi j hj apart k status_column (omega arith) (λ _. omega arith) (λ _. omega arith) ∙ status-counted k in
      let i-stays : status n (later n i v) i ≡ 0 = later-stays n i v company ∙ (same i ∙ i-live) in
      let j-stays : status n (later n i v) j ≡ 0 =
      later-other n i v j status_column (omega arith) (λ p. omega arith) (λ p. absurd (apart p)) ∙ (same j ∙ j-live) in
      let kept : (k x : ℕ) → x < n → suspects n (later n i v) k x ≡ suspects n v k x =
      λ k x h. later-other n i v k (head + x) (omega arith) (λ p. omega arith) (λ _. omega arith) in (
        q,
        rw (a, i-stays),
        rw (a, j-stays),
        rw a (
          λ x h. kept i x h ∙ joined-tester f x h,
          λ x h. kept j x h ∙ joined-tested f x h,
          λ k x hk h c d. kept k x h
              ∙ (exchange-other n u i lines.0 hi j hj apart k (head + x) (omega arith) (λ p. absurd (c p)) (λ p. absurd (d p)) ∙ row-counted k x h),
        ),
      )

  -- a byte of a row is 0 or 1, so that one of the three applies
  parted : live n (after w n s e).table i ≡ true → live n (after w n s e).table j ≡ true → NeitherSuspects n (after w n s e).table i j
  parted a b =
      by_cases (ℕ_discrete (suspects n t j i) 1) (λ f. absurd (omega (arith, eqb-true (status n (after w n s e).table i) 0 a, (tester-leaves f).1)))
      (λ f.
      let f' : suspects n t j i ≡ 0 = omega (arith, (lines₀.1 j hj).range i hi) in
      by_cases (ℕ_discrete (suspects n t i j) 1)
      (λ x. absurd (omega (arith, eqb-true (status n (after w n s e).table j) 0 b, (tested-leaves f' x).1)))
      (λ x.
      let x' : suspects n t i j ≡ 0 = omega (arith, (lines₀.1 i hi).range j hj) in
      let z = (both-stay (x', f')).3 in
      (omega (arith, z.0 j hj, (lines₀.1 j hj).own), omega (arith, z.1 i hi, (lines₀.1 i hi).own))))

-- the claim, an end in itself
pub reply-ends : ReplyEnds
reply-ends w n s e r =
    rw (tested-is w n s e r) (record {
      tester = tester-leaves w n s e r;
      tested = tested-leaves w n s e r;
      neither = both-stay w n s e r;
      parted = parted w n s e r;
    })
