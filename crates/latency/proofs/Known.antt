-- After how many turns all is known: from the start of a round, and from any moment of one, whose rest comes first.
-- Assumes nothing.
use mathlib.Core.Path.{◌≡◌, refl}
use mathlib.Core.Logic.{by_cases}
use mathlib.Core.Bool.{Bool, true, false, not}
use mathlib.Core.List.{List, [], ◌∷◌}
use Prim.Native.Nat.{ℕ, suc, ◌+◌, ◌*◌, ◌≤◌, ◌<◌}
use native.Mathlib.Nat.{mul-le-mul}
use native.Mathlib.Decide.{dec_lt}
use native.Mathlib.Omega.{arith}
use borrow.Author.Tests.{not-true}
use lib.ListN.{length, get_or}
use Rattle.lists.proofs.BoolLaws.{by_bool}
use Rattle.lists.proofs.SearchLaws.{both}
use Rattle.table.specs.Sizes.{is_size}
use Rattle.table.specs.Table.{live}
use Rattle.table.specs.Rules.{round_over}
use Rattle.table.specs.Properties.{live_count}
use Rattle.table.proofs.SizeLaws.{size-bounds}
use Rattle.table.proofs.Accepting.{Accepted}
use Rattle.table.specs.declared.wiring.Wiring.{Wiring}
use Rattle.table.specs.declared.wiring.Wiring.TheVariants.{Cube, Ring}
use Rattle.plant.specs.Round.{after_round}
use Rattle.plant.specs.Entry.{Entry, State, is_crash, entry_check, acted, after}
use Rattle.plant.proofs.RulesKept.{accepted-kept}
use Rattle.granter.proofs.TurnsLeft.{all_left, all-left-most, turn-left}
use Rattle.detection.specs.Runs.{Taken, crashes, is_late}
use Rattle.detection.specs.Rounds.{all_taken, cut}
use Rattle.detection.specs.Claim.{all_rounds, worst_rounds, AllKnow}
use Rattle.detection.proofs.TakenLaws.{taken_at}
use Rattle.detection.proofs.Chain.{WiredChain, ends, next}
use Rattle.detection.proofs.TurnEffect.{Plain, Company}
use Rattle.detection.proofs.RoundKnowledge.{InRound, restart, TurnTaken, RoundKnowledge}
use Rattle.detection.proofs.Course.{taken-turn, course}
use Rattle.detection.proofs.DetectionClaim.{company-of, someone}
use Rattle.latency.specs.Bound.{turns_per_round, turns_until_known, RoundWithin}
use Rattle.detection.proofs.Cube.{cube}
use Rattle.detection.proofs.RingKnowledge.{ring}
use Rattle.latency.proofs.CubeTests.{cube-tests}
use Rattle.latency.proofs.RingTests.{ring-tests}
use Rattle.latency.proofs.Rounds.{TestsBound, going-start, AllWithin, all-within}
use Rattle.std.specs.Prelude.{Ok}

-- no crash and no late reply among the entries
pub record Quiet (xs : List Taken) : Type 0 where
  pub no_crash : all_taken (λ x. not (crashes x)) xs ≡ true
  pub no_late : all_taken (λ x. not (is_late x)) xs ≡ true

-- the first of them, and the others
quiet-first : (x : Taken) (xs : List Taken) → Quiet (x ∷ xs) → (crashes x ≡ false) × (is_late x ≡ false) × Quiet xs
unfolding all_taken
quiet-first x xs q =
    let a = both (not (crashes x)) (all_taken (λ x. not (crashes x)) xs) q.no_crash in
    let b = both (not (is_late x)) (all_taken (λ x. not (is_late x)) xs) q.no_late in
    (not-true _ a.0, not-true _ b.0, record { no_crash = a.1; no_late = b.1 })

-- where a round starts in a table in which no live station suspects a live one; L is the live set
pub record Started (w : Wiring) (n : ℕ) (L : ℕ → Bool) (xs : List Taken) (s' : State) (total : ℕ) : Type 0 where
  pub from : State
  pub chain : WiredChain w n from xs s'
  pub ok : Accepted w n from.table
  pub inv : InRound w n L from.table [] from.table
  pub quiet : Quiet xs
  pub enough : total ≤ length xs

-- a chain without crashes and late replies from the middle of a round on; T has the live set
module _ (w : Wiring) (n : ℕ) (T : List ℕ) (two : 2 ≤ live_count n T) where
  abbrev L : ℕ → Bool
  L = live n T

  -- what holds of the table within a round, which turns keep, and a number that bounds the turns that are left of it, which they lessen
  module _ (Inv : List ℕ → Type 0) (left : List ℕ → ℕ)
      (step : (s : State) (e : Entry) → Accepted w n s.table → Plain w n L s.table → TurnTaken w n L s e (acted w n s.table e) → Inv s.table
      → Inv (acted w n s.table e) × (left (acted w n s.table e) < left s.table)) where
    -- one taken entry, behind which more are to be made than turns are left and `total`
    module _ (s : State) (e : Entry) (ok : Accepted w n s.table) (takes : entry_check n s e ≡ Ok tt) (p : Plain w n L s.table) (holds : Inv s.table)
        (no_crash : is_crash e ≡ false) (in_time : is_late (taken_at w n s e) ≡ false) where
      abbrev t' : List ℕ
      t' = acted w n s.table e

      turned : TurnTaken w n L s e t'
      turned = taken-turn w n L (company-of n T two) s e ok takes p no_crash in_time

      done : Inv t' × (left t' < left s.table)
      done = step s e ok p turned holds

      -- with it the round closes, or goes on
      rest-more : (total : ℕ) (xs : List Taken) (s' : State) → WiredChain w n (after w n s e) xs s' → Quiet xs
          → left s.table + total ≤ suc (length xs)
          → (Plain w n L (after w n s e).table → Inv (after w n s e).table → left (after w n s e).table + total ≤ length xs
          → (ys : List Taken) × Started w n L ys s' total)
          → (ys : List Taken) × Started w n L ys s' total
      unfolding after after_round
      rest-more total xs s' chain quiet far on =
          let kept = accepted-kept w n s e ok takes in
          by_bool (round_over n t')
          (λ over.
          let anew = restart w n L t' turned.kept.plain in (
            xs,
            record { from = after w n s e; chain = chain; ok = kept; inv = rw over anew; quiet = quiet; enough = omega (arith, done.1) },
          ))
          (λ over. on (rw over turned.kept.plain) (rw over done.0) (rw over (omega (arith, done.1))))

    -- the rest of the round
    pub rest-of-round : {s s' : State} {xs : List Taken} → WiredChain w n s xs s' → Plain w n L s.table → Inv s.table → Quiet xs → (total : ℕ)
        → 1 ≤ total
        → left s.table + total ≤ length xs → (ys : List Taken) × Started w n L ys s' total
    rest-of-round ends p holds quiet total pos far = absurd (omega arith)
    rest-of-round {s} {s'} (next {xs = xs} e ok takes chain) p holds quiet total pos far =
        let q = quiet-first (taken_at w n s e) xs quiet in
        rest-more s e ok takes p holds q.0 q.1 total xs s' chain q.2 far (λ plain now room. rest-of-round chain plain now q.2 total pos room)

-- what is shown of chains without crashes and late replies, where T has the live set
pub record Facts (w : Wiring) (n : ℕ) (T : List ℕ) : Type 0 where
  -- from the start of a round: of every round, of all turns by the rounds that have closed, and of these
  pub each : {s s' : State} {xs : List Taken} → WiredChain w n s xs s' → Accepted w n s.table → InRound w n (live n T) s.table [] s.table → Quiet xs
      → (k : ℕ) → k ≤ length (cut [] xs).closed → RoundWithin w n T (get_or (all_rounds (cut [] xs)) k [])
  pub room : {s s' : State} {xs : List Taken} → WiredChain w n s xs s' → Accepted w n s.table → InRound w n (live n T) s.table [] s.table → Quiet xs
      → length xs < suc (length (cut [] xs).closed) * turns_per_round w n T
  pub tally : {s s' : State} {xs : List Taken} → WiredChain w n s xs s' → InRound w n (live n T) s.table [] s.table → Quiet xs
      → s'.rounds ≡ s.rounds + length (cut [] xs).closed
  pub some : 1 ≤ turns_until_known w n T
  pub known : {s' : State} {xs : List Taken} → Started w n (live n T) xs s' (turns_until_known w n T) → AllKnow n T s'.table

-- K says after how many rounds all is known, and B bounds the tests of a round
module _ (w : Wiring) (n : ℕ) (T : List ℕ) (size : is_size n ≡ true) (two : 2 ≤ live_count n T) (K : RoundKnowledge w n (live n T))
    (B : TestsBound w n) (enough : K.enough ≤ worst_rounds w n) where
  company : Company n (live n T)
  company = company-of n T two

  rounds-within : {s s' : State} {xs : List Taken} → WiredChain w n s xs s' → Accepted w n s.table → InRound w n (live n T) s.table [] s.table
      → Quiet xs
      → AllWithin w n T two B (cut [] xs) (length xs)
  rounds-within {s} chain ok inv q =
      let all = all-within w n T two B chain ok q.no_crash q.no_late s.table [] (going-start w n T two B s.table inv) in
      record { each = all.each; room = omega (arith, all.room) }

  -- there is something to wait for
  some-turns : 1 ≤ turns_until_known w n T
  some-turns =
      let rounds : 1 ≤ worst_rounds w n = omega (arith, K.some_round, enough) in
      let turns : 1 ≤ turns_per_round w n T = omega (arith, two) in
      omega (arith, mul-le-mul rounds turns)

  -- after so many turns enough rounds have closed
  closed-enough : (closed total : ℕ) → total < suc closed * turns_per_round w n T → turns_until_known w n T ≤ total → worst_rounds w n ≤ closed
  closed-enough closed total room far =
      by_cases (dec_lt closed (worst_rounds w n))
      (λ l.
      let more : suc closed ≤ worst_rounds w n = omega arith in
      let same : turns_per_round w n T ≤ turns_per_round w n T = omega arith in
      absurd (omega (arith, mul-le-mul more same)))
      (λ l. omega arith)

  known-from-start : {s' : State} {xs : List Taken} → Started w n (live n T) xs s' (turns_until_known w n T) → AllKnow n T s'.table
  known-from-start {s'} {xs} st i j h g l =
      let all = rounds-within st.chain st.ok st.inv st.quiet in
      let first = K.starts st.from.table st.inv in
      let c = (course w n (live n T) K size company st.chain st.quiet.no_crash st.quiet.no_late st.from.table [] st.inv first).0 in
      let far : worst_rounds w n ≤ length (cut [] xs).closed = closed-enough (length (cut [] xs).closed) (length xs) all.room st.enough in
      let exact = K.exact c.start _ _ c.gave (length (cut [] xs).closed) (omega (arith, enough)) (omega arith) i j h g l in
      by_bool (live n T j) (λ e. rw e (c.plain.accurate i j h g l e)) (λ e. rw e (c.grown i j h g (exact e)))

  facts-by : Facts w n T
  facts-by = record {
    each = λ chain ok inv q k h. (rounds-within chain ok inv q).each k h;
    room = λ chain ok inv q. (rounds-within chain ok inv q).room;
    tally = λ {s} chain inv q. (course w n (live n T) K size company chain q.no_crash q.no_late s.table [] inv (K.starts s.table inv)).1.rounds;
    some = some-turns;
    known = known-from-start;
  }

-- what bounds the tests on the ring, of which the count is n
abbrev pub on-the-ring : (n : ℕ) → is_size n ≡ true → TestsBound Ring n
on-the-ring n size = ring-tests Ring n refl (omega (arith, size-bounds n size)) (λ T. refl)

-- on each wiring
pub facts : (w : Wiring) (n : ℕ) (T : List ℕ) → is_size n ≡ true → 2 ≤ live_count n T → Facts w n T
facts Cube n T size two = facts-by Cube n T size two (cube n T size) (cube-tests n size) (omega arith)
facts Ring n T size two =
    let z = someone n T (omega (arith, two)) in
    let K = ring Ring n (live n T) refl (omega (arith, size-bounds n size)) (company-of n T two) z.0 z.1 z.2 in
    facts-by Ring n T size two K (on-the-ring n size) (omega arith)

-- from any moment on, of which n·n bounds the turns that are left
module _ (w : Wiring) (n : ℕ) (T : List ℕ) (size : is_size n ≡ true) (two : 2 ≤ live_count n T) where
  -- a turn leaves fewer
  left-less : (s : State) (e : Entry) → Accepted w n s.table → Plain w n (live n T) s.table → TurnTaken w n (live n T) s e (acted w n s.table e)
      → Unit {0}
      → Unit {0} × (all_left w n (acted w n s.table e) < all_left w n s.table)
  unfolding acted
  left-less s e ok p turn holds = (
    holds,
    rw turn.no_crash (turn-left w n s.table size p.lines e.kind e.station turn.below (λ q. absurd (omega (arith, q, turn.going)))),
  )

  pub known-from-now : {s s' : State} {xs : List Taken} → WiredChain w n s xs s' → Plain w n (live n T) s.table → Quiet xs
      → n * n + turns_until_known w n T ≤ length xs → AllKnow n T s'.table
  known-from-now {s} chain p quiet far =
      let f = facts w n T size two in
      let most = all-left-most w n s.table size p.lines in
      let total : ℕ = turns_until_known w n T in
      let started = rest-of-round w n T two (λ _. Unit {0}) (all_left w n) left-less chain p tt quiet total f.some (omega (arith, most)) in
      f.known started.1
