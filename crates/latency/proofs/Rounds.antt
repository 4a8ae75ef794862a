-- Every round of a chain of taken entries without crashes and late replies, the open one included: what its tests are bounded by bounds its turns
-- too, and so all turns by the rounds that have closed.
-- Assumes nothing.
use mathlib.Core.Path.{◌≡◌, refl, sym, ap, ◌∙◌}
use mathlib.Core.Bool.{Bool, true, false, cond, not}
use mathlib.Core.List.{List, [], ◌∷◌, ◌++◌}
use mathlib.Core.Logic.{◌≢◌}
use Prim.Native.Nat.{ℕ, zero, suc, ◌+◌, ◌*◌, ◌≤◌, ◌<◌}
use native.Mathlib.Nat.{suc-mul}
use native.Mathlib.Omega.{arith}
use borrow.Author.Tests.{eqb-true, eqb-false, eq-eqb, ne_eqb, not-true}
use lib.Dec.{eqb}
use lib.ListN.{length, length-append, get_or}
use Rattle.lists.specs.Sums.{sum_below, bit}
use Rattle.lists.proofs.BoolLaws.{by_bool}
use Rattle.lists.proofs.SearchLaws.{both, every-not}
use Rattle.lists.proofs.SumLaws.{sum_by, sum-add, sum-zero, sum-single}
use Rattle.slots.proofs.Counts.{sum-le}
use Rattle.table.specs.Table.{next_distance, finished, tests_made, live}
use Rattle.table.specs.Properties.{live_count}
use Rattle.table.specs.Rules.{not_live, some_live, round_over}
use Rattle.table.proofs.Accepting.{Accepted}
use Rattle.table.specs.declared.wiring.Wiring.{Wiring}
use Rattle.plant.specs.Round.{reset_lines, after_round}
use Rattle.plant.specs.Entry.{Entry, State, is_crash, entry_check, acted, after}
use Rattle.plant.proofs.RulesKept.{accepted-kept}
use Rattle.plant.proofs.RoundLaws.{Reset}
use Rattle.granter.specs.Grant.{granted}
use Rattle.granter.proofs.GrantLaws.{granted-waits, waits-parts}
use Rattle.detection.specs.Runs.{Taken, crashes, is_late, is_turn_of}
use Rattle.detection.specs.Rounds.{all_taken, count_taken, Rounds, closes, cut, tests_in, turns_in}
use Rattle.detection.specs.Claim.{all_rounds, count_of}
use Rattle.detection.proofs.TakenLaws.{taken_at, count-snoc}
use Rattle.detection.proofs.Chain.{WiredChain, ends, next}
use Rattle.detection.proofs.Counting.{closes-is}
use Rattle.detection.proofs.Course.{taken-turn}
use Rattle.detection.proofs.TurnEffect.{Plain, Company}
use Rattle.detection.proofs.DetectionClaim.{company-of, someone}
use Rattle.detection.proofs.RoundKnowledge.{InRound, restart, TurnTaken, turn-in-round}
use Rattle.latency.specs.Bound.{turns_per_round, RoundWithin}
use Rattle.std.specs.Prelude.{Ok}

-- what bounds the tests that live stations have made in a round, whoever tests whom: something that holds of live set and table where a round
-- starts, and that turns keep, and crashes
pub record TestsBound (w : Wiring) (n : ℕ) : Type 1 where
  pub Fits : (ℕ → Bool) → List ℕ → Type 0
  pub starts : (L : ℕ → Bool) (t : List ℕ) → ((i : ℕ) → i < n → Reset n t i) → Fits L t
  pub turns : (L : ℕ → Bool) (t' : List ℕ) (s : State) (e : Entry) → Plain w n L s.table → TurnTaken w n L s e t' → Fits L s.table → Fits L t'
  -- where fewer are live, and next distances and tests are as they were
  pub narrows : (L L' : ℕ → Bool) (t t' : List ℕ) → ((i : ℕ) → i < n → L' i ≡ true → L i ≡ true)
      → ((i : ℕ) → i < n → (next_distance n t' i ≡ next_distance n t i) × (tests_made n t' i ≡ tests_made n t i)) → Fits L t → Fits L' t'
  pub within : (T t : List ℕ) → 2 ≤ live_count n T → Plain w n (live n T) t → Fits (live n T) t
      → sum_below (λ i. cond (live n T i) (tests_made n t i) 0) n ≤ count_of w n T

-- terms that are no greater, and one that is less
sum-lt : (f g : ℕ → ℕ) (n p : ℕ) → p < n → ((i : ℕ) → i < n → f i ≤ g i) → f p < g p → sum_below f n < sum_below g n
sum-lt f g n p h low less =
    let one : ℕ → ℕ = λ i. bit (eqb p i) in
    let single : sum_below one n ≡ one p = sum-single one n p h (λ i b ne. ap bit (ne_eqb p i (λ q. ne (sym q)))) in
    let first : one p ≡ 1 = ap bit (eq-eqb p p refl) in
    let each : (i : ℕ) → i < n → f i + one i ≤ g i =
    λ i b. by_bool (eqb p i) (λ q. let same = eqb-true p i q in rw (q, ← same) (omega arith)) (λ q. rw q (omega (arith, low i b))) in
    omega (arith, sum-add f one n, sum-le n each, single, first)

-- T has the live set
module _ (w : Wiring) (n : ℕ) (T : List ℕ) (two : 2 ≤ live_count n T) (B : TestsBound w n) where
  abbrev pub L : ℕ → Bool
  L = live n T

  company : Company n L
  company = company-of n T two

  -- within a round that started with t₀, after its entries `cur`, at the table t
  pub record Going (t₀ : List ℕ) (cur : List Taken) (t : List ℕ) : Type 0 where
    pub inv : InRound w n L t₀ cur t
    pub fits : B.Fits L t
    -- each entry is a turn of a live station
    pub spent : length cur ≡ sum_below (λ k. turns_in k cur) n
    pub rest : (k : ℕ) → k < n → L k ≡ false → turns_in k cur ≡ 0

  module _ (t₀ t : List ℕ) (cur : List Taken) (g : Going t₀ cur t) where
    turns-are : (k : ℕ) → k < n → turns_in k cur ≡ tests_made n t k + finished n t k
    turns-are k h = omega (arith, g.inv.counts.turns k h, (g.inv.fresh k h).untested, (g.inv.fresh k h).unfinished)

    ends_low : (k : ℕ) → k < n → finished n t k ≤ bit (L k)
    ends_low k h =
        by_bool (L k) (λ e. rw e (omega (arith, (g.inv.plain.lines.1 k h).pass.finished_range)))
        (λ e. rw e (omega (arith, turns-are k h, g.rest k h e)))

    tests-are : sum_below (tests_made n t) n ≡ tests_in cur
    tests-are = omega (arith, g.inv.counts.tests, sum-zero n (λ i h. (g.inv.fresh i h).untested))

    length-is : length cur ≡ tests_in cur + sum_below (finished n t) n
    length-is = omega (arith, g.spent, sum_by n turns-are, sum-add (tests_made n t) (finished n t) n, tests-are)

    tests-within : tests_in cur ≤ count_of w n T
    tests-within =
        let own : (i : ℕ) → i < n → tests_made n t i ≡ cond (L i) (tests_made n t i) 0 =
        λ i h. by_bool (L i) (λ e. rw e) (λ e. rw e (omega (arith, turns-are i h, g.rest i h e))) in
        omega (arith, tests-are, sum_by n own, B.within T t two g.inv.plain g.fits)

    within : RoundWithin w n T cur
    unfolding live_count
    within = record { tests = omega (arith, tests-within); turns = omega (arith, tests-within, length-is, sum-le n ends_low) }

    -- where the round is not over somebody has not finished
    open-less : round_over n t ≡ false → length cur < turns_per_round w n T
    unfolding some_live live_count
    open-less unclosed =
        let z = someone n T (omega (arith, two)) in
        let alive : some_live n t ≡ true = rw (every-not (not_live n t) n z.0 z.1 (rw (g.inv.plain.lives z.0 z.1, z.2))) in
        let q = granted-waits n t unclosed alive 255 in
        let p : ℕ = granted n t 255 in
        let parts = waits-parts n t p q.1 in
        let lp : L p ≡ true = sym (g.inv.plain.lives p q.0) ∙ parts.0 in
        let going : finished n t p < bit (L p) =
        rw lp (omega (arith, eqb-false _ _ parts.1, (g.inv.plain.lines.1 p q.0).pass.finished_range)) in
        omega (arith, tests-within, length-is, sum-lt (finished n t) (λ i. bit (L i)) n p q.0 ends_low going)

  -- where a round starts
  pub going-start : (t : List ℕ) → InRound w n L t [] t → Going t [] t
  unfolding count_taken
  going-start t inv = record { inv = inv; fits = B.starts L t inv.fresh; spent = sym (sum-zero n (λ k h. refl)); rest = λ k h e. refl }

  -- the rounds r, of so many entries in all
  pub record AllWithin (r : Rounds) (total : ℕ) : Type 0 where
    pub each : (k : ℕ) → k ≤ length r.closed → RoundWithin w n T (get_or (all_rounds r) k [])
    pub room : total < suc (length r.closed) * turns_per_round w n T

  -- one taken entry that is no crash and no late reply
  module _ (t₀ : List ℕ) (cur : List Taken) (s : State) (e : Entry) (ok : Accepted w n s.table)
      (takes : entry_check n s e ≡ Ok tt) (g : Going t₀ cur s.table) (no_crash : is_crash e ≡ false)
      (in_time : is_late (taken_at w n s e) ≡ false) where
    abbrev t : List ℕ
    t = s.table

    abbrev i : ℕ
    i = e.station

    abbrev t' : List ℕ
    t' = acted w n t e

    abbrev x : Taken
    x = taken_at w n s e

    abbrev here : List Taken
    here = cur ++ (x ∷ [])

    taken : TurnTaken w n L s e t'
    taken = taken-turn w n L company s e ok takes g.inv.plain no_crash in_time

    turns-of : (k : ℕ) → turns_in k here ≡ turns_in k cur + bit (eqb i k)
    turns-of k = let own : is_turn_of k x ≡ eqb i k = rw no_crash in count-snoc (is_turn_of k) cur x ∙ rw own

    moved : Going t₀ here t'
    moved = record {
      inv = turn-in-round w n L t₀ t' cur s e g.inv taken;
      fits = B.turns L t' s e g.inv.plain taken g.fits;
      spent =
          let one : ℕ → ℕ = λ k. bit (eqb i k) in
          let single : sum_below one n ≡ one i = sum-single one n i taken.below (λ k b ne. ap bit (ne_eqb i k (λ q. ne (sym q)))) in
          let first : one i ≡ 1 = ap bit (eq-eqb i i refl) in
          omega (arith, length-append cur (x ∷ []), g.spent, sum_by n (λ k h. turns-of k), sum-add (λ k. turns_in k cur) one n, single, first);
      rest = λ k h f.
          let apart : i ≢ k = λ q. absurd (omega (arith, ap bit (sym (rw (← q) at f) ∙ taken.is_live))) in
          omega (arith, turns-of k, g.rest k h f, ap bit (ne_eqb i k apart));
    }

    closing-is : closes here x ≡ round_over n t'
    closing-is = closes-is w n t₀ t' here moved.inv.fresh moved.inv.plain.lines moved.inv.counts s e refl

    -- with it the round closes, or goes on
    cut-more : (xs : List Taken)
        → ((t₁ : List ℕ) (now : List Taken) → Going t₁ now (after w n s e).table → AllWithin (cut now xs) (length now + length xs))
        → AllWithin (cut cur (x ∷ xs)) (length cur + suc (length xs))
    unfolding cut after after_round
    cut-more xs rest = by_bool (round_over n t') closing going
      where
        closing : round_over n t' ≡ true → AllWithin (cut cur (x ∷ xs)) (length cur + suc (length xs))
        closing over =
            let anew = restart w n L t' moved.inv.plain in
            let r = rest (reset_lines n t') [] (rw over (going-start (reset_lines n t') anew)) in
            let one = within t₀ t' here moved in
            rw (closing-is ∙ over) (record {
              each = λ k. elim k as (λ y. y ≤ length (here ∷ (cut [] xs).closed) → RoundWithin w n T (get_or (here ∷ all_rounds (cut [] xs)) y [])) [
                | zero ↦ λ h. one
                | suc k ↦ λ h. r.each k (omega arith)
              ];
              room = omega (arith, r.room, one.turns, length-append cur (x ∷ []), suc-mul (suc (length (cut [] xs).closed)) (turns_per_round w n T));
            })

        going : round_over n t' ≡ false → AllWithin (cut cur (x ∷ xs)) (length cur + suc (length xs))
        going over =
            let r = rest t₀ here (rw over moved) in
            rw (closing-is ∙ over) (record { each = r.each; room = omega (arith, r.room, length-append cur (x ∷ [])) })

  -- a chain, cut into rounds
  pub all-within : {s s' : State} {xs : List Taken} → WiredChain w n s xs s' → Accepted w n s.table
      → all_taken (λ x. not (crashes x)) xs ≡ true → all_taken (λ x. not (is_late x)) xs ≡ true
      → (t₀ : List ℕ) (cur : List Taken) → Going t₀ cur s.table → AllWithin (cut cur xs) (length cur + length xs)
  unfolding cut all_taken
  all-within {s} ends ok a b t₀ cur g =
      record {
        each = λ k h. let e : k ≡ 0 = omega arith in rw e (within t₀ s.table cur g);
        room = omega (arith, open-less t₀ s.table cur g ok.unclosed);
      }
  all-within {s} (next {xs = xs} e ok takes chain) okay a b t₀ cur g =
      let p = both (not (is_crash e)) (all_taken (λ x. not (crashes x)) xs) a in
      let late : Bool = is_late (taken_at w n s e) in
      let q = both (not late) (all_taken (λ x. not (is_late x)) xs) b in
      cut-more t₀ cur s e ok takes g (not-true (is_crash e) p.0) (not-true late q.0) xs
      (λ t₁ now h. all-within chain (accepted-kept w n s e ok takes) p.1 q.1 t₁ now h)
