-- All rounds of a chain of taken entries without crashes and late replies: the table at the start of each, and what each gave, whoever tests whom.
-- Assumes nothing.
use mathlib.Core.Path.{◌≡◌, refl, sym, ◌∙◌}
use mathlib.Core.Bool.{Bool, true, false, not, and-true}
use mathlib.Core.List.{List, [], ◌∷◌, ◌++◌}
use Prim.Native.Nat.{ℕ, zero, suc, ◌+◌, ◌≤◌, ◌<◌}
use native.Mathlib.Omega.{arith}
use borrow.Author.Tests.{eqb-false, not-true}
use lib.ListN.{length, get_or}
use lib.Dec.{eqb}
use Rattle.table.specs.Rules.{round_over}
use Rattle.table.specs.Sizes.{is_size}
use Rattle.station.specs.Wired.{wired_station}
use Rattle.table.specs.Table.{finished}
use Rattle.lists.proofs.SearchLaws.{both}
use Rattle.table.proofs.Accepting.{Accepted}
use Rattle.plant.specs.Turn.{kind_turn, kind_late, kind_crash, makes_test, next_test, turn_tested, outcome_at}
use Rattle.plant.specs.Round.{reset_lines, after_round}
use Rattle.plant.specs.Entry.{Entry, State, is_crash, entry_check, acted, after, tested_of}
use Rattle.plant.proofs.RulesKept.{Takes, entry-facts}
use Rattle.plant.proofs.NextTest.{test-station}
use Rattle.lists.specs.Sums.{bit}
use Rattle.detection.specs.Runs.{Taken, taken_test, crashes, is_late}
use Rattle.detection.specs.Rounds.{all_taken, count_taken, Rounds, round_before, closes, cut, tests_in, tests_of_all}
use Rattle.detection.specs.Claim.{TurnsOk, all_rounds}
use Rattle.detection.specs.Boards.{first_table}
use Rattle.lists.proofs.BoolLaws.{by_bool}
use Rattle.table.specs.declared.wiring.Wiring.{Wiring}
use Rattle.detection.proofs.TakenLaws.{taken_at, count-snoc}
use Rattle.detection.proofs.Chain.{WiredChain, ends, next}
use Rattle.detection.proofs.Counting.{turns-ok, closes-is}
use Rattle.plant.proofs.TurnHeads.{turn-heads}
use Rattle.detection.proofs.TurnEffect.{Plain, Grown, Company, turn-effect}
use Rattle.detection.proofs.RoundKnowledge.{InRound, restart, TurnTaken, turn-in-round, Gave, RoundKnowledge}
use Rattle.std.specs.Prelude.{Ok}

-- the rounds r from the one that starts with t₀ on, to the table `end`; L is the live set, and Gives says what each closed round gave
pub record Course (w : Wiring) (n : ℕ) (L : ℕ → Bool) (Gives : List ℕ → List Taken → List ℕ → Type 0) (t₀ : List ℕ) (r : Rounds)
    (end : List ℕ) : Type 0 where
  -- the table at the start of each round
  pub start : ℕ → List ℕ
  pub begins : start 0 ≡ t₀
  pub gave : Gave Gives start (λ k. get_or r.closed k []) (length r.closed)
  -- each closed round begins with its table
  pub opened : (k : ℕ) → k < length r.closed → (first_table (get_or r.closed k []) ≡ start k) × Plain w n L (start k)
  pub turns : (k i : ℕ) → k ≤ length r.closed → i < n → TurnsOk n i (get_or (all_rounds r) k [])
  -- the last table, within the round that is still open
  pub plain : Plain w n L end
  pub grown : Grown n (start (length r.closed)) end

-- the tally s' at the end, from the tally s at which the open round had the entries `cur`
pub record Tallied (cur : List Taken) (s : State) (r : Rounds) (s' : State) : Type 0 where
  pub rounds : s'.rounds ≡ s.rounds + length r.closed
  pub tests : s'.tests + tests_in cur ≡ s.tests + tests_of_all (all_rounds r)

-- the entries xs from s to s', behind the entries `cur` of the round that started with t₀
abbrev CutFrom : (w : Wiring) (n : ℕ) (L : ℕ → Bool) → RoundKnowledge w n L → List ℕ → List Taken → State → List Taken → State → Type 0
CutFrom w n L K t₀ cur s xs s' = Course w n L K.Gives t₀ (cut cur xs) s'.table × Tallied cur s (cut cur xs) s'

-- a closed round before the others: the table at its start, and those at the starts of the others
abbrev start_with : List ℕ → (ℕ → List ℕ) → ℕ → List ℕ
start_with t f zero = t
start_with t f (suc q) = f q

-- what is shown of the round `here`, which starts with t₀ and closes with the table t₁
record ClosedRound (w : Wiring) (n : ℕ) (L : ℕ → Bool) (Gives : List ℕ → List Taken → List ℕ → Type 0) (t₀ t₁ : List ℕ)
    (here : List Taken) : Type 0 where
  pub gave : Gives t₀ here t₁
  pub opened : (first_table here ≡ t₀) × Plain w n L t₀
  pub turns : (i : ℕ) → i < n → TurnsOk n i here

course-before : (w : Wiring) (n : ℕ) (L : ℕ → Bool) (Gives : List ℕ → List Taken → List ℕ → Type 0) (t₀ t₁ : List ℕ) (here : List Taken)
    → ClosedRound w n L Gives t₀ t₁ here → (r : Rounds) (end : List ℕ) → Course w n L Gives t₁ r end
    → Course w n L Gives t₀ (round_before here r) end
course-before w n L Gives t₀ t₁ here first r end c =
    let start = start_with t₀ c.start in
    let round = λ (k : ℕ). get_or (here ∷ r.closed) k [] in
    record {
      start = start;
      begins = refl;
      gave = λ q. elim q as (λ x. x < length (here ∷ r.closed) → Gives (start x) (round x) (start (suc x))) [
        | zero ↦ λ h. rw c.begins first.gave
        | suc q ↦ λ h. c.gave q (omega arith)
      ];
      opened = λ k. elim k as (λ x. x < length (here ∷ r.closed) → (first_table (round x) ≡ start x) × Plain w n L (start x)) [
        | zero ↦ λ h. first.opened
        | suc k ↦ λ h. c.opened k (omega arith)
      ];
      turns = λ k. elim k as (λ x. (i : ℕ) → x ≤ length (here ∷ r.closed) → i < n → TurnsOk n i (get_or (here ∷ all_rounds r) x [])) [
        | zero ↦ λ i h. first.turns i
        | suc k ↦ λ i h. c.turns k i (omega arith)
      ];
      plain = c.plain;
      grown = c.grown;
    }

-- no entry more
cut-done : (w : Wiring) (n : ℕ) (L : ℕ → Bool) (K : RoundKnowledge w n L) (t₀ : List ℕ) (cur : List Taken) (s : State) → is_size n ≡ true
    → InRound w n L t₀ cur s.table → CutFrom w n L K t₀ cur s [] s
unfolding cut tests_of_all
cut-done w n L K t₀ cur s size inv = (
  record {
    start = λ q. t₀;
    begins = refl;
    gave = λ q h. absurd (omega arith);
    opened = λ k h. absurd (omega arith);
    turns = λ k i h.
        let e : k ≡ 0 = omega arith in
        rw e (turns-ok w n t₀ s.table cur inv.fresh inv.plain.lines inv.counts size inv.roomy i);
    plain = inv.plain;
    grown = inv.grown;
  },
  omega arith,
)

-- a taken entry that is no crash and no late reply, in a table in which no live station suspects a live one: a turn of a live station
module _ (w : Wiring) (n : ℕ) (L : ℕ → Bool) (company : Company n L) (s : State) (e : Entry) (ok : Accepted w n s.table)
    (takes : entry_check n s e ≡ Ok tt)
    (p : Plain w n L s.table) (no_crash : is_crash e ≡ false) (in_time : is_late (taken_at w n s e) ≡ false) where
  facts : Takes n s e
  facts = entry-facts n s e takes

  -- the reply of a live station
  prompt : makes_test w n s.table e.station ≡ true → L (wired_station w n e.station (next_test w n s.table e.station)) ≡ true → e.kind ≡ kind_turn
  unfolding tested_of turn_tested
  prompt m l =
      let x<n = test-station w n s.table e.station m ok.long facts.below in
      let late : eqb e.kind kind_late ≡ false = simp and-true at (rw (no_crash, m, p.lives _ x<n ∙ l) at in_time) in
      omega (arith, eqb-false e.kind kind_late late, eqb-false e.kind kind_crash no_crash, facts.kind_low, facts.kind_high)

  pub taken-turn : TurnTaken w n L s e (acted w n s.table e)
  unfolding acted
  taken-turn =
      let is_live : L e.station ≡ true = sym (p.lives e.station facts.below) ∙ facts.is_live in
      let open-pass = facts.unfinished (eqb-false e.kind kind_crash no_crash) in
      let going : finished n s.table e.station ≡ 0 = omega (arith, (p.lines.1 e.station facts.below).pass.finished_range) in
      rw no_crash (record {
        no_crash = no_crash;
        below = facts.below;
        is_live = is_live;
        going = going;
        outcome = outcome_at w n s.table e.kind e.station (next_test w n s.table e.station);
        heads = turn-heads w n s.table e.kind e.station p.lines facts.below;
        kept = turn-effect w n L s.table e.kind e.station p company facts.below is_live going prompt;
      })

-- such an entry within a round
module _ (w : Wiring) (n : ℕ) (L : ℕ → Bool) (K : RoundKnowledge w n L) (company : Company n L) (t₀ : List ℕ) (cur : List Taken) (s : State)
    (e : Entry)
    (ok : Accepted w n s.table) (takes : entry_check n s e ≡ Ok tt) (inv : InRound w n L t₀ cur s.table) (know : K.Knows t₀ cur s.table)
    (no_crash : is_crash e ≡ false) (in_time : is_late (taken_at w n s e) ≡ false) where
  abbrev t : List ℕ
  t = s.table

  abbrev t' : List ℕ
  t' = acted w n t e

  abbrev x : Taken
  x = taken_at w n s e

  abbrev here : List Taken
  here = cur ++ (x ∷ [])

  taken : TurnTaken w n L s e t'
  taken = taken-turn w n L company s e ok takes inv.plain no_crash in_time

  moved : InRound w n L t₀ here t'
  moved = turn-in-round w n L t₀ t' cur s e inv taken

  known : K.Knows t₀ here t'
  known = K.turns t₀ t' cur s e inv taken know

  closing-is : closes here x ≡ round_over n t'
  closing-is = closes-is w n t₀ t' here moved.fresh moved.plain.lines moved.counts s e refl

  tests-after : (after w n s e).tests ≡ s.tests + bit (taken_test x)
  unfolding after
  tests-after = by_bool (taken_test x) (λ q. rw q) (λ q. rw q (omega arith))

  -- with it the round closes, or goes on
  cut-more : (xs : List Taken) (s' : State)
      → ((t₁ : List ℕ) (now : List Taken) → InRound w n L t₁ now (after w n s e).table → K.Knows t₁ now (after w n s e).table
      → CutFrom w n L K t₁ now (after w n s e) xs s')
      → CutFrom w n L K t₀ cur s (x ∷ xs) s'
  unfolding cut after after_round tests_of_all count_taken
  cut-more xs s' rest = by_bool (round_over n t') closing going
    where
      closing : round_over n t' ≡ true → CutFrom w n L K t₀ cur s (x ∷ xs) s'
      closing over =
          let anew = restart w n L t' moved.plain in
          let r = rest (reset_lines n t') [] (rw over anew) (rw over (K.starts (reset_lines n t') anew)) in
          rw (closing-is ∙ over) (
            course-before w n L K.Gives t₀ (reset_lines n t') here
                (record {
                  gave = K.closes t₀ t' here moved known over;
                  opened = (inv.opens x refl, inv.opened);
                  turns = turns-ok w n t₀ t' here moved.fresh moved.plain.lines moved.counts ok.size moved.roomy;
                })
                _ _ r.0,
            omega (arith, rw over at r.1.rounds, r.1.tests, tests-after, count-snoc taken_test cur x),
          )

      going : round_over n t' ≡ false → CutFrom w n L K t₀ cur s (x ∷ xs) s'
      going over =
          let r = rest t₀ here (rw over moved) (rw over known) in
          rw (closing-is ∙ over) (r.0, omega (arith, rw over at r.1.rounds, r.1.tests, tests-after, count-snoc taken_test cur x))

-- a chain, cut into rounds
pub course : (w : Wiring) (n : ℕ) (L : ℕ → Bool) (K : RoundKnowledge w n L) → is_size n ≡ true → Company n L
    → {s s' : State} {xs : List Taken} → WiredChain w n s xs s'
    → all_taken (λ x. not (crashes x)) xs ≡ true → all_taken (λ x. not (is_late x)) xs ≡ true
    → (t₀ : List ℕ) (cur : List Taken) → InRound w n L t₀ cur s.table → K.Knows t₀ cur s.table → CutFrom w n L K t₀ cur s xs s'
unfolding all_taken
course w n L K size company {s} ends a b t₀ cur inv know = cut-done w n L K t₀ cur s size inv
course w n L K size company {s} {s'} (next {xs = xs} e ok takes chain) a b t₀ cur inv know =
    let p = both (not (is_crash e)) (all_taken (λ x. not (crashes x)) xs) a in
    let late : Bool = is_late (taken_at w n s e) in
    let q = both (not late) (all_taken (λ x. not (is_late x)) xs) b in
    cut-more w n L K company t₀ cur s e ok takes inv know (not-true (is_crash e) p.0) (not-true late q.0) xs s'
    (λ t₁ now i k. course w n L K size company chain p.1 q.1 t₁ now i k)
