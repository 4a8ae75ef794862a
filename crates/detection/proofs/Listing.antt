-- Whom each station has tested since a round's start on the cube, where the round starts exact.
-- Assumes nothing.
use mathlib.Core.Path.{◌≡◌, refl, sym, ap, ◌∙◌}
use mathlib.Core.Logic.{◌≢◌, by_cases}
use mathlib.Core.Bool.{Bool, false, cond, ◌&&◌, and-false}
use mathlib.Core.List.{List, [], ◌∷◌, ◌++◌, map, map-append, append-nil}
use Prim.Native.Nat.{ℕ, ◌<◌}
use native.Mathlib.Decide.{ℕ_discrete}
use native.Mathlib.Omega.{arith}
use borrow.Author.Tests.{eq-eqb, ne_eqb}
use Rattle.std.specs.List.{range_with_len}
use Rattle.lists.specs.Search.{select}
use Rattle.station.specs.Groups.{station_at}
use Rattle.table.specs.Table.{next_column, next_distance, row}
use Rattle.station.specs.Tests.{due}
use Rattle.station.proofs.WiredLaws.{cube-station}
use Rattle.lists.proofs.BoolLaws.{by_bool}
use Rattle.lists.proofs.FilterLaws.{filter_same}
use Rattle.table.specs.declared.wiring.Wiring.TheVariants.{Cube}
use Rattle.plant.specs.Turn.{next_test, makes_test, turn_tested}
use Rattle.plant.specs.Entry.{Entry, State, tested_of}
use Rattle.plant.proofs.RoundLaws.{Reset}
use Rattle.plant.proofs.TurnHeads.{passed-list}
use Rattle.detection.specs.Runs.{Taken, taken_test}
use Rattle.detection.specs.Boards.{station_tested, is_test_of, tested_in}
use Rattle.detection.proofs.TakenLaws.{taken_at}
use Rattle.detection.proofs.Count.{leads-zero}
use Rattle.detection.proofs.TurnEffect.{Exact}
use Rattle.detection.proofs.RoundKnowledge.{InRound, TurnTaken}
use Rattle.detection.proofs.Knowledge.{LiveOf, leads_at, exact-due}

-- one entry more
tested-snoc : (i : ℕ) (xs : List Taken) (x : Taken)
    → tested_in i (xs ++ (x ∷ [])) ≡ tested_in i xs ++ cond (is_test_of i x) (station_tested x ∷ []) []
unfolding tested_in
tested-snoc i [] x = refl
tested-snoc i (y ∷ xs) x =
    by_bool (is_test_of i y) (λ e. rw (e, tested-snoc i xs x)) (λ e. rw (e, tested-snoc i xs x))

-- the distances below the next one at which i leads the group of a station
abbrev pub led_below : ℕ → (ℕ → Bool) → ℕ → ℕ → List ℕ
led_below n L i m = select (leads_at n L i) m

-- within a round that started with t₀, after its entries `cur`, at the table t
abbrev pub Listed : ℕ → (ℕ → Bool) → List ℕ → List Taken → List ℕ → Type 0
Listed n L t₀ cur t = Exact n L t₀ → (i : ℕ) → i < n → tested_in i cur ≡ map (station_at i) (led_below n L i (next_distance n t i))

pub listed_start : (n : ℕ) (L : ℕ → Bool) (t : List ℕ) → ((i : ℕ) → i < n → Reset n t i) → Listed n L t [] t
unfolding tested_in
listed_start n L t fresh exact i h = rw ((fresh i h).next, leads-zero (LiveOf n L) i, and-false)

-- a taken turn keeps it
module _ (n : ℕ) (L : ℕ → Bool) (t₀ t' : List ℕ) (cur : List Taken) (s : State) (e : Entry) (inv : InRound Cube n L t₀ cur s.table)
    (turn : TurnTaken Cube n L s e t') (had : Listed n L t₀ cur s.table) where
  abbrev t : List ℕ
  t = s.table

  abbrev i : ℕ
  i = e.station

  abbrev x : Taken
  x = taken_at Cube n s e

  -- the distance of its test, where it makes one
  abbrev tested-now : List ℕ
  tested-now = cond (makes_test Cube n t i) (next_test Cube n t i ∷ []) []

  -- the turn's own station, in a round that started exact
  own-more : Exact n L t₀ → led_below n L i (next_distance n t' i) ≡ led_below n L i (next_distance n t i) ++ tested-now
  own-more exact =
      let exact_now : Exact n L t = λ k j g c q f. inv.grown k j g c (exact k j g c q f) in
      let leads : (y : ℕ) → due (row n t i) i y ≡ leads_at n L i y = λ y. exact-due n L t inv.plain exact_now i y turn.below turn.is_live in
      let same : (m : ℕ) → select (due (row n t i) i) m ≡ led_below n L i m =
      λ m. filter_same (due (row n t i) i) (leads_at n L i) leads (range_with_len 0 m) in
      sym (same (next_distance n t' i)) ∙ (passed-list n t t' i turn.outcome turn.heads (inv.plain.lines.1 i turn.below).pass.next_high
      ∙ ap (λ (l : List ℕ). l ++ tested-now) (same (next_distance n t i)))

  own-listed : Exact n L t₀ → tested_in i (cur ++ (x ∷ [])) ≡ map (station_at i) (led_below n L i (next_distance n t' i))
  unfolding tested_of turn_tested
  own-listed exact =
      rw (
        own-more exact,
        map-append (station_at i) (led_below n L i (next_distance n t i)) tested-now,
        ← had exact i turn.below,
      ) (tested-snoc i cur x ∙ rw (eq-eqb i i refl, turn.no_crash)
      (by_bool (makes_test Cube n t i) (λ q. rw (q, cube-station Cube n i (next_test Cube n t i) refl)) (λ q. rw q)))

  other-listed : (k : ℕ) → k < n → k ≢ i → Exact n L t₀ → tested_in k (cur ++ (x ∷ [])) ≡ map (station_at k) (led_below n L k (next_distance n t' k))
  other-listed k h apart exact =
      let next = turn.heads.others k next_column apart (omega arith) in
      let none : is_test_of k x ≡ false = ap (λ b. b && taken_test x) (ne_eqb i k (λ q. apart (sym q))) in
      tested-snoc k cur x ∙ rw (none, append-nil, next) (had exact k h)

  pub turn-listed : Listed n L t₀ (cur ++ (x ∷ [])) t'
  turn-listed exact k h = by_cases (ℕ_discrete k i) (λ q. rw q (own-listed exact)) (λ q. other-listed k h q exact)
