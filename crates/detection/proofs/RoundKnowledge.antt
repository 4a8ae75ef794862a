-- A round in which no live station suspects a live one: what holds within it whoever tests whom, and, as a parameter of the claim, what depends
-- on who tests whom.
-- Assumes nothing.
use mathlib.Core.Path.{◌≡◌, refl, ◌∙◌}
use mathlib.Core.Bool.{Bool, true, false}
use mathlib.Core.List.{List, [], ◌∷◌, ◌++◌}
use Prim.Native.Nat.{ℕ, suc, ◌≤◌, ◌<◌}
use borrow.Author.Tests.{eqb-true}
use Rattle.lists.specs.Search.{every}
use Rattle.lists.proofs.SearchLaws.{both, every-at}
use Rattle.table.specs.Table.{finished}
use Rattle.table.specs.Rules.{some_live, finished_if_live, live_finished, round_over}
use Rattle.table.specs.declared.wiring.Wiring.{Wiring}
use Rattle.plant.specs.Turn.{makes_test}
use Rattle.plant.specs.Round.{reset_lines}
use Rattle.plant.specs.Entry.{Entry, State, is_crash}
use Rattle.plant.proofs.RoundLaws.{Reset, reset-cells, reset-other, reset-lines}
use Rattle.plant.proofs.TurnHeads.{Heads}
use Rattle.detection.specs.Runs.{Taken}
use Rattle.detection.specs.Rounds.{tests_in}
use Rattle.detection.specs.Boards.{first_table}
use Rattle.detection.proofs.TakenLaws.{taken_at}
use Rattle.detection.proofs.Counting.{Counts, counts_start, turn-counts, Roomy, roomy-start, turn-roomy}
use Rattle.detection.proofs.TurnEffect.{Plain, Grown, Exact, TurnKept, same_rows}

-- within a round that started with t₀, after its entries `cur`, at the table t
pub record InRound (w : Wiring) (n : ℕ) (L : ℕ → Bool) (t₀ : List ℕ) (cur : List Taken) (t : List ℕ) : Type 0 where
  pub fresh : (i : ℕ) → i < n → Reset n t₀ i
  pub opened : Plain w n L t₀
  pub opens : (x : Taken) → x.before.table ≡ t → first_table (cur ++ (x ∷ [])) ≡ t₀
  pub counts : Counts n t₀ cur t
  pub roomy : Roomy w n t
  pub plain : Plain w n L t
  pub grown : Grown n t₀ t

pub round-start : (w : Wiring) (n : ℕ) (L : ℕ → Bool) (t : List ℕ) → Plain w n L t → ((i : ℕ) → i < n → Reset n t i) → InRound w n L t [] t
unfolding first_table
round-start w n L t p fresh = record {
  fresh = fresh;
  opened = p;
  opens = λ x e. e;
  counts = counts_start n t;
  roomy = roomy-start w n t fresh;
  plain = p;
  grown = λ i j a b s. s;
}

-- the round rule leaves status and rows
pub reset-rows : (w : Wiring) (n : ℕ) (L : ℕ → Bool) (t : List ℕ) → Plain w n L t → Plain w n L (reset_lines n t) × Grown n t (reset_lines n t)
reset-rows w n L t p = same_rows w n L t (reset_lines n t) (reset-lines w n t p.lines) (λ k c h _ changes. reset-other n t k c h changes) p

-- the table after a round has closed is the start of the next
pub restart : (w : Wiring) (n : ℕ) (L : ℕ → Bool) (t : List ℕ) → Plain w n L t → InRound w n L (reset_lines n t) [] (reset_lines n t)
restart w n L t p = round-start w n L (reset_lines n t) (reset-rows w n L t p).0 (reset-cells n t p.lines.0)

-- the entry e, taken as a turn of a live station, leaves the table t', before the round rule
pub record TurnTaken (w : Wiring) (n : ℕ) (L : ℕ → Bool) (s : State) (e : Entry) (t' : List ℕ) : Type 0 where
  pub no_crash : is_crash e ≡ false
  pub below : e.station < n
  pub is_live : L e.station ≡ true
  pub going : finished n s.table e.station ≡ 0
  pub outcome : ℕ
  pub heads : Heads w n s.table t' e.station outcome (makes_test w n s.table e.station)
  pub kept : TurnKept w n L s.table t' e.station outcome

first-snoc : (xs : List Taken) (x y : Taken) → first_table ((xs ++ (x ∷ [])) ++ (y ∷ [])) ≡ first_table (xs ++ (x ∷ []))
unfolding first_table
first-snoc [] x y = refl
first-snoc (z ∷ xs) x y = refl

-- it keeps what holds within a round
pub turn-in-round : (w : Wiring) (n : ℕ) (L : ℕ → Bool) (t₀ t' : List ℕ) (cur : List Taken) (s : State) (e : Entry) → InRound w n L t₀ cur s.table
    → TurnTaken w n L s e t' → InRound w n L t₀ (cur ++ (taken_at w n s e ∷ [])) t'
turn-in-round w n L t₀ t' cur s e inv turn = record {
  fresh = inv.fresh;
  opened = inv.opened;
  opens = λ y q. first-snoc cur (taken_at w n s e) y ∙ inv.opens (taken_at w n s e) refl;
  counts = turn-counts w n s e turn.outcome t₀ t' cur turn.no_crash turn.below turn.going turn.heads inv.counts;
  roomy = turn-roomy w n s.table t' e.station turn.outcome inv.plain.lines turn.below turn.heads inv.roomy;
  plain = turn.kept.plain;
  grown = λ k j h g b. turn.kept.grows k j h g (inv.grown k j h g b);
}

-- where the round is over every live station has finished its pass
pub all-finished : (w : Wiring) (n : ℕ) (L : ℕ → Bool) (t : List ℕ) → Plain w n L t → round_over n t ≡ true → (i : ℕ) → i < n → L i ≡ true
    → finished n t i ≡ 1
unfolding live_finished
all-finished w n L t p over i h l =
    let all = (both (some_live n t) (every (finished_if_live n t) n) over).1 in
    let ended : finished_if_live n t i ≡ true = every-at (finished_if_live n t) n i all h in
    eqb-true (finished n t i) 1 (rw (p.lives i h ∙ l) at ended)

-- what each of the closed rounds gave: the tables at the rounds' starts, their entries, and how many have closed
abbrev pub Gave : (List ℕ → List Taken → List ℕ → Type 0) → (ℕ → List ℕ) → (ℕ → List Taken) → ℕ → Type 0
Gave Gives start round closed = (q : ℕ) → q < closed → Gives (start q) (round q) (start (suc q))

-- what the claim takes of who tests whom, at size n with the live set L
pub record RoundKnowledge (w : Wiring) (n : ℕ) (L : ℕ → Bool) : Type 1 where
  -- what is known within a round that started with t₀, after its entries `cur`, at the table t
  pub Knows : List ℕ → List Taken → List ℕ → Type 0
  pub starts : (t : List ℕ) → InRound w n L t [] t → Knows t [] t
  pub turns : (t₀ t' : List ℕ) (cur : List Taken) (s : State) (e : Entry) → InRound w n L t₀ cur s.table → TurnTaken w n L s e t'
      → Knows t₀ cur s.table → Knows t₀ (cur ++ (taken_at w n s e ∷ [])) t'
  -- what a closed round gives that started with t₀, by its entries, with the table at the start of the next
  pub Gives : List ℕ → List Taken → List ℕ → Type 0
  pub closes : (t₀ t : List ℕ) (round : List Taken) → InRound w n L t₀ round t → Knows t₀ round t → round_over n t ≡ true
      → Gives t₀ round (reset_lines n t)
  -- after so many rounds the rows at a round's start are exact
  pub enough : ℕ
  pub some_round : 1 ≤ enough
  pub exact : (start : ℕ → List ℕ) (round : ℕ → List Taken) (closed : ℕ) → Gave Gives start round closed
      → (q : ℕ) → enough ≤ q → q ≤ closed → Exact n L (start q)
  -- from so many rounds on a closed round has the count of tests
  pub counted_from : ℕ
  pub count : ℕ
  pub counted : (start : ℕ → List ℕ) (round : ℕ → List Taken) (closed : ℕ) → Gave Gives start round closed
      → (q : ℕ) → counted_from ≤ q → q < closed → tests_in (round q) ≡ count
