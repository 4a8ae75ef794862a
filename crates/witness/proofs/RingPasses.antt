-- A plant on the ring in which board 0 is dead and all others are live: what single turns do to what is known of it within a round.
-- Assumes nothing.
use mathlib.Core.Path.{◌≡◌, refl, sym, ap, ◌∙◌}
use mathlib.Core.Logic.{◌≢◌, by_cases}
use mathlib.Core.Bool.{Bool, true, false, cond, not, ◌&&◌, ◌||◌}
use mathlib.Core.List.{List, [], ◌∷◌, ◌++◌}
use Prim.Native.Nat.{ℕ, suc, ◌+◌, ◌%◌, max, ◌≤◌, ◌<◌}
use native.Mathlib.Decide.{ℕ_discrete}
use native.Mathlib.Omega.{arith}
use borrow.Author.Tests.{eqb-false, ne_eqb, lt-ltb, le-ltb, not-true}
use lib.Dec.{eqb}
use Rattle.lists.proofs.BoolLaws.{by_bool, choice}
use Rattle.lists.proofs.SearchLaws.{every-not, every-all}
use Rattle.lists.specs.Search.{every}
use Rattle.table.specs.Sizes.{is_size}
use Rattle.table.specs.Table.{head, next_column, finished_column, next_distance, finished, tests_made, suspects, live}
use Rattle.table.specs.Rules.{not_live, some_live, finished_if_live, live_finished, round_over}
use Rattle.table.proofs.WiringLaws.{end_ring}
use Rattle.table.specs.declared.wiring.Wiring.TheVariants.{Ring}
use Rattle.station.specs.Wired.{wired_station}
use Rattle.station.proofs.WiredLaws.{ring-station}
use Rattle.plant.specs.Turn.{kind_turn, next_test, makes_test, outcome_at, turn}
use Rattle.plant.specs.Round.{reset_lines, after_round}
use Rattle.plant.specs.Entry.{Entry, State, entry_of, tally_top, tally_full, is_test, entry_check, acted, after}
use Rattle.plant.proofs.NextTest.{ring-next}
use Rattle.plant.proofs.TurnHeads.{Heads, turn-heads}
use Rattle.plant.proofs.RoundLaws.{reset-cells, reset-other}
use Rattle.detection.proofs.TurnEffect.{Plain, Company, Row, TurnKept, turn-effect}
use Rattle.detection.proofs.RoundKnowledge.{reset-rows, all-finished}
use Rattle.detection.proofs.RingPass.{RingTurn}
use Rattle.detection.proofs.RingTurns.{ring-turns}
use Rattle.witness.proofs.Moves.{byte_after, finish-bytes, test-bytes}
use Rattle.witness.proofs.Slow.{Goes, stop, go, goes-append}
use Rattle.std.specs.Prelude.{Ok}

-- all boards but 0
abbrev pub others : ℕ → Bool
others k = not (eqb k 0)

pub alive : (k : ℕ) → 0 < k → others k ≡ true
alive k h = rw (ne_eqb k 0 (λ e. omega arith))

pub not_zero : (k : ℕ) → others k ≡ true → 0 < k
not_zero k l = omega (arith, eqb-false k 0 (not-true (eqb k 0) l))

-- turns that are taken, from a state to one of which P holds
pub record Reached (n : ℕ) (P : State → Type 0) (s : State) : Type 0 where
  pub turns : List ℕ
  pub end : State
  pub goes : Goes Ring n s turns end
  pub holds : P end

pub here : (n : ℕ) (P : State → Type 0) (s : State) → P s → Reached n P s
here n P s holds = record { turns = []; end = s; goes = stop; holds = holds }

pub onward : (n : ℕ) (P Q : State → Type 0) (s : State) → Reached n P s → ((u : State) → P u → Reached n Q u) → Reached n Q s
onward n P Q s a next =
    let b = next a.end a.holds in
    record { turns = a.turns ++ b.turns; end = b.end; goes = goes-append a.goes b.goes; holds = b.holds }

-- live boards by their numbers k, from 1 to n − 1, within a round: whether they have finished, 0 or 1, and their next distances; those that do not
-- suspect board 0; so many closed rounds, and at most so many tests
pub record During (n : ℕ) (finish next : ℕ → ℕ) (unaware : ℕ → Type 0) (rounds tests : ℕ) (s : State) : Type 0 where
  pub plain : Plain Ring n others s.table
  pub finishes : (k : ℕ) → 0 < k → k < n → finished n s.table k ≡ finish k
  pub nexts : (k : ℕ) → 0 < k → k < n → finish k ≡ 0 → next_distance n s.table k ≡ next k
  pub unseen : (k : ℕ) → 0 < k → k < n → unaware k → suspects n s.table k 0 ≡ 0
  pub closed : s.rounds ≡ rounds
  pub count : s.tests ≤ tests

-- the same in other words, and of fewer boards
pub reworded : (n : ℕ) (f f' q : ℕ → ℕ) (U U' : ℕ → Type 0) (r c c' : ℕ) → ((k : ℕ) → 0 < k → k < n → f k ≡ f' k)
    → ((k : ℕ) → k < n → U' k → U k) → c ≤ c' → (s : State) → During n f q U r c s → During n f' q U' r c' s
reworded n f f' q U U' r c c' same fewer more s d = record {
  plain = d.plain;
  finishes = λ k a b. d.finishes k a b ∙ same k a b;
  nexts = λ k a b g. d.nexts k a b (same k a b ∙ g);
  unseen = λ k a b u. d.unseen k a b (fewer k b u);
  closed = d.closed;
  count = omega (arith, d.count);
}

-- where all live boards have finished the round is over
all-over : (n : ℕ) (t : List ℕ) (a : ℕ) → a < n → live n t a ≡ true
    → ((k : ℕ) → k < n → live n t k ≡ true → finished n t k ≡ 1) → round_over n t ≡ true
unfolding some_live live_finished
all-over n t a h l done =
    let some : every (not_live n t) n ≡ false = every-not (not_live n t) n a h (ap not l) in
    let each : every (finished_if_live n t) n ≡ true = every-all (finished_if_live n t) n (λ k g.
    by_bool (live n t k) (λ e. rw (e, done k g e)) (λ e. rw e)) in
    rw (some, each)

module _ (n : ℕ) (size : is_size n ≡ true) (three : 3 ≤ n) where
  company : Company n others
  company i h l =
      by_cases (ℕ_discrete i 1) (λ e. (2, omega arith, (λ q. omega arith), alive 2 (omega arith)))
      (λ ne. (1, omega arith, ne, alive 1 (omega arith)))

  -- a turn of i, which has not finished
  module _ (s : State) (f q : ℕ → ℕ) (U : ℕ → Type 0) (r c : ℕ) (d : During n f q U r c s) (i : ℕ) (pos : 0 < i) (hi : i < n) (free : f i ≡ 0)
      (low : r < tally_top) (room : c < tally_top) where
    abbrev t : List ℕ
    t = s.table

    abbrev e : Entry
    e = entry_of kind_turn i

    abbrev t' : List ℕ
    t' = turn Ring n t kind_turn i

    abbrev o : ℕ
    o = outcome_at Ring n t kind_turn i (next_test Ring n t i)

    li : others i ≡ true
    li = alive i pos

    going : finished n t i ≡ 0
    going = d.finishes i pos hi ∙ free

    at-next : next_distance n t i ≡ q i
    at-next = d.nexts i pos hi free

    pub taken : entry_check n s e ≡ Ok tt
    unfolding entry_check
    taken =
        let full : tally_full s.rounds s.tests ≡ false =
        rw (ne_eqb s.rounds tally_top (λ x. omega (arith, d.closed)), ne_eqb s.tests tally_top (λ x. omega (arith, d.count))) in
        rw (full, lt-ltb i n hi, d.plain.lives i hi ∙ li, going)

    heads : Heads Ring n t t' i o (makes_test Ring n t i)
    heads = turn-heads Ring n t kind_turn i d.plain.lines hi

    kept : TurnKept Ring n others t t' i o
    kept = turn-effect Ring n others t kind_turn i d.plain company hi li going (λ _ _. refl)

    turned : RingTurn n others (Row n t) (Row n t') (next_distance n t) (next_distance n t') (tests_made n t) (tests_made n t') i
    turned = ring-turns Ring n others t t' i o refl kept heads

    tests-after : (after Ring n s e).tests ≤ suc s.tests
    unfolding after
    tests-after = by_bool (is_test Ring n t e) (λ x. rw x (omega arith)) (λ x. rw x (omega arith))

    -- where the turn leaves a live board that has not finished
    module _ (z : ℕ) (hz : 0 < z) (lz : z < n) (waits : finished n t' z ≡ 0) where
      open-still : round_over n t' ≡ false
      open-still =
          by_bool (round_over n t')
          (λ x. absurd (omega (arith, waits, all-finished Ring n others t' kept.plain x z lz (alive z hz)))) (λ x. x)

      left-table : (after Ring n s e).table ≡ t'
      unfolding after after_round acted
      left-table = rw open-still

      left-rounds : (after Ring n s e).rounds ≡ s.rounds
      unfolding after acted
      left-rounds = rw open-still

      left : (f' q' : ℕ → ℕ) (U' : ℕ → Type 0) → ((k : ℕ) → k ≢ i → (f' k ≡ f k) × (q' k ≡ q k))
          → finished n t' i ≡ f' i → (f' i ≡ 0 → next_distance n t' i ≡ q' i)
          → ((k : ℕ) → 0 < k → k < n → U' k → suspects n t' k 0 ≡ 0)
          → Reached n (During n f' q' U' r (suc c)) s
      left f' q' U' same own-finish own-next unseen =
          record {
            turns = i ∷ [];
            end = after Ring n s e;
            goes = go i taken stop;
            holds =
                record {
                  plain = rw left-table kept.plain;
                  finishes = λ k a b. rw left-table (by_cases (ℕ_discrete k i) (λ x. rw x own-finish)
                      (λ x. heads.others k finished_column x (omega arith) ∙ (d.finishes k a b ∙ sym (same k x).0)));
                  nexts = λ k a b g. rw left-table (by_cases (ℕ_discrete k i) (λ x. rw x (own-next (rw x at g)))
                      (λ x. heads.others k next_column x (omega arith) ∙ (d.nexts k a b (sym (same k x).0 ∙ g) ∙ sym (same k x).1)));
                  unseen = λ k a b u. rw left-table (unseen k a b u);
                  closed = left-rounds ∙ d.closed;
                  count = omega (arith, tests-after, d.count);
                };
          }

    -- it tests board x
    module _ (x : ℕ) (below : q i < n) (there : (i + q i) % n ≡ x) (hx : x < n) where
      below' : next_distance n t i < n
      below' = omega (arith, at-next)

      makes : makes_test Ring n t i ≡ true
      unfolding makes_test
      makes = rw (ring-next Ring n t i refl, end_ring Ring n refl) (lt-ltb (next_distance n t i) n below')

      place : (i + next_distance n t i) % n ≡ x
      place = ap (λ (m : ℕ). (i + m) % n) at-next ∙ there

      station : wired_station Ring n i (next_test Ring n t i) ≡ x
      station =
          ring-station Ring n i (next_test Ring n t i) refl
          ∙ (ap (λ (m : ℕ). (i + m) % n) (ring-next Ring n t i refl) ∙ place)

      bytes : (k : ℕ) → k < n → suspects n t' k 0 ≡ byte_after (others x) (suspects n t) i x k 0
      bytes k h = rw station at (test-bytes Ring n others t i size d.plain company hi li going makes k 0 h (omega arith))

      stays : finished n t' i ≡ 0
      stays = (rw makes at heads.finish) ∙ going

      -- which is live: both have what one of them had, and its next distance is n
      pub exchanges : (f' q' : ℕ → ℕ) (U' : ℕ → Type 0) → 0 < x → ((k : ℕ) → k ≢ i → (f' k ≡ f k) × (q' k ≡ q k)) → f' i ≡ 0 → q' i ≡ n
          → ((k : ℕ) → k < n → U' k → U k) → (U' i → U x) → (U' x → U i) → Reached n (During n f' q' U' r (suc c)) s
      exchanges f' q' U' px same own-finish own-next fewer at-i at-x =
          left i pos hi stays f' q' U' same (stays ∙ sym own-finish) (λ _. (turned.exchanges below' (rw place (alive x px))).0 ∙ sym own-next)
          (λ k a b u.
          let was : suspects n t k 0 ≡ 0 = d.unseen k a b (fewer k b u) in
          let is : suspects n t' k 0 ≡ cond ((eqb k i || eqb k x) && not (eqb 0 k)) (max (suspects n t i 0) (suspects n t x 0)) (suspects n t k 0) =
          rw (alive x px) at (bytes k b) in
          is
          ∙ by_cases (ℕ_discrete k i)
          (λ y.
          let mine : suspects n t i 0 ≡ 0 = rw y at was in
          let its : suspects n t x 0 ≡ 0 = d.unseen x px hx (at-i (rw y at u)) in
          choice (λ (v : ℕ). v ≡ 0) ((eqb k i || eqb k x) && not (eqb 0 k)) (omega (arith, mine, its)) was)
          (λ y.
          by_cases (ℕ_discrete k x)
          (λ w.
          let its : suspects n t x 0 ≡ 0 = rw w at was in
          let mine : suspects n t i 0 ≡ 0 = d.unseen i pos hi (at-x (rw w at u)) in
          choice (λ (v : ℕ). v ≡ 0) ((eqb k i || eqb k x) && not (eqb 0 k)) (omega (arith, mine, its)) was)
          (λ w. rw (ne_eqb k i y, ne_eqb k x w) was)))

      -- which is dead: i comes to suspect it, and tests the next one
      pub finds : (f' q' : ℕ → ℕ) (U' : ℕ → Type 0) → x ≡ 0 → ((k : ℕ) → k ≢ i → (f' k ≡ f k) × (q' k ≡ q k)) → f' i ≡ 0 → q' i ≡ suc (q i)
          → ((k : ℕ) → k < n → U' k → U k) → (U' i → ⊥) → Reached n (During n f' q' U' r (suc c)) s
      finds f' q' U' zero same own-finish own-next fewer knows =
          let dead : others x ≡ false = rw zero in
          left i pos hi stays f' q' U' same (stays ∙ sym own-finish) (λ _. (turned.finds below' (rw place dead)).0 ∙ (ap suc at-next ∙ sym own-next))
          (λ k a b u.
          let apart : k ≢ i = λ y. knows (rw y at u) in
          let is : suspects n t' k 0 ≡ cond (eqb k i && eqb 0 x) 1 (suspects n t k 0) = rw dead at (bytes k b) in
          is ∙ rw (ne_eqb k i apart) (d.unseen k a b (fewer k b u)))

    -- it finishes its pass
    module _ (far : q i ≡ n) where
      none : makes_test Ring n t i ≡ false
      unfolding makes_test
      none = rw (ring-next Ring n t i refl, end_ring Ring n refl) (le-ltb (next_distance n t i) n (omega (arith, at-next)))

      ended : finished n t' i ≡ 1
      ended = rw none at heads.finish

      rows : (k : ℕ) → suspects n t' k 0 ≡ suspects n t k 0
      rows k = finish-bytes Ring n others t i size d.plain company hi li going none k 0 (omega arith)

      -- while another one has not
      pub ends : (f' q' : ℕ → ℕ) (z : ℕ) → 0 < z → z < n → z ≢ i → f z ≡ 0 → ((k : ℕ) → k ≢ i → (f' k ≡ f k) × (q' k ≡ q k)) → f' i ≡ 1
          → Reached n (During n f' q' U r (suc c)) s
      ends f' q' z hz lz apart waits same own-finish =
          left z hz lz (heads.others z finished_column apart (omega arith) ∙ (d.finishes z hz lz ∙ waits)) f' q' U same (ended ∙ sym own-finish)
          (λ y. omega (arith, own-finish)) (λ k a b u. rows k ∙ d.unseen k a b u)

      -- as the last one: the round closes
      module _ (last : (k : ℕ) → 0 < k → k < n → k ≢ i → f k ≡ 1) where
        over : round_over n t' ≡ true
        over =
            all-over n t' i hi (kept.plain.lives i hi ∙ li) (λ k h l.
            by_cases (ℕ_discrete k i) (λ y. rw y ended)
            (λ y.
            let some : 0 < k = not_zero k (sym (kept.plain.lives k h) ∙ l) in
            heads.others k finished_column y (omega arith) ∙ (d.finishes k some h ∙ last k some h y)))

        table-after : (after Ring n s e).table ≡ reset_lines n t'
        unfolding after after_round acted
        table-after = rw over

        rounds-after : (after Ring n s e).rounds ≡ s.rounds + 1
        unfolding after acted
        rounds-after = rw over

        pub closes : Reached n (During n (λ k. 0) (λ k. 1) U (suc r) (suc c)) s
        closes = record {
          turns = i ∷ [];
          end = after Ring n s e;
          goes = go i taken stop;
          holds =
              record {
                plain = rw table-after (reset-rows Ring n others t' kept.plain).0;
                finishes = λ k a b. rw table-after (reset-cells n t' kept.plain.lines.0 k b).unfinished;
                nexts = λ k a b g. rw table-after (reset-cells n t' kept.plain.lines.0 k b).next;
                unseen = λ k a b u. rw table-after (reset-other n t' k (head + 0) (omega arith) (λ p. omega arith) ∙ (rows k ∙ d.unseen k a b u));
                closed = omega (arith, rounds-after, d.closed);
                count = omega (arith, tests-after, d.count);
              };
        }
