-- Plants that compute: turns that are all taken, checked by computing, whole or round by round.
-- Assumes nothing.
use mathlib.Core.Path.{◌≡◌, refl, sym, subst, ◌∙◌}
use mathlib.Core.Bool.{Bool, true, false, ◌&&◌}
use mathlib.Core.List.{List, [], ◌∷◌, ◌++◌}
use Prim.Native.Nat.{ℕ, suc, ◌+◌, ◌≤◌}
use native.Mathlib.Nat.{zero-add}
use borrow.Author.Tests.{eqb-true, ltb-true, leb-true}
use lib.Dec.{eqb, ltb, leb}
use lib.ListN.{length}
use Rattle.lists.proofs.SearchLaws.{both}
use Rattle.table.specs.Sizes.{is_size, dimension}
use Rattle.table.specs.Table.{head, table_length, set_cell, suspects, live, rounds_ago_column}
use Rattle.table.specs.Rules.{not_live, table_check}
use Rattle.table.specs.Properties.{at_start, live_count, none_suspected}
use Rattle.table.specs.Fresh.{fresh_table}
use Rattle.table.specs.declared.wiring.Wiring.TheVariants.{Cube}
use Rattle.plant.specs.Turn.{crash, kind_turn}
use Rattle.plant.specs.Entry.{State, state_of, entry_of, entry_check, after}
use Rattle.detection.specs.Runs.{taken_all}
use Rattle.detection.specs.Rounds.{all_taken}
use Rattle.detection.specs.Claim.{worst_latency}
use Rattle.witness.proofs.Slow.{Goes, stop, go, goes-append, Slow}
use Rattle.lists.proofs.RefusalLaws.{by_check, check_passed}
use Rattle.lists.specs.Refusal.{unless_refused}
use Rattle.std.specs.Result.{is_ok}

-- a table with these boards crashed, so many rounds ago
unfoldable pub crashed : ℕ → List ℕ → List ℕ → ℕ → List ℕ
crashed n t [] ago = t
crashed n t (i ∷ is) ago = crashed n (set_cell n (crash n t i) i rounds_ago_column ago) is ago

-- a fresh table with the dead boards crashed, and no tally
abbrev pub first_state : ℕ → List ℕ → State
first_state n dead = state_of (crashed n (fresh_table n) dead 0) 0 0

-- all turns are taken, and the state that they leave passes q
unfoldable pub arrives : ℕ → State → List ℕ → (State → Bool) → Bool
arrives n s [] q = q s
arrives n s (i ∷ is) q = unless_refused (entry_check n s (entry_of kind_turn i)) false (arrives n (after Cube n s (entry_of kind_turn i)) is q)

-- what they leave
pub record Arrival (n : ℕ) (s : State) (is : List ℕ) (q : State → Bool) : Type 0 where
  pub left : State
  pub goes : Goes Cube n s is left
  pub passes : q left ≡ true

pub arrival : (n : ℕ) (s : State) (is : List ℕ) (q : State → Bool) → arrives n s is q ≡ true → Arrival n s is q
unfolding arrives
arrival n s [] q e = record { left = s; goes = stop; passes = e }
arrival n s (i ∷ is) q e =
    by_check (entry_check n s (entry_of kind_turn i))
    (λ z.
    let rest = arrival n (after Cube n s (entry_of kind_turn i)) is q (rw z at e) in
    record { left = rest.left; goes = go i z rest.goes; passes = rest.passes })
    (λ r z. cc (rw z at e))

-- the table is one of those that the claim describes, and refusals let it through
abbrev described : ℕ → State → Bool
described n s =
    is_size n && eqb (length s.table) (table_length n) && at_start n s.table && ltb 1 (live_count n s.table) && none_suspected n s.table
    && is_ok (table_check Cube n s.table)

-- board i is live and board j is not
abbrev apart : ℕ → State → ℕ → ℕ → Bool
apart n s i j = (ltb i n && live n s.table i) && (ltb j n && not_live n s.table j)

unfoldable pub begins : ℕ → List ℕ → ℕ → ℕ → Bool
begins n dead i j = described n (first_state n dead) && apart n (first_state n dead) i j

-- one round less than the worst-case latency has closed, and i does not suspect j
unfoldable pub unseen : ℕ → ℕ → ℕ → State → Bool
unseen n i j end = eqb (suc end.rounds) (worst_latency (dimension n)) && eqb (suspects n end.table i j) 0

-- a slow plant with a list of turns that fits a schedule
abbrev pub Computed : ℕ → Type 0
Computed n = (p : Slow Cube n) × (length p.turns ≤ 4096)

-- such a plant is slow
pub slow-plant : (n : ℕ) (dead : List ℕ) (i j : ℕ) → begins n dead i j ≡ true → (turns : List ℕ) → leb (length turns) 4096 ≡ true
    → Arrival n (first_state n dead) turns (unseen n i j) → Computed n
unfolding begins unseen taken_all all_taken
slow-plant n dead i j begun turns few a =
    let s = first_state n dead in
    let d = both (described n s) (apart n s i j) begun in
    let boards = both (ltb i n && live n s.table i) (ltb j n && not_live n s.table j) d.1 in
    let lives = both (ltb i n) (live n s.table i) boards.0 in
    let dies = both (ltb j n) (not_live n s.table j) boards.1 in
    let checks = both _ _ d.0 in
    let trusts = both _ _ checks.0 in
    let two = both _ _ trusts.0 in
    let starts = both _ _ two.0 in
    let sized = both _ _ starts.0 in
    let ends = both _ _ a.passes in (
      record {
        first = s;
        ok = check_passed _ checks.1;
        premises = record {
          size = sized.0;
          long = eqb-true _ _ sized.1;
          start = starts.1;
          two_live = ltb-true _ _ two.1;
          accurate = trusts.1;
          one_wiring = refl;
          no_crash = refl;
          no_late = refl;
        };
        turns = turns;
        last = a.left;
        goes = a.goes;
        rounds = eqb-true _ _ ends.0 ∙ sym (zero-add _);
        board = i;
        board_below = ltb-true i n lives.0;
        board_live = lives.1;
        missed = j;
        missed_below = ltb-true j n dies.0;
        missed_dead = dies.1;
        unseen = eqb-true _ 0 ends.1;
      },
      leb-true (length turns) 4096 few,
    )

-- round by round: a state with these suspicions, as pairs of a board and one that it suspects
unfoldable pub marked : ℕ → List ℕ → List (ℕ × ℕ) → List ℕ
marked n t [] = t
marked n t ((i, y) ∷ ps) = marked n (set_cell n t i (head + y) 1) ps

-- whether two lists are the same, byte by byte from the first on
unfoldable pub same_list : List ℕ → List ℕ → Bool
same_list [] [] = true
same_list [] (y ∷ ys) = false
same_list (x ∷ xs) [] = false
same_list (x ∷ xs) (y ∷ ys) = eqb x y && same_list xs ys

lists-same : (a b : List ℕ) → same_list a b ≡ true → a ≡ b
unfolding same_list
lists-same [] [] e = refl
lists-same [] (y ∷ ys) e = cc
lists-same (x ∷ xs) [] e = cc
lists-same (x ∷ xs) (y ∷ ys) e =
    let parts = both (eqb x y) (same_list xs ys) e in
    rw (eqb-true x y parts.0, lists-same xs ys parts.1)

-- whether two states are the same
unfoldable pub same_state : State → State → Bool
same_state a b = (eqb a.rounds b.rounds && eqb a.tests b.tests) && same_list a.table b.table

states-same : (a b : State) → same_state a b ≡ true → a ≡ b
unfolding same_state
states-same a b e =
    let parts = both _ _ e in
    let tallies = both _ _ parts.0 in
    let rounds : a.rounds ≡ b.rounds = eqb-true _ _ tallies.0 in
    let tests : a.tests ≡ b.tests = eqb-true _ _ tallies.1 in
    let table : a.table ≡ b.table = lists-same a.table b.table parts.1 in
    λ k. state_of (table k) (rounds k) (tests k)

-- turns from one state to another
pub part : (n : ℕ) (s : State) (is : List ℕ) (s' : State) → arrives n s is (same_state s') ≡ true → Goes Cube n s is s'
part n s is s' e =
    let a = arrival n s is (same_state s') e in
    subst (Goes Cube n s is) (sym (states-same s' a.left a.passes)) a.goes

-- an arrival behind some turns
pub behind : (n : ℕ) (s s' : State) (is js : List ℕ) (q : State → Bool) → Goes Cube n s is s' → Arrival n s' js q → Arrival n s (is ++ js) q
behind n s s' is js q g a = record { left = a.left; goes = goes-append g a.goes; passes = a.passes }
