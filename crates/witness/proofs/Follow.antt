-- A plant of n boards within one of N with the same levels: what the turns of the first do, turns of the second do as well.
-- Assumes nothing.
use mathlib.Core.Path.{◌≡◌, refl, sym, ap, ◌∙◌}
use mathlib.Core.Logic.{◌≢◌, by_cases}
use mathlib.Core.Bool.{Bool, true, false, not}
use mathlib.Core.List.{List, [], ◌∷◌, ◌++◌}
use Prim.Native.Nat.{ℕ, zero, suc, ◌+◌, ◌-◌, ◌*◌, ◌≤◌, ◌<◌}
use native.Mathlib.Decide.{dec_lt, ℕ_discrete}
use native.Mathlib.Omega.{arith}
use borrow.Author.Tests.{ne_eqb, lt-ltb, le-ltb}
use lib.ListN.{length}
use Rattle.lists.proofs.BoolLaws.{by_bool}
use Rattle.lists.proofs.SearchLaws.{both, every-at, every-all, every-not, least-is, least-none}
use Rattle.lists.specs.Search.{every}
use Rattle.table.specs.Sizes.{is_size, distances}
use Rattle.table.specs.Wiring.{end_distance}
use Rattle.table.specs.Table.{head, next_column, next_distance, finished, live, row}
use Rattle.table.specs.Rules.{not_live, some_live, finished_if_live, live_finished, round_over}
use Rattle.table.proofs.Accepting.{Accepted}
use Rattle.table.proofs.CellLaws.{accepted-line}
use Rattle.table.proofs.SizeLaws.{size-distances}
use Rattle.table.specs.declared.wiring.Wiring.TheVariants.{Cube}
use Rattle.station.specs.Groups.{station_at}
use Rattle.station.specs.Wired.{wired_due}
use Rattle.station.specs.Tests.{due}
use Rattle.plant.specs.Turn.{kind_turn, next_test, makes_test, outcome_at, turn}
use Rattle.station.specs.Wired.{next_after}
use Rattle.plant.proofs.NextTest.{cube-next, next_test-low, not-due-before, test_below, test-due, none-due}
use Rattle.plant.proofs.TurnHeads.{Heads, turn-heads}
use Rattle.plant.specs.Round.{reset_lines, after_round}
use Rattle.plant.specs.Entry.{Entry, State, entry_of, tally_top, tally_full, is_test, entry_check, acted, after}
use Rattle.plant.proofs.RulesKept.{Takes, entry-facts, accepted-kept}
use Rattle.plant.proofs.RoundLaws.{reset-cells, reset-other}
use Rattle.detection.proofs.TurnEffect.{Company}
use Rattle.detection.proofs.RoundKnowledge.{reset-rows}
use Rattle.witness.proofs.Moves.{Like, live_below, due-same, due-none, Heads-of, extra, both-finish, finish-next, both-test, test-next}
use Rattle.witness.proofs.Slow.{Goes, stop, go, goes-append}
use Rattle.std.specs.Prelude.{Ok}

-- a round that is over in one table is over in another, if each live board of the other is one of the first, as far with its pass
over-as : (m : ℕ) (t : List ℕ) (m' : ℕ) (t' : List ℕ) → (a : ℕ) → a < m' → live m' t' a ≡ true
    → ((k : ℕ) → k < m' → live m' t' k ≡ true → (k < m) × (live m t k ≡ true) × (finished m' t' k ≡ finished m t k))
    → round_over m t ≡ true → round_over m' t' ≡ true
unfolding some_live live_finished
over-as m t m' t' a ha la far over =
    let all = (both (some_live m t) (every (finished_if_live m t) m) over).1 in
    let some : every (not_live m' t') m' ≡ false = every-not (not_live m' t') m' a ha (ap not la) in
    let each : every (finished_if_live m' t') m' ≡ true = every-all (finished_if_live m' t') m' (λ k h.
    by_bool (live m' t' k)
    (λ l. let o = far k h l in rw (l, o.2) (rw o.1 at (every-at (finished_if_live m t) m k all o.0)))
    (λ l. rw l)) in
    rw (some, each)

module _ (n N : ℕ) (L : ℕ → Bool) (low : n ≤ N) (absent : (k : ℕ) → n ≤ k → L k ≡ false) (size : is_size n ≡ true) (Size : is_size N ≡ true)
    (levels : distances n ≡ distances N) (company : Company n L) where
  abbrev Same : List ℕ → List ℕ → Type 0
  Same t u = Like n N L low absent t u

  below : (k : ℕ) → L k ≡ true → k < n
  below = live_below n N L low absent

  -- the rounds of two such tables are over together
  over-same : (t u : List ℕ) → Same t u → (a : ℕ) → L a ≡ true → round_over N u ≡ round_over n t
  over-same t u like a la =
      by_bool (round_over n t) (λ o. there o ∙ sym o) (λ o. by_bool (round_over N u) (λ p. cc (back p)) (λ p. p ∙ sym o))
    where
      there : round_over n t ≡ true → round_over N u ≡ true
      there =
          over-as n t N u a (omega (arith, below a la)) (like.big.lives a (omega (arith, below a la)) ∙ la) (λ k h l.
          let alive = sym (like.big.lives k h) ∙ l in
          (below k alive, like.small.lives k (below k alive) ∙ alive, like.finish k alive))

      back : round_over N u ≡ true → round_over n t ≡ true
      back =
          over-as N u n t a (below a la) (like.small.lives a (below a la) ∙ la) (λ k h l.
          let alive = sym (like.small.lives k h) ∙ l in
          (omega arith, like.big.lives k (omega arith) ∙ alive, sym (like.finish k alive)))

  -- and so are the tables that the closing leaves
  reset-same : (t u : List ℕ) → Same t u → Same (reset_lines n t) (reset_lines N u)
  reset-same t u like = record {
    small = (reset-rows Cube n L t like.small).0;
    big = (reset-rows Cube N L u like.big).0;
    finish = λ k l. (reset-cells N u like.big.lines.0 k (omega (arith, below k l))).unfinished
        ∙ sym (reset-cells n t like.small.lines.0 k (below k l)).unfinished;
    rows = λ k y l b. reset-other N u k (head + y) (omega arith) (λ p. omega arith)
        ∙ (like.rows k y l b ∙ sym (reset-other n t k (head + y) (omega arith) (λ p. omega arith)));
    known = λ k y l a b. reset-other N u k (head + y) (omega arith) (λ p. omega arith) ∙ like.known k y l a b;
  }

  abbrev NextSame : List ℕ → List ℕ → Type 0
  NextSame t u = (k : ℕ) → L k ≡ true → next_distance N u k ≡ next_distance n t k

  -- two states that are alike
  pub record Alike (s w : State) : Type 0 where
    pub like : Same s.table w.table
    pub next : NextSame s.table w.table
    pub rounds : w.rounds ≡ s.rounds
    pub ok : Accepted Cube n s.table
    pub Ok : Accepted Cube N w.table

  -- a turn of i in the first plant, which is taken
  module _ (s : State) (i : ℕ) (ok : Accepted Cube n s.table) (z : entry_check n s (entry_of kind_turn i) ≡ Ok tt) (li : L i ≡ true) where
    abbrev t : List ℕ
    t = s.table

    abbrev e : Entry
    e = entry_of kind_turn i

    abbrev t' : List ℕ
    t' = turn Cube n t kind_turn i

    facts : Takes n s e
    facts = entry-facts n s e z

    going : finished n t i ≡ 0
    going = omega (arith, facts.unfinished (λ q. omega arith), (accepted-line Cube n t ok i (below i li)).pass.finished_range)

    -- the second plant, behind turns of i that test boards from n on
    pub record Ahead (w : State) : Type 0 where
      pub like : Same t w.table
      pub Ok : Accepted Cube N w.table
      pub rounds : w.rounds ≡ s.rounds
      pub others : (k : ℕ) → L k ≡ true → k ≢ i → next_distance N w.table k ≡ next_distance n t k
      pub from : next_distance n t i ≤ next_distance N w.table i
      pub undue : (y : ℕ) → next_distance n t i ≤ y → y < next_distance N w.table i → due (row n t i) i y ≡ false

    module _ (w : State) (b : Ahead w) (fits : w.tests < tally_top) where
      abbrev u : List ℕ
      u = w.table

      abbrev u' : List ℕ
      u' = turn Cube N u kind_turn i

      h : i < N
      h = omega (arith, below i li)

      taken : entry_check N w e ≡ Ok tt
      unfolding entry_check
      taken =
          let full : tally_full w.rounds w.tests ≡ false =
          rw (ne_eqb w.rounds tally_top (λ q. facts.rounds_fit (sym b.rounds ∙ q)), ne_eqb w.tests tally_top (omega arith)) in
          rw (full, lt-ltb i N h, b.like.big.lives i h ∙ li, b.like.finish i li ∙ going)

      small-due : (y : ℕ) → due (row N u i) i y ≡ false → due (row n t i) i y ≡ false
      small-due y none =
          by_cases (dec_lt (station_at i y) n) (λ g. sym (due-same n N L low absent t u b.like i li y g) ∙ none)
          (λ g. due-none n N L low absent t u b.like i li y g)

      -- none is due below the next test
      undue-to : (y : ℕ) → next_distance n t i ≤ y → y < next_test Cube N u i → due (row n t i) i y ≡ false
      unfolding wired_due
      undue-to y lo hi =
          by_cases (dec_lt y (next_distance N u i)) (λ g. b.undue y lo g) (λ g. small-due y (not-due-before Cube N u i y (omega arith) hi))

      tests-after : (after Cube N w e).tests ≤ suc w.tests
      unfolding after
      tests-after = by_bool (is_test Cube N u e) (λ q. rw q (omega arith)) (λ q. rw q (omega arith))

      -- a turn that tests a board from n on
      module _ (E : makes_test Cube N u i ≡ true) (out : ¬ (station_at i (next_test Cube N u i) < n)) where
        like' : Same t u'
        like' = extra n N L low absent size Size levels company t u b.like i li going E out

        open-still : round_over N u' ≡ false
        open-still = over-same t u' like' i li ∙ ok.unclosed

        left-table : (after Cube N w e).table ≡ u'
        unfolding after after_round acted
        left-table = rw open-still

        left-rounds : (after Cube N w e).rounds ≡ w.rounds
        unfolding after acted
        left-rounds = rw open-still

        heads : Heads Cube N u u' i (outcome_at Cube N u kind_turn i (next_test Cube N u i)) (makes_test Cube N u i)
        heads = Heads-of n N L low absent size Size levels company t u b.like i li going

        next-is : next_distance N u' i ≡ next_test Cube N u i + 1
        unfolding next_after
        next-is = rw E at heads.next

        pub further : Ahead (after Cube N w e)
        further = record {
          like = rw left-table like';
          Ok = accepted-kept Cube N w e b.Ok taken;
          rounds = left-rounds ∙ b.rounds;
          others = λ k l ne. rw left-table (heads.others k next_column ne (omega arith) ∙ b.others k l ne);
          from = rw left-table (omega (arith, next-is, b.from, next_test-low Cube N u i));
          undue = λ y lo hi. by_cases (dec_lt y (next_test Cube N u i)) (λ g. undue-to y lo g)
              (λ g.
              let here : y ≡ next_test Cube N u i = omega (arith, next-is, rw left-table at hi) in
              rw here (due-none n N L low absent t u b.like i li (next_test Cube N u i) out));
        }

        pub further-next : next_distance N (after Cube N w e).table i ≡ next_test Cube N u i + 1
        further-next = rw left-table next-is

      -- the turn that is that of the first plant
      module _ (like' : Same t' u') (next' : next_distance N u' i ≡ next_distance n t' i) where
        over : round_over N u' ≡ round_over n t'
        over = over-same t' u' like' i li

        next-all : NextSame t' u'
        next-all k l =
            by_cases (ℕ_discrete k i) (λ q. rw q next')
            (λ q. (Heads-of n N L low absent size Size levels company t u b.like i li going).others k next_column q (omega arith)
            ∙ (b.others k l q ∙ sym ((turn-heads Cube n t kind_turn i b.like.small.lines (below i li)).others k next_column q (omega arith))))

        like-after : Same (after Cube n s e).table (after Cube N w e).table
        unfolding after after_round acted
        like-after = by_bool (round_over n t') (λ o. rw (over ∙ o, o) (reset-same t' u' like')) (λ o. rw (over ∙ o, o) like')

        next-after : NextSame (after Cube n s e).table (after Cube N w e).table
        unfolding after after_round acted
        next-after k l =
            by_bool (round_over n t')
            (λ o. rw (over ∙ o, o) ((reset-cells N u' like'.big.lines.0 k (omega (arith, below k l))).next
            ∙ sym (reset-cells n t' like'.small.lines.0 k (below k l)).next))
            (λ o. rw (over ∙ o, o) (next-all k l))

        rounds-after : (after Cube N w e).rounds ≡ (after Cube n s e).rounds
        unfolding after acted
        rounds-after = rw (over, b.rounds)

        pub arrived : Alike (after Cube n s e) (after Cube N w e)
        arrived = record {
          like = like-after;
          next = next-after;
          rounds = rounds-after;
          ok = accepted-kept Cube n s e ok z;
          Ok = accepted-kept Cube N w e b.Ok taken;
        }

      -- where the next board below n is tested, or none is
      module _ (E : makes_test Cube N u i ≡ true) (inside : station_at i (next_test Cube N u i) < n) where
        m-below : next_test Cube N u i < distances n
        unfolding end_distance
        m-below = omega (arith, levels, test_below Cube N u i E)

        same_test : next_test Cube n t i ≡ next_test Cube N u i
        unfolding end_distance wired_due
        same_test =
            cube-next Cube n t i refl
            ∙ least-is (due (row n t i) i) (distances n - next_distance n t i) (next_distance n t i) (next_test Cube N u i)
            (omega (arith, b.from, next_test-low Cube N u i)) (omega (arith, m-below, b.from, next_test-low Cube N u i))
            (sym (due-same n N L low absent t u b.like i li (next_test Cube N u i) inside) ∙ test-due Cube N u i E) undue-to

        makes : makes_test Cube n t i ≡ true
        unfolding makes_test end_distance
        makes = rw same_test (lt-ltb (next_test Cube N u i) (distances n) m-below)

        pub tested-alike : Alike (after Cube n s e) (after Cube N w e)
        tested-alike =
            arrived (both-test n N L low absent size Size levels company t u b.like i li going makes E (sym same_test))
            (test-next n N L low absent size Size levels company t u b.like i li going makes E (sym same_test))

      module _ (E : makes_test Cube N u i ≡ false) where
        none : makes_test Cube n t i ≡ false
        unfolding makes_test end_distance wired_due
        none =
            let q : ℕ = next_distance n t i in
            let high : q ≤ distances n = (accepted-line Cube n t ok i (below i li)).pass.next_high in
            let High : next_distance N u i ≤ distances N = (accepted-line Cube N u b.Ok i h).pass.next_high in
            let none_left = least-none (due (row n t i) i) (distances n - q) q (λ y lo hi.
            by_cases (dec_lt y (next_distance N u i)) (λ g. b.undue y lo g)
            (λ g. small-due y (none-due Cube N u i E High y (omega arith) (omega (arith, levels))))) in
            rw (cube-next Cube n t i refl, none_left) (le-ltb (q + (distances n - q)) (distances n) (omega arith))

        pub finished-alike : Alike (after Cube n s e) (after Cube N w e)
        finished-alike =
            arrived (both-finish n N L low absent size Size levels company t u b.like i li going none E)
            (finish-next n N L low absent size Size levels company t u b.like i li going none E)

    -- the turns of the second plant that do what the turn of the first does
    pub record Played (w : State) (room : ℕ) : Type 0 where
      pub turns : List ℕ
      pub end : State
      pub goes : Goes Cube N w turns end
      pub alike : Alike (after Cube n s e) end
      pub tests : end.tests ≤ w.tests + room

    last_turn : (w : State) (b : Ahead w) (fits : w.tests < tally_top) (room : ℕ) → 1 ≤ room
        → Alike (after Cube n s e) (after Cube N w e) → Played w room
    last_turn w b fits room some alike = record {
      turns = i ∷ [];
      end = after Cube N w e;
      goes = go i (taken w b fits) stop;
      alike = alike;
      tests = omega (arith, tests-after w b fits);
    }

    pub play : (fuel : ℕ) (w : State) → Ahead w → distances N ≤ next_distance N w.table i + fuel → w.tests + fuel < tally_top → Played w (suc fuel)
    unfolding end_distance
    play zero w b far fits =
        by_bool (makes_test Cube N w.table i)
        (λ E. absurd (omega (arith, test_below Cube N w.table i E, next_test-low Cube N w.table i)))
        (λ E. last_turn w b (omega arith) 1 (omega arith) (finished-alike w b (omega arith) E))
    play (suc fuel) w b far fits =
        by_bool (makes_test Cube N w.table i)
        (λ E.
        by_cases (dec_lt (station_at i (next_test Cube N w.table i)) n)
        (λ inside. last_turn w b (omega arith) (suc (suc fuel)) (omega arith) (tested-alike w b (omega arith) E inside))
        (λ out.
        let grown = tests-after w b (omega arith) in
        let next = further-next w b (omega arith) E out in
        let rest =
        play fuel (after Cube N w e) (further w b (omega arith) E out) (omega (arith, next, next_test-low Cube N w.table i))
        (omega (arith, grown)) in
        record {
          turns = i ∷ rest.turns;
          end = rest.end;
          goes = go i (taken w b (omega arith)) rest.goes;
          alike = rest.alike;
          tests = omega (arith, rest.tests, grown);
        }))
        (λ E. last_turn w b (omega arith) (suc (suc fuel)) (omega arith) (finished-alike w b (omega arith) E))

  -- the turns of a list
  pub record Follows (w : State) (end : State) : Type 0 where
    pub turns : List ℕ
    pub left : State
    pub goes : Goes Cube N w turns left
    pub alike : Alike end left

  pub follow : {s end : State} {is : List ℕ} → Goes Cube n s is end → (w : State) → Alike s w → w.tests + 66 * length is < tally_top
      → Follows w end
  follow {s} stop w a fits = record { turns = []; left = w; goes = stop; alike = a }
  follow {s} {end} (go {is = is} i z g) w a fits =
      let facts = entry-facts n s (entry_of kind_turn i) z in
      let li : L i ≡ true = sym (a.like.small.lives i facts.below) ∙ facts.is_live in
      let top = (size-distances N Size).1 in
      let first = play s i a.ok z li (distances N) w (record {
        like = a.like;
        Ok = a.Ok;
        rounds = a.rounds;
        others = λ k l ne. a.next k l;
        from = omega (arith, a.next i li);
        undue = λ y lo hi. absurd (omega (arith, a.next i li));
      }) (omega arith) (omega arith) in
      let rest = follow g first.end first.alike (omega (arith, first.tests)) in
      record { turns = first.turns ++ rest.turns; left = rest.left; goes = goes-append first.goes rest.goes; alike = rest.alike }
