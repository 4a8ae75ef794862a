-- A plant of n boards beside one of N with the same levels, in which the boards from n on are dead and every live board suspects them: a turn in
-- the one is a turn in the other, behind turns that test boards from n on.
-- Assumes nothing.
use mathlib.Core.Path.{◌≡◌, refl, sym, ap, ◌∙◌}
use mathlib.Core.Logic.{◌≢◌, by_cases}
use mathlib.Core.Bool.{Bool, true, false, cond, not, ◌&&◌, ◌||◌}
use mathlib.Core.List.{List}
use Prim.Native.Nat.{ℕ, ◌+◌, max, ◌≤◌, ◌<◌}
use native.Mathlib.Decide.{dec_lt, ℕ_discrete}
use native.Mathlib.Omega.{arith}
use borrow.Author.Tests.{eqb-true, eq-eqb, ne_eqb, lt-ltb, le-ltb}
use lib.ListN.{length}
use lib.Dec.{eqb}
use Rattle.lists.proofs.BoolLaws.{by_bool}
use Rattle.lists.proofs.SearchLaws.{both}
use Rattle.table.specs.Sizes.{is_size, distances}
use Rattle.table.specs.Wiring.{end_distance}
use Rattle.table.specs.Table.{head, table_length, finished_column, next_distance, finished, suspects, row}
use Rattle.table.proofs.CellLaws.{row-length, row_at}
use Rattle.table.specs.declared.wiring.Wiring.{Wiring}
use Rattle.table.specs.declared.wiring.Wiring.TheVariants.{Cube}
use Rattle.station.specs.Groups.{station_at}
use Rattle.station.specs.Wired.{wired_station}
use Rattle.station.specs.Tests.{unsuspected, due}
use Rattle.station.proofs.DueLaws.{unsuspected-at, unsuspected-absent, due-first, due-absent}
use Rattle.plant.specs.Turn.{kind_turn, next_test, makes_test, count_test, exchange_rows, suspect, after_outcome, after_test, outcome_at, testing}
use Rattle.plant.specs.Turn.{turn}
use Rattle.station.specs.Outcome.{outcome_exchanged, outcome_no_reply}
use Rattle.station.specs.Wired.{next_after}
use Rattle.plant.proofs.StepCells.{finish_pass-other, count_test-other, count_test-length, suspect-same, suspect-other, exchange-other}
use Rattle.plant.proofs.StepCells.{exchange-tester, exchange-tested, exchange-tester-own, exchange-tested-own}
use Rattle.station.proofs.WiredLaws.{station-apart}
use Rattle.plant.proofs.StepLines.{count_test-lines}
use Rattle.plant.proofs.NextTest.{next_test-low, test_below, test-station}
use Rattle.plant.proofs.TurnHeads.{Heads, turn-heads}
use Rattle.detection.proofs.Count.{leads-same}
use Rattle.detection.proofs.TurnEffect.{Plain, Company, same_rows, outcome-is, outcome-effect, not-alone, turn-effect}

-- byte y of the row of k after i tested x, by the bytes before: live boards exchange their rows, one that is not live is marked
abbrev pub byte_after : Bool → (ℕ → ℕ → ℕ) → ℕ → ℕ → ℕ → ℕ → ℕ
byte_after alive f i x k y =
    cond alive (cond ((eqb k i || eqb k x) && not (eqb y k)) (max (f i y) (f x y)) (f k y)) (cond (eqb k i && eqb y x) 1 (f k y))

-- a turn, on any wiring, in a table in which no live board suspects a live one
module _ (w : Wiring) (n : ℕ) (L : ℕ → Bool) (t : List ℕ) (i : ℕ) (size : is_size n ≡ true) (p : Plain w n L t) (company : Company n L) (hi : i < n)
    (li : L i ≡ true) (going : finished n t i ≡ 0) where
  -- a turn that makes no test leaves the rows
  pub finish-bytes : makes_test w n t i ≡ false → (k y : ℕ) → y < n → suspects n (turn w n t kind_turn i) k y ≡ suspects n t k y
  unfolding turn
  finish-bytes e k y hy = rw e (finish_pass-other n t i w k (head + y) (omega arith) (λ q. (λ r. omega arith, λ r. omega arith)))

  module _ (e : makes_test w n t i ≡ true) where
    abbrev m : ℕ
    m = next_test w n t i

    abbrev x : ℕ
    x = wired_station w n i m

    -- what comes of the test
    abbrev o : ℕ
    o = cond (L x) outcome_exchanged outcome_no_reply

    abbrev t₁ : List ℕ
    t₁ = count_test w n t i m o

    long₁ : length t₁ ≡ table_length n
    long₁ = count_test-length n t i w m o ∙ p.lines.0

    x<n : x < n
    x<n = test-station w n t i e p.lines.0 hi

    apart : i ≢ x
    apart =
        station-apart w n i m hi (omega (arith, (p.lines.1 i hi).pass.next_low, next_test-low w n t i))
        (test_below w n t i e)

    row₁ : (k y : ℕ) → y < n → suspects n t₁ k y ≡ suspects n t k y
    row₁ k y hy = count_test-other n t i w m o k (head + y) (omega arith) (λ q. (λ r. omega arith, λ r. omega arith))

    plain₁ : Plain w n L t₁
    plain₁ =
        let lines₁ =
        count_test-lines w n t i p.lines hi m o (omega (arith, going)) (next_test-low w n t i) (test_below w n t i e) in
        (same_rows w n L t t₁ lines₁
        (λ k c h counts _. count_test-other n t i w m o k c h (λ _. (λ e. counts (omega arith), λ e. counts (omega arith)))) p).0

    -- what the turn does to the rows
    after-is : after_outcome n t₁ i x o ≡ cond (L x) (exchange_rows n t₁ i x) (suspect n t₁ i x)
    unfolding after_outcome
    after-is = by_bool (L x) (λ l. rw l) (λ l. rw l)

    turned-is : turn w n t kind_turn i ≡ cond (L x) (exchange_rows n t₁ i x) (suspect n t₁ i x)
    unfolding turn testing after_test
    turned-is =
        let is = outcome-is w n L t i x p hi x<n apart li kind_turn (λ _. refl) in
        let done = outcome-effect w n L t₁ i x plain₁ hi x<n apart li in
        rw (e, is, not-alone w n L (after_outcome n t₁ i x o) i done.0 company hi li) after-is

    exchanged : (k y : ℕ) → k < n → y < n → suspects n (exchange_rows n t₁ i x) k y ≡ byte_after true (suspects n t) i x k y
    exchanged k y hk hy = pick (ℕ_discrete k i) (ℕ_discrete k x) (ℕ_discrete y k)
      where
        pick : Dec (k ≡ i) → Dec (k ≡ x) → Dec (y ≡ k) → suspects n (exchange_rows n t₁ i x) k y ≡ byte_after true (suspects n t) i x k y
        pick (yes a) b (yes c) = rw (c, a, eq-eqb i i refl) (exchange-tester-own n t₁ i long₁ hi x x<n apart ∙ row₁ i i hi)
        pick (yes a) b (no c) =
            rw (ne_eqb y k c, a, eq-eqb i i refl)
            (exchange-tester n t₁ i long₁ hi x x<n apart y hy (λ q. c (q ∙ sym a)) ∙ rw (row₁ i y hy, row₁ x y hy))
        pick (no a) (yes b) (yes c) =
            rw (ne_eqb k i a, c, eq-eqb k k refl, b, eq-eqb x x refl) (exchange-tested-own n t₁ i long₁ hi x x<n apart ∙ row₁ x x x<n)
        pick (no a) (yes b) (no c) =
            rw (ne_eqb k i a, ne_eqb y k c, b, eq-eqb x x refl)
            (omega (arith, exchange-tested n t₁ i long₁ hi x x<n apart y hy (λ q. c (q ∙ sym b)), row₁ i y hy, row₁ x y hy))
        pick (no a) (no b) c =
            rw (ne_eqb k i a, ne_eqb k x b)
            (exchange-other n t₁ i long₁ hi x x<n apart k (head + y) (omega arith) (λ q. absurd (a (sym q))) (λ q. absurd (b (sym q))) ∙ row₁ k y hy)

    marked : (k y : ℕ) → k < n → y < n → suspects n (suspect n t₁ i x) k y ≡ byte_after false (suspects n t) i x k y
    marked k y hk hy = pick (ℕ_discrete k i) (ℕ_discrete y x)
      where
        pick : Dec (k ≡ i) → Dec (y ≡ x) → suspects n (suspect n t₁ i x) k y ≡ byte_after false (suspects n t) i x k y
        pick (yes a) (yes b) = rw (a, b, eq-eqb i i refl, eq-eqb x x refl) (suspect-same n t₁ i long₁ hi x x<n)
        pick (yes a) (no b) =
            rw (a, eq-eqb i i refl, ne_eqb y x b) (suspect-other n t₁ i long₁ hi x i (head + y) (omega arith) (λ q r. b (omega arith)) ∙ row₁ i y hy)
        pick (no a) b = rw (ne_eqb k i a) (suspect-other n t₁ i long₁ hi x k (head + y) (omega arith) (λ q. absurd (a (sym q))) ∙ row₁ k y hy)

    pub test-bytes : (k y : ℕ) → k < n → y < n → suspects n (turn w n t kind_turn i) k y ≡ byte_after (L x) (suspects n t) i x k y
    test-bytes k y hk hy =
        by_bool (L x) (λ l. rw (turned-is, l) (rw l at (exchanged k y hk hy))) (λ l. rw (turned-is, l) (rw l at (marked k y hk hy)))

-- the two plants: the same levels, the same live boards, all below n
module _ (n N : ℕ) (L : ℕ → Bool) (low : n ≤ N) (absent : (k : ℕ) → n ≤ k → L k ≡ false) where
  pub live_below : (k : ℕ) → L k ≡ true → k < n
  live_below k l = by_cases (dec_lt k n) (λ h. h) (λ h. cc (absent k (omega arith)))

  -- the live boards of u know what those of t know, and that the boards from n on are dead
  pub record Like (t u : List ℕ) : Type 0 where
    pub small : Plain Cube n L t
    pub big : Plain Cube N L u
    pub finish : (k : ℕ) → L k ≡ true → finished N u k ≡ finished n t k
    pub rows : (k y : ℕ) → L k ≡ true → y < n → suspects N u k y ≡ suspects n t k y
    pub known : (k y : ℕ) → L k ≡ true → n ≤ y → y < N → suspects N u k y ≡ 1

  -- the same distances of boards below n are due
  module _ (t u : List ℕ) (like : Like t u) (i : ℕ) (li : L i ≡ true) where
    hi : i < n
    hi = live_below i li

    long : length (row n t i) ≡ n
    long = row-length n t i like.small.lines.0 hi

    Long : length (row N u i) ≡ N
    Long = row-length N u i like.big.lines.0 (omega (arith, hi))

    same_row : (x : ℕ) → unsuspected (row N u i) x ≡ unsuspected (row n t i) x
    same_row x = pick (dec_lt x n) (dec_lt x N)
      where
        Byte : x < N → unsuspected (row N u i) x ≡ eqb (suspects N u i x) 0
        Byte h = unsuspected-at (row N u i) x (rw Long h) ∙ ap (λ (v : ℕ). eqb v 0) (row_at N u i x h)

        pick : Dec (x < n) → Dec (x < N) → unsuspected (row N u i) x ≡ unsuspected (row n t i) x
        pick (yes a) b =
            Byte (omega arith) ∙ (ap (λ (v : ℕ). eqb v 0) (like.rows i x li a)
            ∙ sym (unsuspected-at (row n t i) x (rw long a) ∙ ap (λ (v : ℕ). eqb v 0) (row_at n t i x a)))
        pick (no a) (yes b) =
            Byte b ∙ (ap (λ (v : ℕ). eqb v 0) (like.known i x li (omega arith) b) ∙ sym (unsuspected-absent (row n t i) x (λ h. a (rw long at h))))
        pick (no a) (no b) =
            unsuspected-absent (row N u i) x (λ h. b (rw Long at h)) ∙ sym (unsuspected-absent (row n t i) x (λ h. a (rw long at h)))

    pub due-same : (m : ℕ) → station_at i m < n → due (row N u i) i m ≡ due (row n t i) i m
    due-same m h =
        due-first (row N u i) i m
        ∙ (rw (long, Long, lt-ltb (station_at i m) n h, lt-ltb (station_at i m) N (omega arith))
        (leads-same (unsuspected (row N u i)) (unsuspected (row n t i)) i m (λ k l. same_row _))
        ∙ sym (due-first (row n t i) i m))

    pub due-none : (m : ℕ) → ¬ (station_at i m < n) → due (row n t i) i m ≡ false
    due-none m h = due-absent (row n t i) i m (rw long (le-ltb (station_at i m) n (omega arith)))

  module _ (size : is_size n ≡ true) (Size : is_size N ≡ true) (levels : distances n ≡ distances N) (company : Company n L) where
    pub big-company : Company N L
    big-company i h l = let o = company i (live_below i l) l in (o.0, omega (arith, o.1), o.2, o.3)

    module _ (t u : List ℕ) (like : Like t u) (i : ℕ) (li : L i ≡ true) (going : finished n t i ≡ 0) where
      abbrev t' : List ℕ
      t' = turn Cube n t kind_turn i

      abbrev u' : List ℕ
      u' = turn Cube N u kind_turn i

      h : i < n
      h = live_below i li

      H : i < N
      H = omega (arith, h)

      Going : finished N u i ≡ 0
      Going = like.finish i li ∙ going

      heads : Heads Cube n t t' i (outcome_at Cube n t kind_turn i (next_test Cube n t i)) (makes_test Cube n t i)
      heads = turn-heads Cube n t kind_turn i like.small.lines h

      pub Heads-of : Heads Cube N u u' i (outcome_at Cube N u kind_turn i (next_test Cube N u i)) (makes_test Cube N u i)
      Heads-of = turn-heads Cube N u kind_turn i like.big.lines H

      plain' : Plain Cube n L t'
      plain' = (turn-effect Cube n L t kind_turn i like.small company h li going (λ _ _. refl)).plain

      Plain' : Plain Cube N L u'
      Plain' = (turn-effect Cube N L u kind_turn i like.big big-company H li Going (λ _ _. refl)).plain

      -- a turn that tests a board from n on changes no row of a live board, and finishes no pass
      module _ (e : makes_test Cube N u i ≡ true) (out : ¬ (station_at i (next_test Cube N u i) < n)) where
        abbrev z : ℕ
        z = station_at i (next_test Cube N u i)

        z<N : z < N
        unfolding wired_station
        z<N = test-station Cube N u i e like.big.lines.0 H

        kept : (k y : ℕ) → L k ≡ true → y < N → suspects N u' k y ≡ suspects N u k y
        unfolding wired_station
        kept k y l b =
            test-bytes Cube N L u i Size like.big big-company H li Going e k y (omega (arith, live_below k l)) b
            ∙ rw (absent z (omega arith)) (by_bool (eqb k i && eqb y z) here (λ q. rw q))
          where
            here : (eqb k i && eqb y z) ≡ true → cond (eqb k i && eqb y z) 1 (suspects N u k y) ≡ suspects N u k y
            here q =
                let at = both _ _ q in
                let k=i : k ≡ i = eqb-true k i at.0 in
                let y=z : y ≡ z = eqb-true y z at.1 in
                rw q (sym (rw (k=i, y=z) (like.known i z li (omega arith) z<N)))

        finish-kept : (k : ℕ) → finished N u' k ≡ finished N u k
        finish-kept k =
            by_cases (ℕ_discrete k i) (λ q. rw q (rw e at Heads-of.finish)) (λ q. Heads-of.others k finished_column q (omega arith))

        pub extra : Like t u'
        extra = record {
          small = like.small;
          big = Plain';
          finish = λ k l. finish-kept k ∙ like.finish k l;
          rows = λ k y l b. kept k y l (omega arith) ∙ like.rows k y l b;
          known = λ k y l a b. kept k y l b ∙ like.known k y l a b;
        }

      -- both finish their pass
      module _ (e : makes_test Cube n t i ≡ false) (E : makes_test Cube N u i ≡ false) where
        pub both-finish : Like t' u'
        both-finish = record {
          small = plain';
          big = Plain';
          finish = λ k l. by_cases (ℕ_discrete k i) (λ q. rw q (rw E at Heads-of.finish ∙ sym (rw e at heads.finish)))
              (λ q. Heads-of.others k finished_column q (omega arith) ∙ (like.finish k l ∙ sym (heads.others k finished_column q (omega arith))));
          rows = λ k y l b.
              finish-bytes Cube N L u i Size like.big big-company H li Going E k y (omega arith)
              ∙ (like.rows k y l b ∙ sym (finish-bytes Cube n L t i size like.small company h li going e k y b));
          known = λ k y l a b. finish-bytes Cube N L u i Size like.big big-company H li Going E k y b ∙ like.known k y l a b;
        }

        pub finish-next : next_distance N u' i ≡ next_distance n t' i
        unfolding end_distance
        finish-next = rw E at Heads-of.next ∙ (sym levels ∙ sym (rw e at heads.next))

      -- both test the same board
      module _ (e : makes_test Cube n t i ≡ true) (E : makes_test Cube N u i ≡ true)
          (same : next_test Cube N u i ≡ next_test Cube n t i) where
        abbrev w : ℕ
        w = station_at i (next_test Cube n t i)

        Bytes : (k y : ℕ) → L k ≡ true → y < N → suspects N u' k y ≡ byte_after (L w) (suspects N u) i w k y
        unfolding wired_station
        Bytes k y l b = rw same at (test-bytes Cube N L u i Size like.big big-company H li Going E k y (omega (arith, live_below k l)) b)

        alike : (k y : ℕ) → L k ≡ true → y < n → byte_after (L w) (suspects N u) i w k y ≡ byte_after (L w) (suspects n t) i w k y
        alike k y l b =
            by_bool (L w) (λ lx. rw (lx, like.rows k y l b, like.rows i y li b, like.rows w y lx b)) (λ lx. rw (lx, like.rows k y l b))

        stays : (k y : ℕ) → L k ≡ true → n ≤ y → y < N → byte_after (L w) (suspects N u) i w k y ≡ 1
        stays k y l a b =
            by_bool (L w)
            (λ lx. rw (lx, like.known k y l a b, like.known i y li a b, like.known w y lx a b)
            (by_bool ((eqb k i || eqb k w) && not (eqb y k)) (λ q. rw q) (λ q. rw q)))
            (λ lx. rw (lx, like.known k y l a b) (by_bool (eqb k i && eqb y w) (λ q. rw q) (λ q. rw q)))

        pub both-test : Like t' u'
        unfolding wired_station
        both-test = record {
          small = plain';
          big = Plain';
          finish = λ k l. by_cases (ℕ_discrete k i) (λ q. rw q (rw E at Heads-of.finish ∙ (like.finish i li ∙ sym (rw e at heads.finish))))
              (λ q. Heads-of.others k finished_column q (omega arith) ∙ (like.finish k l ∙ sym (heads.others k finished_column q (omega arith))));
          rows = λ k y l b.
              Bytes k y l (omega arith) ∙
              (alike k y l b ∙ sym (test-bytes Cube n L t i size like.small company h li going e k y (live_below k l) b));
          known = λ k y l a b. Bytes k y l b ∙ stays k y l a b;
        }

        pub test-next : next_distance N u' i ≡ next_distance n t' i
        unfolding next_after
        test-next = rw E at Heads-of.next ∙ (ap (λ (v : ℕ). v + 1) same ∙ sym (rw e at heads.next))
