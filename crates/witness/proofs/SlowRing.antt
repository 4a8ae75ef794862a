-- The worst-case latency of the ring is reached at any size from 3 on: board 0 is dead, and boards farther from it make their passes earlier, so
-- that in each round but the first one more board on either side comes to suspect it.
-- Assumes nothing.
use mathlib.Core.Path.{◌≡◌, refl, sym, ap, ◌∙◌}
use mathlib.Core.Logic.{◌≢◌}
use mathlib.Core.Bool.{true, cond, ◌||◌}
use mathlib.Core.List.{List, []}
use Prim.Native.Nat.{ℕ, zero, suc, ◌+◌, ◌-◌, ◌*◌, ◌/◌, ◌%◌, min, ◌≤◌, ◌<◌}
use native.Mathlib.Nat.{mod-eq_of_lt}
use native.Mathlib.Omega.{arith}
use borrow.Author.Tests.{eq-eqb, ne_eqb}
use lib.Dec.{eqb}
use Rattle.lists.specs.Sums.{sum_below, bit}
use Rattle.lists.proofs.BoolLaws.{by_bool}
use Rattle.lists.proofs.SearchLaws.{every-all}
use Rattle.lists.proofs.SumLaws.{sum_by, sum-not, sum-single}
use Rattle.table.specs.Sizes.{is_size}
use Rattle.table.specs.Table.{head, stride, cell, status_column, next_column, told_by_column}
use Rattle.table.specs.Table.{told_by_none, rounds_ago_column, status, suspects, live}
use Rattle.table.specs.Rules.{exit_rule, not_live}
use Rattle.table.specs.Properties.{at_start, live_count, no_live_suspicion, none_suspected}
use Rattle.table.proofs.Accepting.{Accepted}
use Rattle.table.proofs.CellLaws.{Line}
use Rattle.table.proofs.SizeLaws.{size-bounds}
use Rattle.table.specs.declared.wiring.Wiring.TheVariants.{Ring}
use Rattle.station.proofs.WiredLaws.{place_behind}
use Rattle.plant.specs.Entry.{State, state_of}
use Rattle.plant.proofs.RunLaws.{accepted-number}
use Rattle.detection.specs.Runs.{taken_all}
use Rattle.detection.specs.Rounds.{all_taken}
use Rattle.detection.specs.Claim.{DetectionPremises}
use Rattle.witness.specs.WorstCase.{WorstCaseAt}
use Rattle.witness.proofs.Beginning.{table_by, by-cell, Begun, begun-by, begun-pass, begun-start, begun-accepted}
use Rattle.witness.proofs.Slow.{Slow, slow-worst-case}
use Rattle.witness.proofs.RingPasses.{others, Reached, here, onward, During, reworded, exchanges, finds, ends, closes}

-- next distance 1 but for board i
abbrev once : ℕ → ℕ → ℕ → ℕ
once i v k = cond (eqb k i) v 1

once-at : (i v : ℕ) → once i v i ≡ v
once-at i v = rw (eq-eqb i i refl)

once-other : (i v k : ℕ) → k ≢ i → once i v k ≡ 1
once-other i v k apart = rw (ne_eqb k i apart)

-- 1 of the boards between the two, which have finished, and 0 of the others
abbrev span : ℕ → ℕ → ℕ → ℕ
span from to k = 1 - (suc from - k + (suc k - to))

module _ (n : ℕ) (size : is_size n ≡ true) (three : 3 ≤ n) where
  small : n ≤ 64
  small = (size-bounds n size).1

  abbrev one : ℕ → ℕ
  one k = 1

  -- a pass of board i, which exchanges with the one after it
  pass : (f f' : ℕ → ℕ) (U U' : ℕ → Type 0) (r c i z : ℕ) → 0 < i → suc i < n → f i ≡ 0 → 0 < z → z < n → z ≢ i → f z ≡ 0
      → ((k : ℕ) → k ≢ i → f' k ≡ f k) → f' i ≡ 1 → ((k : ℕ) → k < n → U' k → U k) → (U' i → U (suc i)) → (U' (suc i) → U i)
      → r ≤ 64 → c ≤ 100000 → (s : State) → During n f one U r c s → Reached n (During n f' one U' r (suc (suc c))) s
  pass f f' U U' r c i z pos hi free hz lz apart waits same own fewer at-i at-x low room s d =
      onward n (During n f (once i n) U' r (suc c)) (During n f' one U' r (suc (suc c))) s
      (exchanges n size three s f one U r c d i pos (omega arith) free (omega arith) (omega arith) (suc i) (omega arith) there hi f (once i n) U'
      (omega arith) (λ k ne. (refl, once-other i n k ne)) free (once-at i n) fewer at-i at-x)
      (λ u m.
      ends n size three u f (once i n) U' r (suc c) m i pos (omega arith) free (omega arith) (omega arith) (once-at i n) f' one z hz lz apart waits
      (λ k ne. (same k ne, sym (once-other i n k ne))) own)
    where
      there : (i + 1) % n ≡ suc i
      there = let e : i + 1 ≡ suc i = omega arith in rw e (mod-eq_of_lt hi)

  abbrev m : ℕ
  m = n / 2

  -- those that do not suspect board 0: where round r starts; behind the passes of the boards from a to m; and behind those below b too
  abbrev Early : ℕ → ℕ → Type 0
  Early r k = (r < k) × (k + r < n)

  abbrev Left : ℕ → ℕ → ℕ → Type 0
  Left r a k = (r + min 1 (r - a) < k) × (k + r < n)

  abbrev Right : ℕ → ℕ → ℕ → Type 0
  Right r b k = (suc r < k) × (k + (r + min 1 (b + suc r - n)) < n)

  module _ (r : ℕ) (fits : suc (suc r) ≤ m) where
    -- the passes of the boards from a down to 1
    lefts : (a c : ℕ) → a ≤ m → c + 2 * a ≤ 100000 → (s : State) → During n (span a (suc m)) one (Left r a) r c s
        → Reached n (During n (span 0 (suc m)) one (Left r 0) r (c + 2 * a)) s
    lefts zero c h room s d =
        here n _ s (reworded n (span 0 (suc m)) (span 0 (suc m)) one (Left r 0) (Left r 0) r c (c + 0) (λ k x y. refl) (λ k h u. u) (omega arith) s d)
    lefts (suc a) c h room s d =
        onward n (During n (span a (suc m)) one (Left r a) r (suc (suc c))) (During n (span 0 (suc m)) one (Left r 0) r (c + 2 * suc a)) s
        (pass (span (suc a) (suc m)) (span a (suc m)) (Left r (suc a)) (Left r a) r c (suc a) (n - 1) (omega arith) (omega arith)
        (omega arith) (omega arith) (omega arith) (λ e. omega arith) (omega arith) (λ k ne. omega (arith, ne)) (omega arith)
        (λ k g u. (omega (arith, u), omega (arith, u)))
        (λ u. (omega (arith, u), omega (arith, u))) (λ u. (omega (arith, u), omega (arith, u))) (omega (arith, small)) (omega arith) s d)
        (λ u d'.
        let e : suc (suc c) + 2 * a ≡ c + 2 * suc a = omega arith in
        rw e at (lefts a (suc (suc c)) (omega arith) (omega arith) u d'))

    -- and those from b on up to n − 2
    rights : (j b c : ℕ) → j + suc b ≡ n → suc m ≤ b → c + 2 * j ≤ 100000 → (s : State) → During n (span 0 b) one (Right r b) r c s
        → Reached n (During n (span 0 (n - 1)) one (Right r (n - 1)) r (c + 2 * j)) s
    rights zero b c total h room s d =
        let e : b ≡ n - 1 = omega arith in
        let d' : During n (span 0 (n - 1)) one (Right r (n - 1)) r c s = rw e at d in
        here n _ s (reworded n (span 0 (n - 1)) (span 0 (n - 1)) one (Right r (n - 1)) (Right r (n - 1)) r c (c + 0) (λ k x y. refl) (λ k h u. u)
        (omega arith) s d')
    rights (suc j) b c total h room s d =
        onward n (During n (span 0 (suc b)) one (Right r (suc b)) r (suc (suc c)))
        (During n (span 0 (n - 1)) one (Right r (n - 1)) r (c + 2 * suc j)) s
        (pass (span 0 b) (span 0 (suc b)) (Right r b) (Right r (suc b)) r c b (n - 1) (omega arith) (omega arith) (omega arith) (omega arith)
        (omega arith) (λ e. omega arith) (omega arith) (λ k ne. omega (arith, ne)) (omega arith) (λ k g u. (omega (arith, u), omega (arith, u)))
        (λ u. (omega (arith, u), omega (arith, u))) (λ u. (omega (arith, u), omega (arith, u))) (omega (arith, small)) (omega arith) s d)
        (λ u d'.
        let e : suc (suc c) + 2 * j ≡ c + 2 * suc j = omega arith in
        rw e at (rights j (suc b) (suc (suc c)) (omega arith) (omega arith) (omega arith) u d'))

    abbrev final : ℕ
    final = n - 1

    abbrev ran : ℕ → ℕ
    ran = span 0 final

    abbrev Next : ℕ → Type 0
    Next = Early (suc r)

    free : ran final ≡ 0
    free = omega arith

    aware : Next final → ⊥
    aware u = omega (arith, u)

    to-0 : (final + 1) % n ≡ 0
    to-0 = place_behind n (final + 1) (omega arith) (omega arith) ∙ omega arith

    to-1 : (final + once final 2 final) % n ≡ 1
    to-1 = ap (λ (k : ℕ). (final + k) % n) (once-at final 2) ∙ (place_behind n (final + 2) (omega arith) (omega arith) ∙ omega arith)

    -- the pass of board n − 1, which closes the round
    last_pass : (c : ℕ) → c ≤ 100000 → (s : State) → During n ran one (Right r final) r c s
        → Reached n (During n (λ k. 0) one Next (suc r) (suc (suc (suc c)))) s
    last_pass c room s d =
        onward n (During n ran (once final 2) Next r (suc c)) (During n (λ k. 0) one Next (suc r) (suc (suc (suc c)))) s
        (finds n size three s ran one (Right r final) r c d final (omega arith) (omega arith) free (omega (arith, small)) (omega arith) 0
        (omega arith) to-0 (omega arith) ran (once final 2) Next refl (λ k ne. (refl, once-other final 2 k ne)) free (once-at final 2)
        (λ k g u. (omega (arith, u), omega (arith, u))) aware)
        (λ u d'.
        onward n (During n ran (once final n) Next r (suc (suc c))) (During n (λ k. 0) one Next (suc r) (suc (suc (suc c)))) u
        (exchanges n size three u ran (once final 2) Next r (suc c) d' final (omega arith) (omega arith) free (omega (arith, small)) (omega arith) 1
        (omega (arith, once-at final 2)) to-1 (omega arith) ran (once final n) Next (omega arith)
        (λ k ne. (refl, once-other final n k ne ∙ sym (once-other final 2 k ne))) free (once-at final n) (λ k g x. x) (λ x. absurd (aware x))
        (λ x. absurd (omega (arith, x))))
        (λ v d''.
        closes n size three v ran (once final n) Next r (suc (suc c)) d'' final (omega arith) (omega arith) free (omega (arith, small)) (omega arith)
        (once-at final n) (λ k a b ne. omega (arith, ne))))

    module _ (c : ℕ) (room : c ≤ 50000) where
      abbrev Halfway : State → Type 0
      Halfway = During n (span 0 (suc m)) one (Left r 0) r (c + 2 * m)

      abbrev All : ℕ
      All = c + 2 * m + 2 * (n - suc (suc m))

      abbrev Before : State → Type 0
      Before = During n ran one (Right r final) r All

      abbrev Closed : State → Type 0
      Closed = During n (λ k. 0) one Next (suc r) (suc (suc (suc All)))

      abbrev Opened : State → Type 0
      Opened = During n (λ k. 0) one Next (suc r) (c + 200)

      -- a whole round
      round : (s : State) → During n (λ k. 0) one (Early r) r c s → Reached n Opened s
      round s d =
          onward n Halfway Opened s
          (lefts m c (omega arith) (omega (arith, small)) s
          (reworded n (λ k. 0) (span m (suc m)) one (Early r) (Left r m) r c c (λ k a b. omega arith) (λ k g u. (omega (arith, u), omega (arith, u)))
          (omega arith) s d))
          (λ u a.
          onward n Before Opened u
          (rights (n - suc (suc m)) (suc m) (c + 2 * m) (omega arith) (omega arith) (omega (arith, small)) u
          (reworded n (span 0 (suc m)) (span 0 (suc m)) one (Left r 0) (Right r (suc m)) r (c + 2 * m) (c + 2 * m) (λ k x y. refl)
          (λ k g x. (omega (arith, x), omega (arith, x))) (omega arith) u a))
          (λ v b.
          onward n Closed Opened v (last_pass All (omega (arith, small)) v b)
          (λ x y.
          here n Opened x
          (reworded n (λ k. 0) (λ k. 0) one Next Next (suc r) (suc (suc (suc All))) (c + 200) (λ k p q. refl) (λ k g p. p)
          (omega (arith, small)) x y))))

  -- the first table: board 0 dead, nothing suspected
  abbrev byte : ℕ → ℕ → ℕ
  byte i c = cond (eqb c status_column) (bit (eqb i 0)) (cond (eqb c next_column) 1 (cond (eqb c told_by_column) told_by_none 0))

  abbrev t : List ℕ
  t = table_by n byte

  at : (i c : ℕ) → i < n → c < stride n → cell n t i c ≡ byte i c
  at = by-cell n byte

  status-of : (i : ℕ) → i < n → status n t i ≡ bit (eqb i 0)
  status-of i h = at i status_column h (omega arith)

  begun : Begun n t
  begun = begun-by n byte (λ i. refl) (λ i. refl) (λ i. refl)

  row_of : (i y : ℕ) → i < n → y < n → suspects n t i y ≡ 0
  row_of i y h g =
      at i (head + y) h (omega arith)
      ∙ rw (
        ne_eqb (head + y) status_column (λ e. omega arith),
        ne_eqb (head + y) next_column (λ e. omega arith),
        ne_eqb (head + y) told_by_column (λ e. omega arith),
      )

  live_of : (i : ℕ) → i < n → live n t i ≡ others i
  live_of i h = rw (status-of i h) (by_bool (eqb i 0) (λ e. rw e) (λ e. rw e))

  exits_of : (i : ℕ) → i < n → exit_rule n i (status n t i) (cell n t i told_by_column) (cell n t i rounds_ago_column) ≡ true
  unfolding exit_rule
  exits_of i h =
      rw (status-of i h, at i told_by_column h (omega arith), at i rounds_ago_column h (omega arith)) (by_bool (eqb i 0) (λ e. rw e) (λ e. rw e))

  line_of : (i : ℕ) → i < n → Line Ring n t i
  line_of i h = record {
    status_range = rw (status-of i h) (by_bool (eqb i 0) (λ e. rw e (omega arith)) (λ e. rw e (omega arith)));
    pass = begun-pass Ring n t begun i h;
    exits = exits_of i h;
    own = row_of i i h h;
    range = λ y g. omega (arith, row_of i y h g);
  }

  ok : Accepted Ring n t
  ok = begun-accepted Ring n t begun size line_of

  abbrev first : State
  first = state_of t 0 0

  given : DetectionPremises Ring n first []
  unfolding at_start live_count none_suspected all_taken taken_all
  given = record {
    size = size;
    long = begun.long;
    start = begun-start Ring n t begun;
    two_live = omega (arith, all, sum-not (λ k. eqb k 0) n, zero-only);
    accurate = every-all _ n (λ i h. every-all (no_live_suspicion n t i) n (λ j g. rw (row_of i j h g) (unsuspecting i j)));
    one_wiring = refl;
    no_crash = refl;
    no_late = refl;
  }
    where
      all : sum_below (λ i. bit (live n t i)) n ≡ sum_below (λ i. bit (others i)) n
      all = sum_by n (λ i h. ap bit (live_of i h))

      zero-only : sum_below (λ k. bit (eqb k 0)) n ≡ 1
      zero-only = sum-single (λ k. bit (eqb k 0)) n 0 (omega arith) (λ k h ne. rw (ne_eqb k 0 ne))

      unsuspecting : (i j : ℕ) → (not_live n t i || not_live n t j || true) ≡ true
      unsuspecting i j = by_bool (not_live n t i) (λ e. rw e) (λ e. rw e (by_bool (not_live n t j) (λ f. rw f) (λ f. rw f)))

  -- r closed rounds
  rounds : (r : ℕ) → suc r ≤ m → Reached n (During n (λ k. 0) one (Early r) r (200 * r)) first
  rounds zero h =
      here n _ first (record {
        plain = record { lines = (begun.long, line_of); lives = live_of; accurate = λ i j hi hj a b. row_of i j hi hj };
        finishes = λ k a b. begun.finish k b;
        nexts = λ k a b g. begun.next k b;
        unseen = λ k a b u. row_of k 0 b (omega arith);
        closed = refl;
        count = omega arith;
      })
  rounds (suc r) h =
      onward n (During n (λ k. 0) one (Early r) r (200 * r)) (During n (λ k. 0) one (Early (suc r)) (suc r) (200 * suc r)) first
      (rounds r (omega arith))
      (λ u d.
      let e : 200 * r + 200 ≡ 200 * suc r = omega arith in
      rw e at (round r h (200 * r) (omega (arith, small)) u d))

  slow : Slow Ring n
  slow =
      let a = rounds (m - 1) (omega arith) in
      record {
        first = first;
        ok = accepted-number Ring n t ok;
        premises = given;
        turns = a.turns;
        last = a.end;
        goes = a.goes;
        rounds = omega (arith, a.holds.closed);
        board = m;
        board_below = omega arith;
        board_live = live_of m (omega arith) ∙ rw (ne_eqb m 0 (λ e. omega arith));
        missed = 0;
        missed_below = omega arith;
        missed_dead = rw (status-of 0 (omega arith));
        unseen = a.holds.unseen m (omega arith) (omega arith) (omega arith, omega arith);
      }

  pub ring-reached : WorstCaseAt Ring n
  ring-reached = slow-worst-case Ring n slow
