-- The ring after board b has crashed, in three stages: the rest of a round in which the board before b tests b no more; a round in which it tests
-- it; and the round behind that, in which it goes round who is dead.
-- Assumes nothing.
use mathlib.Core.Path.{◌≡◌, refl, sym, ap, ◌∙◌}
use mathlib.Core.Logic.{◌≢◌, by_cases}
use mathlib.Core.Bool.{Bool, true, false, true≢false}
use mathlib.Core.List.{List}
use Prim.Native.Nat.{ℕ, suc, ◌+◌, ◌*◌, ◌-◌, ◌%◌, ◌≤◌, ◌<◌}
use native.Mathlib.Decide.{dec_lt, ℕ_discrete}
use native.Mathlib.Omega.{arith}
use borrow.Author.Tests.{eq-eqb, ne_eqb}
use lib.Dec.{eqb}
use Rattle.lists.specs.Sums.{sum_below, bit}
use Rattle.lists.proofs.BoolLaws.{by_bool}
use Rattle.lists.proofs.SumLaws.{sum_by, sum-add, sum-const}
use Rattle.slots.proofs.Counts.{sum-le}
use Rattle.table.specs.Sizes.{is_size}
use Rattle.table.specs.Table.{next_distance, finished, tests_made, suspects}
use Rattle.table.specs.Rules.{round_over}
use Rattle.table.proofs.SizeLaws.{size-bounds}
use Rattle.table.specs.declared.wiring.Wiring.TheVariants.{Ring}
use Rattle.plant.specs.Turn.{crash}
use Rattle.plant.proofs.RoundLaws.{Reset}
use Rattle.granter.specs.Grant.{waits, following}
use Rattle.granter.specs.Fairness.{stations_before}
use Rattle.granter.specs.Drive.{Stand, granted_at, grant_turn}
use Rattle.detection.proofs.TurnEffect.{Exact}
use Rattle.single_crash.specs.Sweeps.{turns_made}
use Rattle.single_crash.specs.Setting.{crash_at}
use Rattle.single_crash.proofs.Sweeps.{place-one, place-below}
use Rattle.single_crash.proofs.SweepLaw.{grant_of}
use Rattle.single_crash.proofs.Running.{Crew, Running, Closed, WentOn, chosen, is_live, going, kept, heads, closes, goes_on, grant-first}
use Rattle.single_crash.proofs.Running.{grant-fewest, grant-most, live-waits, all-ended, left_of, others-same, SamePass}
use Rattle.single_crash.proofs.Crashing.{all_but, other-lives, but-dead, but-apart, others-crew, crash-goes_on, crash-pass}
use Rattle.single_crash.proofs.Passes.{Reaches, turns_left, at_place, sum-at}
use Rattle.single_crash.proofs.Around.{board_at, BeginsAt, board-below, begins-fits, place-of, place-zero, place-other, place-next}
use Rattle.single_crash.proofs.Around.{before-below, before-next, other-next, before-second, before-apart, behind-below, behind-apart, begins-at}
use Rattle.single_crash.proofs.Around.{both-apart}
use Rattle.single_crash.proofs.Around as around
use Rattle.single_crash.proofs.OnRing.{PassesOf, passes-fresh, counts-at, finds-at, meets-at, passes-on, had-left, one, reach-one, Before}

-- b is a board of a ring of four boards at least
pub record Board (n b : ℕ) : Type 0 where
  pub size : is_size n ≡ true
  pub four : 4 ≤ n
  pub hb : b < n

-- who is live when b alone is dead, the three boards before it, from the nearest one on, and the one behind it
pub record Circle : Type 0 where
  pub others : ℕ → Bool
  pub first : ℕ
  pub second : ℕ
  pub third : ℕ
  pub next : ℕ

abbrev pub circle : ℕ → ℕ → Circle
circle n b =
    let a = around.before n b in
    let d = around.before n a in
    record { others = all_but b; first = a; second = d; third = around.before n d; next = around.behind n b }

module _ {n b : ℕ} (board : Board n b) where
  open circle n b use {others as L, first as a, second as d, next as c}

  a-below : a < n
  a-below = before-below n b board.hb (omega arith)

  pub c-below : c < n
  c-below = behind-below n b board.hb (omega arith)

  a-lives : L a ≡ true
  a-lives = other-lives b a (before-apart n b board.hb (omega arith))

  pub c-lives : L c ≡ true
  c-lives = other-lives b c (behind-apart n b board.hb (omega arith))

  -- the two boards before b
  pub record Ahead : Type 0 where
    pub a<n : a < n
    pub d<n : d < n
    pub d-next : (d + 1) % n ≡ a
    pub d-apart : d ≢ a
    pub live-a : L a ≡ true
    pub live-d : L d ≡ true

  pub ahead : Ahead
  ahead =
      let next = before-next n a a-below (omega arith) in
      record {
        a<n = a-below;
        d<n = before-below n a a-below (omega arith);
        d-next = next;
        d-apart = before-apart n a a-below (omega arith);
        live-a = a-lives;
        live-d = other-lives b d (λ e. both-apart n b board.hb (omega arith) (sym next ∙ ap (λ (x : ℕ). (x + 1) % n) e));
      }

  pub crew : Crew Ring n L
  crew = others-crew Ring n b board.size (omega arith)

  -- how many tests each makes in a round that begins now: the one before b tests b and the one behind it
  abbrev pub two_before : ℕ → ℕ
  two_before i = suc (bit (eqb i a))

  pub two-at : two_before a ≡ 2
  two-at = rw (eq-eqb a a refl) refl

  pub one-at : (i : ℕ) → i ≢ a → two_before i ≡ 1
  one-at i d = rw (ne_eqb i a d) refl

  reach-two : Reaches n L 2 a
  reach-two = record {
    below = omega arith;
    dead = λ m h. let z : suc m ≡ 1 = omega arith in rw (z, before-next n b board.hb (omega arith)) (but-dead b);
    last = λ m e. rw (e, before-second n b board.hb (omega arith)) c-lives;
  }

  reach-other : (i : ℕ) → i < n → i ≢ a → Reaches n L 1 i
  reach-other i h d = reach-one n L i (omega arith) (other-lives b _ (other-next n b board.hb (omega arith) i h d))

  reach-before : (i : ℕ) → i < n → (1 ≤ two_before i) × Reaches n L (two_before i) i
  reach-before i h = by_cases (ℕ_discrete i a) (λ e. rw (e, two-at) (omega arith, reach-two)) (λ d. rw (one-at i d) (omega arith, reach-other i h d))

  -- turns are counted by these sums: b has none, and a one more
  sums : (f : ℕ → ℕ) → (sum_below (λ i. f i + at_place b 2 i) n ≡ sum_below f n + 2) × (sum_below (λ i. 2 + at_place a 1 i) n ≡ n * 2 + 1)
  sums f = (
    omega (arith, sum-add f (at_place b 2) n, sum-at n b 2 board.hb),
    omega (arith, sum-add (λ i. 2) (at_place a 1) n, sum-at n a 1 a-below, sum-const 2 n),
  )

  -- so many turns are left at the most: two of each live board, and one more of a
  pub left-most : (t : List ℕ) → left_of n L two_before t + 1 ≤ n + n
  unfolding turns_left
  left-most t =
      let f : ℕ → ℕ = turns_left L two_before (turns_made n t) in
      let most : (i : ℕ) → i < n → f i + at_place b 2 i ≤ 2 + at_place a 1 i =
      λ i h. by_cases (ℕ_discrete i b)
      (λ e. rw (e, eq-eqb b b refl) (omega arith))
      (λ d. rw (ne_eqb i b d) (by_cases (ℕ_discrete i a) (λ e. rw (e, eq-eqb a a refl) (omega arith)) (λ d. rw (ne_eqb i a d) (omega arith)))) in
      omega (arith, sum-le {f = λ i. f i + at_place b 2 i} {g = λ i. 2 + at_place a 1 i} n most, sums f)

  -- just so many where a round begins
  pub left-fresh : (t : List ℕ) → ((i : ℕ) → i < n → turns_made n t i ≡ 0) → left_of n L two_before t + 1 ≡ n + n
  unfolding turns_left
  left-fresh t none =
      let f : ℕ → ℕ = turns_left L two_before (turns_made n t) in
      let each : (i : ℕ) → i < n → f i + at_place b 2 i ≡ 2 + at_place a 1 i =
      λ i h. by_cases (ℕ_discrete i b)
      (λ e. rw (e, eq-eqb b b refl, ne_eqb b a (λ q. before-apart n b board.hb (omega arith) (sym q))) (omega arith))
      (λ d. rw (ne_eqb i b d) (by_cases (ℕ_discrete i a) (λ e. rw (e, eq-eqb a a refl) (omega (arith, none a a-below)))
      (λ d. rw (ne_eqb i a d) (omega (arith, none i h))))) in
      omega (arith, sum_by {f = λ i. f i + at_place b 2 i} {g = λ i. 2 + at_place a 1 i} n each, sums f)

  -- where none but a tests twice, and a live board x has made v turns
  pub left-made : (t : List ℕ) (x v y z : ℕ) → x < n → y < n → x ≢ y → L x ≡ true → L y ≡ true → v ≤ turns_made n t x → z ≤ turns_made n t y
      → v ≤ 2 → z ≤ 2 → left_of n L one t + (2 + v + z) ≤ n + n
  unfolding turns_left
  left-made t x v y z hx hy d lx ly made made' two two' =
      let f : ℕ → ℕ = turns_left L one (turns_made n t) in
      let most : (i : ℕ) → i < n → (f i + at_place b 2 i) + (at_place x v i + at_place y z i) ≤ 2 =
      λ i h. by_cases (ℕ_discrete i b)
      (λ e. rw (e, eq-eqb b b refl, ne_eqb b x (λ q. but-apart b x lx (sym q)), ne_eqb b y (λ q. but-apart b y ly (sym q))) (omega arith))
      (λ k. rw (ne_eqb i b k) (by_cases (ℕ_discrete i x)
      (λ e. rw (e, eq-eqb x x refl, ne_eqb x y d) (omega arith))
      (λ m. rw (ne_eqb i x m) (by_cases (ℕ_discrete i y) (λ e. rw (e, eq-eqb y y refl) (omega arith))
      (λ q. rw (ne_eqb i y q) (omega arith)))))) in
      omega (
        arith,
        sum-le {f = λ i. (f i + at_place b 2 i) + (at_place x v i + at_place y z i)} {g = λ i. 2} n most,
        sum-add (λ i. f i + at_place b 2 i) (λ i. at_place x v i + at_place y z i) n,
        sum-add f (at_place b 2) n,
        sum-add (at_place x v) (at_place y z) n,
        sum-at n b 2 board.hb,
        sum-at n x v hx,
        sum-at n y z hy,
        sum-const 2 n,
      )

  -- a round in which a tests b
  pub record Finding (begins : ℕ) (p : Stand) : Type 0 where
    pub run : Running Ring n L begins p
    pub passes : PassesOf n L two_before p.state.table
    pub found : 1 ≤ tests_made n p.state.table a → suspects n p.state.table a b ≡ 1
    pub told : 2 ≤ tests_made n p.state.table a → suspects n p.state.table c b ≡ 1

  -- the rest of a round in which it has made its test before
  pub record Waiting (begins : ℕ) (p : Stand) : Type 0 where
    pub run : Running Ring n L begins p
    pub passes : PassesOf n L one p.state.table
    pub tested : 1 ≤ tests_made n p.state.table a

  -- the round that follows, after j grants: the boards at the places 1 to j have made a test, and those up to j + 1 know b
  pub record Spread (begins j : ℕ) (p : Stand) : Type 0 where
    pub run : Running Ring n L begins p
    pub from : BeginsAt n b begins
    pub fresh : (i : ℕ) → i < n → L i ≡ true → j < stations_before n begins i
        → (next_distance n p.state.table i ≡ 1) × (tests_made n p.state.table i ≡ 0) × (finished n p.state.table i ≡ 0)
    pub tested : (i : ℕ) → i < n → L i ≡ true → stations_before n begins i ≤ j → 1 ≤ tests_made n p.state.table i
    pub knows : (i : ℕ) → i < n → L i ≡ true → stations_before n begins i ≤ suc j → suspects n p.state.table i b ≡ 1
    pub before_knows : suspects n p.state.table a b ≡ 1

  -- a round begins in which a tests b
  pub finding-fresh : {begins : ℕ} {p : Stand} → ((i : ℕ) → i < n → Reset n p.state.table i) → Running Ring n L begins p → Finding begins p
  finding-fresh {p = p} fresh run = record {
    run = run;
    passes = passes-fresh n L two_before p.state.table fresh (λ i h l. reach-before i h);
    found = λ l. absurd (omega (arith, (fresh a a-below).untested));
    told = λ l. absurd (omega (arith, (fresh a a-below).untested));
  }

  -- a grant in the rest of a round
  module _ {begins : ℕ} {p : Stand} (s : Waiting begins p) where
    waiting-tested : 1 ≤ tests_made n (grant_of Ring n p).turned a
    waiting-tested =
        let h = heads s.run in
        by_cases (ℕ_discrete a (granted_at n p)) (λ e. rw e (omega (arith, h.tests, rw e at s.tested)))
        (λ d. omega (arith, (others-same s.run a d).made, s.tested))

    pub waiting-on : round_over n (grant_of Ring n p).turned ≡ false → Waiting begins (grant_turn Ring n p)
    waiting-on unclosed =
        let o = goes_on s.run unclosed in
        record { run = o.running; passes = rw o.table (passes-on s.run one s.passes); tested = rw o.table waiting-tested }

  -- a grant in the round in which a tests b
  module _ {begins : ℕ} {p : Stand} (s : Finding begins p) where
    open grant_of Ring n p use {before as t, board as g, turned as t'}

    grows : (i : ℕ) → i < n → suspects n t i b ≡ 1 → suspects n t' i b ≡ 1
    grows i h e = (kept s.run).grows i b h board.hb e

    others : a ≢ g → tests_made n t' a ≡ tests_made n t a
    others d = (others-same s.run a d).made

    -- a finds b, and then tells the one behind it
    turn-finds : a ≡ g → tests_made n t a ≡ 0 → suspects n t' a b ≡ 1
    turn-finds e none =
        let at = (s.passes.testing a a-below a-lives (omega (arith, two-at))).0 in
        rw (before-next n b board.hb (omega arith)) at
        (finds-at s.run a 1 e (omega arith) (omega arith) (rw (before-next n b board.hb (omega arith)) (but-dead b)))

    turn-tells : a ≡ g → tests_made n t a ≡ 1 → suspects n t' c b ≡ 1
    turn-tells e once =
        let at = (s.passes.testing a a-below a-lives (omega (arith, two-at))).0 in
        let alive : L ((a + 2) % n) ≡ true = rw (before-second n b board.hb (omega arith)) c-lives in
        let meets = meets-at s.run a 2 e (omega arith) (omega arith) alive b board.hb in
        rw (before-second n b board.hb (omega arith)) at (meets.0 (s.found (omega arith)))

    finding-found : 1 ≤ tests_made n t' a → suspects n t' a b ≡ 1
    finding-found l =
        by_cases (dec_lt 0 (tests_made n t a)) (λ m. grows a a-below (s.found m))
        (λ m. by_cases (ℕ_discrete a g) (λ e. turn-finds e (omega arith)) (λ d. absurd (omega (arith, others d))))

    finding-told : 2 ≤ tests_made n t' a → suspects n t' c b ≡ 1
    finding-told l =
        by_cases (dec_lt 1 (tests_made n t a)) (λ m. grows c c-below (s.told m))
        (λ m. by_cases (ℕ_discrete a g)
        (λ e. by_cases (ℕ_discrete (tests_made n t a) 1) (turn-tells e)
        (λ none.
        let at = (s.passes.testing a a-below a-lives (omega (arith, two-at))).0 in
        absurd (omega (arith, counts-at s.run a 1 e (omega arith) (omega arith)))))
        (λ d. absurd (omega (arith, others d))))

    pub finding-on : round_over n t' ≡ false → Finding begins (grant_turn Ring n p)
    finding-on unclosed =
        let o = goes_on s.run unclosed in
        record {
          run = o.running;
          passes = rw o.table (passes-on s.run two_before s.passes);
          found = rw o.table finding-found;
          told = rw o.table finding-told;
        }

    -- where the round closes, a has finished last
    finds-last : round_over n t' ≡ true → g ≡ a
    finds-last over =
        by_cases (ℕ_discrete g a) (λ e. e)
        (λ d.
        let r = s.run in
        let ended : finished n t' a ≡ 1 = all-ended r over a a-below a-lives in
        let same = (others-same r a (λ e. d (sym e))).done in
        let after = by_cases (dec_lt (tests_made n t a) 2) (λ l. absurd (omega (arith, s.passes.testing a a-below a-lives (omega (arith, two-at)))))
        (λ l. s.passes.tested a a-below a-lives (omega (arith, two-at))) in
        let most = grant-most r a a-below in
        absurd (omega (arith, most, after, two-at, one-at g d, had-left r two_before s.passes, going r)))

    -- it and the one behind b know b then, and the next round begins at b
    pub finding-closes : round_over n t' ≡ true → (begins' : ℕ) × Spread begins' 0 (grant_turn Ring n p)
    finding-closes over = (
      following g,
      record {
        run = z.running;
        from = rw (finds-last over) (begins-at n b board.hb (omega arith) top);
        fresh = λ i h l m. let f = z.fresh i h in (f.next, f.untested, f.unfinished);
        tested = λ i h l m. absurd (omega (arith, place-other from i h (but-apart b i l)));
        knows = λ i h l m.
            let same : i ≡ c =
            place-one n (following g) i c (begins-fits from) h c-below
            (omega (arith, place-other from i h (but-apart b i l), place-of from 1 (omega arith))) in
            rw same (z.grown c b c-below board.hb (finding-told ended));
        before_knows = z.grown a b a-below board.hb (finding-found (omega (arith, ended)));
      },
    )
      where
        z : Closed Ring n L t' g p (grant_turn Ring n p)
        z = closes s.run over

        top : n ≤ 64
        top = (size-bounds n board.size).1

        from : BeginsAt n b (following g)
        from = rw (finds-last over) (begins-at n b board.hb (omega arith) top)

        ended : 2 ≤ tests_made n t' a
        ended =
            let done = all-ended s.run over a a-below a-lives in
            by_cases (dec_lt 1 (tests_made n t' a)) (λ m. m)
            (λ m. absurd (omega (
              arith,
              done,
              (passes-on s.run two_before s.passes).testing a a-below a-lives
                  (omega (arith, two-at)),
            )))

  -- a grant in the round behind that
  module _ {begins j : ℕ} {p : Stand} (s : Spread begins j p) (more : j + 3 < n) where
    open grant_of Ring n p use {before as u, board as e, turned as u'}

    abbrev place : ℕ → ℕ
    place i = stations_before n begins i

    fits : begins ≤ n
    fits = begins-fits s.from

    below : e < n
    below = (chosen s.run).0

    -- the next board in the circle waits, and has made no turn
    abbrev x : ℕ
    x = board_at n b (suc j)

    x-below : x < n
    x-below = board-below n b (suc j) board.hb (omega arith)

    x-place : place x ≡ suc j
    x-place = place-of s.from (suc j) (omega arith)

    x-lives : L x ≡ true
    x-lives = other-lives b x (λ q. omega (arith, x-place, rw (← q) at (place-zero s.from)))

    x-waits : waits n u x ≡ true
    x-waits = live-waits s.run x x-below x-lives (s.fresh x x-below x-lives (omega (arith, x-place))).2

    -- so it is granted
    at-next : e ≡ x
    at-next =
        let r = s.run in
        let f = s.fresh x x-below x-lives (omega (arith, x-place)) in
        let few = grant-fewest r x x-below x-waits in
        let none : tests_made n u e ≡ 0 = omega arith in
        let low : suc j ≤ place e =
        by_cases (dec_lt j (place e)) (λ l. l)
        (λ l. absurd (omega (arith, none, s.tested e below (is_live r) (omega arith)))) in
        let high = grant-first r x x-below x-waits (omega (arith, none, going r)) in
        place-one n begins e x fits below x-below (omega (arith, x-place))

    pub e-place : place e ≡ suc j
    e-place = rw at-next x-place

    e-lives : L e ≡ true
    e-lives = is_live s.run

    -- the one that it tests
    abbrev y : ℕ
    y = (e + 1) % n

    pub y-place : place y ≡ suc (suc j)
    y-place = omega (arith, place-next s.from e below (omega (arith, e-place)), e-place)

    y-below : y < n
    y-below = board-below n e 1 below (omega arith)

    pub y-lives : L y ≡ true
    y-lives = other-lives b y (λ q. omega (arith, y-place, rw (← q) at (place-zero s.from)))

    y-hears : suspects n u' y b ≡ 1
    y-hears =
        let f = s.fresh e below e-lives (omega (arith, e-place)) in
        (meets-at s.run e 1 refl f.0 (omega arith) y-lives b board.hb).0 (s.knows e below e-lives (omega (arith, e-place)))

    counted : tests_made n u' e ≡ suc (tests_made n u e)
    counted =
        let f = s.fresh e below e-lives (omega (arith, e-place)) in
        counts-at s.run e 1 refl f.0 (omega arith)

    -- a has made no turn, so that the round does not close
    pub spread-open : round_over n u' ≡ false
    spread-open =
        by_bool (round_over n u')
        (λ over.
        let done = all-ended s.run over a a-below a-lives in
        let far = place-of s.from (n - 1) (omega arith) in
        let other : a ≢ e = λ q. omega (arith, far, e-place, rw q at far) in
        let same = (others-same s.run a other).done in
        absurd (omega (arith, done, same, s.fresh a a-below a-lives (omega (arith, far)))))
        (λ o. o)

    pub spread-on : Spread begins (suc j) (grant_turn Ring n p)
    spread-on =
        let o = goes_on s.run spread-open in
        let grows : (i : ℕ) → i < n → suspects n u i b ≡ 1 → suspects n u' i b ≡ 1 =
        λ i l q. (kept s.run).grows i b l board.hb q in
        record {
          run = o.running;
          from = s.from;
          fresh = λ i k l m.
              let other : i ≢ e = λ q. omega (arith, e-place, rw q at m) in
              let f = s.fresh i k l (omega arith) in
              let same = others-same s.run i other in
              rw o.table (same.next ∙ f.0, same.made ∙ f.1, same.done ∙ f.2);
          tested = λ i k l m.
              rw o.table (by_cases (ℕ_discrete i e) (λ q. rw q (omega (arith, counted)))
              (λ q.
              let apart : place i ≢ place e = λ z. q (place-one n begins i e fits k below z) in
              omega (arith, (others-same s.run i q).made, s.tested i k l (omega (arith, apart, e-place)))));
          knows = λ i k l m.
              rw o.table (by_cases (dec_lt (place i) (suc (suc j))) (λ q. grows i k (s.knows i k l (omega arith)))
              (λ q.
              let same : i ≡ y = place-one n begins i y fits k y-below (omega (arith, y-place)) in
              rw same y-hears));
          before_knows = rw o.table (grows a a-below s.before_knows);
        }

  -- where a knows b, and all that stand before it in the circle
  pub spread-exact : (begins : ℕ) (p : Stand) → BeginsAt n b begins
      → ((i : ℕ) → i < n → L i ≡ true → stations_before n begins i < n - 1 → suspects n p.state.table i b ≡ 1)
      → suspects n p.state.table a b ≡ 1 → Exact n L p.state.table
  spread-exact begins p from knows last i k h hk l d =
      let same : k ≡ b = by_cases (ℕ_discrete k b) (λ q. q) (λ q. absurd (true≢false (sym (other-lives b k q) ∙ d))) in
      let fits = begins-fits from in
      let far = place-of from (n - 1) (omega arith) in
      rw same (by_cases (dec_lt (stations_before n begins i) (n - 1)) (knows i h l)
      (λ m.
      let q : i ≡ a = place-one n begins i a fits h a-below (omega (arith, far, place-below n begins i fits h)) in
      rw q last))

  -- in the end all know b
  pub spread-known : {begins j : ℕ} {p : Stand} → Spread begins j p → n ≤ j + 3 → Exact n L p.state.table
  spread-known {begins = begins} {p = p} s far = spread-exact begins p s.from (λ i h l m. s.knows i h l (omega arith)) s.before_knows

  -- b crashes, and the round does not close with it
  module _ {begins : ℕ} {q : Stand} (s : Before n begins q) (unclosed : round_over n (crash n q.state.table b) ≡ false) where
    abbrev v : List ℕ
    v = q.state.table

    abbrev v' : List ℕ
    v' = crash n v b

    same : (i : ℕ) → SamePass n v v' i
    same = crash-pass b crew board.hb s.run

    on : WentOn Ring n L v' begins q (crash_at Ring n q b)
    on = crash-goes_on b crew board.hb s.run unclosed

    -- the passes of the other boards
    others-testing : (i : ℕ) → i < n → i ≢ a → tests_made n v' i < 1
        → (next_distance n v' i ≡ suc (tests_made n v' i)) × (finished n v' i ≡ 0) × Reaches n L 1 i
    others-testing i h d m =
        let at = s.passes.testing i h refl (omega (arith, (same i).made)) in
        (omega (arith, (same i).next, (same i).made, at.0), omega (arith, (same i).done, at.1), reach-other i h d)

    were-tested : (i : ℕ) → i < n → 1 ≤ tests_made n v' i → (next_distance n v' i ≡ n) × (tests_made n v' i ≡ 1)
    were-tested i h m =
        let at = s.passes.tested i h refl (omega (arith, (same i).made)) in
        (omega (arith, (same i).next, at.0), omega (arith, (same i).made, at.1))

    -- where a has made no test, it tests b
    pub crash-finding : tests_made n v a ≡ 0 → Finding begins (crash_at Ring n q b)
    crash-finding none = record {
      run = on.running;
      passes = rw on.table (record {
        testing = λ i h l m.
            by_cases (ℕ_discrete i a)
            (λ e.
            let z = same i in
            let at = s.passes.testing i h refl (rw e (omega (arith, none))) in
            (omega (arith, z.next, z.made, at.0), omega (arith, z.done, at.1), rw (e, two-at) reach-two))
            (λ d. rw (one-at i d) (others-testing i h d (omega (arith, one-at i d))));
        tested = λ i h l m.
            by_cases (ℕ_discrete i a) (λ e. absurd (omega (arith, none, two-at, rw e at m, (same a).made)))
            (λ d. rw (one-at i d) (were-tested i h (omega (arith, one-at i d))));
        range = λ i h. omega (arith, (same i).done, s.passes.range i h);
      });
      found = λ l. absurd (omega (arith, none, (same a).made, rw on.table at l));
      told = λ l. absurd (omega (arith, none, (same a).made, rw on.table at l));
    }

    -- where it has made its test, the rest of the round brings nothing
    pub crash-waiting : 1 ≤ tests_made n v a → Waiting begins (crash_at Ring n q b)
    crash-waiting had = record {
      run = on.running;
      passes = rw on.table (record {
        testing = λ i h l m. others-testing i h (λ e. omega (arith, (same a).made, rw e at m)) m;
        tested = λ i h l m. were-tested i h m;
        range = λ i h. omega (arith, (same i).done, s.passes.range i h);
      });
      tested = rw on.table (omega (arith, (same a).made));
    }
