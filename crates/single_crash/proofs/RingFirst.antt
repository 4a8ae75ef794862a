-- The ring where the crash comes so late that 2n − 3 turns are left in its round: only the board before b, a, has made a turn. So that round began
-- with a, and ends with the board before a, d, which hears of b in the first sweep of the next round.
-- Assumes nothing.
use mathlib.Core.Path.{◌≡◌, refl, sym, ap, ◌∙◌}
use mathlib.Core.Logic.{by_cases}
use mathlib.Core.Bool.{true, false}
use mathlib.Core.List.{List}
use Prim.Native.Nat.{ℕ, suc, ◌+◌, ◌-◌, ◌%◌, ◌≤◌, ◌<◌}
use native.Mathlib.Decide.{dec_lt, ℕ_discrete}
use native.Mathlib.Omega.{arith}
use Rattle.table.specs.Table.{finished, tests_made, suspects}
use Rattle.table.specs.Rules.{round_over}
use Rattle.table.proofs.SizeLaws.{size-bounds}
use Rattle.table.specs.declared.wiring.Wiring.TheVariants.{Ring}
use Rattle.plant.specs.Turn.{crash}
use Rattle.granter.specs.Grant.{following}
use Rattle.granter.specs.Fairness.{stations_before}
use Rattle.granter.specs.Drive.{Stand, grant_turn}
use Rattle.detection.proofs.TurnEffect.{Exact}
use Rattle.single_crash.specs.Sweeps.{turns_made}
use Rattle.single_crash.specs.Setting.{crash_at}
use Rattle.single_crash.proofs.Sweeps.{place-one, place-below}
use Rattle.single_crash.proofs.SweepLaw.{grant_of}
use Rattle.single_crash.proofs.Running.{Running, going, kept, closes, goes_on, grant-first, live-waits, all-ended, others-same}
use Rattle.single_crash.proofs.Crashing.{crash-goes_on, crash-pass}
use Rattle.single_crash.proofs.Passes.{made-most}
use Rattle.single_crash.proofs.Around.{BeginsAt, some-board, begins-fits, place-of, place-zero, place-next, before-below, before-next}
use Rattle.single_crash.proofs.Around.{begins-at}
use Rattle.single_crash.proofs.Around as around
use Rattle.single_crash.proofs.RingLast.{last-closes, last-open}
use Rattle.single_crash.proofs.OnRing.{meets-at, passes-on, Before}
use Rattle.single_crash.proofs.RingStages.{Board, Waiting, Finding, Spread, circle, ahead, crew, two_before, two-at, one-at}
use Rattle.single_crash.proofs.RingStages.{crash-waiting, finding-fresh, waiting-on, finding-on, finding-closes, spread-on, spread-open}
use Rattle.single_crash.proofs.RingStages.{spread-exact}

module _ {n b : ℕ} (board : Board n b) where
  open circle n b use {others as L, first as a, second as d}
  open ahead board use {a<n, d<n, d-next, d-apart, live-a, live-d}

  -- in a round that begins with a, d comes last
  d-last : (begins : ℕ) → BeginsAt n a begins → stations_before n begins d ≡ n - 1
  d-last begins from = place-of from (n - 1) (omega arith)

  -- the rest of the crash's round
  pub record WaitingFirst (begins : ℕ) (p : Stand) : Type 0 where
    pub waiting : Waiting board begins p
    pub from : BeginsAt n a begins
    pub unfinished : finished n p.state.table d ≡ 0

  -- the round in which a tests b
  pub record FindingFirst (begins : ℕ) (p : Stand) : Type 0 where
    pub finding : Finding board begins p
    pub from : BeginsAt n a begins
    pub heard : 1 ≤ tests_made n p.state.table d → suspects n p.state.table d b ≡ 1

  -- and the one behind it
  pub record SpreadFirst (begins j : ℕ) (p : Stand) : Type 0 where
    pub spread : Spread board begins j p
    pub heard : suspects n p.state.table d b ≡ 1

  -- a grant in the rest of the crash's round
  module _ {begins : ℕ} {p : Stand} (s : WaitingFirst begins p) where
    open grant_of Ring n p use {before as t, board as g, turned as t'}

    abbrev r : Running Ring n L begins p
    r = s.waiting.run

    -- it closes with d
    ends-with : round_over n t' ≡ true → g ≡ d
    ends-with = last-closes r s.waiting.passes d d<n live-d (d-last begins s.from) s.unfinished

    first-on : round_over n t' ≡ false → finished n t' d ≡ 0
    first-on = last-open r s.waiting.passes d d<n live-d (d-last begins s.from) s.unfinished

    pub waiting-first-on : round_over n t' ≡ false → WaitingFirst begins (grant_turn Ring n p)
    waiting-first-on unclosed = record {
      waiting = waiting-on board s.waiting unclosed;
      from = s.from;
      unfinished = rw (goes_on r unclosed).table (first-on unclosed);
    }

    pub waiting-first-closes : round_over n t' ≡ true → (begins' : ℕ) × FindingFirst begins' (grant_turn Ring n p)
    waiting-first-closes over =
        let z = closes r over in (
          following g,
          record {
            finding = finding-fresh board z.fresh z.running;
            from = rw (ends-with over) (begins-at n a a<n (omega arith) (size-bounds n board.size).1);
            heard = λ l. absurd (omega (arith, (z.fresh d d<n).untested));
          },
        )

  -- a grant in the round in which a tests b
  module _ {begins : ℕ} {p : Stand} (s : FindingFirst begins p) where
    open grant_of Ring n p use {before as u, board as x, turned as u'}

    abbrev run : Running Ring n L begins p
    run = s.finding.run

    grows : suspects n u d b ≡ 1 → suspects n u' d b ≡ 1
    grows e = (kept run).grows d b d<n board.hb e

    -- where d makes its test, a has made one
    a-knows : d ≡ x → tests_made n u d ≡ 0 → suspects n u a b ≡ 1
    a-knows e none =
        by_cases (dec_lt 0 (tests_made n u a)) s.finding.found
        (λ m.
        let at = (s.finding.passes.testing a a<n live-a (omega (arith, two-at board))).1 in
        let zero : turns_made n u x ≡ 0 = rw (← e) (omega (arith, none, rw (← e) at (going run))) in
        let first = grant-first run a a<n (live-waits run a a<n live-a at) (omega (arith, zero)) in
        absurd (omega (arith, rw (← e) at first, d-last begins s.from, place-zero s.from)))

    first-heard : 1 ≤ tests_made n u' d → suspects n u' d b ≡ 1
    first-heard l =
        by_cases (dec_lt 0 (tests_made n u d)) (λ m. grows (s.heard m))
        (λ m. by_cases (ℕ_discrete d x)
        (λ e.
        let none : tests_made n u d ≡ 0 = omega arith in
        let at = (s.finding.passes.testing d d<n live-d (omega (arith, one-at board d d-apart))).0 in
        let alive : L ((d + 1) % n) ≡ true = rw d-next live-a in
        let meets = meets-at run d 1 e (omega arith) (omega arith) alive b board.hb in
        let hears : suspects n u a b ≡ 1 → suspects n u' d b ≡ 1 = rw d-next at meets.1 in
        hears (a-knows e none))
        (λ k. absurd (omega (arith, (others-same run d k).made))))

    pub finding-first-on : round_over n u' ≡ false → FindingFirst begins (grant_turn Ring n p)
    finding-first-on unclosed = record {
      finding = finding-on board s.finding unclosed;
      from = s.from;
      heard = rw (goes_on run unclosed).table first-heard;
    }

    pub finding-first-closes : round_over n u' ≡ true → (begins' : ℕ) × SpreadFirst begins' 0 (grant_turn Ring n p)
    finding-first-closes over =
        let on = finding-closes board s.finding over in
        let ended = all-ended run over d d<n live-d in
        let pass = passes-on run (two_before board) s.finding.passes in
        let made =
        (made-most pass d d<n live-d).1 ended in (
          on.0,
          record {
            spread = on.1;
            heard = (closes run over).grown d b d<n board.hb
                (first-heard (omega (arith, made, one-at board d d-apart)));
          },
        )

  pub spread-first-on : {begins j : ℕ} {p : Stand} → SpreadFirst begins j p → j + 3 < n → SpreadFirst begins (suc j) (grant_turn Ring n p)
  spread-first-on s more =
      let run = s.spread.run in
      let o = goes_on run (spread-open board s.spread more) in
      record {
        spread = spread-on board s.spread more;
        heard = rw o.table ((kept run).grows d b d<n board.hb s.heard);
      }

  -- so all know a grant earlier
  pub spread-first-known : {begins j : ℕ} {p : Stand} → SpreadFirst begins j p → n ≤ j + 4 → Exact n L p.state.table
  spread-first-known {begins = begins} {p = p} s far = spread-exact board begins p s.spread.from (λ i h l m.
      by_cases (dec_lt (stations_before n begins i) (n - 2)) (λ q. s.spread.knows i h l (omega arith))
      (λ q.
      let fits = begins-fits s.spread.from in
      let here : stations_before n begins d ≡ n - 2 =
      by_cases (dec_lt (suc (stations_before n begins d)) n)
      (λ x.
      let at = rw d-next at (place-next s.spread.from d d<n x) in
      omega (arith, at, place-of s.spread.from (n - 1) (omega arith)))
      (λ x. absurd (d-apart (place-one n begins d a fits d<n a<n
      (omega (arith, place-of s.spread.from (n - 1) (omega arith), place-below n begins d fits d<n))))) in
      let same : i ≡ d = place-one n begins i d fits h d<n (omega arith) in
      rw same s.heard)) s.spread.before_knows

  -- where a alone has made a turn, the round began with it
  module _ {begins : ℕ} {q : Stand} (s : Before n begins q) (had : 1 ≤ tests_made n q.state.table a) (once : turns_made n q.state.table a ≤ 1)
      (none : turns_made n q.state.table d ≡ 0) where
    abbrev v : List ℕ
    v = q.state.table

    -- d stands behind a in the going round, at the last place
    earlier : stations_before n begins a < stations_before n begins d
    earlier =
        let sweep = s.run.sweep in
        let wait-a = live-waits s.run a a<n refl (omega arith) in
        let wait-d = live-waits s.run d d<n refl (omega arith) in
        let one : turns_made n v a ≡ 1 = omega arith in
        let low : 1 ≤ sweep.sweep = omega (arith, sweep.most a a<n, one) in
        let ahead : sweep.passed ≤ stations_before n begins d =
        by_cases (dec_lt (stations_before n begins d) sweep.passed) (λ l. absurd (omega (arith, sweep.done d d<n wait-d l, none)))
        (λ l. omega arith) in
        let first : sweep.sweep ≡ 1 = omega (arith, sweep.to_come d d<n wait-d ahead, none) in
        by_cases (dec_lt (stations_before n begins a) sweep.passed) (λ l. omega arith)
        (λ l. absurd (omega (arith, sweep.to_come a a<n wait-a (omega arith), one)))

    first-turn : BeginsAt n a begins
    first-turn = go (some-board n begins (omega arith) s.run.fits)
      where
        go : (f : ℕ) × BeginsAt n f begins → BeginsAt n a begins
        go f =
            by_cases (dec_lt (suc (stations_before n begins d)) n)
            (λ l. absurd (omega (arith, earlier, rw d-next at (place-next f.1 d d<n l))))
            (λ l.
            let last = place-of f.1 (n - 1) (omega arith) in
            let fits = s.run.fits in
            let same : d ≡ around.before n f.0 =
            place-one n begins d _ fits d<n (before-below n f.0 f.1.below (omega arith)) (omega (arith, last, place-below n begins d fits d<n)) in
            let here : a ≡ f.0 = sym d-next ∙ ap (λ (x : ℕ). (x + 1) % n) same ∙ before-next n f.0 f.1.below (omega arith) in
            rw here f.1)

    -- so it is where b has crashed
    pub crash-first : round_over n (crash n v b) ≡ false → WaitingFirst begins (crash_at Ring n q b)
    crash-first unclosed =
        let on = crash-goes_on b (crew board) board.hb s.run unclosed in
        let same = (crash-pass b (crew board) board.hb s.run d).done in
        let unfinished : finished n v d ≡ 0 = omega arith in
        record {
          waiting = crash-waiting board s unclosed had;
          from = first-turn;
          unfinished = rw on.table (same ∙ unfinished);
        }
