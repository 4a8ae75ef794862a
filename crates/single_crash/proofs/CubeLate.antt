-- On the cube, the slowest plant in the round after that of the crash of board 1: board 4 does not suspect it before its third turn. Board 0, which
-- is beside board 1 and would tell board 4, tests at distance 3 when the others test at distance 4.
-- Assumes nothing.
use mathlib.Core.Path.{◌≡◌, refl, sym, ap, subst, ◌∙◌}
use mathlib.Core.Logic.{◌≢◌, by_cases}
use mathlib.Core.Bool.{Bool, true, false}
use mathlib.Core.List.{List}
use Prim.Native.Nat.{ℕ, suc, ◌+◌, ◌%◌, ◌^◌, ◌≤◌, ◌<◌}
use native.Mathlib.Nat.{mod-eq_of_lt}
use native.Mathlib.Decide.{ℕ_discrete, dec_lt}
use native.Mathlib.Omega.{arith}
use borrow.Author.Tests.{ne_eqb}
use lib.Bits.{bit_xor, xor_mod, xor_lt}
use lib.Pow.{pow_mono, pow-lt}
use Rattle.lists.proofs.BoolLaws.{by_bool}
use Rattle.lists.proofs.SumLaws.{sum-zero}
use Rattle.lists.proofs.Xor.{xor-cancel, xor-undo}
use Rattle.table.specs.declared.wiring.Wiring.TheVariants.{Cube}
use Rattle.table.specs.Table.{next_distance, finished, tests_made, suspects, row}
use Rattle.table.specs.Rules.{round_over}
use Rattle.station.specs.Groups.{distance, station_at}
use Rattle.station.specs.Tests.{unsuspected, due}
use Rattle.station.specs.Wired.{wired_station, next_after}
use Rattle.station.proofs.WiredLaws.{cube-station}
use Rattle.plant.specs.Turn.{next_test, makes_test}
use Rattle.plant.proofs.NextTest.{test-station}
use Rattle.granter.specs.Fairness.{stations_before}
use Rattle.granter.specs.Drive.{Stand, grant_turn}
use Rattle.detection.proofs.TestsDue.{row-unsuspected}
use Rattle.detection.proofs.TurnEffect.{Row, Tested}
use Rattle.single_crash.specs.Sweeps.{turns_made}
use Rattle.single_crash.proofs.Sweeps.{place-below}
use Rattle.single_crash.proofs.SweepLaw.{grant_of}
use Rattle.single_crash.proofs.Running.{Running, going, kept, heads, moved, goes_on, turn-less, live-waits, has-ended, all-ended, rows-same}
use Rattle.single_crash.proofs.Running.{rows-tested, left_of, others-same}
use Rattle.single_crash.proofs.Crashing.{all_but, but-dead, but-apart}
use Rattle.single_crash.proofs.Passes.{turns_left}
use Rattle.single_crash.proofs.Running.{left_of}
use Rattle.single_crash.proofs.Heard.{Heard, had, found, told_by_tester, told_by_tested, heard}
use Rattle.single_crash.proofs.CubeDue.{Few, power-due, second-due}
use Rattle.single_crash.proofs.CubePace.{Cubic, few-but, Paced, pace-test, due-now}
use Rattle.single_crash.proofs.CubeWays.{turned}
use Rattle.single_crash.proofs.CubeRun.{OthersLive, fewest-turns, paced-turn, granted-other}
use Rattle.single_crash.proofs.CubeOrder.{place-last}
use Rattle.single_crash.proofs.CubeStages.{but-others}

-- all boards but board 1 are live
abbrev pub L : ℕ → Bool
L = all_but 1

-- board 0 in its first three turns: it tests board 1, and then at distances 2 and 3
pub record Early (n : ℕ) (t : List ℕ) : Type 0 where
  pub going : turns_made n t 0 < 3 → finished n t 0 ≡ 0
  pub next : turns_made n t 0 < 3 → next_distance n t 0 ≡ suc (turns_made n t 0)
  pub aware : 1 ≤ turns_made n t 0 → suspects n t 0 1 ≡ 1

-- in the round after that of the crash
pub record Late (n d : ℕ) (p : Stand) : Type 0 where
  pub running : Running Cube n L 5 p
  pub paced : (i : ℕ) → i < n → i ≢ 1 → Paced n d 1 p.state.table i
  pub early : Early n p.state.table
  -- as long as some board has not made two turns, who suspects board 1 has a distance from it whose last three digits are below 4
  pub near : (z : ℕ) → z < n → z ≢ 1 → turns_made n p.state.table z < 2
      → (x : ℕ) → x < n → x ≢ 1 → suspects n p.state.table x 1 ≡ 1 → distance x 1 % 2 ^ 3 < 2 ^ 2
  -- and board 4 does not before its third turn
  pub unaware : turns_made n p.state.table 4 < 3 → suspects n p.state.table 4 1 ≡ 0

-- how many turns are left until each has made three
abbrev pub left_of_three : ℕ → List ℕ → ℕ
left_of_three n t = left_of n L (λ i. 2) t

-- none are left where each has
none-left : (n : ℕ) (t : List ℕ) → ((i : ℕ) → i < n → i ≢ 1 → 3 ≤ turns_made n t i) → left_of_three n t ≡ 0
unfolding turns_left
none-left n t all =
    sum-zero n (λ i h. by_bool (L i) (λ live. rw live (omega (arith, all i h (but-apart 1 i live)))) (λ live. rw live refl))

-- last digits below 4 stay so by a distance below 4
low-across : (m k : ℕ) → m % 2 ^ 3 < 2 ^ 2 → k < 2 ^ 2 → bit_xor m k % 2 ^ 3 < 2 ^ 2
low-across m k low small =
    let same : k % 2 ^ 3 ≡ k = mod-eq_of_lt (omega arith) in
    let e : bit_xor m k % 2 ^ 3 ≡ bit_xor (m % 2 ^ 3) k = xor_mod m k 3 ∙ rw same refl in
    rw e (xor_lt 2 (m % 2 ^ 3) k low small)

module _ {n d : ℕ} (c : Cubic n d) (three : 3 ≤ d) (eight : 8 ≤ n) {p : Stand} (o : Late n d p) where
  open grant_of Cube n p use {before as t, board as g, turned as t'}
  open granted-other o.running 1 (but-dead 1) use {below, apart}

  abbrev made : ℕ
  made = turns_made n t g

  abbrev others : OthersLive n 1 L
  others = but-others n 1

  unfinished : finished n t g ≡ 0
  unfinished = going o.running

  tests-is : tests_made n t g ≡ made
  tests-is = omega (arith, unfinished)

  -- a board other than 0 is not beside board 1
  not-beside : (i : ℕ) → i ≢ 0 → station_at i 1 ≢ 1
  not-beside i q e = q (sym (xor-undo i 1) ∙ ap (λ (x : ℕ). station_at x 1) e)

  -- where board 0 is granted in its first three turns
  zero-test : g ≡ 0 → made < 3 → (makes_test Cube n t g ≡ true) × (next_test Cube n t g ≡ suc made)
  zero-test e l =
      let few : Few d (row n t g) g 1 = few-but 1 c others o.running.plain g below apart in
      let beside : station_at g 1 ≡ 1 = rw e refl in
      let next : next_distance n t g ≡ suc made = rw e (o.early.next (rw e at l)) in
      let room : suc made < 2 ^ d = omega (arith, pow_mono {i = 3} {j = d} three) in
      due-now c t g 1 few (suc made) next room (which few beside (ℕ_discrete made 0) (ℕ_discrete made 1))
    where
      which : Few d (row n t g) g 1 → station_at g 1 ≡ 1 → Dec (made ≡ 0) → Dec (made ≡ 1) → due (row n t g) g (suc made) ≡ true
      which few beside (yes z) f = rw z (power-due d (row n t g) g 1 few 0 (omega arith))
      which few beside (no z) (yes f) = rw f (power-due d (row n t g) g 1 few 1 (omega arith))
      which few beside (no z) (no f) =
          let two : made ≡ 2 = omega arith in
          let some : 1 ≤ made = omega (arith, z) in
          let aware : suspects n t g 1 ≡ 1 = rw e (o.early.aware (rw e at some)) in
          let known : unsuspected (row n t g) 1 ≡ false =
          row-unsuspected n t g 1 o.running.plain.lines.0 below (omega arith) ∙ ne_eqb (suspects n t g 1) 0 (omega (arith, aware)) in
          rw two (second-due d (row n t g) g 1 few 1 (omega arith) (omega arith) known beside)

  -- where another one is
  far-test : g ≢ 0 → makes_test Cube n t g ≡ true → next_test Cube n t g ≡ 2 ^ made
  far-test q e =
      let few : Few d (row n t g) g 1 = few-but 1 c others o.running.plain g below apart in
      let paced = (o.paced g below apart).far (not-beside g q) in
      (pace-test c t g 1 few unfinished (not-beside g q) paced e).1 ∙ ap (λ (x : ℕ). 2 ^ x) tests-is

  -- in the first two sweeps both test at distance 1, and 2
  low-test : made < 2 → makes_test Cube n t g ≡ true → next_test Cube n t g ≡ 2 ^ made
  low-test l e = by_cases (ℕ_discrete g 0) (λ z. (zero-test z (omega arith)).1 ∙ power (ℕ_discrete made 0)) (λ q. far-test q e)
    where
      power : Dec (made ≡ 0) → suc made ≡ 2 ^ made
      power (yes z) = rw z refl
      power (no z) = let one : made ≡ 1 = omega arith in rw one refl

  small-test : made < 2 → 2 ^ made < 2 ^ 2
  small-test l = pow-lt l

  -- who has finished has made three turns
  ended-three : (i : ℕ) → i < n → i ≢ 1 → finished n t i ≢ 0 → 3 ≤ turns_made n t i
  ended-three i h q f =
      by_cases (ℕ_discrete i 0)
      (λ z. by_cases (dec_lt (turns_made n t 0) 3) (λ l. absurd (f (rw z (o.early.going l)))) (λ l. rw z (omega arith)))
      (λ z.
      let one = has-ended o.running i h f in
      omega (arith, ((o.paced i h q).far (not-beside i z)).ended one))

  fewest-made : (i : ℕ) → i < n → i ≢ 1 → turns_made n t i < 3 → made ≤ turns_made n t i
  fewest-made i h q l =
      by_cases (ℕ_discrete (finished n t i) 0)
      (λ f. fewest-turns o.running 1 c others i h q f)
      (λ f. absurd (omega (arith, ended-three i h q f)))

  -- as long as turns are left to three the granted board makes one of them
  pub few-turns : 1 ≤ left_of_three n t → made < 3
  few-turns some =
      by_cases (dec_lt made 3) (λ l. l)
      (λ l.
      let all : (i : ℕ) → i < n → i ≢ 1 → 3 ≤ turns_made n t i =
      λ i h q. by_cases (dec_lt (turns_made n t i) 3) (λ m. absurd (omega (arith, fewest-made i h q m))) (λ m. omega arith) in
      absurd (omega (arith, some, none-left n t all)))

  pub late-less : made < 3 → suc (left_of_three n t') ≡ left_of_three n t
  late-less l = turn-less o.running (λ i. 2) (omega arith)

  turns-own : (i : ℕ) → g ≡ i → turns_made n t' i ≡ suc made
  turns-own i e = ap (turns_made n t') (sym e) ∙ (moved o.running).own

  more-turns : (i : ℕ) → i < n → turns_made n t i ≤ turns_made n t' i
  more-turns i h =
      by_cases (ℕ_discrete i g)
      (λ e. omega (arith, turns-own i (sym e), ap (turns_made n t) e))
      (λ q. omega (arith, (moved o.running).others i h q))

  paced' : (i : ℕ) → i < n → i ≢ 1 → Paced n d 1 t' i
  paced' i h q = paced-turn o.running 1 c others i h q (o.paced i h q)

  -- what the turn of board 0 makes of it
  early-own : g ≡ 0 → Early n t'
  unfolding next_after
  early-own e =
      let own = heads o.running in
      let turns = turns-own 0 e in
      let keeps : suspects n t 0 1 ≡ 1 → suspects n t' 0 1 ≡ 1 = (kept o.running).grows 0 1 (omega arith) (omega arith) in
      by_cases (dec_lt made 3)
      (λ l.
      let z = zero-test e l in
      record {
        going = λ _. ap (finished n t') (sym e) ∙ (rw z.0 at own.finish ∙ unfinished);
        next = λ _.
            let next : next_distance n t' g ≡ next_test Cube n t g + 1 = rw z.0 at own.next in
            ap (next_distance n t') (sym e) ∙ omega (arith, next, z.1, turns);
        aware = λ _. by_cases (ℕ_discrete made 0)
            (λ none.
            let at : next_test Cube n t g ≡ 1 = omega (arith, z.1, none) in
            let beside : station_at g 1 ≡ 1 = rw e refl in
            let tested : Tested n L (Row n t g) (Row n t 1) t' g 1 =
            rw (at, cube-station Cube n g 1 refl, beside) at ((kept o.running).tests z.0) in
            ap (λ (x : ℕ). suspects n t' x 1) (sym e) ∙ tested.finds (but-dead 1))
            (λ some. keeps (o.early.aware (omega (arith, some, ap (turns_made n t) e))));
      })
      (λ l.
      record {
        going = λ few. absurd (omega (arith, turns));
        next = λ few. absurd (omega (arith, turns));
        aware = λ _. keeps (o.early.aware (omega (arith, ap (turns_made n t) e)));
      })

  early' : Early n t'
  early' =
      by_cases (ℕ_discrete g 0) early-own
      (λ q.
      let other : 0 ≢ g = λ z. q (sym z) in
      let same = others-same o.running 0 other in
      let m = (moved o.running).others 0 (omega arith) other in
      record {
        going = λ few. same.done ∙ o.early.going (omega (arith, m));
        next = λ few. omega (arith, same.next, m, o.early.next (omega (arith, m)));
        aware = λ some. (kept o.running).grows 0 1 (omega arith) (omega arith) (o.early.aware (omega (arith, m)));
      })

  -- a round does not close as long as turns are left to three
  pub late-open : 1 ≤ left_of_three n t' → round_over n t' ≡ false
  late-open some =
      by_bool (round_over n t')
      (λ over.
      let all : (i : ℕ) → i < n → i ≢ 1 → 3 ≤ turns_made n t' i =
      λ i h q. let f = all-ended o.running over i h (others i h q) in
      by_cases (ℕ_discrete i 0)
      (λ z. by_cases (dec_lt (turns_made n t' 0) 3) (λ l. absurd (omega (arith, early'.going l, ap (finished n t') z, f))) (λ l. rw z (omega arith)))
      (λ z. omega (arith, f, ((paced' i h q).far (not-beside i z)).ended f)) in
      absurd (omega (arith, some, none-left n t' all)))
      (λ on. on)

  -- whom the granted board tests
  abbrev y : ℕ
  y = wired_station Cube n g (next_test Cube n t g)

  tested-at : (m : ℕ) → next_test Cube n t g ≡ m → y ≡ station_at g m
  tested-at m e = cube-station Cube n g (next_test Cube n t g) refl ∙ ap (station_at g) e

  -- where a suspicion of board 1 comes from
  heard-of : (x : ℕ) → x < n → suspects n t' x 1 ≡ 1 → makes_test Cube n t g ≡ true → Heard n t g y x 1
  heard-of x hx one e =
      heard n t (L y) g y x 1 (sym (rows-tested o.running e x 1 hx (omega arith)) ∙ one)

  same-row : (x : ℕ) → makes_test Cube n t g ≡ false → suspects n t' x 1 ≡ suspects n t x 1
  same-row x e =
      rows-same o.running e x 1 (omega arith)

  -- board 1 does not suspect itself
  not-dead : (x : ℕ) → suspects n t x 1 ≡ 1 → x ≢ 1
  not-dead x one e = omega (arith, rw e at one, (o.running.plain.lines.1 1 (omega arith)).own)

  -- the distances of two boards at a distance m from each other
  abbrev Low : ℕ → Type 0
  Low x = distance x 1 % 2 ^ 3 < 2 ^ 2

  low-there : (m : ℕ) → m < 2 ^ 2 → Low g → Low (station_at g m)
  low-there m small low = rw (turned g m 1) (low-across (distance g 1) m low small)

  low-back : (m : ℕ) → m < 2 ^ 2 → Low (station_at g m) → Low g
  low-back m small low =
      let back : bit_xor (distance (station_at g m) 1) m ≡ distance g 1 = rw (turned g m 1) (xor-undo (distance g 1) m) in
      rw back at (low-across (distance (station_at g m) 1) m low small)

  low-found : (m : ℕ) → m < 2 ^ 2 → station_at g m ≡ 1 → Low g
  low-found m small e =
      let far : distance g 1 ≡ m = ap (bit_xor g) (sym e) ∙ xor-cancel g m in
      let same : m % 2 ^ 3 ≡ m = mod-eq_of_lt (omega arith) in
      rw (far, same) small

  -- in the first two sweeps
  heard-low : ((x : ℕ) → x < n → x ≢ 1 → suspects n t x 1 ≡ 1 → Low x) → (m : ℕ) → m < 2 ^ 2 → y ≡ station_at g m → y < n → (x : ℕ) → x < n → x ≢ 1
      → Heard n t g y x 1 → Low x
  heard-low old m small at hy x hx q (had one) = old x hx q one
  heard-low old m small at hy x hx q (found k z) = rw k (low-found m small (sym at ∙ sym z))
  heard-low old m small at hy x hx q (told_by_tester k one) = rw (k, at) (low-there m small (old g below apart one))
  heard-low old m small at hy x hx q (told_by_tested k one) =
      let aware : Low (station_at g m) = rw at at (old y hy (not-dead y one) one) in
      rw k (low-back m small aware)

  near' : (z : ℕ) → z < n → z ≢ 1 → turns_made n t' z < 2 → (x : ℕ) → x < n → x ≢ 1 → suspects n t' x 1 ≡ 1 → Low x
  near' z hz q few x hx a one =
      let was : turns_made n t z < 2 = omega (arith, more-turns z hz, few) in
      let low : made < 2 = omega (arith, fewest-made z hz q (omega (arith, was)), was) in
      by_bool (makes_test Cube n t g)
      (λ e.
      heard-low (o.near z hz q was) (2 ^ made) (small-test low) (tested-at (2 ^ made) (low-test low e)) (test-station Cube n t g e
      o.running.plain.lines.0 below) x hx a (heard-of x hx one e))
      (λ e. o.near z hz q was x hx a (sym (same-row x e) ∙ one))

  -- board 4 is not near in that sense
  far-four : ¬ (Low 4)
  far-four l = omega arith

  -- board 4 hears of it from nobody before its third turn
  unheard : turns_made n t' 4 < 3 → makes_test Cube n t g ≡ true → Heard n t g y 4 1 → ⊥
  unheard few e (had one) = omega (arith, one, o.unaware (omega (arith, more-turns 4 (omega arith), few)))
  unheard few e (found k z) =
      let low : made < 2 = omega (arith, turns-own 4 (sym k), few) in
      far-four (subst Low (sym k) (low-found (2 ^ made) (small-test low) (sym (tested-at (2 ^ made) (low-test low e)) ∙ sym z)))
  unheard few e (told_by_tested k one) =
      let low : made < 2 = omega (arith, turns-own 4 (sym k), few) in
      let at = tested-at (2 ^ made) (low-test low e) in
      let hy = test-station Cube n t g e o.running.plain.lines.0 below in
      let aware : Low (station_at g (2 ^ made)) = rw at at (o.near g below apart low y hy (not-dead y one) one) in
      far-four (subst Low (sym k) (low-back (2 ^ made) (small-test low) aware))
  unheard few e (told_by_tester k one) =
      by_cases (dec_lt made 2)
      (λ low.
      let at = tested-at (2 ^ made) (low-test low e) in
      far-four (subst Low (sym (k ∙ at)) (low-there (2 ^ made) (small-test low) (o.near g below apart low g below apart one))))
      (λ high.
      let was : turns_made n t 4 < 3 = omega (arith, more-turns 4 (omega arith), few) in
      let two : made ≡ 2 = omega (arith, high, was, fewest-made 4 (omega arith) (λ q. omega arith) was) in
      by_cases (ℕ_discrete g 0)
      (λ z.
      let at : y ≡ station_at g 3 = tested-at 3 (omega (arith, (zero-test z (omega arith)).1, two)) in
      let three : station_at g 3 ≡ 3 = rw z refl in
      omega (arith, k, at, three))
      (λ z.
      let at : y ≡ station_at g 4 = tested-at 4 (far-test z e ∙ rw two refl) in
      z (sym (xor-undo g 4) ∙ ap (λ (x : ℕ). bit_xor x 4) (sym at ∙ sym k))))

  unaware' : turns_made n t' 4 < 3 → suspects n t' 4 1 ≡ 0
  unaware' few =
      let plain = (kept o.running).plain in
      let not_one : suspects n t' 4 1 ≢ 1 =
      λ one. by_bool (makes_test Cube n t g)
      (λ e. unheard few e (heard-of 4 (omega arith) one e))
      (λ e. omega (arith, one, same-row 4 e, o.unaware (omega (arith, more-turns 4 (omega arith), few)))) in
      omega (arith, not_one, (plain.lines.1 4 (omega arith)).range 1 (omega arith))

  -- so it goes on
  pub late-next : round_over n t' ≡ false → Late n d (grant_turn Cube n p)
  late-next on =
      let w = goes_on o.running on in
      record {
        running = w.running;
        paced = rw w.table paced';
        early = rw w.table early';
        near = rw w.table near';
        unaware = rw w.table unaware';
      }

  -- who waits when board 4 has made three turns has made three too
  waiting-three : 3 ≤ turns_made n t 4 → (i : ℕ) → i < n → i ≢ 1 → finished n t i ≡ 0 → 3 ≤ turns_made n t i
  waiting-three l i h q f =
      let s = o.running.sweep in
      let waits_i = live-waits o.running i h (others i h q) f in
      let place = place-below n 5 i (omega arith) h in
      by_cases (dec_lt (stations_before n 5 i) s.passed)
      (λ m. omega (arith, s.done i h waits_i m, s.most 4 (omega arith)))
      (λ m.
      by_cases (ℕ_discrete (finished n t 4) 0)
      (λ z.
      let waits_4 = live-waits o.running 4 (omega arith) refl z in
      omega (arith, s.to_come i h waits_i (omega arith), s.to_come 4 (omega arith) waits_4 (omega (arith, place, place-last n (omega arith)))))
      (λ z.
      let one = has-ended o.running 4 (omega arith) z in
      let all = ((o.paced 4 (omega arith) (λ q. omega arith)).far (not-beside 4 (λ q. omega arith))).ended one in
      omega (arith, s.to_come i h waits_i (omega arith), s.most 4 (omega arith), all, one)))

  -- where turns are left to three board 4 has not made its third
  pub late-unaware : 1 ≤ left_of_three n t → suspects n t 4 1 ≡ 0
  late-unaware some =
      by_cases (dec_lt (turns_made n t 4) 3) o.unaware
      (λ l.
      let all : (i : ℕ) → i < n → i ≢ 1 → 3 ≤ turns_made n t i =
      λ i h q. by_cases (ℕ_discrete (finished n t i) 0) (waiting-three (omega arith) i h q) (ended-three i h q) in
      absurd (omega (arith, some, none-left n t all)))
