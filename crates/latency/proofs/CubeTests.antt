-- On the cube no round has more tests than the count says: a live station whose row suspects none but dead ones leads the group of whom it tests.
-- Assumes nothing.
use mathlib.Core.Path.{◌≡◌, refl, sym, ap, ◌∙◌}
use mathlib.Core.Logic.{by_cases}
use mathlib.Core.Bool.{Bool, true, false, cond, true≢false}
use mathlib.Core.List.{List}
use Prim.Native.Nat.{ℕ, suc, ◌+◌, ◌-◌, ◌≤◌, ◌<◌}
use native.Mathlib.Decide.{ℕ_discrete}
use native.Mathlib.Omega.{arith}
use borrow.Author.Tests.{lt-ltb, ltb-true, eqb-true, eq-eqb}
use lib.Dec.{ltb}
use lib.ListN.{length}
use Rattle.lists.specs.Sums.{sum_below, bit}
use Rattle.lists.proofs.BoolLaws.{by_bool}
use Rattle.lists.proofs.SearchLaws.{both, least-is, least-before}
use Rattle.lists.proofs.SumLaws.{sum_below-suc, sum-split}
use Rattle.table.specs.Sizes.{is_size, level, distances}
use Rattle.table.specs.Wiring.{end_distance}
use Rattle.table.specs.Table.{next_column, tests_column, next_distance, tests_made, row, live}
use Rattle.table.proofs.WiringLaws.{end-cube}
use Rattle.table.proofs.SizeLaws.{size-distances}
use Rattle.table.proofs.CellLaws.{row-length, row_at}
use Rattle.table.specs.declared.wiring.Wiring.TheVariants.{Cube}
use Rattle.station.specs.Groups.{station_at, is_present, width, member}
use Rattle.station.specs.Tests.{unsuspected, first_place, first, due}
use Rattle.station.proofs.WiredLaws.{cube_due}
use Rattle.station.proofs.DueLaws.{unsuspected-at, is_station, due-first}
use Rattle.plant.specs.Turn.{next_test, makes_test}
use Rattle.station.specs.Wired.{next_after}
use Rattle.plant.specs.Entry.{Entry, State}
use Rattle.plant.proofs.NextTest.{next_test-low, test-due}
use Rattle.slots.proofs.Counts.{sum-le}
use Rattle.detection.specs.Claim.{tests_per_round}
use Rattle.detection.proofs.Count.{leads}
use Rattle.detection.proofs.Knowledge.{LiveOf, live_of, leads_at}
use Rattle.detection.proofs.LedCount.{leads_below, led-count}
use Rattle.detection.proofs.TurnEffect.{Plain}
use Rattle.detection.proofs.RoundKnowledge.{TurnTaken}
use Rattle.latency.proofs.Rounds.{TestsBound}

-- the first that passes q is the first that passes q', if it passes q' and all that pass q' pass q
first-narrow : (q q' : ℕ → Bool) (j s i : ℕ) → ((x : ℕ) → q' x ≡ true → q x ≡ true) → q' i ≡ true → is_station i (first q j s) ≡ true
    → is_station i (first q' j s) ≡ true
unfolding first first_place
first-narrow q q' j s i more own here =
    by_bool (ltb (first_place q j s) (width s)) go (λ e. absurd (true≢false (sym here ∙ rw e)))
  where
    go : ltb (first_place q j s) (width s) ≡ true → is_station i (first q' j s) ≡ true
    go e =
        let p : ℕ = first_place q j s in
        let x : ℕ → ℕ = member j s in
        let l = ltb-true p (width s) e in
        let named : x p ≡ i = eqb-true (x p) i (rw e at here) in
        let before : (y : ℕ) → y < p → q' (x y) ≡ false =
        λ y b.
        let fails = least-before (λ k. q (x k)) (width s) 0 y (omega arith) b in
        by_bool (q' (x y)) (λ f. absurd (true≢false (sym (more (x y) f) ∙ fails))) (λ f. f) in
        let same : first_place q' j s ≡ p =
        least-is (λ k. q' (x k)) (width s) 0 p (omega arith) (omega arith) (ap q' named ∙ own) (λ y a b. before y b) in
        rw (same, e, named) (eq-eqb i i refl)

-- where the row of a live station suspects no live one, it leads the group of each station whose distance is due
due-leads : (n : ℕ) (L : ℕ → Bool) (r : List ℕ) (i m : ℕ) → length r ≡ n → i < n → L i ≡ true
    → ((x : ℕ) → x < n → L x ≡ true → unsuspected r x ≡ true) → due r i m ≡ true → leads_at n L i m ≡ true
due-leads n L r i m long hi li clear is_due =
    let parts = both _ _ (sym (due-first r i m) ∙ is_due) in
    let here : is_present (length r) (station_at i m) ≡ true = parts.0 in
    let own : LiveOf n L i ≡ true = rw (lt-ltb i n hi, li) in
    let more : (x : ℕ) → LiveOf n L x ≡ true → unsuspected r x ≡ true = λ x e. let v = live_of n L x e in clear x v.0 v.1 in
    rw (rw long at here, first-narrow (unsuspected r) (LiveOf n L) (station_at i m) (level m) i more own parts.1)

leads-grow : (n : ℕ) (L : ℕ → Bool) (i a b : ℕ) → a ≤ b → leads_below n L i a ≤ leads_below n L i b
leads-grow n L i a b h =
    let e : a + (b - a) ≡ b = omega arith in
    omega (arith, rw e at (sum-split (λ m. bit (leads_at n L i m)) a (b - a)))

-- no live station has made more tests than that
abbrev pub Led : ℕ → (ℕ → Bool) → List ℕ → Type 0
Led n L t = (i : ℕ) → i < n → L i ≡ true → tests_made n t i ≤ leads_below n L i (next_distance n t i)

-- where fewer are live no fewer are led
leads-narrow : (n : ℕ) (L L' : ℕ → Bool) (i m : ℕ) → ((x : ℕ) → x < n → L' x ≡ true → L x ≡ true) → i < n → L' i ≡ true
    → bit (leads_at n L i m) ≤ bit (leads_at n L' i m)
leads-narrow n L L' i m fewer hi li =
    let own : LiveOf n L' i ≡ true = rw (lt-ltb i n hi, li) in
    let more : (x : ℕ) → LiveOf n L' x ≡ true → LiveOf n L x ≡ true =
    λ x e. let v = live_of n L' x e in rw (lt-ltb x n v.0, fewer x v.0 v.1) in
    by_bool (leads_at n L i m)
    (λ e.
    let parts = both (is_present n (station_at i m)) (leads (LiveOf n L) i m) e in
    let still : leads_at n L' i m ≡ true = rw (parts.0, first-narrow (LiveOf n L) (LiveOf n L') (station_at i m) (level m) i more own parts.1) in
    omega (arith, ap bit e, ap bit still))
    (λ e. omega (arith, ap bit e))

pub led-narrow : (n : ℕ) (L L' : ℕ → Bool) (t t' : List ℕ) → ((i : ℕ) → i < n → L' i ≡ true → L i ≡ true)
    → ((i : ℕ) → i < n → (next_distance n t' i ≡ next_distance n t i) × (tests_made n t' i ≡ tests_made n t i)) → Led n L t → Led n L' t'
led-narrow n L L' t t' fewer same led i h l =
    let s = same i h in
    rw (s.0, s.1) (omega (arith, led i h (fewer i h l), sum-le (next_distance n t i) (λ m b. leads-narrow n L L' i m fewer h l)))

-- a turn keeps it
module _ (n : ℕ) (L : ℕ → Bool) (t' : List ℕ) (s : State) (e : Entry) (plain : Plain Cube n L s.table)
    (turn : TurnTaken Cube n L s e t') (led : Led n L s.table) where
  abbrev t : List ℕ
  t = s.table

  abbrev i : ℕ
  i = e.station

  abbrev m : ℕ
  m = next_test Cube n t i

  clear : (x : ℕ) → x < n → L x ≡ true → unsuspected (row n t i) x ≡ true
  clear x hx lx =
      unsuspected-at (row n t i) x (omega (arith, row-length n t i plain.lines.0 turn.below))
      ∙ eq-eqb _ 0 (row_at n t i x hx ∙ plain.accurate i x turn.below hx turn.is_live lx)

  leads-here : makes_test Cube n t i ≡ true → leads_at n L i m ≡ true
  leads-here makes =
      due-leads n L (row n t i) i m (row-length n t i plain.lines.0 turn.below) turn.below turn.is_live clear
      (sym (cube_due Cube (row n t i) i m refl) ∙ test-due Cube n t i makes)

  next-is : makes_test Cube n t i ≡ true → next_distance n t' i ≡ suc m
  unfolding next_after
  next-is makes = omega (arith, rw makes at turn.heads.next)

  own : tests_made n t' i ≤ leads_below n L i (next_distance n t' i)
  own =
      by_bool (makes_test Cube n t i)
      (λ makes.
      let one : bit (leads_at n L i m) ≡ 1 = ap bit (leads-here makes) in
      rw (next-is makes) (omega (
        arith,
        rw makes at turn.heads.tests,
        led i turn.below turn.is_live,
        leads-grow n L i (next_distance n t i) m (next_test-low Cube n t i),
        sum_below-suc (λ m. bit (leads_at n L i m)) m,
        one,
      )))
      (λ none.
      let last : next_distance n t' i ≡ end_distance Cube n = rw none at turn.heads.next in
      rw last (omega (
        arith,
        rw none at turn.heads.tests,
        led i turn.below turn.is_live,
        leads-grow n L i (next_distance n t i) (end_distance Cube n) (plain.lines.1 i turn.below).pass.next_high,
      )))

  pub turn-led : Led n L t'
  turn-led k h l =
      by_cases (ℕ_discrete k i) (λ q. rw q own)
      (λ q.
      let tests = turn.heads.others k tests_column q (omega arith) in
      let next = turn.heads.others k next_column q (omega arith) in
      rw (tests, next) (led k h l))

-- all tests of live stations; T has the live set
module _ (n : ℕ) (T : List ℕ) (low : n ≤ distances n) where
  abbrev L : ℕ → Bool
  L = live n T

  pub led-within : (t : List ℕ) → Plain Cube n L t → Led n L t → sum_below (λ i. cond (L i) (tests_made n t i) 0) n ≤ tests_per_round n T
  led-within t plain led =
      let each : (i : ℕ) → i < n → cond (L i) (tests_made n t i) 0 ≤ leads_below n L i (distances n) =
      λ i h.
      by_bool (L i)
      (λ l.
      let last : next_distance n t i ≤ distances n = rw (end-cube n) at (plain.lines.1 i h).pass.next_high in
      rw l (omega (arith, led i h l, leads-grow n L i (next_distance n t i) (distances n) last)))
      (λ l. rw l (omega arith)) in
      omega (arith, sum-le n each, led-count n T low)

-- what bounds the tests on the cube
abbrev pub cube-tests : (n : ℕ) → is_size n ≡ true → TestsBound Cube n
cube-tests n size = record {
  Fits = λ L t. Led n L t;
  starts = λ L t fresh i h l. omega (arith, (fresh i h).untested);
  turns = λ L t' s e plain turn led. turn-led n L t' s e plain turn led;
  narrows = λ L L' t t' fewer same led. led-narrow n L L' t t' fewer same led;
  within = λ T t two plain led. led-within n T (size-distances n size).0 t plain led;
}
