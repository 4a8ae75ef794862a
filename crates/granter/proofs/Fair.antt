-- The granted station is the next one going round; and fairness: with each grant to another a station that waits comes nearer in the going
-- round.
-- Assumes nothing.
use mathlib.Core.Path.{◌≡◌, sym, ◌∙◌}
use mathlib.Core.Logic.{◌⊎◌, inl, inr, ◌≢◌, by_cases}
use mathlib.Core.Bool.{true, false}
use mathlib.Core.List.{List}
use Prim.Native.Nat.{ℕ, zero, suc, ◌+◌, ◌-◌, ◌≤◌, ◌<◌}
use native.Mathlib.Decide.{dec_lt, ℕ_discrete}
use native.Mathlib.Numerals.{add-one}
use native.Mathlib.Omega.{arith}
use borrow.Author.Tests.{ltb-true, ltb-false, lt-ltb, le-ltb, ne_eqb}
use lib.Dec.{ltb, eqb}
use Rattle.table.specs.Rules.{not_live, some_live, table_check}
use Rattle.lists.specs.Refusal.{unless_refused}
use Rattle.lists.proofs.RefusalLaws.{by_check}
use Rattle.lists.proofs.BoolLaws.{by_bool}
use Rattle.lists.proofs.SearchLaws.{every-not, least-between, least-before}
use Rattle.table.proofs.SizeLaws.{size-bounds}
use Rattle.table.proofs.Accepting.{Accepted, accepted}
use Rattle.table.specs.declared.wiring.Wiring.{Wiring}
use Rattle.granter.specs.Grant.{no_grant, waits, first_from, following, granted, last_check, grant_check, grant_answer}
use Rattle.granter.proofs.GrantLaws.{waits-parts, grantable, grant-zero, station-fits, last-below, granted-waits}
use Rattle.granter.specs.Fairness.{stations_before, NextGoingRound, last_before, Grants, BoundedWaiting}
use Rattle.std.specs.Prelude.{Ok}

-- nobody who waits stands before the first that does
passed : (n : ℕ) (t : List ℕ) (i : ℕ) → waits n t i ≡ true → (c : ℕ) → c ≤ i → first_from n t c ≤ i
unfolding first_from
passed n t i w c lo =
    by_cases (dec_lt i (first_from n t c))
    (λ hi. cc (least-before (waits n t) (n - c) c i lo hi)) (λ hi. omega arith)

first-low : (n : ℕ) (t : List ℕ) (c : ℕ) → c ≤ first_from n t c
unfolding first_from
first-low n t c = (least-between (waits n t) (n - c) c).0

-- the granted station comes first of those that wait
no-later : (n : ℕ) (t : List ℕ) (last i : ℕ) → granted n t last < n → waits n t (granted n t last) ≡ true → i < n → waits n t i ≡ true
    → stations_before n (following last) (granted n t last) ≤ stations_before n (following last) i
unfolding granted stations_before
no-later n t last i below gw h w = by_bool (ltb p n) on round
  where
    b : ℕ
    b = following last

    p : ℕ
    p = first_from n t b

    q : ℕ
    q = first_from n t 0

    on : ltb p n ≡ true → stations_before n b (granted n t last) ≤ stations_before n b i
    on e =
        let here : granted n t last ≡ p = rw e in
        by_cases (dec_lt i b)
        (λ l. rw (here, le-ltb p b (first-low n t b), lt-ltb i b l) (omega (arith, ltb-true p n e)))
        (λ l. rw (here, le-ltb p b (first-low n t b), le-ltb i b (omega arith)) (omega (arith, passed n t i w b)))

    round : ltb p n ≡ false → stations_before n b (granted n t last) ≤ stations_before n b i
    round e =
        let here : granted n t last ≡ q = rw e in
        let far = ltb-false p n e in
        let inside : q < n = rw here at below in
        let first : q < b = grind (arith, passed n t q (rw here at gw) b) in
        let before : i < b = grind (arith, passed n t i w b) in
        rw (here, lt-ltb q b first, lt-ltb i b before) (omega (arith, passed n t i w 0))

-- the granted station is the next that waits, going round: an end in itself
pub next-going-round : NextGoingRound
next-going-round w n t last z =
    let g = grantable w n t last z in
    let c = granted-waits n t g.ok.unclosed g.someone last in
    (c.0, c.1, λ i h waiting. no-later n t last i c.0 c.1 h waiting)

before-most : (n b i : ℕ) → b ≤ n → i < n → stations_before n b i < n
unfolding stations_before
before-most n b i hb hi = by_bool (ltb i b) (λ e. rw e (omega (arith, ltb-true i b e))) (λ e. rw e (omega arith))

-- a grant to g that comes before i in the going round brings i nearer: g stands from b on, and i does not stand between, or both stand
-- before b, where the round comes later, g first
nearer-on : (n b g i : ℕ) → g < n → b ≤ g → i ≢ g → (b ≤ i → g ≤ i) → stations_before n (suc g) i < stations_before n b i
unfolding stations_before
nearer-on n b g i hg le apart none =
    by_cases (dec_lt i b)
    (λ l. rw (lt-ltb i b l, lt-ltb i (suc g) (omega arith)) (omega arith))
    (λ l. rw (le-ltb i b (omega arith), le-ltb i (suc g) (omega (arith, none))) (omega arith))

nearer-round : (n b g i : ℕ) → b ≤ n → i < b → g < i → stations_before n (suc g) i < stations_before n b i
unfolding stations_before
nearer-round n b g i hb hi hg = rw (lt-ltb i b hi, le-ltb i (suc g) (omega arith)) (omega arith)

-- where a last number is let through, the going round begins at n at the most
pub following-most : (n last : ℕ) → last_check n last ≡ Ok tt → following last ≤ n
unfolding following
following-most n last fits =
    by_bool (eqb last no_grant) (λ e. rw e (omega arith)) (λ e. rw e (omega (arith, last-below n last fits e)))

-- behind a granted station the round begins with the next one
following-granted : (n g : ℕ) → n ≤ 64 → g < n → following g ≡ suc g
unfolding following
following-granted n g top h = rw (ne_eqb g no_grant (omega arith), add-one g)

-- one grant, from a table that refusals 1 to 4 let through and in which i waits
module _ (w : Wiring) (n : ℕ) (t : List ℕ) (last i : ℕ) (z : table_check w n t ≡ Ok tt) (fits : last_check n last ≡ Ok tt) (h : i < n)
    (waiting : waits n t i ≡ true) where
  ok : Accepted w n t
  ok = accepted w n t z

  someone : some_live n t ≡ true
  unfolding some_live
  someone = let l : not_live n t i ≡ false = rw (waits-parts n t i waiting).0 in rw (every-not (not_live n t) n i h l)

  made : grant_check w n t last ≡ Ok tt
  made = grant-zero w n t last z fits someone

  found : granted n t last < n
  found = (granted-waits n t ok.unclosed someone last).0

  closer : i ≢ granted n t last → stations_before n (suc (granted n t last)) i < stations_before n (following last) i
  unfolding granted
  closer = by_bool (ltb p n) on round
    where
      b : ℕ
      b = following last

      p : ℕ
      p = first_from n t b

      q : ℕ
      q = first_from n t 0

      on : ltb p n ≡ true → i ≢ granted n t last → stations_before n (suc (granted n t last)) i < stations_before n b i
      on e apart =
          let here : granted n t last ≡ p = rw e in
          rw here (nearer-on n b p i (ltb-true p n e) (first-low n t b) (λ f. apart (f ∙ sym here)) (passed n t i waiting b))

      round : ltb p n ≡ false → i ≢ granted n t last → stations_before n (suc (granted n t last)) i < stations_before n b i
      round e apart =
          let here : granted n t last ≡ q = rw e in
          let far = ltb-false p n e in
          let before : i < b = grind (arith, passed n t i waiting b) in
          let other : i ≢ q = λ f. apart (f ∙ sym here) in
          let later : q < i = omega (arith, passed n t i waiting 0) in
          rw here (nearer-round n b q i (following-most n last fits) before later)

  nearer : i ≢ granted n t last → stations_before n (following (granted n t last)) i < stations_before n (following last) i
  nearer apart = rw (following-granted n (granted n t last) (size-bounds n ok.size).1 found) (closer apart)

-- the last numbers between are let through
module _ (w : Wiring) (n : ℕ) (tables : ℕ → List ℕ) (last : ℕ) (fits : last_check n last ≡ Ok tt) where
  last_fits : (k : ℕ) → last_check n (last_before w n tables last k) ≡ Ok tt
  unfolding last_before
  last_fits zero = fits
  last_fits (suc k) = step (last_before w n tables last k) (last_fits k)
    where
      step : (before : ℕ) → last_check n before ≡ Ok tt
          → last_check n (unless_refused (grant_check w n (tables k) before) before (granted n (tables k) before)) ≡ Ok tt
      step before f =
          by_check (grant_check w n (tables k) before)
          (λ e.
          let g = grantable w n (tables k) before e in
          rw e (station-fits n (granted n (tables k) before) (granted-waits n (tables k) g.ok.unclosed g.someone before).0))
          (λ r e. rw e f)

-- the station waits in n tables one behind the other, from table a on
module _ (w : Wiring) (n : ℕ) (tables : ℕ → List ℕ) (last a i : ℕ) (fits : last_check n last ≡ Ok tt) (h : i < n)
    (waiting : (k : ℕ) → a ≤ k → k < a + n → (table_check w n (tables k) ≡ Ok tt) × (waits n (tables k) i ≡ true)) where
  abbrev from : ℕ → ℕ
  from k = last_before w n tables last k

  abbrev Granted : ℕ → Type 0
  Granted j = (k : ℕ) × (a ≤ k) × (k < a + j) × Grants w n tables last k i

  abbrev Nearer : ℕ → Type 0
  Nearer j = stations_before n (following (from (a + j))) i + j < n

  -- after j of them it was granted, or it is j nearer
  after : (j : ℕ) → j ≤ n → Granted j ⊎ Nearer j
  unfolding last_before grant_answer
  after zero le =
      let fits = last_fits w n tables last fits (a + 0) in
      inr (omega (arith, before-most n (following (from (a + 0))) i (following-most n (from (a + 0)) fits) h))
  after (suc j) le = step (after j (omega arith))
    where
      k : ℕ
      k = a + j

      z : table_check w n (tables k) ≡ Ok tt
      z = (waiting k (omega arith) (omega arith)).0

      f : last_check n (from k) ≡ Ok tt
      f = last_fits w n tables last fits k

      here : waits n (tables k) i ≡ true
      here = (waiting k (omega arith) (omega arith)).1

      taken : grant_check w n (tables k) (from k) ≡ Ok tt
      taken = made w n (tables k) (from k) i z f h here

      next : from (suc k) ≡ granted n (tables k) (from k)
      next = rw taken

      step : Granted j ⊎ Nearer j → Granted (suc j) ⊎ Nearer (suc j)
      step (inl g) = inl (g.0, g.1, omega (arith, g.2), g.3)
      step (inr near) =
          by_cases (ℕ_discrete i (granted n (tables k) (from k)))
          (λ e. inl (k, omega arith, omega arith, (taken, rw (taken) (sym e))))
          (λ e.
          let s : a + suc j ≡ suc k = omega arith in
          inr (rw (s, next) (omega (arith, near, nearer w n (tables k) (from k) i z f h here e))))

  -- it cannot be n nearer
  in-turn : Granted n
  in-turn = pick (after n (omega arith))
    where
      pick : Granted n ⊎ Nearer n → Granted n
      pick (inl g) = g
      pick (inr l) = absurd (omega arith)

-- fairness, an end in itself
pub bounded-waiting : BoundedWaiting
bounded-waiting = in-turn
