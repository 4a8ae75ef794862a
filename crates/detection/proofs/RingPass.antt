-- What live stations have done in their passes of a round on the ring, and what the round gives where it closes. A live set, rows, next distances
-- and tests made over numbers, nothing else; positions are those of Circle.antt.
-- Assumes nothing.
use mathlib.Core.Path.{◌≡◌, sym, ap, ◌∙◌}
use mathlib.Core.Logic.{◌⊎◌, inl, inr, ◌≢◌, by_cases}
use mathlib.Core.Bool.{Bool, true, false, true≢false}
use Prim.Native.Nat.{ℕ, suc, ◌+◌, ◌-◌, ◌%◌, ◌≤◌, ◌<◌}
use native.Mathlib.Nat.{mod-lt, mod-eq_of_lt, mod-add-mod, add-mod_right}
use native.Mathlib.Decide.{dec_lt, ℕ_discrete}
use native.Mathlib.Omega.{arith}
use Rattle.lists.proofs.BoolLaws.{by_bool}
use Rattle.detection.proofs.Circle.{NextLive, RingRound}

-- station i, whose next distance is q, has found that nobody before it is live
pub record Walking (n : ℕ) (live : ℕ → Bool) (row : ℕ → ℕ → Type 0) (i q made : ℕ) : Type 0 where
  pub tests : suc made ≡ q
  pub high : q ≤ n
  pub dead : (k : ℕ) → i < k → k < i + q → live (k % n) ≡ false
  pub found : (k : ℕ) → i < k → k < i + q → row i (k % n)

-- it has exchanged with the next live station, which stands at position b; `old` has the rows at the round's start
pub record Exchanged (n : ℕ) (live : ℕ → Bool) (old row : ℕ → ℕ → Type 0) (i b : ℕ) : Type 0 where
  pub next : NextLive n live i b
  pub found : (k : ℕ) → i < k → k < b → row i (k % n) × row (b % n) (k % n)
  pub joined : (j : ℕ) → j < n → (old i j → row (b % n) j) × (old (b % n) j → row i j)

-- the next live position after a live one is one only
next-same : (n : ℕ) (live : ℕ → Bool) (i a b : ℕ) → NextLive n live i a → NextLive n live i b → a ≡ b
next-same n live i a b f g =
    by_cases (dec_lt a b) (λ l. absurd (true≢false (sym f.to ∙ g.between a f.later l)))
    (λ l. by_cases (dec_lt b a) (λ m. absurd (true≢false (sym g.to ∙ f.between b g.later m))) (λ m. omega arith))

-- what a closed round gives of the rows at its start, `old`, and those at its end, `row`: each live station has exchanged with the next one
pub record RingStep (n : ℕ) (live : ℕ → Bool) (old row : ℕ → ℕ → Type 0) : Type 0 where
  pub keeps : (k j : ℕ) → k < n → j < n → old k j → row k j
  pub met : (i b : ℕ) → i < n → NextLive n live i b → Exchanged n live old row i b

-- what is known within a round, by next distances and tests made
pub record RingKnows (n : ℕ) (live : ℕ → Bool) (old row : ℕ → ℕ → Type 0) (next made : ℕ → ℕ) : Type 0 where
  pub grown : (k j : ℕ) → k < n → j < n → old k j → row k j
  pub passes : (i : ℕ) → i < n → live i ≡ true
      → Walking n live row i (next i) (made i) ⊎ ((next i ≡ n) × Exchanged n live old row i (i + made i))
  pub rest : (i : ℕ) → i < n → live i ≡ false → made i ≡ 0

-- where a round starts
pub ring-start : (n : ℕ) (live : ℕ → Bool) (row : ℕ → ℕ → Type 0) (next made : ℕ → ℕ) → 0 < n → ((i : ℕ) → i < n → (next i ≡ 1) × (made i ≡ 0))
    → RingKnows n live row row next made
ring-start n live row next made pos fresh = record {
  grown = λ k j h g r. r;
  passes = λ i h l. inl (record {
    tests = omega (arith, fresh i h);
    high = omega (arith, fresh i h);
    dead = λ k a b. absurd (omega (arith, fresh i h));
    found = λ k a b. absurd (omega (arith, fresh i h));
  });
  rest = λ i h l. (fresh i h).1;
}

-- a turn of the live station i, from rows, next distances and tests made to those after it
pub record RingTurn (n : ℕ) (live : ℕ → Bool) (row row' : ℕ → ℕ → Type 0) (next next' made made' : ℕ → ℕ) (i : ℕ) : Type 0 where
  pub grows : (k j : ℕ) → k < n → j < n → row k j → row' k j
  pub others : (k : ℕ) → k ≢ i → (next' k ≡ next k) × (made' k ≡ made k)
  -- at a next distance below n it tests the station there
  pub tests : next i < n → made' i ≡ suc (made i)
  pub finds : next i < n → live ((i + next i) % n) ≡ false → (next' i ≡ suc (next i)) × row' i ((i + next i) % n)
  pub exchanges : next i < n → live ((i + next i) % n) ≡ true
      → (next' i ≡ n) × ((j : ℕ) → j < n → (row i j → row' ((i + next i) % n) j) × (row ((i + next i) % n) j → row' i j))
  -- else it finishes its pass
  pub finishes : n ≤ next i → (next' i ≡ n) × (made' i ≡ made i)

-- with larger rows
module _ (n : ℕ) (live : ℕ → Bool) (row row' : ℕ → ℕ → Type 0) (grows : (k j : ℕ) → k < n → j < n → row k j → row' k j) (i : ℕ) (hi : i < n) where
  walking-later : (q made : ℕ) → Walking n live row i q made → Walking n live row' i q made
  walking-later q made w =
      record { tests = w.tests; high = w.high; dead = w.dead; found = λ k a b. grows i (k % n) hi (mod-lt k (omega arith)) (w.found k a b) }

  exchanged-later : (old : ℕ → ℕ → Type 0) (b : ℕ) → Exchanged n live old row i b → Exchanged n live old row' i b
  exchanged-later old b x = record {
    next = x.next;
    found = λ k l m.
        let c : k % n < n = mod-lt k (omega arith) in
        (grows i (k % n) hi c (x.found k l m).0, grows (b % n) (k % n) (mod-lt b (omega arith)) c (x.found k l m).1);
    joined = λ j h. (λ r. grows (b % n) j (mod-lt b (omega arith)) h ((x.joined j h).0 r), λ r. grows i j hi h ((x.joined j h).1 r));
  }

-- what a closed round gives is given of larger rows too
pub step-later : (n : ℕ) (live : ℕ → Bool) (old row row' : ℕ → ℕ → Type 0) → ((k j : ℕ) → k < n → j < n → row k j → row' k j)
    → RingStep n live old row → RingStep n live old row'
step-later n live old row row' grows step = record {
  keeps = λ k j h g r. grows k j h g (step.keeps k j h g r);
  met = λ i b h next. exchanged-later n live row row' grows i h old b (step.met i b h next);
}

-- a turn keeps what is known
module _ (n : ℕ) (live : ℕ → Bool) (old row row' : ℕ → ℕ → Type 0) (next next' made made' : ℕ → ℕ) (i : ℕ) (hi : i < n) (alive : live i ≡ true)
    (turn : RingTurn n live row row' next next' made made' i) (know : RingKnows n live old row next made) where
  abbrev q : ℕ
  q = next i

  abbrev x : ℕ
  x = (i + q) % n

  -- the tested station is not live
  walks-on : Walking n live row i q (made i) → q < n → live x ≡ false → Walking n live row' i (next' i) (made' i)
  walks-on w below f =
      let more = walking-later n live row row' turn.grows i hi q (made i) w in
      let up : next' i ≡ suc q = (turn.finds below f).0 in
      record {
        tests = omega (arith, turn.tests below, w.tests);
        high = omega arith;
        dead = λ k a b. by_cases (ℕ_discrete k (i + q)) (λ e. rw e f) (λ e. w.dead k a (omega arith));
        found = λ k a b. by_cases (ℕ_discrete k (i + q)) (λ e. rw e (turn.finds below f).1) (λ e. more.found k a (omega arith));
      }

  -- it is live
  meets : Walking n live row i q (made i) → q < n → live x ≡ true → Exchanged n live old row' i (i + q)
  meets w below l =
      let got = (turn.exchanges below l).1 in
      record {
        next = record { later = omega (arith, w.tests); from = rw (mod-eq_of_lt hi) alive; to = l; between = w.dead };
        found = λ k a b.
            let c : k % n < n = mod-lt k (omega arith) in
            (turn.grows i (k % n) hi c (w.found k a b), (got (k % n) c).0 (w.found k a b));
        joined = λ j h. (λ r. (got j h).0 (know.grown i j hi h r), λ r. (got j h).1 (know.grown x j (mod-lt (i + q) (omega arith)) h r));
      }

  own : Walking n live row i q (made i) ⊎ ((q ≡ n) × Exchanged n live old row i (i + made i))
      → Walking n live row' i (next' i) (made' i) ⊎ ((next' i ≡ n) × Exchanged n live old row' i (i + made' i))
  own (inl w) =
      by_cases (dec_lt q n)
      (λ below.
      by_bool (live x)
      (λ l.
      let b : i + made' i ≡ i + q = omega (arith, turn.tests below, w.tests) in
      inr ((turn.exchanges below l).0, rw b (meets w below l)))
      (λ f. inl (walks-on w below f)))
      (λ over.
      let ended = turn.finishes (omega arith) in
      let same : next' i ≡ q = omega (arith, w.high) in
      inl (rw (same, ended.1) (walking-later n live row row' turn.grows i hi q (made i) w)))
  own (inr e) =
      let ended = turn.finishes (omega (arith, e.0)) in
      inr (ended.0, rw ended.1 (exchanged-later n live row row' turn.grows i hi old (i + made i) e.1))

  other : (k : ℕ) → k < n → Walking n live row k (next k) (made k) ⊎ ((next k ≡ n) × Exchanged n live old row k (k + made k))
      → Walking n live row' k (next k) (made k) ⊎ ((next k ≡ n) × Exchanged n live old row' k (k + made k))
  other k h (inl w) = inl (walking-later n live row row' turn.grows k h (next k) (made k) w)
  other k h (inr e) = inr (e.0, exchanged-later n live row row' turn.grows k h old (k + made k) e.1)

  pub ring-turn : RingKnows n live old row' next' made'
  ring-turn = record {
    grown = λ k j h g r. turn.grows k j h g (know.grown k j h g r);
    passes = λ k h l. by_cases (ℕ_discrete k i) (λ e. rw e (own (know.passes i hi alive)))
        (λ e.
        let same = turn.others k e in
        rw (same.0, same.1) (other k h (know.passes k h l)));
    rest = λ k h f. by_cases (ℕ_discrete k i) (λ e. absurd (true≢false (sym alive ∙ (rw e at f)))) (λ e. (turn.others k e).1 ∙ know.rest k h f);
  }

-- where each live station has another beside it and has come to next distance n
module _ (n : ℕ) (live : ℕ → Bool) (old row : ℕ → ℕ → Type 0) (next made : ℕ → ℕ) (know : RingKnows n live old row next made)
    (company : (i : ℕ) → i < n → live i ≡ true → (j : ℕ) × (j < n) × (i ≢ j) × (live j ≡ true))
    (ended : (i : ℕ) → i < n → live i ≡ true → next i ≡ n) where
  exchanged : (i : ℕ) → i < n → live i ≡ true → Exchanged n live old row i (i + made i)
  exchanged i h l = go (know.passes i h l)
    where
      go : Walking n live row i (next i) (made i) ⊎ ((next i ≡ n) × Exchanged n live old row i (i + made i)) → Exchanged n live old row i (i + made i)
      go (inr e) = e.1
      go (inl w) =
          let o = company i h l in
          by_cases (dec_lt i o.0)
          (λ b. absurd (true≢false (sym o.3 ∙ (rw (mod-eq_of_lt o.1) at (w.dead o.0 b (omega (arith, ended i h l, o.1)))))))
          (λ b.
          let apart : ¬ (i ≡ o.0) = o.2 in
          let back = add-mod_right o.0 n ∙ mod-eq_of_lt o.1 in
          absurd (true≢false (sym o.3 ∙ (rw back at (w.dead (o.0 + n) (omega (arith, o.1)) (omega (arith, ended i h l, o.1)))))))

  -- what the round gives
  pub ring-step : RingStep n live old row
  ring-step = record {
    keeps = know.grown;
    met = λ i b h next.
        let x = exchanged i h (rw (mod-eq_of_lt h) at next.from) in
        rw (next-same n live i _ _ x.next next) at x;
  }

  -- each live station has made a test for each place up to the next live one
  pub ring-made : (i b : ℕ) → i < n → NextLive n live i b → made i ≡ b - i
  ring-made i b h next =
      let same = next-same n live i _ _ (exchanged i h (rw (mod-eq_of_lt h) at next.from)).next next in
      omega arith

-- from a station's number to any of its positions
place : (n a k : ℕ) → a ≤ k → (a % n + (k - a)) % n ≡ k % n
place n a k l = let e : a + (k - a) ≡ k = omega arith in mod-add-mod a n (k - a) ∙ ap (λ (x : ℕ). x % n) e

next-shift : (n : ℕ) (live : ℕ → Bool) (a b : ℕ) → 0 < n → NextLive n live a b → NextLive n live (a % n) (a % n + (b - a))
next-shift n live a b pos next = record {
  later = omega (arith, next.later);
  from = rw (mod-eq_of_lt (mod-lt a pos)) next.from;
  to = rw (place n a b (omega (arith, next.later))) next.to;
  between = λ k lo hi.
      let y : ℕ = a + (k - a % n) in
      let e : a % n + (y - a) ≡ k = omega arith in
      rw (← e, place n a y (omega arith)) (next.between y (omega arith) (omega (arith, next.later)));
}

-- absent numbers suspect and are suspected; `rows q` has the rows where round q starts
abbrev pub Among : ℕ → (ℕ → ℕ → ℕ → Type 0) → ℕ → ℕ → ℕ → Type 0
Among n rows q i j = i < n → j < n → rows q i j

-- a closed round gives what RingSpread.antt supposes of it
module _ (n : ℕ) (live : ℕ → Bool) (rows : ℕ → ℕ → ℕ → Type 0) (r : ℕ) (pos : 0 < n) (step : RingStep n live (rows r) (rows (suc r))) where
  module _ (a b : ℕ) (next : NextLive n live a b) where
    same : (a % n + (b - a)) % n ≡ b % n
    same = place n a b (omega (arith, next.later))

    at-place : Exchanged n live (rows r) (rows (suc r)) (a % n) (a % n + (b - a))
    at-place = step.met (a % n) (a % n + (b - a)) (mod-lt a pos) (next-shift n live a b pos next)

    finds-at : (k : ℕ) → a < k → k < b → Among n rows (suc r) (a % n) (k % n) × Among n rows (suc r) (b % n) (k % n)
    finds-at k lo hi =
        let got = at-place.found (a % n + (k - a)) (omega arith) (omega arith) in
        let here = rw (same, place n a k (omega arith)) at got in
        (λ h g. here.0, λ h g. here.1)

    tells-at : (j : ℕ) → Among n rows r (a % n) j → Among n rows (suc r) (b % n) j
    tells-at j had h g = (rw same at (at-place.joined j g).0) (had (mod-lt a pos) g)

    hears-at : (j : ℕ) → Among n rows r (b % n) j → Among n rows (suc r) (a % n) j
    hears-at j had h g = (rw same at (at-place.joined j g).1) (had (mod-lt b pos) g)

  pub ring-round : RingRound n live (Among n rows) r
  ring-round = record {
    keeps = λ i j had h g. step.keeps i j h g (had h g);
    finds = λ a b k next lo hi. finds-at a b next k lo hi;
    tells = λ a b j next. tells-at a b next j;
    hears = λ a b j next. hears-at a b next j;
  }
