-- The law of sweeps over numbers: in a round the grants go round again and again, in the order in which they began.
-- Assumes nothing.
use mathlib.Core.Path.{◌≡◌, refl}
use mathlib.Core.Logic.{◌≢◌, by_cases}
use mathlib.Core.Bool.{Bool, true}
use Prim.Native.Nat.{ℕ, suc, ◌+◌, ◌≤◌, ◌<◌}
use native.Mathlib.Decide.{dec_lt, ℕ_discrete}
use native.Mathlib.Numerals.{add-one}
use native.Mathlib.Omega.{arith}
use borrow.Author.Tests.{lt-ltb, le-ltb, ne_eqb}
use Rattle.granter.specs.Grant.{no_grant, following}
use Rattle.granter.specs.Fairness.{stations_before}

-- where a round stands that began at place `begins` of the circle of n stations: `wait` says who waits, and `made` how many turns each has made.
-- In sweep `sweep` the going round has passed `passed` places
pub record InSweep (n begins : ℕ) (wait : ℕ → Bool) (made : ℕ → ℕ) (last : ℕ) : Type 0 where
  pub sweep : ℕ
  pub passed : ℕ
  -- the grant looks first at the places that it has not passed, and then from the first one on
  pub near : (i : ℕ) → i < n → passed ≤ stations_before n begins i → stations_before n (following last) i + passed ≡ stations_before n begins i
  pub far : (i : ℕ) → i < n → stations_before n begins i < passed
      → stations_before n (following last) i + passed ≡ stations_before n begins i + n
  -- who waits at a place not passed has made a turn less than who waits at one passed; and nobody has made more
  pub to_come : (i : ℕ) → i < n → wait i ≡ true → passed ≤ stations_before n begins i → suc (made i) ≡ sweep
  pub done : (i : ℕ) → i < n → wait i ≡ true → stations_before n begins i < passed → made i ≡ sweep
  pub most : (i : ℕ) → i < n → made i ≤ sweep

-- every place is one of n, and each is one station's
pub place-below : (n b i : ℕ) → b ≤ n → i < n → stations_before n b i < n
unfolding stations_before
place-below n b i hb hi = by_cases (dec_lt i b) (λ l. rw (lt-ltb i b l) (omega arith)) (λ l. rw (le-ltb i b (omega arith)) (omega arith))

pub place-one : (n b i j : ℕ) → b ≤ n → i < n → j < n → stations_before n b i ≡ stations_before n b j → i ≡ j
unfolding stations_before
place-one n b i j hb hi hj e =
    by_cases (dec_lt i b) (λ l. by_cases (dec_lt j b)
    (λ m. omega (arith, rw (lt-ltb i b l, lt-ltb j b m) at e))
    (λ m. omega (arith, rw (lt-ltb i b l, le-ltb j b (omega arith)) at e)))
    (λ l. by_cases (dec_lt j b)
    (λ m. omega (arith, rw (le-ltb i b (omega arith), lt-ltb j b m) at e))
    (λ m. omega (arith, rw (le-ltb i b (omega arith), le-ltb j b (omega arith)) at e)))

-- where a round begins: all places are passed, and no turn was made
pub sweep-start : (n last : ℕ) (wait : ℕ → Bool) (made : ℕ → ℕ) → following last ≤ n → ((i : ℕ) → i < n → made i ≡ 0)
    → InSweep n (following last) wait made last
sweep-start n last wait made fits none = record {
  sweep = 0;
  passed = n;
  near = λ i h l. absurd (omega (arith, place-below n (following last) i fits h));
  far = λ i h l. refl;
  to_come = λ i h w l. absurd (omega (arith, place-below n (following last) i fits h));
  done = λ i h w l. none i h;
  most = λ i h. omega (arith, none i h);
}

-- station g is granted: it waits, and no other that waits comes before it, going round from behind the last granted one
pub record Next (n : ℕ) (wait : ℕ → Bool) (last g : ℕ) : Type 0 where
  pub below : g < n
  pub waiting : wait g ≡ true
  pub nearest : (i : ℕ) → i < n → wait i ≡ true → stations_before n (following last) g ≤ stations_before n (following last) i

-- and makes its turn: nobody comes to wait by it
pub record Moved (n : ℕ) (wait wait' : ℕ → Bool) (made made' : ℕ → ℕ) (g : ℕ) : Type 0 where
  pub waited : (i : ℕ) → i < n → wait' i ≡ true → wait i ≡ true
  pub own : made' g ≡ suc (made g)
  pub others : (i : ℕ) → i < n → i ≢ g → made' i ≡ made i

-- the going round from behind station g, by that from place b on
behind : (n b g i : ℕ) → b ≤ n → g < n → i < n → g ≢ no_grant
    → (stations_before n b g < stations_before n b i → stations_before n (following g) i + suc (stations_before n b g) ≡ stations_before n b i)
    × (stations_before n b i ≤ stations_before n b g → stations_before n (following g) i + suc (stations_before n b g) ≡ stations_before n b i + n)
unfolding following stations_before
behind n b g i hb hg hi apart =
    rw (ne_eqb g no_grant apart, add-one g)
    (by_cases (dec_lt i b)
    (λ p. by_cases (dec_lt g b)
    (λ q. by_cases (dec_lt i (suc g))
    (λ r. rw (lt-ltb i b p, lt-ltb g b q, lt-ltb i (suc g) r) (λ l. omega arith, λ l. omega arith))
    (λ r. rw (lt-ltb i b p, lt-ltb g b q, le-ltb i (suc g) (omega arith)) (λ l. omega arith, λ l. omega arith)))
    (λ q. rw (lt-ltb i b p, le-ltb g b (omega arith), lt-ltb i (suc g) (omega arith)) (λ l. omega arith, λ l. omega arith)))
    (λ p. by_cases (dec_lt g b)
    (λ q. rw (le-ltb i b (omega arith), lt-ltb g b q, le-ltb i (suc g) (omega arith)) (λ l. omega arith, λ l. omega arith))
    (λ q. by_cases (dec_lt i (suc g))
    (λ r. rw (le-ltb i b (omega arith), le-ltb g b (omega arith), lt-ltb i (suc g) r) (λ l. omega arith, λ l. omega arith))
    (λ r. rw (le-ltb i b (omega arith), le-ltb g b (omega arith), le-ltb i (suc g) (omega arith)) (λ l. omega arith, λ l. omega arith)))))

module _ {n begins : ℕ} {wait : ℕ → Bool} {made : ℕ → ℕ} {last g : ℕ} (fits : begins ≤ n) (s : InSweep n begins wait made last)
    (next : Next n wait last g) where
  abbrev place : ℕ → ℕ
  place i = stations_before n begins i

  -- where the places not passed have nobody that waits, nobody does
  all_passed : place g < s.passed → (i : ℕ) → i < n → wait i ≡ true → place i < s.passed
  all_passed l i h w =
      by_cases (dec_lt (place i) s.passed) (λ m. m)
      (λ m. absurd (omega (arith, s.near i h (omega arith), s.far g next.below l, next.nearest i h w, place-below n begins i fits h)))

  -- the granted one has made the fewest turns of those that wait
  pub sweep-fewest : (i : ℕ) → i < n → wait i ≡ true → made g ≤ made i
  sweep-fewest i h w =
      by_cases (dec_lt (place g) s.passed)
      (λ l. omega (arith, s.done g next.below next.waiting l, s.done i h w (all_passed l i h w)))
      (λ l. by_cases (dec_lt (place i) s.passed)
      (λ m. omega (arith, s.to_come g next.below next.waiting (omega arith), s.done i h w m))
      (λ m. omega (arith, s.to_come g next.below next.waiting (omega arith), s.to_come i h w (omega arith))))

  -- and comes first among those that have made as many
  pub sweep-first : (i : ℕ) → i < n → wait i ≡ true → made g ≡ made i → place g ≤ place i
  sweep-first i h w e =
      by_cases (dec_lt (place g) s.passed)
      (λ l. omega (arith, s.far g next.below l, s.far i h (all_passed l i h w), next.nearest i h w))
      (λ l. by_cases (dec_lt (place i) s.passed)
      (λ m. absurd (omega (arith, s.to_come g next.below next.waiting (omega arith), s.done i h w m)))
      (λ m. omega (arith, s.near g next.below (omega arith), s.near i h (omega arith), next.nearest i h w)))

  -- nobody has made more than a turn more than the granted one
  pub sweep-most : (i : ℕ) → i < n → made i ≤ suc (made g)
  sweep-most i h =
      by_cases (dec_lt (place g) s.passed)
      (λ l. omega (arith, s.done g next.below next.waiting l, s.most i h))
      (λ l. omega (arith, s.to_come g next.below next.waiting (omega arith), s.most i h))

  -- of those that wait, who stands behind it has made as many, and who stands before it one more
  as-many : (i : ℕ) → i < n → wait i ≡ true → place g < place i → made i ≡ made g
  as-many i h w l =
      by_cases (dec_lt (place g) s.passed)
      (λ m. omega (arith, s.done g next.below next.waiting m, s.done i h w (all_passed m i h w)))
      (λ m. omega (arith, s.to_come g next.below next.waiting (omega arith), s.to_come i h w (omega arith)))

  one-more : (i : ℕ) → i < n → wait i ≡ true → i ≢ g → place i ≤ place g → made i ≡ suc (made g)
  one-more i h w d le =
      let before : place i ≢ place g = λ e. d (place-one n begins i g fits h next.below e) in
      by_cases (dec_lt (place i) s.passed)
      (λ l. by_cases (dec_lt (place g) s.passed)
      (λ m. absurd (omega (arith, before, s.far g next.below m, s.far i h l, next.nearest i h w)))
      (λ m. omega (arith, s.to_come g next.below next.waiting (omega arith), s.done i h w l)))
      (λ l. absurd (omega (arith, before, s.near g next.below (omega arith), s.near i h (omega arith), next.nearest i h w)))

  -- its turn keeps it so
  pub sweep-next : {wait' : ℕ → Bool} {made' : ℕ → ℕ} → n ≤ 64 → Moved n wait wait' made made' g → InSweep n begins wait' made' g
  sweep-next top moved = record {
    sweep = suc (made g);
    passed = suc (place g);
    near = λ i h l. (behind n begins g i fits next.below h (omega arith)).0 (omega arith);
    far = λ i h l. (behind n begins g i fits next.below h (omega arith)).1 (omega arith);
    to_come = λ i h w l. omega (arith, moved.others i h (λ e. omega (arith, rw e at l)), as-many i h (moved.waited i h w) l);
    done = λ i h w l. by_cases (ℕ_discrete i g) (λ e. rw e moved.own)
        (λ d. omega (arith, moved.others i h d, one-more i h (moved.waited i h w) d (omega arith)));
    most = λ i h. by_cases (ℕ_discrete i g) (λ e. rw e (omega (arith, moved.own))) (λ d. omega (arith, moved.others i h d, sweep-most i h));
  }

-- and so does whatever makes fewer wait
pub sweep-fewer : (n begins : ℕ) (wait wait' : ℕ → Bool) (made made' : ℕ → ℕ) (last : ℕ) → ((i : ℕ) → i < n → wait' i ≡ true → wait i ≡ true)
    → ((i : ℕ) → i < n → made' i ≡ made i) → InSweep n begins wait made last → InSweep n begins wait' made' last
sweep-fewer n begins wait wait' made made' last waited same s = record {
  sweep = s.sweep;
  passed = s.passed;
  near = s.near;
  far = s.far;
  to_come = λ i h w l. omega (arith, same i h, s.to_come i h (waited i h w) l);
  done = λ i h w l. omega (arith, same i h, s.done i h (waited i h w) l);
  most = λ i h. omega (arith, same i h, s.most i h);
}
