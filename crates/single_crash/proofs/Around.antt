-- The circle of n boards as seen from board b: who stands before it and behind it, and at which place.
-- Assumes nothing.
use mathlib.Core.Path.{◌≡◌, refl, sym, ◌∙◌}
use mathlib.Core.Logic.{◌⊎◌, inl, inr, ◌≢◌, by_cases}
use Prim.Native.Nat.{ℕ, suc, ◌+◌, ◌-◌, ◌%◌, ◌≤◌, ◌<◌}
use native.Mathlib.Decide.{dec_lt}
use native.Mathlib.Omega.{arith}
use borrow.Author.Tests.{lt-ltb, le-ltb, ne_eqb}
use Rattle.granter.specs.Grant.{no_grant, following}
use Rattle.granter.specs.Fairness.{stations_before}
use Rattle.station.proofs.WiredLaws.{place_before, place_behind}

-- the board q places behind b; the one before it; the one behind it
abbrev pub board_at : ℕ → ℕ → ℕ → ℕ
board_at n b q = (b + q) % n

abbrev pub before : ℕ → ℕ → ℕ
before n b = board_at n b (n - 1)

abbrev pub behind : ℕ → ℕ → ℕ
behind n b = board_at n b 1

-- the going round begins at board b, or at n where that is board 0
pub record BeginsAt (n b begins : ℕ) : Type 0 where
  pub below : b < n
  pub place : (begins ≡ b) ⊎ ((begins ≡ n) × (b ≡ 0))

-- wherever it begins, it is at some board
pub some-board : (n begins : ℕ) → 0 < n → begins ≤ n → (f : ℕ) × BeginsAt n f begins
some-board n begins pos le =
    by_cases (dec_lt begins n) (λ l. (begins, record { below = l; place = inl refl }))
    (λ l. (0, record { below = pos; place = inr (omega arith, refl) }))

-- i + m, going round
wrap : (n i m : ℕ) → i < n → m ≤ n → ((i + m) % n ≡ i + m) × (i + m < n) ⊎ ((i + m) % n ≡ i + m - n) × (n ≤ i + m)
wrap n i m h le = by_cases (dec_lt (i + m) n) (λ l. inl (place_before n (i + m) l, l))
    (λ l. inr (place_behind n (i + m) (omega arith) (omega arith), omega arith))

pub board-below : (n b q : ℕ) → b < n → q ≤ n → board_at n b q < n
board-below n b q h le = pick (wrap n b q h le)
  where
    pick : ((b + q) % n ≡ b + q) × (b + q < n) ⊎ ((b + q) % n ≡ b + q - n) × (n ≤ b + q) → board_at n b q < n
    pick (inl w) = omega (arith, w)
    pick (inr w) = omega (arith, w)

-- two boards have two next ones
pub next-one : (n i j : ℕ) → i < n → j < n → (i + 1) % n ≡ (j + 1) % n → i ≡ j
next-one n i j hi hj e = pick (wrap n i 1 hi (omega arith)) (wrap n j 1 hj (omega arith))
  where
    pick : ((i + 1) % n ≡ i + 1) × (i + 1 < n) ⊎ ((i + 1) % n ≡ i + 1 - n) × (n ≤ i + 1)
        → ((j + 1) % n ≡ j + 1) × (j + 1 < n) ⊎ ((j + 1) % n ≡ j + 1 - n) × (n ≤ j + 1) → i ≡ j
    pick (inl a) (inl b) = omega (arith, a.0, b.0)
    pick (inl a) (inr b) = omega (arith, a.0, b.0)
    pick (inr a) (inl b) = omega (arith, a.0, b.0)
    pick (inr a) (inr b) = omega (arith, a.0, b.0)

-- the places of the circle that begins at b
module _ {n b begins : ℕ} (from : BeginsAt n b begins) where
  abbrev place : ℕ → ℕ
  place i = stations_before n begins i

  -- by numbers: from b on, and then from 0 on
  place-is : (i : ℕ) → i < n → (b ≤ i → place i + b ≡ i) × (i < b → place i + b ≡ i + n)
  unfolding stations_before
  place-is i h = pick from.place
    where
      pick : (begins ≡ b) ⊎ ((begins ≡ n) × (b ≡ 0)) → (b ≤ i → place i + b ≡ i) × (i < b → place i + b ≡ i + n)
      pick (inl e) = rw e (λ l. rw (le-ltb i b l) (omega arith), λ l. rw (lt-ltb i b l) (omega arith))
      pick (inr e) = rw e.0 (λ l. rw (lt-ltb i n h) (omega (arith, e.1)), λ l. absurd (omega (arith, e.1)))

  pub begins-fits : begins ≤ n
  begins-fits = pick from.place
    where
      pick : (begins ≡ b) ⊎ ((begins ≡ n) × (b ≡ 0)) → begins ≤ n
      pick (inl e) = omega arith
      pick (inr e) = omega (arith, e.0)

  pub place-of : (q : ℕ) → q < n → place (board_at n b q) ≡ q
  place-of q h = pick (wrap n b q from.below (omega arith))
    where
      pick : ((b + q) % n ≡ b + q) × (b + q < n) ⊎ ((b + q) % n ≡ b + q - n) × (n ≤ b + q) → place (board_at n b q) ≡ q
      pick (inl w) = rw w.0 (omega (arith, (place-is (b + q) w.1).0 (omega arith)))
      pick (inr w) = rw w.0 (omega (arith, (place-is (b + q - n) (omega arith)).1 (omega arith)))

  -- b stands at place 0 and no other board does; the next board stands at the next place
  pub place-zero : place b ≡ 0
  place-zero = omega (arith, (place-is b from.below).0 (omega arith))

  pub place-other : (i : ℕ) → i < n → i ≢ b → 1 ≤ place i
  place-other i h d = by_cases (dec_lt i b) (λ l. omega (arith, (place-is i h).1 l)) (λ l. omega (arith, (place-is i h).0 (omega arith)))

  pub place-next : (i : ℕ) → i < n → suc (place i) < n → place ((i + 1) % n) ≡ suc (place i)
  place-next i h below = pick (wrap n i 1 h (omega arith))
    where
      pick : ((i + 1) % n ≡ i + 1) × (i + 1 < n) ⊎ ((i + 1) % n ≡ i + 1 - n) × (n ≤ i + 1) → place ((i + 1) % n) ≡ suc (place i)
      pick (inl w) =
          rw w.0 (by_cases (dec_lt (i + 1) b)
          (λ l. omega (arith, (place-is (i + 1) w.1).1 l, (place-is i h).1 (omega arith)))
          (λ l. by_cases (dec_lt i b) (λ m. absurd (omega (arith, (place-is i h).1 m)))
          (λ m. omega (arith, (place-is (i + 1) w.1).0 (omega arith), (place-is i h).0 (omega arith)))))
      pick (inr w) =
          rw w.0 (by_cases (dec_lt (i + 1 - n) b)
          (λ l. by_cases (dec_lt i b) (λ m. absurd (omega (arith, (place-is i h).1 m)))
          (λ m. omega (arith, (place-is (i + 1 - n) (omega arith)).1 l, (place-is i h).0 (omega arith))))
          (λ l. omega (arith, (place-is i h).0 (omega arith))))

-- who stands next to b
module _ (n b : ℕ) (hb : b < n) (two : 2 ≤ n) where
  pub before-below : before n b < n
  before-below = board-below n b (n - 1) hb (omega arith)

  -- the one before b has it as the next, and no other has
  before-is : ((b ≡ 0) × (before n b ≡ n - 1)) ⊎ ((1 ≤ b) × (before n b ≡ b - 1))
  before-is = pick (wrap n b (n - 1) hb (omega arith))
    where
      pick : ((b + (n - 1)) % n ≡ b + (n - 1)) × (b + (n - 1) < n) ⊎ ((b + (n - 1)) % n ≡ b + (n - 1) - n) × (n ≤ b + (n - 1))
          → ((b ≡ 0) × (before n b ≡ n - 1)) ⊎ ((1 ≤ b) × (before n b ≡ b - 1))
      pick (inl w) = inl (omega arith, w.0 ∙ omega arith)
      pick (inr w) = inr (omega arith, w.0 ∙ omega arith)

  pub before-next : (before n b + 1) % n ≡ b
  before-next = pick before-is
    where
      pick : ((b ≡ 0) × (before n b ≡ n - 1)) ⊎ ((1 ≤ b) × (before n b ≡ b - 1)) → (before n b + 1) % n ≡ b
      pick (inl e) = let x : before n b + 1 ≡ n = omega (arith, e.1) in rw x (place_behind n n (omega arith) (omega arith) ∙ omega (arith, e.0))
      pick (inr e) = let x : before n b + 1 ≡ b = omega (arith, e) in rw x (place_before n b hb)

  pub other-next : (i : ℕ) → i < n → i ≢ before n b → (i + 1) % n ≢ b
  other-next i h d e = pick (wrap n i 1 h (omega arith)) before-is
    where
      pick : ((i + 1) % n ≡ i + 1) × (i + 1 < n) ⊎ ((i + 1) % n ≡ i + 1 - n) × (n ≤ i + 1)
          → ((b ≡ 0) × (before n b ≡ n - 1)) ⊎ ((1 ≤ b) × (before n b ≡ b - 1)) → ⊥
      pick (inl w) (inl f) = omega (arith, w.0)
      pick (inl w) (inr f) = d (omega (arith, w.0, f.1))
      pick (inr w) (inl f) = d (omega (arith, w.1, f.1))
      pick (inr w) (inr f) = omega (arith, w.0)

  -- two places on from it stands the one behind b, which is a third board
  pub before-second : (before n b + 2) % n ≡ behind n b
  before-second = pick before-is
    where
      pick : ((b ≡ 0) × (before n b ≡ n - 1)) ⊎ ((1 ≤ b) × (before n b ≡ b - 1)) → (before n b + 2) % n ≡ behind n b
      pick (inl e) =
          let x : before n b + 2 ≡ n + 1 = omega (arith, e.1) in
          let y : b + 1 ≡ 1 = omega (arith, e.0) in
          rw (x, y) (place_behind n (n + 1) (omega arith) (omega arith) ∙ (omega arith ∙ sym (place_before n 1 (omega arith))))
      pick (inr e) = let x : before n b + 2 ≡ b + 1 = omega (arith, e) in rw x refl

  pub before-apart : before n b ≢ b
  before-apart e = pick before-is
    where
      pick : ((b ≡ 0) × (before n b ≡ n - 1)) ⊎ ((1 ≤ b) × (before n b ≡ b - 1)) → ⊥
      pick (inl f) = omega (arith, f.1)
      pick (inr f) = omega (arith, f.1)

  pub behind-below : behind n b < n
  behind-below = board-below n b 1 hb (omega arith)

  pub behind-apart : behind n b ≢ b
  behind-apart e = pick (wrap n b 1 hb (omega arith))
    where
      pick : ((b + 1) % n ≡ b + 1) × (b + 1 < n) ⊎ ((b + 1) % n ≡ b + 1 - n) × (n ≤ b + 1) → ⊥
      pick (inl w) = omega (arith, w.0)
      pick (inr w) = omega (arith, w.0)

  -- where the one before b is the last granted, the going round begins at b
  pub begins-at : n ≤ 64 → BeginsAt n b (following (before n b))
  unfolding following
  begins-at top = rw (ne_eqb (before n b) no_grant (omega (arith, before-below))) (pick before-is)
    where
      pick : ((b ≡ 0) × (before n b ≡ n - 1)) ⊎ ((1 ≤ b) × (before n b ≡ b - 1)) → BeginsAt n b (before n b + 1)
      pick (inl e) = record { below = hb; place = inr (omega (arith, e.1), e.0) }
      pick (inr e) = record { below = hb; place = inl (omega (arith, e)) }

-- of three boards or more those before and behind b are two
pub both-apart : (n b : ℕ) → b < n → 3 ≤ n → before n b ≢ behind n b
both-apart n b hb three e = pick (wrap n b 1 hb (omega arith)) (before-is n b hb (omega arith))
  where
    pick : ((b + 1) % n ≡ b + 1) × (b + 1 < n) ⊎ ((b + 1) % n ≡ b + 1 - n) × (n ≤ b + 1)
        → ((b ≡ 0) × (before n b ≡ n - 1)) ⊎ ((1 ≤ b) × (before n b ≡ b - 1)) → ⊥
    pick (inl w) (inl f) = omega (arith, w.0, f.1)
    pick (inl w) (inr f) = omega (arith, w.0, f.1)
    pick (inr w) (inl f) = omega (arith, w.0, f.1)
    pick (inr w) (inr f) = omega (arith, w.0, f.1)
