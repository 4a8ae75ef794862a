-- How what one live station suspects comes to the others near it, round by round.
-- Assumes nothing.
use mathlib.Core.Path.{◌≡◌, sym, ◌∙◌}
use mathlib.Core.Logic.{by_cases}
use mathlib.Core.Bool.{Bool, true, false, true≢false}
use Prim.Native.Nat.{ℕ, zero, suc, ◌+◌, ◌≤◌, ◌<◌}
use native.Mathlib.Nat.{add-zero, add-suc}
use native.Mathlib.Decide.{dec_lt, le_ind}
use native.Mathlib.Omega.{arith}
use lib.Bits.{bit_xor, xor_comm}
use Rattle.lists.proofs.Xor.{Near, xor-cancel}
use Rattle.detection.proofs.Near.{Member, Ahead, Parting, same, apart, near-dec, near-zero}
use Rattle.detection.proofs.Near.{member-sym, member-distance, member-first, members-near, parting}
use Rattle.detection.proofs.Pass.{InPass, had, hear, first-tests, lift, Round}
use Rattle.detection.proofs.Latency.{spread}
use Rattle.detection.proofs.Leaders.{Dead, Leads, leader, dead-ahead, Aware, leader-tests}

module _ (live : ℕ → Bool) (rows : ℕ → ℕ → ℕ → Type 0) where
  -- from round q on every live station is aware up to s
  abbrev pub AllAware : ℕ → ℕ → Type 0
  AllAware q s = (r i : ℕ) → q ≤ r → live i ≡ true → Aware live (rows r) i s

  -- each live station near at p to g knows j in its pass of round q, through the levels up to p
  abbrev pub InPasses : ℕ → ℕ → ℕ → ℕ → Type 0
  InPasses g j q p = (f : ℕ) → live f ≡ true → Near p f g → InPass live (rows q) f p j

  -- each live station near at p to g suspects j at the start of round q
  abbrev pub InRows : ℕ → ℕ → ℕ → ℕ → Type 0
  InRows g j q p = (f : ℕ) → live f ≡ true → Near p f g → rows q f j

  -- aware later, and up to a lower level
  pub weaker : (q r p s : ℕ) → q ≤ r → p ≤ s → AllAware q s → AllAware r p
  weaker q r p s lq l aware k i lk t h j lh = aware k i (omega arith) t h j (omega arith)

  module _ (R : (q : ℕ) → Round live (rows q) (rows (suc q))) where
    -- rows grow
    pub later : (q r i j : ℕ) → q ≤ r → live i ≡ true → rows q i j → rows r i j
    later q r i j l t known = le_ind (λ (k : ℕ). rows k i j) known (λ k a now. (R k).keeps i 0 j t (had now)) r l

    -- what is in the rows is known in the passes
    next : (g j q p : ℕ) → InRows g j q p → InPasses g j q p
    next g j q p row f t n = lift 0 p (omega arith) (had (row f t n))

    -- what is known in the passes up to level p is in the rows up to level p + 1 a round later: leaders tell the others
    step : (g j q p : ℕ) → live g ≡ true → AllAware q p → InPasses g j q p → InRows g j (suc q) (suc p)
    step g j q p tg aware pass f t n = by_cases (near-dec p f g) (λ m. (R q).keeps f p j t (pass f t m)) (λ m. told (n, m))
      where
        told : Member p f g → rows (suc q) f j
        told m =
            let y = leader live p f g m tg in
            let lead = y.1 in
            let asks = leader-tests live (rows q) p f y.0 lead (aware q y.0 (omega arith) lead.alive) in
            (R q).pushes y.0 p p f j (omega arith) lead.alive t asks (pass y.0 lead.alive (members-near p f y.0 g lead.member m))

    -- what g suspects the station at distance 1 hears in the same round
    start : (g j q : ℕ) → live g ≡ true → rows q g j → InPasses g j q 1
    start g j q tg r f t n =
        by_cases (near-dec 0 f g) (λ m. let e : f ≡ g = near-zero f g m in lift 0 1 (omega arith) (rw e (had r))) (λ m. asks (n, m))
      where
        asks : Member 0 f g → InPass live (rows q) f 1 j
        asks m =
            let back = member-sym 0 f g m in
            hear (first-tests f 0 g back (omega (arith, (member-distance 0 g f).0 back))) tg r

    -- both together: two levels in one round
    two : (g j q : ℕ) → live g ≡ true → AllAware q 1 → rows q g j → InRows g j (suc q) 2
    two g j q tg aware r = step g j q 1 tg aware (start g j q tg r)

    -- a live y with a dead group at level 1 or 2 leads the group of each live g near at 2 to it, and hears what g suspects
    hears-near : (g j q t y : ℕ) → live g ≡ true → rows q g j → AllAware q 1 → live y ≡ true → Near 2 y g → t < 2 → Dead live t y
        → InPass live (rows q) y 2 j
    hears-near g j q t y tg r aware ty n lt dead = go (parting 2 y g n)
      where
        -- the dead group is at another level than g's
        other : (u : ℕ) → Member u y g → ¬ (u ≡ t)
        other u m e = true≢false (sym tg ∙ dead g (rw e at m))

        ahead : (u z : ℕ) → u < 2 → Member u y g → Ahead u g y z → Parting u y z → live z ≡ false
        ahead u z l m a (same e) = absurd (omega (arith, rw e at a.1))
        ahead u z l m a (apart v k mz) = let e : v ≡ t = omega (arith, other u m) in dead z (rw e at mz)

        lead : (u : ℕ) → u < 2 → Member u y g → Leads live u g y
        lead u l m =
            let back = member-sym u y g m in
            record { alive = ty; member = back; first = λ z a. ahead u z l m a (parting u y z (members-near u g y z back a.0)) }

        go : Parting 2 y g → InPass live (rows q) y 2 j
        go (same e) = lift 0 2 (omega arith) (had (rw e r))
        go (apart u l m) =
            let own = weaker q q u 1 (omega arith) (omega arith) aware q y (omega arith) ty in
            lift (suc u) 2 l (hear (leader-tests live (rows q) u g y (lead u l m) own) tg r)

    -- three levels in two rounds: the leader y of the group of f hears of j and tells f in the first round, or f is the first in the group
    -- of y and hears it in the second
    module _ (g j q : ℕ) (tg : live g ≡ true) (aware : AllAware q 2) (r : rows q g j) (f : ℕ) (t : live f ≡ true) where
      one : AllAware q 1
      one = weaker q q 1 2 (omega arith) (omega arith) aware

      tells : (y : ℕ) → Leads live 2 f y → Near 2 y g → 4 < bit_xor f y → InPass live (rows (suc q)) f 3 j
      tells y lead n l =
          let d = dead-ahead live 2 f y (bit_xor f 4) lead (member-first 2 f, rw xor-cancel l) in
          let known = hears-near g j q d.0 y tg r one lead.alive n d.1 d.3 in
          let asks = leader-tests live (rows q) 2 f y lead (aware q y (omega arith) lead.alive) in
          lift 0 3 (omega arith) (had ((R q).pushes y 2 2 f j (omega arith) lead.alive t asks known))

      asked : (y : ℕ) → Leads live 2 f y → Near 2 y g → ¬ (4 < bit_xor f y) → InPass live (rows (suc q)) f 3 j
      asked y lead n l =
          let asks = first-tests f 2 y (member-sym 2 f y lead.member) (omega (arith, xor_comm f y)) in
          hear asks lead.alive (two g j q tg one r y lead.alive n)

      triple : Near 3 f g → InPass live (rows (suc q)) f 3 j
      triple n = by_cases (near-dec 2 f g) (λ m. lift 0 3 (omega arith) (had (two g j q tg one r f t m))) (λ m. far (n, m))
        where
          far : Member 2 f g → InPass live (rows (suc q)) f 3 j
          far m =
              let y = leader live 2 f g m tg in
              let near = members-near 2 f y.0 g y.1.member m in
              by_cases (dec_lt 4 (bit_xor f y.0)) (tells y.0 y.1 near) (asked y.0 y.1 near)

    -- what g suspects at the start of round q is known in the passes up to level p `spread p` rounds later
    pub spreads : (g j q p s : ℕ) → p ≤ suc s → live g ≡ true → AllAware q s → rows q g j → InPasses g j (q + spread p) p
    unfolding spread
    spreads g j q zero s l tg aware r = λ f t n. let e : f ≡ g = near-zero f g n in rw (e, add-zero) (had r)
    spreads g j q (suc zero) s l tg aware r = rw add-zero (start g j q tg r)
    spreads g j q (suc (suc zero)) s l tg aware r =
        let now : suc q ≡ q + 1 = omega arith in
        rw now at (next g j (suc q) 2 (two g j q tg (weaker q q 1 s (omega arith) (omega arith) aware) r))
    spreads g j q (suc (suc (suc zero))) s l tg aware r = λ f t.
        let now : suc q ≡ q + 1 = omega arith in
        rw now at (triple g j q tg (weaker q q 2 s (omega arith) (omega arith) aware) r f t)
    spreads g j q (suc (suc (suc (suc p)))) s l tg aware r =
        let below = spreads g j q (suc (suc (suc p))) s (omega arith) tg aware r in
        rw add-suc (next g j _ _ (step g j _ _ tg (weaker q _ _ s (omega arith) (omega arith) aware) below))

    -- and is in the rows up to level p + 1 a round after that
    pub reaches : (g j q p : ℕ) → live g ≡ true → AllAware q p → rows q g j → InRows g j (q + suc (spread p)) (suc p)
    reaches g j q p tg aware r =
        let pass = spreads g j q p p (omega arith) tg aware r in
        rw add-suc (step g j (q + spread p) p tg (weaker q _ p p (omega arith) (omega arith) aware) pass)
