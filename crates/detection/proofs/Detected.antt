-- Who knows after how many rounds: after `worst_latency d` closed rounds each live station suspects each station near at d to it that is not
-- live. docs/DETECTION.md tells the proof. A live set and rows over numbers, nothing else.
-- Assumes nothing.
use mathlib.Core.Path.{◌≡◌, refl, sym, ◌∙◌}
use mathlib.Core.Logic.{◌⊎◌, inl, inr, by_cases}
use mathlib.Core.Bool.{Bool, true, false, true≢false}
use Prim.Native.Nat.{ℕ, zero, suc, ◌+◌, ◌*◌, ◌-◌, ◌≤◌, ◌<◌}
use native.Mathlib.Decide.{dec_lt}
use native.Mathlib.Omega.{arith}
use Rattle.detection.specs.Claim.{worst_latency}
use Rattle.lists.proofs.Xor.{Near, near_le}
use Rattle.detection.proofs.Near.{Member, Parting, same, apart, near-dec, near-zero, member-sym, member-near, members-near, parting}
use Rattle.detection.proofs.Pass.{InPass, find, lift, Round}
use Rattle.detection.proofs.Latency.{spread, ready, ready-enough, latency-enough, latency-grows, latency-pos}
use Rattle.detection.proofs.Leaders.{Dead, Leads, leader-or-dead, leader, Aware, leader-tests}
use Rattle.detection.proofs.Spread.{AllAware, weaker, later, spreads, reaches}

-- a station f and its groups at levels up to s: all are dead; or the one at level p + 1 has the live x, and the u above it are dead
data Span (live : ℕ → Bool) (f s : ℕ) : Type 0 where
  alone : ((h : ℕ) → h < s → Dead live h f) → Span live f s
  wide : (p u x : ℕ) → suc p + u ≡ s → Member p f x → live x ≡ true → ((h : ℕ) → suc p ≤ h → h < s → Dead live h f) → Span live f s

span : (live : ℕ → Bool) (f s : ℕ) → Span live f s
span live f zero = alone (λ h l. absurd (omega arith))
span live f (suc s) = go (leader-or-dead live s f) (span live f s)
  where
    upto : (h : ℕ) → h < suc s → Dead live s f → (h < s → Dead live h f) → Dead live h f
    upto h l top below = by_cases (dec_lt h s) below (λ b. let e : h ≡ s = omega arith in rw e top)

    go : Dead live s f ⊎ ((i : ℕ) × Leads live s f i) → Span live f s → Span live f (suc s)
    go (inr i) rest = wide s 0 i.0 (omega arith) i.1.member i.1.alive (λ h a b. absurd (omega arith))
    go (inl top) (alone below) = alone (λ h l. upto h l top (below h))
    go (inl top) (wide p u x e m t below) = wide p (suc u) x (omega arith) m t (λ h a l. upto h l top (below h a))

module _ (live : ℕ → Bool) (rows : ℕ → ℕ → ℕ → Type 0) (R : (q : ℕ) → Round live (rows q) (rows (suc q))) where
  -- the stations near at p to f, from round Q on: the groups of f at levels above p up to s are dead. Of these stations the live ones are
  -- aware up to p, and what one of them knows through a level above p all of them know c rounds later, through the same level
  record Subcube (f s p c Q : ℕ) : Type 0 where
    dead : (h : ℕ) → p ≤ h → h < s → Dead live h f
    aware : (q y : ℕ) → Q ≤ q → live y ≡ true → Near p y f → Aware live (rows q) y p
    carries : (q h g j : ℕ) → Q ≤ q → p ≤ h → live g ≡ true → Near p g f → InPass live (rows q) g (suc h) j
        → (y : ℕ) → live y ≡ true → Near p y f → InPass live (rows (q + c)) y (suc h) j

  -- one of them that knows j in its pass of round q, through level s + 1
  record Finder (f s p q j : ℕ) : Type 0 where
    station : ℕ
    alive : live station ≡ true
    near : Near p station f
    knows : InPass live (rows q) station (suc s) j

  module _ (f s p c Q : ℕ) (C : Subcube f s p c Q) where
    -- a live station near at h to f is one of them
    close : (h g : ℕ) → h ≤ s → live g ≡ true → Near h g f → Near p g f
    close h g l tg n = go (parting h g f n)
      where
        go : Parting h g f → Near p g f
        go (same e) = rw e refl
        go (apart t k m) =
            by_cases (dec_lt t p) (λ b. near_le (suc t) p g f b m.0)
            (λ b. absurd (true≢false (sym tg ∙ C.dead t (omega arith) (omega arith) g (member-sym t g f m))))

    -- where they are aware up to h, one finds a j that is not live and has one of them in its group at level h + 1
    finder : (h q y j : ℕ) → p ≤ h → h ≤ s → ((z : ℕ) → live z ≡ true → Near p z f → Aware live (rows q) z h) → live y ≡ true → Near p y f
        → Member h j y → live j ≡ false → Finder f h p q j
    finder h q y j lo hi aware ty n m dead =
        let g = leader live h j y m ty in
        let lead = g.1 in
        let side : Near h g.0 f = members-near h j g.0 y lead.member m ∙ near_le p h y f lo n in
        let near : Near p g.0 f = close h g.0 hi lead.alive side in
        let asks = leader-tests live (rows q) h j g.0 lead (aware g.0 lead.alive near) in
        record { station = g.0; alive = lead.alive; near = near; knows = find asks dead }

    -- they become aware level by level, c rounds each
    gains : (u h q y : ℕ) → p + u ≡ h → h ≤ s → Q + u * c ≤ q → live y ≡ true → Near p y f → Aware live (rows q) y h
    gains zero h q y e l lq ty n = let base : h ≡ p = omega arith in rw base (C.aware q y (omega arith) ty n)
    gains (suc u) h q y e l lq ty n = λ k j lk none m.
        by_cases (dec_lt k (p + u)) (λ b. gains u (p + u) q y refl (omega arith) (omega arith) ty n k j b none m)
        (λ b. last k j (omega arith) none m (λ z. gains u k (q - c) z (omega arith) (omega arith) (omega arith)))
      where
        last : (k j : ℕ) → p + u ≡ k → Dead live k y → Member k y j
            → ((z : ℕ) → live z ≡ true → Near p z f → Aware live (rows (q - c)) z k) → InPass live (rows q) y (suc k) j
        last k j top none m aware =
            let g = finder k (q - c) y j (omega arith) (omega arith) aware ty n (member-sym k y j m) (none j m) in
            let now : q - c + c ≡ q = omega arith in
            rw now at (C.carries (q - c) k g.station j (omega arith) (omega arith) g.alive g.near g.knows y ty n)

    -- after u levels one of them finds what f is to know at level s + 1
    finds-for : (u q j : ℕ) → p + u ≡ s → Q + u * c ≤ q → live f ≡ true → Member s j f → live j ≡ false → Finder f s p q j
    finds-for u q j e l tf m dead = finder s q f j (omega arith) (omega arith) (λ z. gains u s q z e (omega arith) l) tf refl m dead

  -- f alone knows at once
  subcube-alone : (f s : ℕ) → ((h : ℕ) → h < s → Dead live h f) → Subcube f s 0 0 0
  subcube-alone f s dead = record {
    dead = λ h a. dead h;
    aware = λ q y l t n h j lh. absurd (omega arith);
    carries = λ q h g j a b tg n known y t m.
        let e : g ≡ y = near-zero g y (n ∙ sym m) in
        let now : q + 0 ≡ q = omega arith in
        rw (now, ← e) known;
  }

  -- with a live station at level p + 1 what one knows spreads; no station among them has a dead group at that level
  subcube-wide : (f s p x : ℕ) → AllAware live rows (ready p) p → live f ≡ true → Member p f x → live x ≡ true
      → ((h : ℕ) → suc p ≤ h → h < s → Dead live h f) → Subcube f s (suc p) (suc (spread (suc p))) (ready p)
  subcube-wide f s p x all tf mx tx dead = record {
    dead = dead;
    aware = λ q y l t n h j lh none m.
        by_cases (dec_lt h p) (λ b. all q y l t h j b none m) (λ b. let e : h ≡ p = omega arith in absurd (alive y n (rw e at none)));
    carries = λ q h g j a b tg n known y t m.
        let row : rows (suc q) g j = (R q).keeps g (suc h) j tg known in
        let aware = weaker live rows _ (suc q) p p (omega arith) (omega arith) all in
        let pass = spreads live rows R g j (suc q) (suc p) p (omega arith) tg aware row y t (m ∙ sym n) in
        let now : suc q + spread (suc p) ≡ q + suc (spread (suc p)) = omega arith in
        rw now at (lift (suc p) (suc h) (omega arith) pass);
  }
    where
      alive : (y : ℕ) → Near (suc p) y f → ¬ (Dead live p y)
      alive y n none =
          by_cases (near-dec p y f)
          (λ a. true≢false (sym tx ∙ none x (member-sym p x y (member-near p x f y (member-sym p f x mx) (sym a)))))
          (λ a. true≢false (sym tf ∙ none f (n, a)))

  -- from round `ready s` on every live station is aware up to s; `fuel` is above s
  all-aware : (fuel s q i : ℕ) → s < fuel → ready s ≤ q → live i ≡ true → Aware live (rows q) i s
  all-aware zero s q i l lq t = absurd (omega arith)
  all-aware (suc fuel) s q i l lq t = go (span live i s) (λ p b r y. all-aware fuel p r y (omega arith))
    where
      go : Span live i s → ((p : ℕ) → p < s → AllAware live rows (ready p) p) → Aware live (rows q) i s
      go (alone dead) below = gains i s 0 0 0 (subcube-alone i s dead) s s q i (omega arith) (omega arith) (omega arith) t refl
      go (wide p u x e m tx dead) below =
          let cube = subcube-wide i s p x (below p (omega arith)) t m tx dead in
          let enough = rw e at (ready-enough p u) in
          gains i s (suc p) _ _ cube u s q i e (omega arith) (omega arith) t refl

  -- a live i comes to suspect a j that is not live and has i in its group at level s + 1
  suspected : (s i j : ℕ) → live i ≡ true → live j ≡ false → Member s j i → rows (worst_latency (suc s)) i j
  suspected s i j ti fj m = go (span live i s)
    where
      all : (p : ℕ) → AllAware live rows (ready p) p
      all p q y = all-aware (suc p) p q y (omega arith)

      go : Span live i s → rows (worst_latency (suc s)) i j
      go (alone dead) =
          let g = finds-for i s 0 0 0 (subcube-alone i s dead) s 0 j (omega arith) (omega arith) ti m fj in
          let me : g.station ≡ i = near-zero g.station i g.near in
          later live rows R 1 _ i j (latency-pos s) ti (rw me at ((R 0).keeps g.station (suc s) j g.alive g.knows))
      go (wide p u x e mx tx dead) =
          let q : ℕ = ready p + u * suc (spread (suc p)) in
          let g = finds-for i s (suc p) _ _ (subcube-wide i s p x (all p) ti mx tx dead) u q j e (omega arith) ti m fj in
          let row : rows (suc q) g.station j = (R q).keeps g.station (suc s) j g.alive g.knows in
          let aware = weaker live rows _ (suc q) p p (omega arith) (omega arith) (all p) in
          let enough = rw e at (latency-enough p u) in
          later live rows R _ _ i j (omega arith) ti (reaches live rows R g.station j (suc q) p g.alive aware row i ti (sym g.near))

-- after the worst-case latency, and at any later round's start, each live station suspects each station near at d to it that is not live
pub detected : (d : ℕ) (live : ℕ → Bool) (rows : ℕ → ℕ → ℕ → Type 0) → ((q : ℕ) → Round live (rows q) (rows (suc q))) → (q i j : ℕ)
    → worst_latency d ≤ q → live i ≡ true → live j ≡ false → Near d j i → rows q i j
detected d live rows R q i j l ti fj n = go (parting d j i n)
  where
    go : Parting d j i → rows q i j
    go (same e) = absurd (true≢false (sym ti ∙ (rw e at fj)))
    go (apart s b m) = later live rows R _ q i j (omega (arith, latency-grows (suc s) d b)) ti (suspected live rows R s i j ti fj m)
