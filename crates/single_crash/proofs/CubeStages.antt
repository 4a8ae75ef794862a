-- On the cube, from the crash of b on: first the rest of its round, in which the boards at multiples of 2^s from b learn of it; then the first s
-- sweeps of the next round, in which all others do; and how many grants are left until then.
-- Assumes nothing.
use mathlib.Core.Path.{◌≡◌, refl, sym, ◌∙◌}
use mathlib.Core.Logic.{◌≢◌, by_cases}
use mathlib.Core.Bool.{Bool, true, false, cond}
use mathlib.Core.List.{List}
use Prim.Native.Nat.{ℕ, suc, ◌+◌, ◌-◌, ◌≤◌, ◌<◌}
use native.Mathlib.Decide.{ℕ_discrete}
use native.Mathlib.Omega.{arith}
use borrow.Author.Tests.{eqb-true, eq-eqb, ne_eqb, not-false}
use lib.Dec.{eqb}
use Rattle.lists.specs.Sums.{sum_below, bit}
use Rattle.lists.proofs.BoolLaws.{by_bool}
use Rattle.lists.proofs.SumLaws.{sum-add, sum-single}
use Rattle.table.specs.Table.{finished, suspects}
use Rattle.table.specs.Rules.{round_over}
use Rattle.table.specs.declared.wiring.Wiring.TheVariants.{Cube}
use Rattle.slots.proofs.Counts.{sum-le}
use Rattle.granter.specs.Grant.{waits}
use Rattle.granter.specs.Drive.{Stand, grant_turn}
use Rattle.granter.proofs.GrantLaws.{waits-parts}
use Rattle.detection.proofs.TurnEffect.{Exact}
use Rattle.single_crash.specs.Sweeps.{turns_made}
use Rattle.single_crash.proofs.Sweeps.{Moved}
use Rattle.single_crash.proofs.SweepLaw.{grant_of}
use Rattle.single_crash.proofs.Running.{Crew, Running, Closed, chosen, is_live, going, moved, closes, goes_on, stays_known, runs_on, turn-less}
use Rattle.single_crash.proofs.Running.{has-ended, all-ended, left_of}
use Rattle.single_crash.proofs.Crashing.{all_but, other-lives, but-dead, but-apart, others-crew}
use Rattle.single_crash.proofs.Passes.{turns_left}
use Rattle.single_crash.proofs.Running.{left_of}
use Rattle.single_crash.proofs.CubePace.{Cubic, OnPace, Paced, pace-start, pace-paced}
use Rattle.single_crash.proofs.CubeLearn.{Learned, learned-next, learned-ended}
use Rattle.single_crash.proofs.CubeWays.{Multiple, by_distance, by_digits, way-distance, way-digits, digits-most, digits-none}
use Rattle.single_crash.proofs.CubeRun.{OthersLive, four, fewest-turns, paced-turn}
use Rattle.single_crash.proofs.CubeNear.{NearUnaware, near-pace, near-turn}

-- the turns that board i has left to s, if it waits
unfoldable pub turns_to : (ℕ → Bool) → ℕ → (ℕ → ℕ) → ℕ → ℕ
turns_to wait s turns i = cond (wait i) (s - turns i) 0

-- and those of all n boards, with their turns in a table
abbrev pub left_to : ℕ → ℕ → List ℕ → ℕ
left_to n s t = sum_below (turns_to (waits n t) s (turns_made n t)) n

-- a turn of board g takes one of them
to-turn : (n s : ℕ) (wait wait' : ℕ → Bool) (turns turns' : ℕ → ℕ) (g : ℕ) → Moved n wait wait' turns turns' g → g < n → wait g ≡ true → turns g < s
    → suc (sum_below (turns_to wait' s turns') n) ≤ sum_below (turns_to wait s turns) n
unfolding turns_to
to-turn n s wait wait' turns turns' g m h waiting few =
    let one : ℕ → ℕ = λ i. bit (eqb i g) in
    let here : one g ≡ 1 = rw (eq-eqb g g refl) refl in
    let single : sum_below one n ≡ one g = sum-single one n g h (λ i l d. rw (ne_eqb i g d) refl) in
    omega (arith, here, single, sum-add (turns_to wait' s turns') one n, sum-le n each)
  where
    each : (i : ℕ) → i < n → turns_to wait' s turns' i + bit (eqb i g) ≤ turns_to wait s turns i
    each i l =
        by_cases (ℕ_discrete i g)
        (λ e. rw (e, eq-eqb g g refl, waiting) (by_bool (wait' g) (λ f. rw f (omega (arith, m.own))) (λ f. rw f (omega arith))))
        (λ d. rw (ne_eqb i g d)
        (by_bool (wait' i) (λ f. rw (f, m.waited i l f) (omega (arith, m.others i l d))) (λ f. rw f (omega arith))))

-- every board but b is live, and b is not
pub but-others : (n b : ℕ) → OthersLive n b (all_but b)
but-others n b x h q = other-lives b x q

pub but-crew : {n d : ℕ} (b : ℕ) → Cubic n d → Crew Cube n (all_but b)
but-crew {n = n} b c = others-crew Cube n b c.size (omega (arith, four c))

but-is : (b x : ℕ) → all_but b x ≡ false → x ≡ b
but-is b x e = eqb-true x b (not-false _ e)

-- where each other board suspects b
exact-of : (n b : ℕ) (t : List ℕ) → ((x : ℕ) → x < n → x ≢ b → suspects n t x b ≡ 1) → Exact n (all_but b) t
exact-of n b t all i j h g l f = rw (but-is b j f) (all i h (but-apart b i l))

-- in the round of the crash: who is at a multiple of 2^s learns, each by the test at the level of its distance
pub record Spread (n d b s : ℕ) (p : Stand) : Type 0 where
  pub begins : ℕ
  pub running : Running Cube n (all_but b) begins p
  pub pace : (i : ℕ) → i < n → i ≢ b → OnPace n d p.state.table i
  pub near : NearUnaware n b 1 p.state.table
  pub learned : Learned n b (Multiple b s) (by_distance b) p.state.table

-- in the next one: all learn, each by the test at the level of the last s digits of its distance
pub record Gather (n d b s : ℕ) (p : Stand) : Type 0 where
  pub begins : ℕ
  pub running : Running Cube n (all_but b) begins p
  pub paced : (i : ℕ) → i < n → i ≢ b → Paced n d b p.state.table i
  pub learned : Learned n b (λ x. Unit {0}) (by_digits b s) p.state.table

-- at last all know
pub record AllAware (n b : ℕ) (p : Stand) : Type 0 where
  pub begins : ℕ
  pub running : Running Cube n (all_but b) begins p
  pub exact : Exact n (all_but b) p.state.table

-- the turns left in the round of the crash, and s more of each board
abbrev pub left_with : ℕ → ℕ → ℕ → ℕ → List ℕ → ℕ
left_with n d b s t = left_of n (all_but b) (λ i. d + s) t

-- a grant in the round of the crash
module _ {n d b : ℕ} (c : Cubic n d) (hb : b < n) {s : ℕ} {p : Stand} (r : Spread n d b s p) where
  open grant_of Cube n p use {before as t, board as g, turned as t', stand as p'}

  spread-pace' : (i : ℕ) → i < n → i ≢ b → OnPace n d t' i
  spread-pace' = near-pace b c (but-others n b) (but-dead b) hb r.running r.pace (omega arith) (omega (arith, c.levels)) r.near

  spread-near' : NearUnaware n b 1 t'
  spread-near' = near-turn b c (but-others n b) (but-dead b) hb r.running r.pace (omega arith) (omega (arith, c.levels)) r.near

  spread-learned' : Learned n b (Multiple b s) (by_distance b) t'
  spread-learned' =
      learned-next (way-distance b c hb s) c (but-others n b) (but-dead b) hb r.running (λ i h q. pace-paced b c (r.pace i h q)) r.learned

  -- one turn less is left
  pub spread-less : suc (left_with n d b s t') ≡ left_with n d b s t
  spread-less =
      let zero = going r.running in
      let most = (r.pace g (chosen r.running).0 (but-apart b g (is_live r.running))).going zero in
      turn-less r.running (λ i. d + s) (omega (arith, most.0, zero))

  pub spread-on : round_over n t' ≡ false → Spread n d b s p'
  spread-on on =
      let w = goes_on r.running on in
      record {
        begins = _;
        running = w.running;
        pace = rw w.table spread-pace';
        near = rw w.table spread-near';
        learned = rw w.table spread-learned';
      }

  -- where the round closes, all that were to learn know
  module _ (over : round_over n t' ≡ true) where
    abbrev closed : Closed Cube n (all_but b) t' g p p'
    closed = closes r.running over

    ended : (x : ℕ) → x < n → x ≢ b → finished n t' x ≡ 1
    ended x h q = all-ended r.running over x h (but-others n b x h q)

    pub spread-over : Gather n d b s p'
    spread-over = record {
      begins = _;
      running = closed.running;
      paced = λ i h q. pace-paced b c (pace-start d (closed.fresh i h));
      learned = λ x h q all few.
          let whole = digits-none b c hb s x (omega (arith, few, (closed.fresh x h).untested)) in
          closed.grown x b h hb
          (learned-ended (way-distance b c hb s) t' (λ i h q. pace-paced b c (spread-pace' i h q)) spread-learned' x h q whole (ended x h q));
    }

    -- and no more turns are left than before
    pub spread-left : left_to n s p'.state.table ≤ left_with n d b s t'
    unfolding turns_to turns_left
    spread-left = sum-le n each
      where
        each : (i : ℕ) → i < n → turns_to (waits n p'.state.table) s (turns_made n p'.state.table) i
            ≤ turns_left (all_but b) (λ i. d + s) (turns_made n t') i
        each i h =
            by_bool (waits n p'.state.table i)
            (λ w.
            let live : all_but b i ≡ true = sym (closed.running.plain.lives i h) ∙ (waits-parts n p'.state.table i w).0 in
            let q = but-apart b i live in
            let all = (spread-pace' i h q).ended (ended i h q) in
            let fresh = closed.fresh i h in
            rw (w, live) (omega (arith, all, ended i h q, fresh.untested, fresh.unfinished)))
            (λ w. rw w (omega arith))

-- and in the one behind it
module _ {n d b : ℕ} (c : Cubic n d) (hb : b < n) {s : ℕ} (le : s ≤ d) {p : Stand} (r : Gather n d b s p) where
  open grant_of Cube n p use {before as t, board as g, turned as t', stand as p'}

  gather-paced' : (i : ℕ) → i < n → i ≢ b → Paced n d b t' i
  gather-paced' i h q = paced-turn r.running b c (but-others n b) i h q (r.paced i h q)

  gather-learned' : Learned n b (λ x. Unit {0}) (by_digits b s) t'
  gather-learned' = learned-next (way-digits b c hb s le) c (but-others n b) (but-dead b) hb r.running r.paced r.learned

  -- who has finished knows
  gather-ended : (u : List ℕ) → ((i : ℕ) → i < n → i ≢ b → Paced n d b u i) → Learned n b (λ x. Unit {0}) (by_digits b s) u
      → (x : ℕ) → x < n → x ≢ b → finished n u x ≡ 1 → suspects n u x b ≡ 1
  gather-ended u paced learned x h q f = learned-ended (way-digits b c hb s le) u paced learned x h q tt f

  -- where the granted board has made s turns all know
  gathered : s ≤ turns_made n t g → Exact n (all_but b) t
  gathered far = exact-of n b t all
    where
      all : (x : ℕ) → x < n → x ≢ b → suspects n t x b ≡ 1
      all x h q =
          by_cases (ℕ_discrete (finished n t x) 0)
          (λ f.
          let few = fewest-turns r.running b c (but-others n b) x h q f in
          r.learned x h q tt (omega (arith, few, f, digits-most b c hb s x)))
          (λ f. gather-ended t r.paced r.learned x h q (has-ended r.running x h f))

  -- else its turn is one of those left
  pub gather-less : turns_made n t g < s → suc (left_to n s t') ≤ left_to n s t
  gather-less few =
      let m = moved r.running in
      let at = chosen r.running in
      to-turn n s (waits n t) (waits n t') (turns_made n t) (turns_made n t') g m at.0 at.1 few

  pub gather-on : round_over n t' ≡ false → Gather n d b s p'
  gather-on on =
      let w = goes_on r.running on in
      record { begins = _; running = w.running; paced = rw w.table gather-paced'; learned = rw w.table gather-learned' }

  pub gather-over : round_over n t' ≡ true → AllAware n b p'
  gather-over over =
      let closed = closes r.running over in
      let now : (x : ℕ) → x < n → x ≢ b → suspects n t' x b ≡ 1 =
      λ x h q. gather-ended t' gather-paced' gather-learned' x h q (all-ended r.running over x h (but-others n b x h q)) in
      record { begins = _; running = closed.running; exact = exact-of n b _ (λ x h q. closed.grown x b h hb (now x h q)) }

  pub gather-aware : s ≤ turns_made n t g → AllAware n b p
  gather-aware far = record { begins = _; running = r.running; exact = gathered far }

-- what all know stays known
pub aware-on : {n b : ℕ} {p : Stand} → AllAware n b p → AllAware n b (grant_turn Cube n p)
aware-on r = let on = runs_on r.running in record { begins = on.0; running = on.1; exact = stays_known r.running r.exact }
