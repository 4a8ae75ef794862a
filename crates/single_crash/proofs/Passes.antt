-- The passes of a round on the ring over numbers, where each live board has a number of tests to make; and the turns that are left.
-- Assumes nothing.
use mathlib.Core.Path.{◌≡◌, refl, ◌∙◌}
use mathlib.Core.Logic.{◌≢◌, by_cases}
use mathlib.Core.Bool.{Bool, true, false, cond}
use Prim.Native.Nat.{ℕ, suc, ◌+◌, ◌-◌, ◌%◌, ◌≤◌, ◌<◌}
use native.Mathlib.Decide.{dec_lt, ℕ_discrete}
use native.Mathlib.Omega.{arith}
use borrow.Author.Tests.{eq-eqb, ne_eqb}
use lib.Dec.{eqb}
use Rattle.lists.specs.Sums.{sum_below, bit}
use Rattle.lists.proofs.SumLaws.{sum_by, sum-add, sum-single}
use Rattle.detection.proofs.RingPass.{RingTurn}

-- board i makes `reach` tests, the last of them of a live board
pub record Reaches (n : ℕ) (live : ℕ → Bool) (reach i : ℕ) : Type 0 where
  pub below : reach < n
  pub dead : (m : ℕ) → suc m < reach → live ((i + suc m) % n) ≡ false
  pub last : (m : ℕ) → suc m ≡ reach → live ((i + suc m) % n) ≡ true

-- how far each live board has come in its pass, by next distances, tests made and finished passes
pub record Passing (n : ℕ) (live : ℕ → Bool) (reach next made done : ℕ → ℕ) : Type 0 where
  pub testing : (i : ℕ) → i < n → live i ≡ true → made i < reach i → (next i ≡ suc (made i)) × (done i ≡ 0) × Reaches n live (reach i) i
  pub tested : (i : ℕ) → i < n → live i ≡ true → reach i ≤ made i → (next i ≡ n) × (made i ≡ reach i)
  pub range : (i : ℕ) → i < n → done i ≤ 1

-- where a round begins
pub passing-start : (n : ℕ) (live : ℕ → Bool) (reach next made done : ℕ → ℕ)
    → ((i : ℕ) → i < n → (next i ≡ 1) × (made i ≡ 0) × (done i ≡ 0))
    → ((i : ℕ) → i < n → live i ≡ true → (1 ≤ reach i) × Reaches n live (reach i) i) → Passing n live reach next made done
passing-start n live reach next made done fresh far = record {
  testing = λ i h l b. (omega (arith, fresh i h), (fresh i h).2, (far i h l).1);
  tested = λ i h l b. absurd (omega (arith, fresh i h, (far i h l).0));
  range = λ i h. omega (arith, fresh i h);
}

-- how many tests a live board has made at the most, and where it has finished
pub made-most : {n : ℕ} {live : ℕ → Bool} {reach next made done : ℕ → ℕ} → Passing n live reach next made done → (i : ℕ) → i < n → live i ≡ true
    → (made i ≤ reach i) × (done i ≡ 1 → made i ≡ reach i)
made-most {reach = reach} {made = made} pass i h l =
    by_cases (dec_lt (made i) (reach i)) (λ m. (omega arith, λ e. absurd (omega (arith, pass.testing i h l m))))
    (λ m. let q = pass.tested i h l (omega arith) in (omega (arith, q), λ e. q.1))

-- a turn of board g that has not finished, and what it does to the finished passes
pub record PassTurn (n : ℕ) (live : ℕ → Bool) (row row' : ℕ → ℕ → Type 0) (next next' made made' done done' : ℕ → ℕ) (g : ℕ) : Type 0 where
  pub below : g < n
  pub is_live : live g ≡ true
  pub going : done g ≡ 0
  pub turn : RingTurn n live row row' next next' made made' g
  pub other-done : (i : ℕ) → i ≢ g → done' i ≡ done i
  pub tests : next g < n → done' g ≡ 0
  pub ends : n ≤ next g → done' g ≡ 1

module _ {n : ℕ} {live : ℕ → Bool} {row row' : ℕ → ℕ → Type 0} {next next' made made' done done' : ℕ → ℕ} {g : ℕ}
    (t : PassTurn n live row row' next next' made made' done done' g) {reach : ℕ → ℕ} (pass : Passing n live reach next made done) where
  -- a test that is not its last; its last; or the turn that finishes
  abbrev Own : Type 0
  Own =
      (made' g < reach g → (next' g ≡ suc (made' g)) × (done' g ≡ 0) × Reaches n live (reach g) g)
      × (reach g ≤ made' g → (next' g ≡ n) × (made' g ≡ reach g)) × (done' g ≤ 1)

  own : Own
  own =
      by_cases (dec_lt (made g) (reach g))
      (λ l.
      let p = pass.testing g t.below t.is_live l in
      let low : next g < n = omega (arith, p.2.below) in
      let more = t.turn.tests low in
      let stays = t.tests low in
      by_cases (dec_lt (suc (made g)) (reach g))
      (λ m.
      let up = (t.turn.finds low (rw p.0 (p.2.dead (made g) m))).0 in
      (λ x. (omega arith, stays, p.2), λ x. absurd (omega arith), omega arith))
      (λ m.
      let meets = (t.turn.exchanges low (rw p.0 (p.2.last (made g) (omega arith)))).0 in
      (λ x. absurd (omega arith), λ x. (meets, omega arith), omega arith)))
      (λ l.
      let p = pass.tested g t.below t.is_live (omega arith) in
      let ended = t.turn.finishes (omega arith) in
      (λ x. absurd (omega arith), λ x. (ended.0, omega (arith, ended.1)), omega (arith, t.ends (omega arith))))

  pub passing-turn : Passing n live reach next' made' done'
  passing-turn = record {
    testing = λ i h l. by_cases (ℕ_discrete i g) (λ e. rw e own.0)
        (λ d. let o = t.turn.others i d in rw (o.0, o.1, t.other-done i d) (pass.testing i h l));
    tested = λ i h l. by_cases (ℕ_discrete i g) (λ e. rw e own.1) (λ d. let o = t.turn.others i d in rw (o.0, o.1) (pass.tested i h l));
    range = λ i h. by_cases (ℕ_discrete i g) (λ e. rw e own.2) (λ d. rw (t.other-done i d) (pass.range i h));
  }

  -- it had a turn left
  pub turn-left : made g + done g ≤ reach g
  turn-left =
      by_cases (dec_lt (made g) (reach g)) (λ l. omega (arith, t.going))
      (λ l. omega (arith, t.going, pass.tested g t.below t.is_live (omega arith)))

-- the turns that a board has left, one more than its tests; a dead one has none
unfoldable pub turns_left : (ℕ → Bool) → (ℕ → ℕ) → (ℕ → ℕ) → ℕ → ℕ
turns_left live reach turns i = cond (live i) (suc (reach i) - turns i) 0

-- a sum of which one term is one less
sum_one : (f g : ℕ → ℕ) (n p : ℕ) → p < n → ((i : ℕ) → i < n → i ≢ p → g i ≡ f i) → suc (g p) ≡ f p → suc (sum_below g n) ≡ sum_below f n
sum_one f g n p h same less =
    let one : ℕ → ℕ = λ i. bit (eqb i p) in
    let here : one p ≡ 1 = rw (eq-eqb p p refl) refl in
    let parts : (i : ℕ) → i < n → f i ≡ g i + one i =
    λ i l. by_cases (ℕ_discrete i p) (λ e. rw e (omega (arith, here)))
    (λ d. let none : one i ≡ 0 = rw (ne_eqb i p d) refl in omega (arith, same i l d)) in
    let single : sum_below one n ≡ one p = sum-single one n p h (λ i l d. rw (ne_eqb i p d) refl) in
    omega (arith, sum_by {f = f} {g = λ i. g i + one i} n parts, sum-add g one n)

-- a turn takes one of them
pub left-turn : (n : ℕ) (live : ℕ → Bool) (reach turns turns' : ℕ → ℕ) (g : ℕ) → g < n → live g ≡ true → turns g ≤ reach g
    → turns' g ≡ suc (turns g) → ((i : ℕ) → i < n → i ≢ g → turns' i ≡ turns i)
    → suc (sum_below (turns_left live reach turns') n) ≡ sum_below (turns_left live reach turns) n
unfolding turns_left
left-turn n live reach turns turns' g h l left own others =
    sum_one (turns_left live reach turns) (turns_left live reach turns') n g h (λ i k d. rw (others i k d))
    (rw (l) (omega arith))

-- a number at place p only
abbrev pub at_place : ℕ → ℕ → ℕ → ℕ
at_place p v i = cond (eqb i p) v 0

pub sum-at : (n p v : ℕ) → p < n → sum_below (at_place p v) n ≡ v
sum-at n p v h = sum-single (at_place p v) n p h (λ i l d. rw (ne_eqb i p d) refl) ∙ rw (eq-eqb p p refl) refl
