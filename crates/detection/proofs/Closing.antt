-- What a closed round on the cube has done to the rows, and its tests.
-- Assumes nothing.
use mathlib.Core.Path.{◌≡◌, sym, ◌∙◌}
use mathlib.Core.Bool.{Bool, true, and-false}
use mathlib.Core.List.{List, map}
use Prim.Native.Nat.{ℕ, ◌≤◌, ◌<◌}
use native.Mathlib.Omega.{arith}
use lib.Bits.{bit_xor, xor_lt}
use Rattle.station.specs.Groups.{station_at}
use Rattle.table.specs.Sizes.{dimension, distances}
use Rattle.table.proofs.WiringLaws.{end-cube}
use Rattle.table.specs.Table.{next_distance, tests_made, live}
use Rattle.table.specs.Rules.{round_over}
use Rattle.plant.specs.Round.{reset_lines}
use Rattle.lists.specs.Sums.{bit}
use Rattle.detection.specs.Runs.{Taken}
use Rattle.detection.specs.Rounds.{tests_in}
use Rattle.detection.specs.Claim.{tests_per_round}
use Rattle.detection.specs.Boards.{tested_in}
use Rattle.lists.proofs.BoolLaws.{by_bool}
use Rattle.lists.proofs.SumLaws.{sum_by, sum-zero}
use Rattle.table.specs.declared.wiring.Wiring.TheVariants.{Cube}
use Rattle.detection.proofs.TurnEffect.{Grown, Exact}
use Rattle.detection.proofs.RoundKnowledge.{InRound, reset-rows, all-finished}
use Rattle.detection.proofs.Pass.{lift, Round}
use Rattle.detection.proofs.Knowledge.{LiveOf, live_of, RowOf, InPassOf, leads_at, Knows, known-now}
use Rattle.detection.proofs.Listing.{led_below, Listed}
use Rattle.detection.proofs.LedCount.{leads_below, leads-none, led-count}

-- two stations are at one of the plant's distances
distance-below : (n i x : ℕ) → n ≤ distances n → i < n → x < n → bit_xor i x < distances n
unfolding distances
distance-below n i x low a b = xor_lt (dimension n) i x (omega arith) (omega arith)

-- what a closed round did to the rows from t₀ to t
abbrev pub RoundStep : ℕ → (ℕ → Bool) → List ℕ → List ℕ → Type 0
RoundStep n L t₀ t = Round (LiveOf n L) (RowOf n t₀) (RowOf n t)

-- what is known within a round
abbrev pub CubeKnows : ℕ → (ℕ → Bool) → List ℕ → List Taken → List ℕ → Type 0
CubeKnows n L t₀ cur t = Knows n L t₀ t × Listed n L t₀ cur t

-- where the round is over every live station has finished, so that it has passed all distances
module _ (n : ℕ) (L : ℕ → Bool) (t₀ t : List ℕ) (here : List Taken) (inv : InRound Cube n L t₀ here t) (know : CubeKnows n L t₀ here t)
    (over : round_over n t ≡ true) where
  at-end : (i : ℕ) → i < n → L i ≡ true → next_distance n t i ≡ distances n
  at-end i h l = (inv.plain.lines.1 i h).pass.finished_next (all-finished Cube n L t inv.plain over i h l) ∙ end-cube n

  -- where it started exact, each live station has tested just the stations whose groups it leads
  round-list : Exact n L t₀ → (i : ℕ) → i < n → L i ≡ true → tested_in i here ≡ map (station_at i) (led_below n L i (distances n))
  round-list exact i h l = rw (← at-end i h l) (know.1 exact i h)

  round-step : n ≤ distances n → RoundStep n L t₀ (reset_lines n t)
  round-step low = record {
    keeps = λ i h j l known hj. let v = live_of n L i l in reset-grows i j v.0 hj (at_last i v.0 v.1 h j known hj);
    pushes = λ i g h x j below l lx asks known hj.
        let v = live_of n L i l in
        let w = live_of n L x lx in
        let met = know.0.met i v.0 v.1 h x w.0 (omega (arith, at-end i v.0 v.1, inside i x v.0 w.0)) asks in
        reset-grows x j w.0 hj (met.tells w.1 j hj (lift g h (omega arith) known));
  }
    where
      reset-grows : Grown n t (reset_lines n t)
      reset-grows k y hk = (reset-rows Cube n L t inv.plain).1 k y hk

      inside : (i x : ℕ) → i < n → x < n → bit_xor i x < distances n
      inside i x a b = distance-below n i x low a b

      at_last : (i : ℕ) → i < n → L i ≡ true → (h j : ℕ) → InPassOf n L t₀ i h j → RowOf n t i j
      at_last i hi l h j =
          known-now n L t₀ t here inv know.0 i hi l (distances n) (λ m a b. absurd (omega (arith, at-end i hi l))) h j
          (λ x hx b. inside i x hi hx)

-- the tests of a round that starts exact
module _ (n : ℕ) (T t₀ t : List ℕ) (here : List Taken) (low : n ≤ distances n) (inv : InRound Cube n (live n T) t₀ here t)
    (know : CubeKnows n (live n T) t₀ here t) (over : round_over n t ≡ true) (exact : Exact n (live n T) t₀) where
  abbrev L : ℕ → Bool
  L = live n T

  made : (i : ℕ) → i < n → tests_made n t i ≡ leads_below n L i (distances n)
  made i h =
      know.0.counted exact i h
      ∙ by_bool (L i) (λ l. rw (at-end n L t₀ t here inv know over i h l))
      (λ l.
      let none : (m : ℕ) → bit (leads_at n L i m) ≡ 0 = λ m. leads-none n L i m (rw (l, and-false)) in
      sum-zero (next_distance n t i) (λ m g. none m) ∙ sym (sum-zero (distances n) (λ m g. none m)))

  round-count : tests_in here ≡ tests_per_round n T
  round-count = omega (arith, inv.counts.tests, sum-zero n (λ i h. (inv.fresh i h).untested), sum_by n made, led-count n T low)

-- what a closed round gives, from the table t₀ at its start to the table t₁ at the start of the next
pub record CubeRound (n : ℕ) (T t₀ : List ℕ) (round : List Taken) (t₁ : List ℕ) : Type 0 where
  pub step : RoundStep n (live n T) t₀ t₁
  -- where it starts exact, it has the count of tests, and each live station tests whom it leads
  pub counted : Exact n (live n T) t₀ → tests_in round ≡ tests_per_round n T
  pub listed : Exact n (live n T) t₀ → (i : ℕ) → i < n → live n T i ≡ true
      → tested_in i round ≡ map (station_at i) (led_below n (live n T) i (distances n))

pub round-gives : (n : ℕ) (T t₀ t : List ℕ) (here : List Taken) → n ≤ distances n → InRound Cube n (live n T) t₀ here t
    → CubeKnows n (live n T) t₀ here t → round_over n t ≡ true → CubeRound n T t₀ here (reset_lines n t)
round-gives n T t₀ t here low inv know over = record {
  step = round-step n (live n T) t₀ t here inv know over low;
  counted = round-count n T t₀ t here low inv know over;
  listed = round-list n (live n T) t₀ t here inv know over;
}
