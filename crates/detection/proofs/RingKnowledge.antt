-- The ring: what is known within its rounds, what its closed rounds give, and after how many of them all is known.
-- Assumes nothing.
use mathlib.Core.Path.{◌≡◌, ◌∙◌}
use mathlib.Core.Bool.{Bool, true}
use mathlib.Core.List.{List}
use Prim.Native.Nat.{ℕ, suc, ◌+◌, ◌-◌, ◌/◌, ◌≤◌, ◌<◌}
use native.Mathlib.Omega.{arith}
use Rattle.table.specs.Table.{next_distance, tests_made}
use Rattle.table.specs.Rules.{round_over}
use Rattle.plant.specs.Round.{reset_lines}
use Rattle.lists.proofs.SumLaws.{sum-zero}
use Rattle.detection.specs.Runs.{Taken}
use Rattle.detection.specs.Rounds.{tests_in}
use Rattle.detection.proofs.TurnEffect.{Company, Row, Exact}
use Rattle.detection.proofs.RoundKnowledge.{InRound, reset-rows, all-finished, Gave, RoundKnowledge}
use Rattle.table.specs.Wiring.{is_ring}
use Rattle.table.proofs.WiringLaws.{end_ring}
use Rattle.table.specs.declared.wiring.Wiring.{Wiring}
use Rattle.detection.proofs.RingTurns.{ring-turns}
use Rattle.detection.proofs.RingSpread.{all-known}
use Rattle.detection.proofs.RingCount.{all-tests}
use Rattle.detection.proofs.RingPass.{RingStep, RingKnows, ring-start, ring-turn, ring-step, ring-made, step-later, Among, ring-round}

-- what is known within a round
abbrev pub KnowsOf : ℕ → (ℕ → Bool) → List ℕ → List ℕ → Type 0
KnowsOf n L t₀ t = RingKnows n L (Row n t₀) (Row n t) (next_distance n t) (tests_made n t)

-- what a closed round gives: what it did to the rows, and n tests
abbrev pub RoundOf : ℕ → (ℕ → Bool) → List ℕ → List Taken → List ℕ → Type 0
RoundOf n L t₀ round t₁ = RingStep n L (Row n t₀) (Row n t₁) × (tests_in round ≡ n)

module _ (w : Wiring) (n : ℕ) (L : ℕ → Bool) (on-ring : is_ring w ≡ true) (two : 2 ≤ n) (company : Company n L) (z : ℕ) (hz : z < n)
    (lz : L z ≡ true) where
  pub closed-gives : (t₀ t : List ℕ) (round : List Taken) → InRound w n L t₀ round t → KnowsOf n L t₀ t → round_over n t ≡ true
      → RoundOf n L t₀ round (reset_lines n t)
  closed-gives t₀ t round inv know over =
      let last : (i : ℕ) → i < n → L i ≡ true → next_distance n t i ≡ n =
      λ i h l. (inv.plain.lines.1 i h).pass.finished_next (all-finished w n L t inv.plain over i h l) ∙ end_ring w n on-ring in
      let step = ring-step n L (Row n t₀) (Row n t) (next_distance n t) (tests_made n t) know company last in
      let made = ring-made n L (Row n t₀) (Row n t) (next_distance n t) (tests_made n t) know company last in (
        step-later n L (Row n t₀) (Row n t) (Row n (reset_lines n t)) (λ i j h g r. (reset-rows w n L t inv.plain).1 i j h g r) step,
        omega (arith, inv.counts.tests, sum-zero n (λ i h. (inv.fresh i h).untested), all-tests n L z hz lz (tests_made n t) made know.rest),
      )

  -- the last ⌊n/2⌋ rounds before round q
  pub exact-after : (start : ℕ → List ℕ) (round : ℕ → List Taken) (closed : ℕ) → Gave (RoundOf n L) start round closed
      → (q : ℕ) → n / 2 ≤ q → q ≤ closed → Exact n L (start q)
  exact-after start round closed gave q far last i j h g l f =
      let now : q - n / 2 + n / 2 ≡ q = omega arith in
      rw now at (all-known n L (Among n rows) (λ r b. ring-round n L rows r (omega arith) (step r b)) i j h g l f h g)
    where
      rows : ℕ → ℕ → ℕ → Type 0
      rows r i j = Row n (start (q - n / 2 + r)) i j

      step : (r : ℕ) → r < n / 2 → RingStep n L (rows r) (rows (suc r))
      step r b = let next : suc (q - n / 2 + r) ≡ q - n / 2 + suc r = omega arith in rw next at (gave (q - n / 2 + r) (omega arith)).0

  -- what the claim takes of the ring
  abbrev pub ring : RoundKnowledge w n L
  ring = record {
    Knows = λ t₀ cur t. KnowsOf n L t₀ t;
    starts = λ t inv.
        ring-start n L (Row n t) (next_distance n t) (tests_made n t) (omega arith) (λ i h. ((inv.fresh i h).next, (inv.fresh i h).untested));
    turns = λ t₀ t' cur s e inv turn know.
        ring-turn n L (Row n t₀) (Row n s.table) (Row n t') (next_distance n s.table) (next_distance n t') (tests_made n s.table) (tests_made n t')
        e.station turn.below turn.is_live (ring-turns w n L s.table t' e.station turn.outcome on-ring turn.kept turn.heads) know;
    Gives = RoundOf n L;
    closes = closed-gives;
    enough = n / 2;
    some_round = omega arith;
    exact = exact-after;
    counted_from = 0;
    count = n;
    counted = λ start round closed gave q far h. (gave q h).1;
  }
