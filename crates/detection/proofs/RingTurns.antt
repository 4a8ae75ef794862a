-- On the ring a turn does on the table what `RingTurn` says.
-- Assumes nothing.
use mathlib.Core.Path.{◌≡◌, ap, ◌∙◌}
use mathlib.Core.Bool.{Bool, true, false}
use mathlib.Core.List.{List}
use Prim.Native.Nat.{ℕ, suc, ◌+◌, ◌%◌, ◌≤◌, ◌<◌}
use native.Mathlib.Omega.{arith}
use borrow.Author.Tests.{lt-ltb, le-ltb}
use Rattle.table.specs.Wiring.{is_ring}
use Rattle.table.specs.Table.{next_column, tests_column, next_distance, tests_made}
use Rattle.table.proofs.WiringLaws.{end_ring}
use Rattle.table.specs.declared.wiring.Wiring.{Wiring}
use Rattle.station.specs.Wired.{wired_station}
use Rattle.station.proofs.WiredLaws.{ring-station}
use Rattle.plant.specs.Turn.{next_test, makes_test}
use Rattle.station.specs.Outcome.{outcome_exchanged, outcome_no_reply}
use Rattle.station.specs.Wired.{next_after}
use Rattle.plant.proofs.NextTest.{ring-next}
use Rattle.plant.proofs.TurnHeads.{Heads}
use Rattle.detection.proofs.TurnEffect.{Row, TurnKept}
use Rattle.detection.proofs.RingPass.{RingTurn}

-- the next distance after a test on the ring
after-exchange : (w : Wiring) (n m o : ℕ) → is_ring w ≡ true → o ≡ outcome_exchanged → next_after w n m o ≡ n
unfolding next_after
after-exchange w n m o r e = rw (r, e)

after-no-reply : (w : Wiring) (n m o : ℕ) → is_ring w ≡ true → o ≡ outcome_no_reply → next_after w n m o ≡ suc m
unfolding next_after
after-no-reply w n m o r e = rw (r, e) (omega arith)

module _ (w : Wiring) (n : ℕ) (L : ℕ → Bool) (t t' : List ℕ) (i o : ℕ) (ring : is_ring w ≡ true) (turned : TurnKept w n L t t' i o)
    (heads : Heads w n t t' i o (makes_test w n t i)) where
  abbrev q : ℕ
  q = next_distance n t i

  abbrev x : ℕ
  x = (i + q) % n

  at-x : wired_station w n i (next_test w n t i) ≡ x
  at-x = ring-station w n i (next_test w n t i) ring ∙ ap (λ (m : ℕ). (i + m) % n) (ring-next w n t i ring)

  makes : q < n → makes_test w n t i ≡ true
  unfolding makes_test
  makes h = rw (ring-next w n t i ring, end_ring w n ring) (lt-ltb q n h)

  ends : n ≤ q → makes_test w n t i ≡ false
  unfolding makes_test
  ends h = rw (ring-next w n t i ring, end_ring w n ring) (le-ltb q n h)

  pub ring-turns : RingTurn n L (Row n t) (Row n t') (next_distance n t) (next_distance n t') (tests_made n t) (tests_made n t') i
  ring-turns = record {
    grows = turned.grows;
    others = λ k e. (heads.others k next_column e (omega arith), heads.others k tests_column e (omega arith));
    tests = λ h. omega (arith, rw (makes h) at heads.tests);
    finds = λ h f.
        let no-reply : o ≡ outcome_no_reply = turned.outcome (makes h) ∙ rw (at-x, f) in (
          rw (makes h) at heads.next ∙ after-no-reply w n (next_test w n t i) o ring no-reply ∙ ap suc (ring-next w n t i ring),
          (rw at-x at (turned.tests (makes h))).finds f,
        );
    exchanges = λ h l.
        let exchanged : o ≡ outcome_exchanged = turned.outcome (makes h) ∙ rw (at-x, l) in
        let tested = rw at-x at (turned.tests (makes h)) in (
          rw (makes h) at heads.next ∙ after-exchange w n (next_test w n t i) o ring exchanged,
          λ j g. (tested.tells l j g, tested.hears l j g),
        );
    finishes = λ h. (rw (ends h) at heads.next ∙ end_ring w n ring, omega (arith, rw (ends h) at heads.tests));
  }
