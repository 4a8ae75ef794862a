-- That from a valid line no call leaves one that the next call refuses, whatever comes over the cable.
-- Assumes nothing.
use Rattle.std.specs.Prelude.{◌≡◌, ℕ, List, length, Ok}
use Rattle.board.specs.Calls.{place_check, line_check, fresh_after, replied_after, not_replied_after, told_after, exchanged_after, closed_after}
use Rattle.table.specs.declared.wiring.Wiring.{Wiring}

-- a line that is let through is let through after each of the calls, on the same wiring, size and number; packed and b are any
pub record StaysALine (w : Wiring) (n i : ℕ) (l : List ℕ) : Type 0 where
  pub replied : (packed : List ℕ) → line_check w n i (replied_after w n i l packed) ≡ Ok tt
  pub not_replied : line_check w n i (not_replied_after w n i l) ≡ Ok tt
  pub told : (b : ℕ) → line_check w n i (told_after w n i l b) ≡ Ok tt
  pub exchanged : (b : ℕ) (packed : List ℕ) → line_check w n i (exchanged_after w n i l b packed) ≡ Ok tt
  pub closed : line_check w n i (closed_after w n i l) ≡ Ok tt

-- Rule Line kept
abbrev pub CallsKeepTheRules : Type 0
CallsKeepTheRules = (w : Wiring) (n i : ℕ) (l : List ℕ) → line_check w n i l ≡ Ok tt → StaysALine w n i l

-- and a fresh line is let through
abbrev pub FreshLineIsOne : Type 0
FreshLineIsOne = (w : Wiring) (n i : ℕ) (l : List ℕ) → place_check n i (length l) ≡ Ok tt → line_check w n i (fresh_after n i l) ≡ Ok tt
