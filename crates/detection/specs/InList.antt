-- What is claimed of one run, and of one drive, wherever it stands in a list, within each of the three bounds.
-- Assumes nothing.
use Rattle.std.specs.Prelude.{ℕ}
use Rattle.plant.specs.Entry.{State}
use Rattle.detection.specs.Runs.{Call}
use Rattle.detection.specs.Claim.{DetectionAfter, square_rounds, triangle_rounds, worst_rounds}
use Rattle.detection.specs.Driven.{DrivenDetectionAfter}
use Rattle.table.specs.declared.wiring.Wiring.{Wiring}

-- Rules Square bound, Triangular bound and Worst case: of the run `c`, from `before` to `after`
pub record DetectionInList (c : Call) (before after : State) : Type 0 where
  pub in_square : DetectionAfter square_rounds c before after
  pub in_triangle : DetectionAfter triangle_rounds c before after
  pub in_worst_case : DetectionAfter worst_rounds c before after

-- Rule Detection by drives: the same of a drive whose last number is `last`
pub record DrivenDetectionInList (w : Wiring) (n last : ℕ) (before after : State) : Type 0 where
  pub in_square : DrivenDetectionAfter square_rounds w n last before after
  pub in_triangle : DrivenDetectionAfter triangle_rounds w n last before after
  pub in_worst_case : DrivenDetectionAfter worst_rounds w n last before after
