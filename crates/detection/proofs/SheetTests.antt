-- A round that begins with exact rows keeps to the sheet.
-- Assumes nothing.
use Rattle.detection.proofs.BoardLaws.{exact-round-tests}
use Rattle.slots.specs.Slots.{tested}
use Rattle.detection.specs.Timing.{TestsAreTheSheets}

pub tests-are-the-sheets : TestsAreTheSheets
unfolding tested
tests-are-the-sheets n s calls given k l exact i h alive = exact-round-tests n s calls given k l exact i h alive
