-- The claims of specs/Law.antt and specs/Assignments.antt hold; the last two are for the proofs of functions.
pub mod AssignmentLaws
pub mod DigitLaws
pub mod Counts
pub mod OneDead
pub mod LastBoard
pub mod MoreTests
pub mod AllBoards
pub mod UntestedLaws
mod ListLaws
pub mod MostLaws
