-- The laws that the proofs of `plant` share, and that the crates above cite: of a turn, then of entries, rounds and runs.
pub mod NextTest
pub mod StepCells
pub mod StepLines
pub mod RowLaws
pub mod TurnHeads
pub mod RoundLaws
pub mod RunLaws
pub mod RulesKept
pub mod WholeRun
pub mod Computed
