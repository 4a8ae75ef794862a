-- The laws that the claims stand on.
pub mod TurnHeard
pub mod Entries
pub mod Runs
pub mod Kept
pub mod OfRuns
pub mod GetInForce
