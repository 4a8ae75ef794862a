-- The laws that the proofs of `granter` share, and that the crates above cite.
pub mod GrantLaws
pub mod TurnsLeft
pub mod DriveLaws
pub mod Fair
pub mod Stops
