-- The laws that the proofs of `table` share, and that the crates above cite.
pub mod Levels
pub mod SizeLaws
pub mod WiringLaws
pub mod StatusLaws
pub mod Accepting
pub mod CellLaws
pub mod LineLaws
pub mod FreshLaws
