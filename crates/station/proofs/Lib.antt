-- The laws that the proofs of `station` share, and that the crates above cite.
pub mod GroupLaws
pub mod Refusals
pub mod UnionLaws
pub mod GroupWalk
pub mod DueLaws
pub mod WiredLaws
pub mod AheadLaws
pub mod Presence
pub mod EntryLaws
