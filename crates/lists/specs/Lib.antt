-- Definitions that know nothing of the watch, by which the other crates state theirs.
pub mod Search
pub mod Sums
pub mod Steps
pub mod Bytes
pub mod Refusal
