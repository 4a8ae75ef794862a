-- What the contracts and theorems of `station` cite.
pub mod Groups
pub mod Partition
pub mod Nested
pub mod Tests
pub mod Outcome
pub mod Wired
pub mod Step
pub mod Rows
pub mod Calls
pub mod Ahead
