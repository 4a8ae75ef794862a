-- What the contracts of `board_detection` cite.
pub mod Detect
pub mod Example
