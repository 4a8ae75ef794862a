-- The laws that the proofs of `figures` share.
pub mod Gcd
pub mod LowestTerms
pub mod Joining
pub mod Deviations
pub mod Bounds
pub mod FiguresLaws
pub mod Extremes
pub mod Answers
