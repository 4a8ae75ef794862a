-- What the contracts of `lamp` and the claims above it cite.
pub mod Doubt
