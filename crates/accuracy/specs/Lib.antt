-- What the contracts of `accuracy` cite.
pub mod Cause
pub mod Accurate
pub mod Example
