-- What the contracts of `latency` cite.
pub mod Bound
pub mod Crash
pub mod Turns
pub mod Wait
