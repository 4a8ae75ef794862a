pub mod Step
pub mod Chains
pub mod Sums
pub mod Quiet
pub mod Claims
pub mod Computed
