-- What the contracts and theorems of `table` cite; properties serve the crates above.
pub mod Sizes
pub mod Wiring
pub mod Table
pub mod Line
pub mod Status
pub mod Lent
pub mod Rules
pub mod Fresh
pub mod Properties
