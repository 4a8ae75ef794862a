-- What the contracts and theorems of `figures` cite, each after what it uses.
pub mod Fractions
pub mod Batch
pub mod Totals
pub mod Claims
