-- What the contracts and theorems of `vcube` cite.
pub mod Exports
pub mod WordsFit
