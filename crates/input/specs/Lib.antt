-- What the contracts of `input` cite.
pub mod Input
pub mod Fault
pub mod Words
