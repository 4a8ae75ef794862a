-- The laws that the proofs of `vcube` share, and the part of the table that a row's start and length give.
pub mod OnWiring
pub mod Narrow
pub mod NarrowBoard
pub mod InputLaws
pub mod RowPart
pub mod Fitting
