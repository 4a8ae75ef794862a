-- The laws that the proofs of `mender` share.
pub mod CellLaws
pub mod Progress
pub mod MendedLaws
pub mod ChangeLaws
pub mod Call
