-- The laws that the proofs of `words` share.
pub mod SameLaws
pub mod WordLaws
