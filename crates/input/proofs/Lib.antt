-- The laws that the proofs of `input` share.
pub mod LineLaws
pub mod NumberLaws
pub mod PartLaws
pub mod ReadLaws
pub mod FaultLaws
pub mod DigitLaws
pub mod AnswerLaws
