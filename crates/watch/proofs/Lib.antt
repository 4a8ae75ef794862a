-- The laws that the proofs of `watch` share.
pub mod Buffer
pub mod WatchLaws
pub mod CallLaws
