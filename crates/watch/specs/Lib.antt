-- What the contracts of `watch` cite.
pub mod Watched
pub mod Words
pub mod Call
