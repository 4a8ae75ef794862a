-- What the contracts of `words` cite.
pub mod Words
