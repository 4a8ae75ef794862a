-- What the contracts of `plant` cite: what an entry does, and the run.
pub mod Turn
pub mod Kind
pub mod Round
pub mod Entry
pub mod Run
pub mod Example
