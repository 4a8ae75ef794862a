-- What the contracts of `convert` cite: where a refused file is at fault, what a file is, and what is said of it.
pub mod Place
pub mod What
pub mod Words
