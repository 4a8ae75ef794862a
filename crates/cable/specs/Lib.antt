-- What is claimed of n boards on one cable, each with its own line.
pub mod Claims
pub mod Boards
