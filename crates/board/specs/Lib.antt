-- What the contracts of `board` cite: what a board makes of its line, rows on the cable, and the calls.
pub mod Board
pub mod Packed
pub mod Calls
pub mod Keeps
