-- Which tests a board makes in a round, and how many; what is claimed of who stands ahead.
pub mod Slots
pub mod Board
pub mod Law
pub mod Assignments
