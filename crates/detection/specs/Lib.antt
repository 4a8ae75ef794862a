-- The detection claim about a whole list of runs, and what else is claimed of runs and drives.
pub mod Runs
pub mod Rounds
pub mod Claim
pub mod Boards
pub mod Driven
pub mod InList
pub mod Exits
pub mod Ceased
pub mod Timing
