pub mod Writes
pub mod TurnAlike
pub mod RunAlike
pub mod DriveAlike
pub mod Computed
