-- What the contracts of `single_crash` cite.
pub mod Bounds
pub mod Cube
pub mod Sweeps
pub mod Setting
pub mod Drives
pub mod Ring
