-- What the contracts of `in_step` cite: the boards and the cable, what may happen, and what is claimed.
pub mod System
pub mod Happenings
pub mod Claims
pub mod Causes
pub mod Waits
pub mod InForce
