-- What the contracts of `granter` cite; the last two are what is claimed of grants and drives.
pub mod Grant
pub mod Drive
pub mod Fairness
pub mod Within
