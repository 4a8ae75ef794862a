-- Examples of the plant's rules, of how many tests a board makes, of figures, of grants and drives, of the doubt lamp, and of mending.
pub mod Example
pub mod Plant
pub mod Sheets
pub mod Season
pub mod Master
pub mod Lamps
pub mod Mendings
