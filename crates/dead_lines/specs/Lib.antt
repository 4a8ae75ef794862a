-- What the contracts of `dead_lines` cite; the last one is a computed example.
pub mod Alike
pub mod Pair
