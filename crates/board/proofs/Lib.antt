-- The laws of packed rows, of the next test and of the calls, for the crates above too.
pub mod RowLaws
pub mod NextLaws
pub mod PackedLaws
pub mod JoinLaws
pub mod CallLaws
pub mod KeepsLaws
