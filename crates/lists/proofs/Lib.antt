-- Laws that know nothing of the watch, which the crates above cite.
pub mod Xor
pub mod BoolLaws
pub mod SearchLaws
pub mod SumLaws
pub mod Writing
pub mod Enumerated
pub mod FilterLaws
pub mod Loops
pub mod ByteLaws
pub mod StepsLaws
pub mod RefusalLaws
