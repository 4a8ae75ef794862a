-- What is shown by plants: that the detection conditions can be met, and that the worst-case latency is reached.
pub mod Witness
pub mod WorstCase
