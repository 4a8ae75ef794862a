-- That the detection conditions can be met, by computed plants, and that the worst-case latency is reached on each wiring at any size from 3 on.
pub mod Computing
pub mod Witness
pub mod Moves
pub mod Slow
pub mod Follow
pub mod Beginning
pub mod Greater
pub mod Plants
pub mod Slowest
pub mod RingPasses
pub mod SlowRing
pub mod Reached
