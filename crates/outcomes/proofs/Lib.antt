pub mod Sequence
pub mod Simulation
