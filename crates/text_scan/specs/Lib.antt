pub mod Gives
pub mod Runs
