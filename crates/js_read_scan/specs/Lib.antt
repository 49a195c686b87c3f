pub mod Keywords
pub mod Parts
pub mod Runs
