pub mod Own
pub mod Parts
pub mod Sizes
