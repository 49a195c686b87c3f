pub mod Added
pub mod Crossing
pub mod Held
pub mod Put
pub mod Stored
pub mod Whole
