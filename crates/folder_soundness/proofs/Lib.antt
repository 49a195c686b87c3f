pub mod Facts
pub mod Running
pub mod Whole
