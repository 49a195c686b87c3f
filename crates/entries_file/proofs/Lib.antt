pub mod Rows
pub mod Cuts
pub mod Spelled
pub mod Steps
