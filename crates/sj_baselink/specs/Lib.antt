pub mod Spelled
pub mod Steps
