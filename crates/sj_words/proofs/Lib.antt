pub mod Numerals
pub mod Steps
mod Rows
pub mod Stays
