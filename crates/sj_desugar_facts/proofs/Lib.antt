pub mod Names
pub mod Sures
