pub mod Objects
pub mod Emitted
